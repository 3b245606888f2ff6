-- Proxies that are written as JSON are read back.
use Rattle.std.proofs.Common.{◌≡◌, ◌≢◌, ℕ, ◌+◌, ◌<◌, ◌≤◌, ◌^◌, ◌&&◌, Bool, true, false, nat_lt, nat_le, List, [], ◌∷◌, ◌++◌, map, length, get_or, decimal, Some, None, Ok, if◌then◌else◌, refl, sym, ap, ◌∙◌, arith, append-nil, append_assoc, length-append, lt-ltb}
use Rattle.std.proofs.lemmas.Bool.{lt-leb}
use Rattle.std.proofs.lemmas.Bool.Decides.{nat_tests}
use Rattle.std.proofs.lemmas.Fmt.{digits_decimal, digits_value-decimal, length-decimal-le, decimal_nonempty}
use Rattle.std.proofs.lemmas.Nat.{from_be_bytes-to_be_bytes_4}
use Rattle.std.proofs.lemmas.Str.Parse.{IsNumeralModel, numerals_by_value, tells_all_ascii_digits, not_in_digits}
use Rattle.std.proofs.NetLemmas.Arrays.{four_items}
use Rattle.std.specs.List.{AllByRecursion}
use Rattle.std.specs.Int.{w32, to_be_bytes}
use Rattle.std.specs.Str.{all_ascii_digits}
use Rattle.std.specs.Str.Parse.{digits_value}
use Rattle.std.specs.Net.Text.{ipv4_text}
use Rattle.std.specs.Net.Grammar.{IsDotted}
use Rattle.serde_json.specs.View.{items_of}
use Rattle.scenarios.specs.Hosts.{address}
use Rattle.scenarios.specs.Upstreams.{port, upstream}
use Rattle.scenarios.specs.Proxies.{proxy_limit, proxy_fields, has_name, accepted_proxy, checked_proxy, proxy_in, proxies_from}
use Rattle.scenarios.specs.ProxyLaws.{upstream_text, proxy_toxics_data, proxy_data, IsProxy, NamesAreFree, ProxiesAreReadBack}
use Rattle.scenarios.specs.declared.hosts.KnownHost.{KnownHost}
use Rattle.scenarios.specs.declared.proxies.Proxy.{Proxy}
use Rattle.scenarios.proofs.AddressSteps.{address_of_dotted}
use Rattle.scenarios.proofs.LastPlaces.{last_is_found}
use Rattle.scenarios.proofs.ToxicsReadBack.{toxics_are_read}

own : IsNumeralModel (λ ds. all_ascii_digits ds ≡ true) (digits_value 10)
own = numerals_by_value _ tells_all_ascii_digits

no_colon : (n : ℕ) → n < 2 ^ 64 → (i : ℕ) → i < length (decimal n) → get_or (decimal n) i 0 ≢ 58
no_colon n small = not_in_digits own (decimal n) 58 (digits_decimal own n small) (λ within. omega arith)

-- ---- ports and addresses

some_within : (len value : ℕ) (digits : Bool) → 0 < len → len ≤ 5 → digits ≡ true → 0 < value → value < 2 ^ 16 → (if nat_lt 0 len && nat_le len 5 && digits && (nat_lt 0 value && nat_lt value (2 ^ 16)) then Some value else None) ≡ Some value
some_within len value digits some few are positive small = grind (arith, nat_tests)

port_is_read : (n : ℕ) → 0 < n → n < 2 ^ 16 → port (decimal n) ≡ Some n
port_is_read n positive small =
    let fits : n < 2 ^ 64 = omega arith in
    let value = digits_value-decimal own n fits in
    some_within (length (decimal n)) (digits_value 10 (decimal n)) (all_ascii_digits (decimal n)) (decimal_nonempty n fits) (length-decimal-le 5 n (omega arith) (omega arith) fits) (digits_decimal own n fits) (omega arith) (omega arith)
    ∙ ap Some value

dotted : (addr : ℕ) → IsDotted (ipv4_text (to_be_bytes w32 addr)) (to_be_bytes w32 addr)
dotted addr = record {
  a = get_or (to_be_bytes w32 addr) 0 0;
  b = get_or (to_be_bytes w32 addr) 1 0;
  c = get_or (to_be_bytes w32 addr) 2 0;
  d = get_or (to_be_bytes w32 addr) 3 0;
  fit = (omega arith, omega arith, omega arith, omega arith);
  value = four_items (to_be_bytes w32 addr) refl;
  spelled = refl;
}

address_is_read : (addr : ℕ) → addr < 2 ^ 32 → address (ipv4_text (to_be_bytes w32 addr)) ≡ Some addr
address_is_read addr small = address_of_dotted _ (to_be_bytes w32 addr) (dotted addr) ∙ ap Some (from_be_bytes-to_be_bytes_4 addr small)

upstream_is_read : (hosts : List KnownHost) (p : Proxy) → IsProxy p → upstream hosts (upstream_text p.upstream) ≡ Ok p.upstream
upstream_is_read hosts p is =
    rw (
      last_is_found 58 (ipv4_text (to_be_bytes w32 p.upstream.addr)) (decimal p.upstream.port) (no_colon p.upstream.port (let fits = is.sound.port_fits in omega arith)),
      port_is_read p.upstream.port is.sound.port is.sound.port_fits,
      address_is_read p.upstream.addr is.addr,
    ) refl

-- ---- proxies

fields_are_read : (p : Proxy) → IsProxy p → proxy_fields (proxy_data p) ≡ Some (record { name = p.name; upstream = upstream_text p.upstream; enabled = p.enabled; toxics = items_of (proxy_toxics_data p) })
fields_are_read p is = rw (lt-ltb 0 (length p.name) is.sound.named) refl

proxy_is_read : (hosts : List KnownHost) (earlier : List Proxy) (p : Proxy) → IsProxy p → has_name earlier p.name ≡ false → length earlier < proxy_limit → proxy_in hosts earlier (proxy_data p) ≡ Ok p
unfolding proxy_in checked_proxy accepted_proxy
proxy_is_read hosts earlier p is free few =
    let toxics = toxics_are_read (length earlier) p.up p.down is.sound.up_toxics is.sound.down_toxics in
    rw (lt-leb 64 (length earlier) few, fields_are_read p is, free, upstream_is_read hosts p is, toxics.1) refl

all_are_read : (hosts : List KnownHost) (earlier proxies : List Proxy) → AllByRecursion IsProxy proxies → NamesAreFree earlier proxies → length earlier + length proxies ≤ proxy_limit → proxies_from hosts earlier (items_of (map proxy_data proxies)) ≡ Ok (earlier ++ proxies)
unfolding proxies_from
all_are_read hosts earlier [] are free few = ap Ok (sym (append-nil earlier))
all_are_read hosts earlier (p ∷ proxies) are free few =
    rw (proxy_is_read hosts earlier p are.0 free.0 (omega arith))
    (all_are_read hosts (earlier ++ p ∷ []) proxies are.1 free.1 (omega (arith, length-append earlier (p ∷ []))) ∙ ap Ok (append_assoc earlier (p ∷ []) proxies))

pub proxies_are_read_back : ProxiesAreReadBack
proxies_are_read_back hosts text proxies are free few is_tree = rw is_tree (all_are_read hosts [] proxies are free (omega arith))
