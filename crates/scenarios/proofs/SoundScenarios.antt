-- The proxies of a scenario are sound.
use Rattle.std.proofs.Common.{◌≡◌, ℕ, ◌<◌, ◌≤◌, ◌^◌, ◌&&◌, Bool, false, nat_lt, nat_le, List, [], ◌∷◌, ◌++◌, codes, length, Some, None, Ok, if◌then◌else◌, sym, ap, subst, ◌∙◌, arith, append-nil, append_assoc, length-append}
use Rattle.std.proofs.lemmas.Bool.{leb-false, ltb-true, and_parts}
use Rattle.std.proofs.lemmas.Bool.Decides.{nat_tests}
use Rattle.std.proofs.lemmas.Option.{cond_some}
use Rattle.std.specs.List.{AllByRecursion}
use Rattle.std.specs.Str.{all_ascii_digits}
use Rattle.std.specs.Str.Parse.{digits_value}
use Rattle.serde_json.specs.Data.{Data, Items, no_items, item}
use Rattle.serde_json.specs.Find.{as_array}
use Rattle.frame_headers.specs.declared.peers.Peer.{Peer}
use Rattle.scenarios.specs.Refusals.{at_place, of_proxy}
use Rattle.scenarios.specs.Fields.{required_text, is_text_or_absent, optional_flag, optional_list}
use Rattle.scenarios.specs.Upstreams.{colon, cut_at_last, port, host_address, upstream}
use Rattle.scenarios.specs.ToxicsInFiles.{no_toxics, toxics_from}
use Rattle.scenarios.specs.Proxies.{proxy_limit, ProxyFields, AcceptedProxy, proxy_fields, has_name, accepted_proxy, checked_proxy, proxy_in, proxies_from}
use Rattle.scenarios.specs.Populate.{tree}
use Rattle.scenarios.specs.ProxyLaws.{IsSound, NamesAreFree, ScenariosAreSound}
use Rattle.scenarios.specs.declared.hosts.KnownHost.{KnownHost}
use Rattle.scenarios.specs.declared.proxies.Proxy.{Proxy}
use Rattle.scenarios.proofs.PassedSteps.{same_ok, of_with, of_after, of_unless, of_place, of_chain}
use Rattle.scenarios.proofs.SoundToxics.{toxics_are_sound}

-- ---- fields and upstreams

of_test : (len : ℕ) (b : Bool) (m n : ProxyFields) → (if nat_lt 0 len && b then Some m else None) ≡ Some n → (0 < len) × (m ≡ n)
of_test len b m n is =
    let passed = cond_some (nat_lt 0 len && b) m n is in
    (ltb-true 0 len (and_parts (nat_lt 0 len) b passed.0).0, passed.1)

fields_have_names : (d : Data) (m : ProxyFields) → proxy_fields d ≡ Some m → 0 < length m.name
fields_have_names d m is =
    of_chain _ (required_text (codes "name") d) m is λ name is₁.
    of_chain _ (required_text (codes "upstream") d) m is₁ λ upstream is₂.
    of_chain _ (optional_flag (codes "enabled") d) m is₂ λ enabled is₃.
    of_chain _ (optional_list (codes "toxics") d) m is₃ λ toxics is₄.
    let test = of_test (length name) (is_text_or_absent (codes "listen") d) _ m is₄ in
    rw (← test.1) test.0

port_test : (len value n : ℕ) (digits : Bool) → (if nat_lt 0 len && nat_le len 5 && digits && (nat_lt 0 value && nat_lt value (2 ^ 16)) then Some value else None) ≡ Some n → (0 < n) × (n < 2 ^ 16)
port_test len value n digits is = (grind (arith, nat_tests), grind (arith, nat_tests))

upstreams_have_ports : (hosts : List KnownHost) (text : List ℕ) (peer : Peer) → upstream hosts text ≡ Ok peer → (0 < peer.port) × (peer.port < 2 ^ 16)
upstreams_have_ports hosts text peer is =
    of_with (cut_at_last colon text) _ _ peer is λ parts _ is₁.
    of_with (port parts.1) _ _ peer is₁ λ n port_is is₂.
    of_after (host_address hosts parts.0) _ peer is₂ λ addr _ is₃.
    rw (← ap (λ (p : Peer). p.port) (same_ok _ _ is₃)) (port_test (length parts.1) (digits_value 10 parts.1) n (all_ascii_digits parts.1) port_is)

-- ---- proxies

-- a proxy has a free name and a port, whatever its toxics are
SoundBefore : List Proxy → AcceptedProxy → Type 0
SoundBefore earlier c = (0 < length c.name) × (0 < c.upstream.port) × (c.upstream.port < 2 ^ 16) × (has_name earlier c.name ≡ false)

accepted_is_sound : (hosts : List KnownHost) (earlier : List Proxy) (m : ProxyFields) (c : AcceptedProxy) → 0 < length m.name → accepted_proxy hosts earlier m ≡ Ok c → SoundBefore earlier c
unfolding accepted_proxy SoundBefore
accepted_is_sound hosts earlier m c named is =
    of_unless (has_name earlier m.name) _ _ c is λ free is₁.
    of_after (at_place (of_proxy (length earlier)) (upstream hosts m.upstream)) _ c is₁ λ peer upstream_is is₂.
    let ports = upstreams_have_ports hosts m.upstream peer (of_place _ (upstream hosts m.upstream) peer upstream_is) in
    rw (← same_ok _ _ is₂) (named, ports.0, ports.1, free)

checked_is_sound : (hosts : List KnownHost) (earlier : List Proxy) (d : Data) (c : AcceptedProxy) → checked_proxy hosts earlier d ≡ Ok c → SoundBefore earlier c × (length earlier < proxy_limit)
unfolding checked_proxy
checked_is_sound hosts earlier d c is =
    of_unless (nat_le proxy_limit (length earlier)) _ _ c is λ few is₁.
    of_with (proxy_fields d) _ _ c is₁ λ m fields_are is₂.
    (accepted_is_sound hosts earlier m c (fields_have_names d m fields_are) is₂, leb-false proxy_limit (length earlier) few)

-- an accepted proxy is sound, and its name is free
proxy_is_sound : (hosts : List KnownHost) (earlier : List Proxy) (d : Data) (p : Proxy) → proxy_in hosts earlier d ≡ Ok p → IsSound p × (has_name earlier p.name ≡ false) × (length earlier < proxy_limit)
unfolding proxy_in SoundBefore
proxy_is_sound hosts earlier d p is =
    of_after (checked_proxy hosts earlier d) _ p is λ c checked_is is₁.
    of_after (toxics_from (length earlier) no_toxics c.toxics) _ p is₁ λ t toxics_are is₂.
    let before = checked_is_sound hosts earlier d c checked_is in
    let toxics = toxics_are_sound (length earlier) c.toxics t toxics_are in
    rw (← same_ok _ _ is₂) (record { named = before.0.0; port = before.0.1; port_fits = before.0.2; up_toxics = toxics.0; down_toxics = toxics.1 }, before.0.3, before.1)

-- what was read after the earlier proxies
Behind : List Proxy → List Proxy → Type 0
Behind earlier proxies = (more : List Proxy) × (proxies ≡ earlier ++ more) × AllByRecursion IsSound more × NamesAreFree earlier more × (length proxies ≤ proxy_limit)

all_are_sound : (hosts : List KnownHost) (earlier : List Proxy) (ds : Items) (proxies : List Proxy) → length earlier ≤ proxy_limit → proxies_from hosts earlier ds ≡ Ok proxies → Behind earlier proxies
unfolding proxies_from Behind
all_are_sound hosts earlier no_items proxies few is = ([], sym (same_ok _ _ is) ∙ sym (append-nil earlier), tt, tt, subst (λ ps. length ps ≤ proxy_limit) (same_ok _ _ is) few)
all_are_sound hosts earlier (item d ds) proxies few is =
    of_after (proxy_in hosts earlier d) _ proxies is λ p proxy_is is₁.
    let sound = proxy_is_sound hosts earlier d p proxy_is in
    let later = all_are_sound hosts (earlier ++ p ∷ []) ds proxies (omega (arith, length-append earlier (p ∷ []), sound.2)) is₁ in
    (p ∷ later.0, later.1 ∙ append_assoc earlier (p ∷ []) later.0, (sound.0, later.2), (sound.1, later.3), later.4)

pub proxies_are_sound : (hosts : List KnownHost) (ds : Items) (proxies : List Proxy) → proxies_from hosts [] ds ≡ Ok proxies → AllByRecursion IsSound proxies
unfolding Behind
proxies_are_sound hosts ds proxies is = let sound = all_are_sound hosts [] ds proxies (omega arith) is in rw sound.1 sound.2

pub scenarios_are_sound : ScenariosAreSound
unfolding Behind
scenarios_are_sound hosts text proxies is =
    of_with (tree text) _ _ proxies is λ d _ is₁.
    of_with (as_array d) _ _ proxies is₁ λ ds _ is₂.
    let sound = all_are_sound hosts [] ds proxies (omega arith) is₂ in
    rw sound.1 (sound.2, sound.3, rw (← sound.1) sound.4)
