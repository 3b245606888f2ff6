-- The address that std reads in a text is `address` of it.
use Rattle.std.proofs.Common.{◌≡◌, ℕ, List, [], ◌∷◌, length, Option, Some, None, option_map, refl, ap, ◌∙◌, append-nil, lit≤}
use Rattle.std.proofs.Math.Dec.{eqb-suc-zero}
use Rattle.std.specs.Int.{w32, from_be_bytes}
use Rattle.std.specs.Net.Grammar.{IsDotted, IsIpv4Text}
use Rattle.std.specs.Net.Reader.{Read, read_ipv4, whole_value}
use Rattle.std.proofs.NetLemmas.Ipv4.{read_ipv4_sound, read_ipv4_complete}
use Rattle.std.specs.declared.net.ipv4_addr.Ipv4Addr.{Ipv4Addr}
use Rattle.std.proofs.lemmas.Option.{none-some, same_Some}
use Rattle.scenarios.specs.Hosts.{address}
use Rattle.scenarios.specs.ProxyLaws.{AddressesAreDotted}

pub address_of_dotted : (text octets : List ℕ) → IsDotted text octets → address text ≡ Some (from_be_bytes w32 octets)
address_of_dotted text octets h =
    ap (λ r. option_map (from_be_bytes w32) (whole_value r)) (rw append-nil at (read_ipv4_complete text octets [] h (lit≤ tt)))

dotted_by_reading : (text octets : List ℕ) → read_ipv4 text ≡ Some (octets, []) → IsDotted text octets
dotted_by_reading text octets e =
    let found = read_ipv4_sound text octets [] e in
    rw (found.1, append-nil) found.2

dotted_by_value : (text octets rest : List ℕ) (addr : ℕ) → read_ipv4 text ≡ Some (octets, rest) → option_map (from_be_bytes w32) (whole_value (Some (octets, rest))) ≡ Some addr → (octets : List ℕ) × IsDotted text octets × (from_be_bytes w32 octets ≡ addr)
dotted_by_value text octets [] addr e value = (octets, dotted_by_reading text octets e, same_Some _ _ value)
dotted_by_value text octets (x ∷ rest) addr e value = absurd (none-some addr (rw (eqb-suc-zero (length rest)) at value))

dotted_of : (text : List ℕ) (addr : ℕ) (r : Read (List ℕ)) → read_ipv4 text ≡ r → option_map (from_be_bytes w32) (whole_value r) ≡ Some addr → (octets : List ℕ) × IsDotted text octets × (from_be_bytes w32 octets ≡ addr)
dotted_of text addr None e value = absurd (none-some addr value)
dotted_of text addr (Some p) e value = dotted_by_value text p.0 p.1 addr e value

-- if no address has the text, there is none
pub address_of_none : (text : List ℕ) → ((a : Ipv4Addr) → ¬ (IsIpv4Text text a)) → address text ≡ None
address_of_none text none = by (address text) refl
  where
    by : (o : Option ℕ) → address text ≡ o → address text ≡ None
    by None e = e
    by (Some addr) e = let dotted = dotted_of text addr (read_ipv4 text) refl e in absurd (none (record { octets = dotted.0 }) dotted.1)

pub addresses_are_dotted : AddressesAreDotted
addresses_are_dotted text addr = (
  λ value. dotted_of text addr (read_ipv4 text) refl value,
  λ dotted. address_of_dotted text dotted.0 dotted.1 ∙ ap Some dotted.2,
)
