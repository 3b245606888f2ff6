-- A text that writes a host is ASCII, and so UTF-8.
use Rattle.std.proofs.Common.{◌≡◌, ◌<◌, ℕ, ◌+◌, ◌==◌, suc, Bool, true, false, List, [], ◌∷◌, length, take, drop, get_or, Option, Some, None, option_map}
use Rattle.std.proofs.Common.{option_and_then, refl, sym, subst, arith, if◌then◌else◌, ◌&&◌}
use Rattle.std.specs.Prelude.{IsAscii, IsUtf8, position, codes, decimal, is_none}
use Rattle.std.proofs.lemmas.Bool.{and_parts, eqb-true}
use Rattle.std.proofs.lemmas.Fmt.{IsAscii-decimal}
use Rattle.std.proofs.lemmas.List.Quantifiers.{position-Some}
use Rattle.std.proofs.lemmas.Str.{IsAscii-append, IsUtf8-from_ascii}
use Rattle.std.proofs.lemmas.Str.Ascii.{IsAscii-nil, IsAscii-cons}
use Rattle.std.proofs.Math.Seq.{split_at}
use Rattle.toxicap.specs.{list_all, IsDotted, dotted_text, KnownHost, address, is_name_byte, is_host_name, look_up, host_for, AddressesAreDotted, equals_sign}
use Rattle.toxicap.specs.{host_written}

name_byte_is_ascii : (b : ℕ) → is_name_byte b ≡ true → b < 128
name_byte_is_ascii b is = grind (arith, is)

names_are_ascii : (text : List ℕ) → list_all is_name_byte text ≡ true → IsAscii text
names_are_ascii [] is = IsAscii-nil
names_are_ascii (b ∷ bs) is =
    let parts = and_parts (is_name_byte b) (list_all is_name_byte bs) is in
    IsAscii-cons b bs (name_byte_is_ascii b parts.0) (names_are_ascii bs parts.1)

dot_is_ascii : IsAscii (codes ".")
dot_is_ascii = IsAscii-cons 46 [] (omega arith) IsAscii-nil

dotted_is_ascii : (a b c d : ℕ) → a < 256 → b < 256 → c < 256 → d < 256 → IsAscii (dotted_text a b c d)
dotted_is_ascii a b c d fit_a fit_b fit_c fit_d =
    IsAscii-append _ (decimal d)
    (IsAscii-append _ (codes ".")
    (IsAscii-append _ (decimal c)
    (IsAscii-append _ (codes ".")
    (IsAscii-append _ (decimal b)
    (IsAscii-append (decimal a) (codes ".") (IsAscii-decimal a (omega arith)) dot_is_ascii)
    (IsAscii-decimal b (omega arith))) dot_is_ascii) (IsAscii-decimal c (omega arith))) dot_is_ascii)
    (IsAscii-decimal d (omega arith))

address_is_ascii : AddressesAreDotted → (text : List ℕ) (addr : ℕ) → address text ≡ Some addr → IsAscii text
address_is_ascii dotted text addr is =
    let found = (dotted text addr).0 is in
    let of : IsDotted text found.0 = found.1 in
    subst IsAscii (sym of.spelled) (dotted_is_ascii of.a of.b of.c of.d of.fit.0 of.fit.1 of.fit.2 of.fit.3)

tested : (test : Bool) (addr : Option ℕ) (make : ℕ → KnownHost) (host : KnownHost)
    → (if test then option_map make addr else None) ≡ Some host → (test ≡ true) × ((a : ℕ) × (addr ≡ Some a))
tested true (Some a) make host is = (refl, (a, refl))
tested true None make host is = absurd cc
tested false addr make host is = absurd cc

parts_are_ascii : AddressesAreDotted → (hosts : List KnownHost) (name addr : List ℕ) (host : KnownHost) → host_for hosts name addr ≡ Some host
    → IsAscii name × IsAscii addr
parts_are_ascii dotted hosts name addr host is =
    let made = tested (is_host_name name && is_none (look_up hosts name)) (address addr) _ host is in
    let named = and_parts (is_host_name name) (is_none (look_up hosts name)) made.0 in
    let bytes = and_parts _ _ (and_parts _ _ named.0).0 in
    (names_are_ascii name bytes.1, address_is_ascii dotted addr made.1.0 made.1.1)

-- a text with a byte between two parts
joined_is_ascii : (text : List ℕ) (at : ℕ) → at < length text → get_or text at 0 ≡ equals_sign → IsAscii (take at text) → IsAscii (drop (at + 1) text) → IsAscii text
joined_is_ascii text at within is before behind =
    let next : at + 1 ≡ suc at = omega arith in
    let rest : IsAscii (drop (suc at) text) = subst (λ n. IsAscii (drop n text)) next behind in
    subst IsAscii (sym (split_at text at 0 within))
    (IsAscii-append (take at text) (get_or text at 0 ∷ drop (suc at) text) before (IsAscii-cons (get_or text at 0) (drop (suc at) text) (omega (arith, is)) rest))

written_is_ascii : AddressesAreDotted → (hosts : List KnownHost) (text : List ℕ) (host : KnownHost) → host_written hosts text ≡ Some host → IsAscii text
written_is_ascii dotted hosts text host = by (position (λ b. b == equals_sign) text) refl
  where
    by : (place : Option ℕ) → place ≡ position (λ b. b == equals_sign) text
        → option_and_then (λ (parts : List ℕ × List ℕ). host_for hosts parts.0 parts.1) (option_map (λ at. (take at text, drop (at + 1) text)) place) ≡ Some host → IsAscii text
    by None found is = absurd cc
    by (Some at) found is =
        let both = parts_are_ascii dotted hosts (take at text) (drop (at + 1) text) host is in
        let here = position-Some (λ b. b == equals_sign) text at 0 (sym found) in
        joined_is_ascii text at here.0 (eqb-true _ _ here.1) both.0 both.1

pub none_written : AddressesAreDotted → (hosts : List KnownHost) (text : List ℕ) → (IsUtf8 text → ⊥) → host_written hosts text ≡ None
none_written dotted hosts text broken = by (host_written hosts text) refl
  where
    by : (found : Option KnownHost) → host_written hosts text ≡ found → found ≡ None
    by None is = refl
    by (Some host) is = absurd (broken (IsUtf8-from_ascii text (written_is_ascii dotted hosts text host is)))
