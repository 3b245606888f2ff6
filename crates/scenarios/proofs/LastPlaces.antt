-- std's cut at the last place of a character is `cut_at_last`.
use Rattle.std.proofs.Common.{◌≡◌, ◌≢◌, ℕ, suc, ◌<◌, List, [], ◌∷◌, ◌++◌, length, get_or, take, drop, Option, Some, None, option_map, refl, sym, ap, ◌∙◌, arith, take-append-drop, ne_eqb, eq-eqb}
use Rattle.std.proofs.lemmas.Str.Pattern.{NoCharPasses-char, drop_at_char}
use Rattle.std.specs.Option.{MatchOption}
use Rattle.std.specs.Str.Pattern.{RFindsChar, SplitsAroundMatch}
use Rattle.std.specs.Borrow.{Bor}
use Rattle.scenarios.specs.Upstreams.{cut_at_last}

none_is_last : (byte : ℕ) (bs : List ℕ) → ((i : ℕ) → i < length bs → get_or bs i 0 ≢ byte) → cut_at_last byte bs ≡ None
none_is_last byte [] none = refl
none_is_last byte (x ∷ bs) none =
    rw (none_is_last byte bs (λ i within. none (suc i) (omega arith)), ne_eqb x byte (none 0 (omega arith))) refl

-- a byte that does not stand after itself is the last
pub last_is_found : (byte : ℕ) (front back : List ℕ) → ((i : ℕ) → i < length back → get_or back i 0 ≢ byte) → cut_at_last byte (front ++ byte ∷ back) ≡ Some (front, back)
last_is_found byte [] back none = rw (none_is_last byte back none, eq-eqb byte byte refl) refl
last_is_found byte (x ∷ front) back none = rw (last_is_found byte front back none) refl

pub cut_by_split : (byte : ℕ) (bs : List ℕ) (r : Option (Bor (List ℕ) × Bor (List ℕ))) → MatchOption r (RFindsChar byte bs None) (λ x. SplitsAroundMatch (RFindsChar byte) bs x.0.now x.1.now) → byte < 128 → option_map (λ parts. (parts.0.now, parts.1.now)) r ≡ cut_at_last byte bs
cut_by_split byte bs None h small = sym (none_is_last byte bs (λ i within. NoCharPasses-char byte bs i h small within))
cut_by_split byte bs (Some x) h small =
    let i = h.0 in
    let j = h.1 in
    let whole : take i bs ++ byte ∷ drop j bs ≡ bs = rw (← drop_at_char byte bs i j h.2.1 small) (take-append-drop i bs) in
    let found = last_is_found byte (take i bs) (drop j bs) (λ k within. NoCharPasses-char byte (drop j bs) k h.2.0 small within) in
    rw (h.3, h.4) (sym found ∙ ap (cut_at_last byte) whole)
