use Rattle.std.proofs.Common.{◌≡◌, ℕ, ◌+◌, Bool, true, false, cond, not, take, List, [], ◌∷◌, ◌++◌, codes, refl, arith}
use Rattle.std.proofs.lemmas.List.Folds.{list_any-append}
use Rattle.std.proofs.lemmas.Grind.{common_steps}
use Rattle.std.specs.List.{list_any, prefix_len}
use Rattle.hints.specs.Hints.{is_line_feed, first_line, told, IsAbout}

take_some : (q : Bool) (b : ℕ) (bs : List ℕ) (n : ℕ) → take (cond q (1 + n) 0) (b ∷ bs) ≡ cond q (b ∷ take n bs) []
take_some true b bs n = grind (arith, common_steps)
take_some false b bs n = grind (arith, common_steps)

first_line-cons : (b : ℕ) (bs : List ℕ) → first_line (b ∷ bs) ≡ cond (not (is_line_feed b)) (b ∷ first_line bs) []
first_line-cons b bs = take_some (not (is_line_feed b)) b bs (prefix_len (λ x. not (is_line_feed x)) bs)

none_before : (q : Bool) (b : ℕ) (bs : List ℕ) → is_line_feed b ≡ q → list_any is_line_feed bs ≡ false
    → list_any is_line_feed (cond (not q) (b ∷ bs) []) ≡ false
none_before true b bs is none = refl
none_before false b bs is none = rw is none

-- the first line of a text has no line feed
first_line_has_none : (text : List ℕ) → list_any is_line_feed (first_line text) ≡ false
first_line_has_none [] = refl
first_line_has_none (b ∷ bs) = rw (first_line-cons b bs) (none_before (is_line_feed b) b (first_line bs) refl (first_line_has_none bs))

pub told_is_about : (subject place hint line : List ℕ) → line ≡ told subject place hint → IsAbout subject line
told_is_about subject place hint line is =
    let none = first_line_has_none subject in
    let nor = first_line_has_none place in
    let no = first_line_has_none hint in
    record {
      some = grind (arith, common_steps, is);
      one_line = grind (arith, common_steps, list_any-append, none, nor, no, is);
      begins = (first_line place ++ (codes " " ++ first_line hint), is);
    }
