-- Marks with their places in a map.
use Rattle.std.proofs.Common.{◌≡◌, ◌∙◌, sym, subst, refl, ap, ℕ, zero, suc, ◌<◌, ◌≤◌, nat_lt, ◌⊎◌, inl, inr, Bool, true, false, cond, List, [], ◌∷◌, ◌++◌, length, Option, Some, None, arith}
use Rattle.std.specs.declared.ops.Bound.TheVariants.{Included, Excluded}
use Rattle.std.specs.Option.{IsSome, is_some}
use Rattle.std.specs.declared.cmp.Ordering.TheVariants.{Less}
use Rattle.std.specs.Ordering.{is_lt, is_gt}
use Rattle.std.specs.BTreeMap.{BTreeMap, get, is_at, Updates}
use Rattle.std.specs.BTreeMap.Range.{IsInRange, IsEntryInRange}
use Rattle.closed_loop.specs.Openings.{mark_at, mark_cmp, HasMarks, IsLastBefore}

-- ---- one mark more

pub mark_pushed : (marks : List (Option (ℕ × ℕ))) (x : Option (ℕ × ℕ)) (i : ℕ) (m : ℕ × ℕ) → mark_at (marks ++ x ∷ []) i ≡ Some m
    → (mark_at marks i ≡ Some m) ⊎ (x ≡ Some m)
mark_pushed [] x zero m is = inr is
mark_pushed [] x (suc i) m is = absurd cc
mark_pushed (y ∷ marks) x zero m is = inl is
mark_pushed (y ∷ marks) x (suc i) m is = mark_pushed marks x i m is

pub mark_stays : (marks : List (Option (ℕ × ℕ))) (x : Option (ℕ × ℕ)) (i : ℕ) (m : ℕ × ℕ) → mark_at marks i ≡ Some m → mark_at (marks ++ x ∷ []) i ≡ Some m
mark_stays [] x i m is = absurd cc
mark_stays (y ∷ marks) x zero m is = is
mark_stays (y ∷ marks) x (suc i) m is = mark_stays marks x i m is

pub mark_last : (marks : List (Option (ℕ × ℕ))) (x : Option (ℕ × ℕ)) → mark_at (marks ++ x ∷ []) (length marks) ≡ x
mark_last [] x = refl
mark_last (y ∷ marks) x = mark_last marks x

is_mark : (a b : ℕ × ℕ) → is_at (mark_cmp a) b ≡ true → a ≡ b
is_mark (x, y) (z, w) same = let p : x ≡ z = grind (arith, same) in let q : y ≡ w = grind (arith, same) in cc

module _ (marks : List (Option (ℕ × ℕ))) (x : Option (ℕ × ℕ)) (m : BTreeMap (ℕ × ℕ) ℕ) (is : HasMarks marks m) where
  pub none_more : x ≡ None → HasMarks (marks ++ x ∷ []) m
  none_more none = record { each = λ i mark at. each i mark (mark_pushed marks x i mark at); only = λ i mark at. mark_stays marks x i mark (is.only i mark at) }
    where
      each : (i : ℕ) (mark : ℕ × ℕ) → (mark_at marks i ≡ Some mark) ⊎ (x ≡ Some mark) → IsSome (get mark_cmp m mark)
      each i mark (inl old) = is.each i mark old
      each i mark (inr new) = absurd cc

  pub one_more : (n : BTreeMap (ℕ × ℕ) ℕ) (new : ℕ × ℕ) → x ≡ Some new → Updates mark_cmp m n new (Some (length marks)) → HasMarks (marks ++ x ∷ []) n
  one_more n new some updates = record {
    each = λ i mark at. each i mark (mark_pushed marks x i mark at);
    only = λ i mark at. only i mark (is_at (mark_cmp new) mark) refl (sym (updates.0 mark) ∙ at);
  }
    where
      found : (b : Bool) (o : Option ℕ) → IsSome o → is_some (cond b (Some (length marks)) o) ≡ true
      found true o some = refl
      found false o some = some

      each : (i : ℕ) (mark : ℕ × ℕ) → (mark_at marks i ≡ Some mark) ⊎ (x ≡ Some mark) → IsSome (get mark_cmp n mark)
      each i mark (inl old) = ap is_some (updates.0 mark) ∙ found (is_at (mark_cmp new) mark) (get mark_cmp m mark) (is.each i mark old)
      each i mark (inr last) = let same : new ≡ mark = cc in subst (λ (q : ℕ × ℕ). IsSome (get mark_cmp n q)) same (ap is_some updates.1)

      only : (i : ℕ) (mark : ℕ × ℕ) (b : Bool) → is_at (mark_cmp new) mark ≡ b → cond b (Some (length marks)) (get mark_cmp m mark) ≡ Some i
          → mark_at (marks ++ x ∷ []) i ≡ Some mark
      only i mark true same at =
          let place : length marks ≡ i = cc in
          subst (λ (k : ℕ). mark_at (marks ++ x ∷ []) k ≡ Some mark) place (mark_last marks x ∙ some ∙ ap Some (is_mark new mark same))
      only i mark false other at = mark_stays marks x i mark (is.only i mark at)

-- ---- the last mark of a key before a record

not_below : (key r s : ℕ) → is_lt (mark_cmp (key, r) (key, s)) ≡ false → s ≤ r
not_below key r s not = grind (arith, not)

module _ (marks : List (Option (ℕ × ℕ))) (m : BTreeMap (ℕ × ℕ) ℕ) (key bound : ℕ) (is : HasMarks marks m) where
  same_key : (k r : ℕ) → is_gt (mark_cmp (key, 0) (k, r)) ≡ false → mark_cmp (k, r) (key, bound) ≡ Less → k ≡ key
  same_key k r low high = let a : key ≤ k = grind (arith, low) in let b : k ≤ key = grind (arith, high) in omega arith

  early : (r : ℕ) → mark_cmp (key, r) (key, bound) ≡ Less → r < bound
  early r high = grind (arith, high)

  in_range : (s : ℕ) → s < bound → IsInRange mark_cmp (Included (key, 0)) (Excluded (key, bound)) (key, s)
  in_range s low = (grind (arith, low), grind (arith, low))

  pub none_found : ((q : ℕ × ℕ) → IsInRange mark_cmp (Included (key, 0)) (Excluded (key, bound)) q → get mark_cmp m q ≡ None) → IsLastBefore marks key bound None
  none_found none i r at = by_test (nat_lt r bound) refl
    where
      by_test : (b : Bool) → nat_lt r bound ≡ b → bound ≤ r
      by_test false test = grind (arith, test)
      by_test true test =
          let low : r < bound = grind (arith, test) in
          let some : is_some (get mark_cmp m (key, r)) ≡ true = is.each i (key, r) at in
          let no : is_some (get mark_cmp m (key, r)) ≡ false = ap is_some (none (key, r) (in_range r low)) in
          absurd cc

  pub last_found : (k r place : ℕ) → IsEntryInRange mark_cmp (Included (key, 0)) (Excluded (key, bound)) m ((k, r), place)
      → ((q : ℕ × ℕ) → IsInRange mark_cmp (Included (key, 0)) (Excluded (key, bound)) q → IsSome (get mark_cmp m q) → is_lt (mark_cmp (k, r) q) ≡ false)
      → IsLastBefore marks key bound (Some place)
  last_found k r place within last =
      let same : k ≡ key = same_key k r within.0.0 within.0.1 in
      let at : mark_at marks place ≡ Some (key, r) = is.only place (k, r) within.1 ∙ ap (λ (z : ℕ). Some (z, r)) same in
      (r, at, early r (subst (λ (z : ℕ). mark_cmp (z, r) (key, bound) ≡ Less) same within.0.1), λ i s later low. not_below key r s (subst (λ (z : ℕ). is_lt (mark_cmp (z, r) (key, s)) ≡ false) same (last (key, s) (in_range s low) (is.each i (key, s) later))))
