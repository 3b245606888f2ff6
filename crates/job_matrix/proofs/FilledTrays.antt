-- What lies in a tray into which values were put one after another.
use Rattle.std.proofs.Common.{◌≡◌, ℕ, ◌<◌, ◌++◌, true, List, [], ◌∷◌, length, map, Option, Some, None, slice_get, refl, ◌≢◌, replicate, get_or, Result, Ok, Err, IfOk, IsOkAnd, sym, ap, ap₂, ◌∙◌, subst, length-set, lt_of_not-le, arith}
use Rattle.std.specs.Option.{is_some}
use Rattle.std.proofs.lemmas.Option.{slice_get_within, slice_get-get_or, get_or_from_slice_get}
use Rattle.job_matrix.specs.Trays.{Has, IsFree, put_one, put_where, IsRefused, jobs_in, EachJob, AreRight, AreDone, put_each, FillsInOrder}
use Rattle.std.specs.List.{range_with_len}
use Rattle.std.proofs.lemmas.List.{length-replicate, get_or-replicate, map-append, nil_from_length}
use Rattle.std.proofs.lemmas.List.FromFn.{fill_by_all}
use mathlib.Core.Logic.{dite}
use native.Mathlib.Decide.{ℕ_discrete}
use Rattle.lists.proofs.Lists.{listed, slice_get-set_same, slice_get-set_other}
use Rattle.job_matrix.specs.Counting.{times, CountsBelow}
use Rattle.job_matrix.specs.declared.trays.PutFault.{PutFault}
use Rattle.job_matrix.specs.declared.trays.PutFault.TheVariants.{Stranger, Twice}
use Rattle.job_matrix.proofs.Sums.{times_one, times-append}

-- ---- slots

module _ {V : Type 0} where
  pub has_found : (slots : List (Option V)) (at : ℕ) (found : Option V) → slice_get slots at ≡ Some found → is_some found ≡ true → (v : V) × Has slots at v
  has_found slots at None is full = cc
  has_found slots at (Some v) is full = (v, is)

  after_filled : (values : List V) (rest : List (Option V)) → slice_get (map Some values ++ None ∷ rest) (length values) ≡ Some None
  after_filled [] rest = refl
  after_filled (v ∷ values) rest = after_filled values rest

  -- if each slot has a value, no slot is empty
  pub nothing_missing : (slots : List (Option V)) (values : List V) (rest : List (Option V)) → map Some values ++ None ∷ rest ≡ slots
      → ((k : ℕ) → k < length slots → (v : V) × Has slots k v) → ⊥
  nothing_missing slots values rest whole filled =
      let here : slice_get slots (length values) ≡ Some None = rw (← whole) (after_filled values rest) in
      let full = filled (length values) (slice_get_within slots (length values) None here) in
      let there = full.1 in
      cc

-- ---- values put one after another

module _ {V : Type 0} where
  length_where : (found : Option (Option V)) (slots : List (Option V)) (job : ℕ) (value : V) → length (put_where found slots job value) ≡ length slots
  length_where (Some None) slots job value = length-set slots job (Some value)
  length_where (Some (Some other)) slots job value = refl
  length_where None slots job value = refl

  other_where : (found : Option (Option V)) (slots : List (Option V)) (job k : ℕ) (value : V) → k ≢ job → slice_get (put_where found slots job value) k ≡ slice_get slots k
  other_where (Some None) slots job k value other = slice_get-set_other slots job k (Some value) other
  other_where (Some (Some v)) slots job k value other = refl
  other_where None slots job k value other = refl

  pub length-put_each : (slots : List (Option V)) (done : List (ℕ × V)) → length (put_each slots done) ≡ length slots
  length-put_each slots [] = refl
  length-put_each slots (d ∷ done) = length-put_each (put_one slots d.0 d.1) done ∙ length_where (slice_get slots d.0) slots d.0 d.1

  pub put_each-append : (slots : List (Option V)) (before : List (ℕ × V)) (d : ℕ × V) → put_each slots (before ++ d ∷ []) ≡ put_one (put_each slots before) d.0 d.1
  put_each-append slots [] d = refl
  put_each-append slots (b ∷ before) d = put_each-append (put_one slots b.0 b.1) before d

  -- if a value is refused, its slot is not free
  pub refused_not_free : (slots : List (Option V)) (job : ℕ) (value : V) (fault : PutFault V) → IsRefused slots job value fault → ¬ (IsFree slots job)
  refused_not_free slots job value (Stranger back) refused free = absurd (omega (arith, refused.0, slice_get_within slots job None free))
  refused_not_free slots job value (Twice back) refused free = let has = refused.0.1 in cc

  put_here : (slots : List (Option V)) (job : ℕ) (value : V) → IsFree slots job → Has (put_one slots job value) job value
  put_here slots job value free = rw free (slice_get-set_same slots job (Some value) (slice_get_within slots job None free))

  -- if no job of the list is k, nothing changes at k
  pub put_elsewhere : (slots : List (Option V)) (done : List (ℕ × V)) (k : ℕ) → times k (jobs_in done) ≡ 0 → slice_get (put_each slots done) k ≡ slice_get slots k
  put_elsewhere slots [] k none = refl
  put_elsewhere slots (d ∷ done) k none =
      let one = times_one k d.0 in
      let other : k ≢ d.0 = λ e. absurd (omega (arith, one.0 e)) in
      put_elsewhere (put_one slots d.0 d.1) done k (omega (arith, one.1 other)) ∙ other_where (slice_get slots d.0) slots d.0 k d.1 other

  -- if one job of the list is k, its value lies at k
  pub put_there : (P : ℕ → V → Type 0) (slots : List (Option V)) (done : List (ℕ × V)) (k : ℕ) → IsFree slots k → times k (jobs_in done) ≡ 1 → EachJob P done
      → (v : V) × P k v × Has (put_each slots done) k v
  put_there P slots [] k free once all = absurd (omega (arith, once))
  put_there P slots (d ∷ done) k free once all =
      let one = times_one k d.0 in
      dite (ℕ_discrete k d.0)
      (λ same.
      let free' : IsFree slots d.0 = subst (λ (j : ℕ). IsFree slots j) same free in
      let rest : times k (jobs_in done) ≡ 0 = omega (arith, one.0 same) in
      (d.1, subst (λ (j : ℕ). P j d.1) (sym same) all.0, put_elsewhere (put_one slots d.0 d.1) done k rest ∙ subst (λ (j : ℕ). Has (put_one slots d.0 d.1) j d.1) (sym same) (put_here slots d.0 d.1 free')))
      (λ other.
      let free' : IsFree (put_one slots d.0 d.1) k = other_where (slice_get slots d.0) slots d.0 k d.1 other ∙ free in
      put_there P (put_one slots d.0 d.1) done k free' (omega (arith, one.1 other)) all.1)

  pub all_free : (n k : ℕ) → k < n → IsFree {V = V} (replicate n None) k
  all_free n k within =
      slice_get-get_or (replicate n None) k None (omega (arith, length-replicate {A = Option V} n None)) ∙ ap (λ (o : Option V). Some o) (get_or-replicate n k None None within)

  -- a job that did not come before finds its slot free
  pub still_free : (n job : ℕ) (value : V) (before rest : List (ℕ × V)) → CountsBelow n (λ x. times x (jobs_in (before ++ (job, value) ∷ rest))) → IsFree (put_each (replicate n None) before) job
  still_free n job value before rest counts =
      let once = counts job in
      let more = ap (times job) (map-append (λ (d : ℕ × V). d.0) before ((job, value) ∷ rest)) ∙ times-append job (jobs_in before) (job ∷ jobs_in rest) in
      let one = (times_one job job).0 refl in
      let within : job < n = lt_of_not-le (λ h. absurd (omega (arith, more, one, once.1 h))) in
      put_elsewhere (replicate n None) before job (omega (arith, more, one, once.0 within)) ∙ all_free n job within

  all_true : (done : List (ℕ × V)) → EachJob (λ job value. Unit {0}) done
  all_true [] = tt
  all_true (d ∷ done) = (tt, all_true done)

  -- if each job below n was done once, no slot stays free
  pub all_filled : (n : ℕ) (done : List (ℕ × V)) → CountsBelow n (λ x. times x (jobs_in done)) → (k : ℕ) → ¬ (IsFree (put_each (replicate n None) done) k)
  all_filled n done counts k free =
      let within : k < n = subst (λ (m : ℕ). k < m) (length-put_each (replicate n None) done ∙ length-replicate n None) (slice_get_within (put_each (replicate n None) done) k None free) in
      let there = put_there (λ j v. Unit {0}) (replicate n None) done k (all_free n k within) ((counts k).0 within) (all_true done) in
      let has = there.2 in
      cc

  map_twice : (meaning : ℕ → V) (xs : List ℕ) → map (λ k. Some (meaning k)) xs ≡ map Some (map meaning xs)
  map_twice meaning [] = refl
  map_twice meaning (x ∷ xs) = ap (λ (os : List (Option V)). Some (meaning x) ∷ os) (map_twice meaning xs)

  pub some_injective : (xs ys : List V) → map Some xs ≡ map Some ys → xs ≡ ys
  some_injective [] [] e = refl
  some_injective [] (y ∷ ys) e = cc
  some_injective (x ∷ xs) [] e = cc
  some_injective (x ∷ xs) (y ∷ ys) e =
      let tails : map Some xs ≡ map Some ys = cc in
      let same = some_injective xs ys tails in
      cc

  pub each_append : (P : ℕ → V → Type 0) (xs ys : List (ℕ × V)) → EachJob P xs → EachJob P ys → EachJob P (xs ++ ys)
  each_append P [] ys all more = more
  each_append P (x ∷ xs) ys all more = (all.0, each_append P xs ys all.1 more)

  pub done_append : (values : List V) (jobs others : List ℕ) (xs ys : List (ℕ × V)) → AreDone values jobs xs → AreDone values others ys → AreDone values (jobs ++ others) (xs ++ ys)
  done_append values jobs others xs ys done more =
      (map-append (λ (d : ℕ × V). d.0) xs ys ∙ ap₂ (λ (a b : List ℕ). a ++ b) done.0 more.0, each_append (λ job value. (other : V) → value ≡ get_or values job other) xs ys done.1 more.1)

  pub both_done : {D E : Type 0} (items : D → List (ℕ × V)) (values : List V) (jobs others : List ℕ) (P Q R : Type 0) (r first second : Result D E)
      → IfOk r (λ v. IsOkAnd first (λ a. IsOkAnd second (λ b. items v ≡ items a ++ items b)))
      → IfOk first (λ v. AreDone values jobs (items v) × P) → IfOk second (λ v. AreDone values others (items v) × Q) → (P → R)
      → IfOk r (λ v. AreDone values (jobs ++ others) (items v) × R)
  both_done items values jobs others P Q R (Ok v) (Ok a) (Ok b) all done more further =
      (subst (λ (xs : List (ℕ × V)). AreDone values (jobs ++ others) xs) (sym all) (done_append values jobs others (items a) (items b) done.0 more.0), further done.1)
  both_done items values jobs others P Q R (Ok v) (Ok a) (Err e) all done more further = absurd all
  both_done items values jobs others P Q R (Ok v) (Err e) second all done more further = absurd all
  both_done items values jobs others P Q R (Err e) first second all done more further = tt

  are_right : (values : List V) (other : V) (done : List (ℕ × V)) → EachJob (λ job value. (other : V) → value ≡ get_or values job other) done → AreRight (λ job. get_or values job other) done
  are_right values other [] all = tt
  are_right values other (d ∷ done) all = (all.0 other, are_right values other done all.1)

pub filled_in_order : (V : Type 0) → FillsInOrder V
filled_in_order V meaning n done counts right =
    let slots = put_each (replicate n None) done in
    let len : length slots ≡ n = length-put_each (replicate n None) done ∙ length-replicate n None in
    let each : (k : ℕ) → k < n → get_or slots k None ≡ Some (meaning k) = λ k within.
    let there = put_there (λ j v. v ≡ meaning j) (replicate n None) done k (all_free n k within) ((counts k).0 within) right in
    get_or_from_slice_get slots k (Some (meaning k)) None (there.2 ∙ ap (λ (v : V). Some (Some v)) there.1) in
    fill_by_all (λ k. Some (meaning k)) slots n None len each ∙ map_twice meaning (range_with_len 0 n)

-- the tray is then filled with the values of all jobs
filled_with : {V : Type 0} (values : List V) (jobs : List ℕ) (done : List (ℕ × V)) → CountsBelow (length values) (λ x. times x (jobs_in done)) → AreDone values jobs done
    → put_each (replicate (length values) None) done ≡ map Some values
filled_with [] jobs done counts are = nil_from_length _ (length-put_each [] done)
filled_with {V = V} (v ∷ values) jobs done counts are =
    let all : List V = v ∷ values in
    filled_in_order V (λ job. get_or all job v) (length all) done counts (are_right all v done are.1) ∙ ap (map Some) (listed all (length all) v refl)

pub values_in_order : {V E : Type 0} (values : List V) (count : ℕ) (jobs : List ℕ) (done : List (ℕ × V)) (r : Result (List V) E) → count ≡ length values → CountsBelow count (λ x. times x (jobs_in done)) → AreDone values jobs done
    → IfOk r (λ v. map Some v ≡ put_each (replicate count None) done) → IfOk r (λ v. v ≡ values)
values_in_order values count jobs done (Ok v) same counts are filled =
    let all = subst (λ (k : ℕ). CountsBelow k (λ x. times x (jobs_in done))) same counts in
    some_injective v values (filled ∙ ap (λ (k : ℕ). put_each (replicate k None) done) same ∙ filled_with values jobs done all are)
values_in_order values count jobs done (Err e) same counts are filled = tt
