-- Each event of a board's world keeps each number in one place, and a tray is filled in whatever order.
use Rattle.std.proofs.Common.{◌≡◌, ℕ, zero, suc, ◌+◌, ◌<◌, Bool, true, false, List, [], ◌∷◌, ◌++◌, Option, Some, None, replicate, set, nat_lt, slice_get, slice_set, if◌then◌else◌, refl, ap, ◌∙◌, arith, ◌==◌, All, IsPermutation, sym}
use Rattle.std.proofs.lemmas.List.{map-append}
use borrow.Author.Tests.{ltb-true}
use mathlib.Core.Logic.{dite}
use native.Mathlib.Decide.{ℕ_discrete}
use Rattle.job_matrix.specs.Counting.{times, total}
use Rattle.job_matrix.specs.Trays.{jobs_in, EachJob}
use Rattle.job_matrix.specs.BoardWorld.{Worker, World, Event, claims, finishes, leaves, worker, held, after_claim, after_finish, after_leave, event_by, whose, after_event, world_after, first_world, IsWhole, AnyOrder, AllDone, TrayIsFilled}
use Rattle.job_matrix.proofs.Sums.{times-append, times_one}
use Rattle.std.specs.List.{sum_by}
use Rattle.std.proofs.lemmas.List.Sums.{sum_by-cons}
use Rattle.std.proofs.lemmas.List.Sorted.{sum_by-IsPermutation, All-permutation}
use Rattle.job_matrix.proofs.FilledTrays.{each_append, filled_in_order}

-- the sum after a change of one element, as std reads lists
total_set_at : {A : Type 0} (f : A → ℕ) (l : List A) (i : ℕ) (v w : A) → slice_get l i ≡ Some v → total f (set l i w) + f v ≡ total f l + f w
total_set_at f [] i v w e = cc
total_set_at f (x ∷ xs) zero v w e = let same : x ≡ v = cc in omega (arith, ap f same)
total_set_at f (x ∷ xs) (suc i) v w e = omega (arith, total_set_at f xs i v w e)

abbrev holding : ℕ → Worker → ℕ
holding x w = times x (held w.holds)

nobody_holds : (workers x : ℕ) → total (holding x) (replicate workers (worker None false false)) ≡ 0
nobody_holds zero x = refl
nobody_holds (suc workers) x = omega (arith, nobody_holds workers x)

module _ {V : Type 0} where
  jobs-append : (done : List (ℕ × V)) (job : ℕ) (value : V) → jobs_in (done ++ (job, value) ∷ []) ≡ jobs_in done ++ job ∷ []
  jobs-append done job value = map-append (λ (d : ℕ × V). d.0) done ((job, value) ∷ [])

  claims_next : (meaning : ℕ → V) (n : ℕ) (s : World V) (w : ℕ) → slice_get s.workers w ≡ Some (worker None false false) → IsWhole meaning n s → s.next < n
      → IsWhole meaning n (record s { next = s.next + 1; workers = slice_set s.workers w (worker (Some s.next) false false) })
  claims_next meaning n s w at whole below = record {
    once = λ x.
        let now = total_set_at (holding x) s.workers w (worker None false false) (worker (Some s.next) false false) at in
        let one = times_one x s.next in
        let once = whole.once x in (
          (λ h. dite (ℕ_discrete x s.next)
              (λ same. omega (arith, now, one.0 same, once.1 (omega arith)))
              (λ other. omega (arith, now, one.1 other, once.0 (omega arith)))),
          (λ h. omega (arith, now, one.1 (λ e. omega arith), once.1 (omega arith))),
        );
    right = whole.right;
    within = omega arith;
  }

  claims_none : (meaning : ℕ → V) (n : ℕ) (s : World V) (w : ℕ) → slice_get s.workers w ≡ Some (worker None false false) → IsWhole meaning n s
      → IsWhole meaning n (record s { workers = slice_set s.workers w (worker None true false) })
  claims_none meaning n s w at whole = record {
    once = λ x.
        let now = total_set_at (holding x) s.workers w (worker None false false) (worker None true false) at in
        let once = whole.once x in
        ((λ h. omega (arith, now, once.0 h)), (λ h. omega (arith, now, once.1 h)));
    right = whole.right;
    within = whole.within;
  }

  claims_either : (meaning : ℕ → V) (n : ℕ) (s : World V) (w : ℕ) (b : Bool) → nat_lt s.next n ≡ b → slice_get s.workers w ≡ Some (worker None false false) → IsWhole meaning n s
      → IsWhole meaning n (if b then record s { next = s.next + 1; workers = slice_set s.workers w (worker (Some s.next) false false) } else record s { workers = slice_set s.workers w (worker None true false) })
  claims_either meaning n s w true test at whole = claims_next meaning n s w at whole (ltb-true s.next n test)
  claims_either meaning n s w false test at whole = claims_none meaning n s w at whole

  kept_by_claim : (meaning : ℕ → V) (n : ℕ) (s : World V) (w : ℕ) (holds : Option ℕ) (told left : Bool) → slice_get s.workers w ≡ Some (worker holds told left) → IsWhole meaning n s
      → IsWhole meaning n (after_claim n s w holds told left)
  kept_by_claim meaning n s w None false false at whole = claims_either meaning n s w (nat_lt s.next n) refl at whole
  kept_by_claim meaning n s w None false true at whole = whole
  kept_by_claim meaning n s w None true left at whole = whole
  kept_by_claim meaning n s w (Some job) told left at whole = whole

  kept_by_finish : (meaning : ℕ → V) (n : ℕ) (s : World V) (w : ℕ) (holds : Option ℕ) (told left : Bool) → slice_get s.workers w ≡ Some (worker holds told left) → IsWhole meaning n s
      → IsWhole meaning n (after_finish meaning s w holds told left)
  kept_by_finish meaning n s w None told left at whole = whole
  kept_by_finish meaning n s w (Some job) told left at whole = record {
    once = λ x.
        let now = total_set_at (holding x) s.workers w (worker (Some job) told left) (worker None told left) at in
        let more = ap (times x) (jobs-append s.done job (meaning job)) ∙ times-append x (jobs_in s.done) (job ∷ []) in
        let once = whole.once x in
        ((λ h. omega (arith, now, more, once.0 h)), (λ h. omega (arith, now, more, once.1 h)));
    right = each_append (λ j value. value ≡ meaning j) s.done ((job, meaning job) ∷ []) whole.right (refl, tt);
    within = whole.within;
  }

  kept_by_leave : (meaning : ℕ → V) (n : ℕ) (s : World V) (w : ℕ) (holds : Option ℕ) (told left : Bool) → slice_get s.workers w ≡ Some (worker holds told left) → IsWhole meaning n s
      → IsWhole meaning n (after_leave s w holds told left)
  kept_by_leave meaning n s w holds told left at whole = record {
    once = λ x.
        let now = total_set_at (holding x) s.workers w (worker holds told left) (worker None told true) at in
        let more = times-append x s.lost (held holds) in
        let once = whole.once x in
        ((λ h. omega (arith, now, more, once.0 h)), (λ h. omega (arith, now, more, once.1 h)));
    right = whole.right;
    within = whole.within;
  }

  kept_by_any : (meaning : ℕ → V) (n : ℕ) (s : World V) (event : Event) (found : Option Worker) → slice_get s.workers (whose event) ≡ found → IsWhole meaning n s
      → IsWhole meaning n (event_by meaning n s event found)
  kept_by_any meaning n s (claims w) (Some it) at whole = kept_by_claim meaning n s w it.holds it.told it.left at whole
  kept_by_any meaning n s (finishes w) (Some it) at whole = kept_by_finish meaning n s w it.holds it.told it.left at whole
  kept_by_any meaning n s (leaves w) (Some it) at whole = kept_by_leave meaning n s w it.holds it.told it.left at whole
  kept_by_any meaning n s (claims w) None at whole = whole
  kept_by_any meaning n s (finishes w) None at whole = whole
  kept_by_any meaning n s (leaves w) None at whole = whole

  kept_by_run : (meaning : ℕ → V) (n : ℕ) (s : World V) (events : List Event) → IsWhole meaning n s → IsWhole meaning n (world_after meaning n s events)
  kept_by_run meaning n s [] whole = whole
  kept_by_run meaning n s (event ∷ events) whole =
      kept_by_run meaning n (after_event meaning n s event) events (kept_by_any meaning n s event (slice_get s.workers (whose event)) refl whole)

  start_whole : (meaning : ℕ → V) (n workers : ℕ) → IsWhole meaning n (first_world workers)
  start_whole meaning n workers = record {
    once = λ x. let none = nobody_holds workers x in ((λ h. absurd (omega arith)), (λ h. omega (arith, none)));
    right = tt;
    within = omega arith;
  }

pub any_order : (V : Type 0) → AnyOrder V
any_order V meaning n workers events = kept_by_run meaning n (first_world workers) events (start_whole meaning n workers)

none_held : (workers : List Worker) (x : ℕ) → ((w : ℕ) (it : Worker) → slice_get workers w ≡ Some it → it.holds ≡ None) → total (holding x) workers ≡ 0
none_held [] x none = refl
none_held (it ∷ workers) x none =
    let here : holding x it ≡ 0 = ap (λ (o : Option ℕ). times x (held o)) (none 0 it refl) in
    let others = none_held workers x (λ w other at. none (suc w) other at) in
    omega (arith, here, others)

pub all_done : (V : Type 0) → AllDone V
all_done V meaning n workers events last none lost =
    let s : World V = world_after meaning n (first_world workers) events in
    let whole = any_order V meaning n workers events in (
      (λ x.
          let held' = none_held s.workers x none in
          let gone' : times x s.lost ≡ 0 = ap (times x) lost in
          let once = whole.once x in
          ((λ h. omega (arith, held', gone', once.0 (omega (arith, last)))), (λ h. omega (arith, held', gone', once.1 (omega (arith, last)))))),
      whole.right,
    )

-- ---- jobs with values in another order

module _ {V : Type 0} where
  times_by_sum : (x : ℕ) (done : List (ℕ × V)) → times x (jobs_in done) ≡ sum_by (λ d. if x == d.0 then 1 else 0) done
  times_by_sum x [] = refl
  times_by_sum x (d ∷ done) = omega (arith, times_by_sum x done, sum_by-cons (λ (e : ℕ × V). if x == e.0 then 1 else 0) d done)

  times_reordered : (x : ℕ) (done order : List (ℕ × V)) → IsPermutation done order → times x (jobs_in order) ≡ times x (jobs_in done)
  times_reordered x done order same =
      times_by_sum x order ∙ sum_by-IsPermutation (λ (d : ℕ × V). if x == d.0 then 1 else 0) done order same ∙ sym (times_by_sum x done)

  to_all : (P : ℕ → V → Type 0) (done : List (ℕ × V)) → EachJob P done → All (λ d. P d.0 d.1) done
  to_all P [] each k d within = absurd (omega (arith, within))
  to_all P (e ∷ done) each zero d within = each.0
  to_all P (e ∷ done) each (suc k) d within = to_all P done each.1 k d (omega (arith, within))

  from_all : (P : ℕ → V → Type 0) (done : List (ℕ × V)) → All (λ d. P d.0 d.1) done → EachJob P done
  from_all P [] all = tt
  from_all P (e ∷ done) all = (all 0 e (omega arith), from_all P done (λ k d within. all (suc k) d (omega (arith, within))))

pub tray_is_filled : (V : Type 0) → TrayIsFilled V
tray_is_filled V meaning n workers events order last none lost same =
    let done : List (ℕ × V) = (world_after meaning n (first_world workers) events).done in
    let all = all_done V meaning n workers events last none lost in
    let right = from_all (λ job value. value ≡ meaning job) order (All-permutation (λ (d : ℕ × V). d.1 ≡ meaning d.0) done order same (to_all (λ job value. value ≡ meaning job) done all.1)) in
    filled_in_order V meaning n order (λ x. let e = times_reordered x done order same in ((λ h. e ∙ (all.0 x).0 h), (λ h. e ∙ (all.0 x).1 h))) right
