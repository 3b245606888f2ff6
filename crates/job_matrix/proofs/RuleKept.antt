-- Each kind of step keeps the rule of a board, and what a chief knows when no pass is out.
use Rattle.std.proofs.Common.{◌≡◌, ◌≢◌, ℕ, zero, suc, ◌+◌, ◌%◌, ◌^◌, ◌<◌, ◌≤◌, min, List, [], ◌∷◌, ◌++◌, length, set, slice_index, slice_set, refl, sym, ap, ◌∙◌, subst, ⊎_elim, lt_of_not-le, length-set, arith}
use mathlib.Core.Option.{some, some-injective, some-ne-none}
use mathlib.Core.Logic.{dite}
use native.Mathlib.Decide.{dec_le, ℕ_discrete}
use lib.ListN.{get_elem?}
use Rattle.atomic_table.specs.Table.{Act, keeps, Valid, carried_after, Allows, Splits, Joins}
use Rattle.atomic_table.proofs.Lists.{at_set}
use Rattle.job_matrix.specs.declared.rules.SeatView.{SeatView}
use Rattle.job_matrix.specs.declared.rules.SeatView.TheVariants.{Leads, Claims, Spent}
use Rattle.job_matrix.specs.Counting.{times, total, CountsBelow}
use Rattle.job_matrix.specs.Boards.{jobs_of, told_of, made_of, back_of, out_of, Fits, Kept, Fair, Claimed}
use Rattle.job_matrix.proofs.Sums.{total_set, total_snoc, total_at, total_below, total_none, at_snoc, times-append, times_one}

abbrev Each : ℕ → List SeatView → Type 0
Each n views = (seat : ℕ) (v : SeatView) → get_elem? views seat ≡ some v → Fits n seat v

abbrev numbers : ℕ → SeatView → ℕ
numbers x v = times x (jobs_of v)

-- a seat that was told that no number is left is out or came back
told_within : (n seat : ℕ) (v : SeatView) → Fits n seat v → told_of v ≤ out_of v + back_of v
told_within n seat (Leads limit made back told jobs) fits = omega (arith, fits.2)
told_within n seat (Claims limit told jobs) fits = omega (arith, fits.2)
told_within n seat Spent fits = omega arith

-- so the word does not overflow
word_small : (n : ℕ) (words : List ℕ) (views : List SeatView) (kept : Kept n words views) → kept.next + 1 < 2 ^ 64
word_small n words views kept =
    let below = total_below told_of out_of back_of views (λ seat v at. told_within n seat v (kept.each seat v at)) in
    omega (arith, below, kept.over, kept.passes, kept.few, kept.small)

fits_set : (n id : ℕ) (views : List SeatView) (w : SeatView) → Each n views → Fits n id w → Each n (set views id w)
fits_set n id views w each fits seat v at =
    ⊎_elim (λ t. subst (λ (k : ℕ). Fits n k v) (sym t.0) (subst (λ (u : SeatView). Fits n id u) t.1 fits)) (λ t. each seat v t.1) (at_set views id seat w v at)

-- only the first seat is a chief's
others_lead_nothing : (n seat : ℕ) (v : SeatView) → Fits n (suc seat) v → (made_of v ≡ 0) × (back_of v ≡ 0)
others_lead_nothing n seat (Leads limit made back told jobs) fits = absurd (omega (arith, fits.0))
others_lead_nothing n seat (Claims limit told jobs) fits = (refl, refl)
others_lead_nothing n seat Spent fits = (refl, refl)

-- the chief's counts are those of all seats
lead_counts : (n id limit made back told : ℕ) (jobs : List ℕ) (views : List SeatView) → Each n views → get_elem? views id ≡ some (Leads limit made back told jobs)
    → (total made_of views ≡ made) × (total back_of views ≡ back)
lead_counts n zero limit made back told jobs [] each at = absurd (some-ne-none _ (sym at))
lead_counts n zero limit made back told jobs (x ∷ xs) each at =
    let is = some-injective x (Leads limit made back told jobs) at in
    let m = total_none made_of xs (λ i v e. (others_lead_nothing n i v (each (suc i) v e)).0) in
    let b = total_none back_of xs (λ i v e. (others_lead_nothing n i v (each (suc i) v e)).1) in
    (omega (arith, m, ap made_of is), omega (arith, b, ap back_of is))
lead_counts n (suc id) limit made back told jobs views each at = absurd (omega (arith, (each (suc id) _ at).0))

-- a claim below the limit
claims_number : (n id limit : ℕ) (jobs : List ℕ) (words : List ℕ) (views : List SeatView) (kept : Kept n words views)
    → get_elem? views id ≡ some (Claims limit 0 jobs) → kept.next < n
    → Kept n ((kept.next + 1) ∷ []) (set views id (Claims limit 0 (jobs ++ kept.next ∷ [])))
claims_number n id limit jobs words views kept at below =
    let v = Claims limit 0 jobs in
    let w = Claims limit 0 (jobs ++ kept.next ∷ []) in
    let told = total_set told_of views id v w at in
    let out = total_set out_of views id v w at in
    let back = total_set back_of views id v w at in
    let made = total_set made_of views id v w at in
    record {
      next = kept.next + 1;
      word = refl;
      small = kept.small;
      once = λ x.
          let jobs_now = total_set (numbers x) views id v w at in
          let more = times-append x jobs (kept.next ∷ []) in
          let one = times_one x kept.next in
          let once = kept.once x in (
            (λ h. dite (ℕ_discrete x kept.next)
                (λ same. omega (arith, jobs_now, more, one.0 same, once.1 (omega arith)))
                (λ other. omega (arith, jobs_now, more, one.1 other, once.0 (omega arith)))),
            (λ h. omega (arith, jobs_now, more, one.1 (λ e. omega arith), once.1 (omega arith))),
          );
      over = omega (arith, told, kept.over);
      passes = omega (arith, out, back, made, kept.passes);
      few = omega (arith, made, kept.few);
      each = fits_set n id views w kept.each (kept.each id v at);
    }

-- a claim that finds no number
claims_nothing : (n id limit : ℕ) (jobs : List ℕ) (words : List ℕ) (views : List SeatView) (kept : Kept n words views)
    → get_elem? views id ≡ some (Claims limit 0 jobs) → n ≤ kept.next
    → Kept n ((kept.next + 1) ∷ []) (set views id (Claims limit 1 jobs))
claims_nothing n id limit jobs words views kept at past =
    let v = Claims limit 0 jobs in
    let w = Claims limit 1 jobs in
    let told = total_set told_of views id v w at in
    let out = total_set out_of views id v w at in
    let back = total_set back_of views id v w at in
    let made = total_set made_of views id v w at in
    let fits = kept.each id v at in
    record {
      next = kept.next + 1;
      word = refl;
      small = kept.small;
      once = λ x.
          let jobs_now = total_set (numbers x) views id v w at in
          let once = kept.once x in
          ((λ h. omega (arith, jobs_now)), (λ h. omega (arith, jobs_now)));
      over = omega (arith, told, kept.over);
      passes = omega (arith, out, back, made, kept.passes);
      few = omega (arith, made, kept.few);
      each = fits_set n id views w kept.each (fits.0, fits.1, omega arith);
    }

pub claims : (n slots id limit : ℕ) (jobs : List ℕ) (c : List (ℕ × ℕ))
    → Allows (Fair n) slots id (Claims limit 0 jobs, c) 0 (λ w. (w + 1) % 2 ^ 64) (Claimed (Claims limit 0 jobs, c))
claims n slots id limit jobs c s kept homes at room =
    let v = Claims limit 0 jobs in
    let next = kept.next in
    let same : limit ≡ n = (kept.each id v at).1 in
    let P : List ℕ → Type 0 = λ ws. (w : SeatView) × (a : Act ℕ) × Valid s.homes c a × Kept n (slice_set ws 0 ((slice_index ws 0 + 1) % 2 ^ 64)) (slice_set s.views id w) × Claimed (v, c) (slice_index ws 0) (w, carried_after c a) in
    let small = word_small n s.words s.views kept in
    let word : next + 1 ≡ (next + 1) % 2 ^ 64 = omega arith in
    let above : (x : ℕ) → next ≤ x → times x jobs ≡ 0 = λ x h. omega (arith, total_at (numbers x) s.views id v at, (kept.once x).1) in
    subst P (sym kept.word) (dite (dec_le n next)
    (λ past. (Claims limit 1 jobs, keeps, tt, subst (λ (k : ℕ). Kept n (k ∷ []) (set s.views id (Claims limit 1 jobs))) word (claims_nothing n id limit jobs s.words s.views kept at past), ((λ h. absurd (omega arith)), (λ h. refl))))
    (λ here. let below : next < n = lt_of_not-le here in
    (Claims limit 0 (jobs ++ next ∷ []), keeps, tt, subst (λ (k : ℕ). Kept n (k ∷ []) (set s.views id (Claims limit 0 (jobs ++ next ∷ [])))) word (claims_number n id limit jobs s.words s.views kept at below), ((λ h. (refl, above)), (λ h. absurd (omega arith))))))

fits_snoc : (n : ℕ) (views : List SeatView) (w : SeatView) → Each n views → Fits n (length views) w → Each n (views ++ w ∷ [])
fits_snoc n views w each fits seat v at =
    ⊎_elim (λ t. each seat v t) (λ t. subst (λ (k : ℕ). Fits n k v) (sym t.0) (subst (λ (u : SeatView). Fits n (length views) u) t.1 fits)) (at_snoc views w v seat at)

some_within : (views : List SeatView) (id : ℕ) (v : SeatView) → get_elem? views id ≡ some v → 0 < length views
some_within [] id v at = absurd (some-ne-none v (sym at))
some_within (x ∷ xs) id v at = omega arith

pub splits : (n id limit made back told : ℕ) (jobs : List ℕ) → made < 65536
    → Splits {S = ℕ} (Fair n) id (Leads limit made back told jobs) (Leads limit (made + 1) back told jobs) (Claims limit 0 [])
splits n id limit made back told jobs room s kept at =
    let v = Leads limit made back told jobs in
    let l = Leads limit (made + 1) back told jobs in
    let r = Claims limit 0 [] in
    let views = set s.views id l in
    let told' = total_set told_of s.views id v l at in
    let out' = total_set out_of s.views id v l at in
    let back' = total_set back_of s.views id v l at in
    let made' = total_set made_of s.views id v l at in
    let fits = kept.each id v at in
    let count = lead_counts n id limit made back told jobs s.views kept.each at in
    let len : length views ≢ 0 = omega (arith, length-set s.views id l, some_within s.views id v at) in
    record {
      next = kept.next;
      word = kept.word;
      small = kept.small;
      once = λ x.
          let jobs_now = total_set (numbers x) s.views id v l at in
          let new = total_snoc (numbers x) views r in
          let once = kept.once x in
          ((λ h. omega (arith, jobs_now, new)), (λ h. omega (arith, jobs_now, new)));
      over = omega (arith, told', total_snoc told_of views r, kept.over);
      passes = omega (arith, out', back', made', total_snoc out_of views r, total_snoc back_of views r, total_snoc made_of views r, kept.passes);
      few = omega (arith, made', total_snoc made_of views r, count.0);
      each = fits_snoc n views r (fits_set n id s.views l kept.each fits) (len, fits.1, omega arith);
    }

pub joins : (n id other limit made back told limit' told' : ℕ) (jobs jobs' : List ℕ)
    → Joins {S = ℕ} (Fair n) id (Leads limit made back told jobs) other (Claims limit' told' jobs') (Leads limit made (back + 1) (told + told') (jobs ++ jobs')) Spent
joins n id other limit made back told limit' told' jobs jobs' s kept at apart there =
    let v = Leads limit made back told jobs in
    let b = Leads limit made (back + 1) (told + told') (jobs ++ jobs') in
    let p = Claims limit' told' jobs' in
    let views = set s.views id b in
    let fits = kept.each id v at in
    let was : get_elem? s.views other ≡ some p = ⊎_elim (λ t. absurd (apart t.0)) (λ t. t.1) (at_set s.views id other b p there) in
    let pass = kept.each other p was in
    record {
      next = kept.next;
      word = kept.word;
      small = kept.small;
      once = λ x.
          let one = total_set (numbers x) s.views id v b at in
          let two = total_set (numbers x) views other p Spent there in
          let more = times-append x jobs jobs' in
          let once = kept.once x in
          ((λ h. omega (arith, one, two, more)), (λ h. omega (arith, one, two, more)));
      over = omega (arith, total_set told_of s.views id v b at, total_set told_of views other p Spent there, kept.over);
      passes = omega (arith, total_set out_of s.views id v b at, total_set out_of views other p Spent there, total_set back_of s.views id v b at, total_set back_of views other p Spent there, total_set made_of s.views id v b at, total_set made_of views other p Spent there, kept.passes);
      few = omega (arith, total_set made_of s.views id v b at, total_set made_of views other p Spent there, kept.few);
      each = fits_set n other views Spent (fits_set n id s.views b kept.each (fits.0, fits.1, omega (arith, fits.2, pass.2))) pass.0;
    }

-- a seat that is not out and is no chief's counts nothing
spent_counts_nothing : (n seat x : ℕ) (v : SeatView) → Fits n (suc seat) v → out_of v ≡ 0 → (numbers x v ≡ 0) × (told_of v ≡ 0)
spent_counts_nothing n seat x (Leads limit made back told jobs) fits none = absurd (omega (arith, fits.0))
spent_counts_nothing n seat x (Claims limit told jobs) fits none = absurd (omega (arith, none))
spent_counts_nothing n seat x Spent fits none = (refl, refl)

-- if no pass is out, the chief's numbers and tellings are all that there are
lead_alone : (n id limit made back told x : ℕ) (jobs : List ℕ) (views : List SeatView) → Each n views → get_elem? views id ≡ some (Leads limit made back told jobs) → total out_of views ≡ 0
    → (total (numbers x) views ≡ times x jobs) × (total told_of views ≡ told)
lead_alone n zero limit made back told x jobs [] each at none = absurd (some-ne-none _ (sym at))
lead_alone n zero limit made back told x jobs (y ∷ ys) each at none =
    let is = some-injective y (Leads limit made back told jobs) at in
    let idle : (i : ℕ) (v : SeatView) → get_elem? ys i ≡ some v → (numbers x v ≡ 0) × (told_of v ≡ 0)
    = λ i v e. spent_counts_nothing n i x v (each (suc i) v e) (omega (arith, total_at out_of ys i v e, none)) in
    let j = total_none (numbers x) ys (λ i v e. (idle i v e).0) in
    let t = total_none told_of ys (λ i v e. (idle i v e).1) in
    (omega (arith, j, ap (numbers x) is), omega (arith, t, ap told_of is))
lead_alone n (suc id) limit made back told x jobs views each at none = absurd (omega (arith, (each (suc id) _ at).0))

-- what a chief knows when no pass is out
pub closes : (n id limit made told : ℕ) (jobs words : List ℕ) (views : List SeatView) (kept : Kept n words views) → get_elem? views id ≡ some (Leads limit made made told jobs)
    → CountsBelow (min kept.next n) (λ x. times x jobs) × (0 < told → min kept.next n ≡ n)
closes n id limit made told jobs words views kept at =
    let count = lead_counts n id limit made made told jobs views kept.each at in
    let none : total out_of views ≡ 0 = omega (arith, count.0, count.1, kept.passes) in
    let alone : (x : ℕ) → (total (numbers x) views ≡ times x jobs) × (total told_of views ≡ told) = λ x. lead_alone n id limit made made told x jobs views kept.each at none in (
      (λ x. let once = kept.once x in ((λ h. omega (arith, (alone x).0)), (λ h. omega (arith, (alone x).0)))),
      (λ h. omega (arith, (alone 0).1, kept.over)),
    )

-- the word that is found at the end
pub word_found : (n found : ℕ) (words left : List ℕ) (views : List SeatView) (kept : Kept n words views) → words ≡ left → get_elem? left 0 ≡ some found → kept.next ≡ found
word_found n found words left views kept same at =
    some-injective kept.next found (ap (λ (ws : List ℕ). get_elem? ws 0) (sym kept.word ∙ same) ∙ at)
