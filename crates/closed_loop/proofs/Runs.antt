-- Arrivals in runs, spread byte by byte.
use Rattle.std.proofs.Common.{◌≡◌, ◌∙◌, sym, ap, ap₂, refl, ℕ, zero, suc, ◌<◌, ◌≤◌, ◌+◌, ◌-◌, nat_lt, cond, Bool, true, false, List, [], ◌∷◌, ◌++◌, length, get_or, replicate, take, option_map, Option, Some, None, append_assoc, arith}
use Rattle.std.specs.List.{prefix_len, AllWithin, slice_get}
use Rattle.std.specs.List.Sorted.{IsPartitionedBy}
use Rattle.closed_loop.specs.declared.arrivals.Arrival.{Arrival}
use Rattle.closed_loop.specs.Times.{arrival, spread_from, spread, count_from, IsCountedFrom, IsPassed}

some_is : (a b : Arrival) → Some a ≡ Some b → a ≡ b
some_is a b is = cc

-- ---- one run more

pub spread_pushed : (n : ℕ) (rs : List Arrival) (b : Arrival) → spread_from n (rs ++ b ∷ []) ≡ spread_from n rs ++ replicate (b.upto - count_from n rs) b.at
spread_pushed n [] b = append-nil (replicate (b.upto - n) b.at)
  where
    append-nil : (xs : List ℕ) → xs ++ [] ≡ xs
    append-nil [] = refl
    append-nil (x ∷ xs) = ap (λ (ys : List ℕ). x ∷ ys) (append-nil xs)
spread_pushed n (a ∷ rs) b =
    ap (λ (ys : List ℕ). replicate (a.upto - n) a.at ++ ys) (spread_pushed a.upto rs b)
    ∙ sym (append_assoc (replicate (a.upto - n) a.at) (spread_from a.upto rs) (replicate (b.upto - count_from a.upto rs) b.at))

pub counted_pushed : (n : ℕ) (rs : List Arrival) (b : Arrival) → IsCountedFrom n rs → count_from n rs < b.upto → IsCountedFrom n (rs ++ b ∷ [])
counted_pushed n [] b all more = (more, tt)
counted_pushed n (a ∷ rs) b all more = (all.0, counted_pushed a.upto rs b all.1 more)

-- what has come with the last run
pub counted_last : (n : ℕ) (rs : List Arrival) (x : Arrival) → slice_get rs (length rs - 1) ≡ Some x → count_from n rs ≡ x.upto
counted_last n [] x is = absurd cc
counted_last n (a ∷ []) x is = ap (λ (y : Arrival). y.upto) (some_is a x is)
counted_last n (a ∷ b ∷ rs) x is =
    let e : suc (suc (length rs)) - 1 ≡ suc (length rs) = omega arith in
    let f : suc (length rs) - 1 ≡ length rs = omega arith in
    let at : slice_get (b ∷ rs) (length rs) ≡ Some x = rw e at is in
    counted_last a.upto (b ∷ rs) x (rw f at)

pub counted_take : (n : ℕ) (rs : List Arrival) (k : ℕ) (x : Arrival) → slice_get rs k ≡ Some x → count_from n (take (suc k) rs) ≡ x.upto
counted_take n [] k x is = absurd cc
counted_take n (a ∷ rs) zero x is = ap (λ (y : Arrival). y.upto) (some_is a x is)
counted_take n (a ∷ rs) (suc k) x is = counted_take a.upto rs k x is

-- ---- reads

get_left : (m i at : ℕ) (rest : List ℕ) → i < m → slice_get (replicate m at ++ rest) i ≡ Some at
get_left zero i at rest within = absurd (omega arith)
get_left (suc m) zero at rest within = refl
get_left (suc m) (suc i) at rest within = get_left m i at rest (omega arith)

get_right : (m i at : ℕ) (rest : List ℕ) → slice_get (replicate m at ++ rest) (m + i) ≡ slice_get rest i
get_right zero i at rest = let e : 0 + i ≡ i = omega arith in rw e refl
get_right (suc m) i at rest = let e : suc m + i ≡ suc (m + i) = omega arith in rw e (get_right m i at rest)

-- byte number q, counted from 1, comes with the first run that has come with it
found_from : (n : ℕ) (rs : List Arrival) (q i : ℕ) → IsCountedFrom n rs → n < q → i ≤ length rs
    → AllWithin (λ (a : Arrival). a.upto < q) rs 0 i → AllWithin (λ (a : Arrival). q ≤ a.upto) rs i (length rs)
    → slice_get (spread_from n rs) (q - n - 1) ≡ option_map (λ (a : Arrival). a.at) (slice_get rs i)
found_from n [] q zero all more within below above = refl
found_from n [] q (suc i) all more within below above = absurd (omega arith)
found_from n (a ∷ rs) q zero all more within below above =
    let upto : q ≤ a.upto = above 0 a (omega arith) (omega arith) in
    get_left (a.upto - n) (q - n - 1) a.at (spread_from a.upto rs) (omega arith)
found_from n (a ∷ rs) q (suc i) all more within below above =
    let upto : a.upto < q = below 0 a (omega arith) (omega arith) in
    let first : n < a.upto = all.0 in
    let place : q - n - 1 ≡ (a.upto - n) + (q - a.upto - 1) = omega arith in
    rw place (get_right (a.upto - n) (q - a.upto - 1) a.at (spread_from a.upto rs)
    ∙ found_from a.upto rs q i all.1 upto (omega arith) (λ k d low high. below (suc k) d (omega arith) (omega arith)) (λ k d low high. above (suc k) d (omega arith) (omega arith)))

pub found : (rs : List Arrival) (q i : ℕ) → IsCountedFrom 0 rs → 0 < q → i ≤ length rs
    → AllWithin (λ (a : Arrival). a.upto < q) rs 0 i → AllWithin (λ (a : Arrival). q ≤ a.upto) rs i (length rs)
    → arrival (spread rs) q ≡ option_map (λ (a : Arrival). a.at) (slice_get rs i)
found rs zero i all more within below above = absurd (omega arith)
found rs (suc q) i all more within below above =
    let e : suc q - 0 - 1 ≡ q = omega arith in
    let whole : slice_get (spread rs) (suc q - 0 - 1) ≡ option_map (λ (a : Arrival). a.at) (slice_get rs i) = found_from 0 rs (suc q) i all more within below above in
    rw e at whole

-- counts rise
above_first : (n : ℕ) (rs : List Arrival) (i : ℕ) (d : Arrival) → IsCountedFrom n rs → i < length rs → n < (get_or rs i d).upto
above_first n [] i d all within = absurd (omega arith)
above_first n (a ∷ rs) zero d all within = all.0
above_first n (a ∷ rs) (suc i) d all within = let rest : a.upto < (get_or rs i d).upto = above_first a.upto rs i d all.1 (omega arith) in let first : n < a.upto = all.0 in omega arith

counts_rise : (n : ℕ) (rs : List Arrival) (i j : ℕ) (d : Arrival) → IsCountedFrom n rs → i ≤ j → j < length rs → (get_or rs i d).upto ≤ (get_or rs j d).upto
counts_rise n [] i j d all le within = absurd (omega arith)
counts_rise n (a ∷ rs) zero zero d all le within = omega arith
counts_rise n (a ∷ rs) zero (suc j) d all le within = let more : a.upto < (get_or rs j d).upto = above_first a.upto rs j d all.1 (omega arith) in omega arith
counts_rise n (a ∷ rs) (suc i) zero d all le within = absurd (omega arith)
counts_rise n (a ∷ rs) (suc i) (suc j) d all le within = counts_rise a.upto rs i j d all.1 (omega arith) (omega arith)

pub counts_part : (rs : List Arrival) (q : ℕ) → IsCountedFrom 0 rs → IsPartitionedBy (λ (a : Arrival). nat_lt a.upto q) rs
counts_part rs q all i j d le within passes =
    let up : (get_or rs i d).upto ≤ (get_or rs j d).upto = counts_rise 0 rs i j d all le within in
    let low : (get_or rs j d).upto < q = grind arith in
    grind arith

pub below_of : (rs : List Arrival) (q i : ℕ) → AllWithin (λ (a : Arrival). nat_lt a.upto q ≡ true) rs 0 i → AllWithin (λ (a : Arrival). a.upto < q) rs 0 i
below_of rs q i all k d low high = let passes : nat_lt (get_or rs k d).upto q ≡ true = all k d low high in grind arith

pub above_of : (rs : List Arrival) (q i : ℕ) → AllWithin (λ (a : Arrival). nat_lt a.upto q ≡ false) rs i (length rs) → AllWithin (λ (a : Arrival). q ≤ a.upto) rs i (length rs)
above_of rs q i all k d low high = let fails : nat_lt (get_or rs k d).upto q ≡ false = all k d low high in grind arith

-- ---- what comes before a number

prefix_run : (p : ℕ → Bool) (m at : ℕ) (rest : List ℕ) → p at ≡ true → prefix_len p (replicate m at ++ rest) ≡ m + prefix_len p rest
prefix_run p zero at rest passes = omega arith
prefix_run p (suc m) at rest passes = let rest_is : prefix_len p (replicate m at ++ rest) ≡ m + prefix_len p rest = prefix_run p m at rest passes in rw passes (omega arith)

no_prefix : (p : ℕ → Bool) (m at : ℕ) (rest : List ℕ) → 0 < m → p at ≡ false → prefix_len p (replicate m at ++ rest) ≡ 0
no_prefix p zero at rest some fails = absurd (omega arith)
no_prefix p (suc m) at rest some fails = rw fails refl

-- the first k runs come before a number, and the next one does not
passed_from : (z : Arrival) (n : ℕ) (rs : List Arrival) (k number : ℕ) → IsCountedFrom n rs → k ≤ length rs
    → AllWithin (λ (a : Arrival). a.at < number) rs 0 k → (k < length rs → number ≤ (get_or rs k z).at)
    → n + prefix_len (λ by. nat_lt by number) (spread_from n rs) ≡ count_from n (take k rs)
passed_from z n [] zero number all within below stops = omega arith
passed_from z n [] (suc k) number all within below stops = absurd (omega arith)
passed_from z n (a ∷ rs) zero number all within below stops =
    let late : number ≤ a.at = stops (omega arith) in
    let fails : nat_lt a.at number ≡ false = grind arith in
    let first : n < a.upto = all.0 in
    let none : prefix_len (λ by. nat_lt by number) (replicate (a.upto - n) a.at ++ spread_from a.upto rs) ≡ 0
    = no_prefix (λ by. nat_lt by number) (a.upto - n) a.at (spread_from a.upto rs) (omega arith) fails in
    rw none (omega arith)
passed_from z n (a ∷ rs) (suc k) number all within below stops =
    let early : a.at < number = below 0 a (omega arith) (omega arith) in
    let passes : nat_lt a.at number ≡ true = grind arith in
    let first : n < a.upto = all.0 in
    let run : prefix_len (λ by. nat_lt by number) (replicate (a.upto - n) a.at ++ spread_from a.upto rs)
    ≡ (a.upto - n) + prefix_len (λ by. nat_lt by number) (spread_from a.upto rs) = prefix_run (λ by. nat_lt by number) (a.upto - n) a.at (spread_from a.upto rs) passes in
    let rest : a.upto + prefix_len (λ by. nat_lt by number) (spread_from a.upto rs) ≡ count_from a.upto (take k rs)
    = passed_from z a.upto rs k number all.1 (omega arith) (λ j d low high. below (suc j) d (omega arith) (omega arith)) (λ h. stops (omega arith)) in
    let sum : n + ((a.upto - n) + prefix_len (λ by. nat_lt by number) (spread_from a.upto rs)) ≡ a.upto + prefix_len (λ by. nat_lt by number) (spread_from a.upto rs) = omega arith in
    rw run (sum ∙ rest)

pub passed : (z : Arrival) (rs : List Arrival) (k number : ℕ) → IsCountedFrom 0 rs → IsPassed rs k number → (k < length rs → number ≤ (get_or rs k z).at)
    → prefix_len (λ by. nat_lt by number) (spread rs) ≡ count_from 0 (take k rs)
passed z rs k number all is stops =
    let whole : 0 + prefix_len (λ by. nat_lt by number) (spread rs) ≡ count_from 0 (take k rs) = passed_from z 0 rs k number all is.within is.before stops in
    let e : 0 + prefix_len (λ by. nat_lt by number) (spread rs) ≡ prefix_len (λ by. nat_lt by number) (spread rs) = omega arith in
    sym e ∙ whole
