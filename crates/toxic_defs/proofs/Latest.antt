-- The greatest of what some instants give, and its bounds.
use Rattle.std.proofs.Common.{◌≡◌, ◌≤◌, ◌<◌, ℕ, ◌+◌, max, List, [], ◌∷◌, ◌++◌, length, refl, sym, ap, ◌∙◌, arith, suc, ◌-◌, ◌*◌, min}
use Rattle.std.proofs.Math.Nat.{le_refl, mul-le-mul_right, div-mul-le_self}
use Rattle.std.proofs.lemmas.Nat.{le-div}
use Rattle.toxic_defs.specs.DelayedBytes.{latest_from, latest}
use Rattle.toxic_defs.specs.Bandwidth.{ceiling}

latest_from-push : (f : ℕ → ℕ → ℕ) (i : ℕ) (ats : List ℕ) (at n : ℕ) → n ≡ i + length ats → latest_from i f (ats ++ at ∷ []) ≡ max (latest_from i f ats) (f n at)
latest_from-push f i [] at n e = let e' : n ≡ i = omega arith in rw e' (omega arith)
latest_from-push f i (y ∷ ats) at n e = let rest = latest_from-push f (i + 1) ats at n (omega arith) in omega (arith, rest)

pub latest-push : (f : ℕ → ℕ → ℕ) (ats : List ℕ) (at : ℕ) → latest f (ats ++ at ∷ []) ≡ max (latest f ats) (f (length ats) at)
latest-push f ats at = latest_from-push f 0 ats at (length ats) (omega arith)

-- each step comes after what was owed before, or after its instant
abbrev pub owed : ℕ → ℕ → ℕ → List ℕ → ℕ
owed rate step busy [] = busy
owed rate step busy (at ∷ ats) = owed rate step (max busy (rate * at) + step) ats

pub owed-append : (rate step busy : ℕ) (xs ys : List ℕ) → owed rate step busy (xs ++ ys) ≡ owed rate step (owed rate step busy xs) ys
owed-append rate step busy [] ys = refl
owed-append rate step busy (x ∷ xs) ys = owed-append rate step (max busy (rate * x) + step) xs ys

module _ (limit rate step : ℕ) (h : ℕ → ℕ) (keeps : (a b : ℕ) → h (max a b) ≡ max (h a) (h b)) (adds : (at m : ℕ) → h (rate * at + m) ≡ at + h m) where
  both_latest : (a b whole rest total : ℕ) → whole ≡ max a b → max (min whole limit) rest ≡ total → max (min a limit) (max (min b limit) rest) ≡ total
  both_latest a b whole rest total split is = omega arith

  latest_owed : (i n busy : ℕ) (ats : List ℕ) → i + length ats ≡ n
      → max (min (h (busy + (n - i) * step)) limit) (latest_from i (λ j x. min (x + h ((n - j) * step)) limit) ats) ≡ min (h (owed rate step busy ats)) limit
  latest_owed i n busy [] e =
      let none : n - i ≡ 0 = omega arith in
      let same : busy + 0 * step ≡ busy = omega arith in
      rw (none, same) (omega arith)
  latest_owed i n busy (at ∷ ats) e =
      let one : n - i ≡ suc (n - (i + 1)) = omega arith in
      let sum : max busy (rate * at) + step + (n - (i + 1)) * step ≡ max (busy + (n - i) * step) (rate * at + (n - i) * step) = rw one (omega arith) in
      let split = ap h sum ∙ keeps (busy + (n - i) * step) (rate * at + (n - i) * step) ∙ ap (λ x. max (h (busy + (n - i) * step)) x) (adds at ((n - i) * step)) in
      both_latest _ _ _ _ _ split (latest_owed (i + 1) n (max busy (rate * at) + step) ats (omega arith))

  -- the greatest of what is owed by each of n instants is what is owed by all
  pub latest_is_owed : (n at : ℕ) (ats : List ℕ) → length (at ∷ ats) ≡ n → latest (λ j x. min (x + h ((n - j) * step)) limit) (at ∷ ats) ≡ min (h (owed rate step 0 (at ∷ ats))) limit
  latest_is_owed n at ats e =
      let most = keeps (rate * at + (n - 0) * step) (0 + (n - 0) * step) in
      let own = adds at ((n - 0) * step) in
      let first : max (rate * at + (n - 0) * step) (0 + (n - 0) * step) ≡ rate * at + (n - 0) * step = omega arith in
      let all = latest_owed 0 n 0 (at ∷ ats) (omega arith) in
      let split = ap h (sym first) ∙ most in
      let le : h (0 + (n - 0) * step) ≤ at + h ((n - 0) * step) = omega (arith, split, own) in
      omega (arith, all, le)

pub latest_low : (limit : ℕ) (f : ℕ → ℕ → ℕ) (i : ℕ) (ats : List ℕ) → ((j at : ℕ) → f j at ≤ limit) → latest_from i f ats ≤ limit
latest_low limit f i [] low = omega arith
latest_low limit f i (at ∷ ats) low =
    let own = low i at in
    let rest = latest_low limit f (i + 1) ats low in
    omega arith

latest_more : (f g : ℕ → ℕ → ℕ) (i : ℕ) (ats : List ℕ) → ((j at : ℕ) → f j at ≤ g j at) → latest_from i f ats ≤ latest_from i g ats
latest_more f g i [] more = le_refl 0
latest_more f g i (at ∷ ats) more =
    let own = more i at in
    let rest = latest_more f g (i + 1) ats more in
    omega arith

-- each of n instants gives no less if there is one more, nothing before itself, and nothing past the limit
pub record GivesInTurn (limit : ℕ) (f : ℕ → ℕ → ℕ → ℕ) : Type 0 where
  pub more : (n j at : ℕ) → f n j at ≤ f (n + 1) j at
  pub own : (n j at : ℕ) → at ≤ limit → at ≤ f n j at
  pub low : (n j at : ℕ) → f n j at ≤ limit

pub latest_rises : (limit : ℕ) (f : ℕ → ℕ → ℕ → ℕ) → GivesInTurn limit f → (n : ℕ) (ats : List ℕ) (at : ℕ) → latest (f n) ats ≤ latest (f (n + 1)) (ats ++ at ∷ [])
latest_rises limit f gives n ats at =
    let push = latest-push (f (n + 1)) ats at in
    let rest = latest_more (f n) (f (n + 1)) 0 ats (gives.more n) in
    omega arith

pub latest_own : (limit : ℕ) (f : ℕ → ℕ → ℕ → ℕ) → GivesInTurn limit f → (n : ℕ) (ats : List ℕ) (at : ℕ) → at ≤ limit → at ≤ latest (f n) (ats ++ at ∷ [])
latest_own limit f gives n ats at h =
    let push = latest-push (f n) ats at in
    let own = gives.own n (length ats) at h in
    omega arith

-- ---- what toxics give

pub late_gives : (limit : ℕ) (delay : ℕ → ℕ) → GivesInTurn limit (λ n j at. min (at + delay j) limit)
late_gives limit delay = record { more = λ n j at. le_refl (min (at + delay j) limit); own = λ n j at h. omega arith; low = λ n j at. omega arith }

pub paced_gives : (limit gap : ℕ) → GivesInTurn limit (λ n j at. min (at + (n - 1 - j) * gap) limit)
paced_gives limit gap = record { more = more; own = λ n j at h. omega arith; low = λ n j at. omega arith }
  where
    more : (n j at : ℕ) → min (at + (n - 1 - j) * gap) limit ≤ min (at + (n + 1 - 1 - j) * gap) limit
    more n j at =
        let k : n - 1 - j ≤ n + 1 - 1 - j = omega arith in
        let m : (n - 1 - j) * gap ≤ (n + 1 - 1 - j) * gap = mul-le-mul_right gap k in
        omega arith

pub ceiling-mono : (a b d : ℕ) → 0 < d → a ≤ b → ceiling a d ≤ ceiling b d
ceiling-mono a b d some le =
    let m = div-mul-le_self (a + (d - 1)) d in
    le-div (ceiling a d) (b + (d - 1)) d some (omega arith)

pub rate_gives : (limit ticks rate : ℕ) → 0 < rate → GivesInTurn limit (λ n y at. min (at + ceiling ((n - y) * ticks) rate) limit)
rate_gives limit ticks rate some = record { more = more; own = λ n y at h. omega arith; low = λ n y at. omega arith }
  where
    more : (n y at : ℕ) → min (at + ceiling ((n - y) * ticks) rate) limit ≤ min (at + ceiling ((n + 1 - y) * ticks) rate) limit
    more n y at =
        let k : n - y ≤ n + 1 - y = omega arith in
        let m : ceiling ((n - y) * ticks) rate ≤ ceiling ((n + 1 - y) * ticks) rate = ceiling-mono _ _ rate some (mul-le-mul_right ticks k) in
        omega arith
