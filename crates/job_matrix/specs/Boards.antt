-- Boards: what contracts see of a board, its chief and its passes, what its seats know, and the rule that they keep.
use Rattle.std.specs.Prelude.{◌≡◌, ◌≢◌, ◌+◌, ◌<◌, ◌≤◌, ◌^◌, ℕ, min, Bool, true, false, List, [], ◌∷◌, ◌++◌}
use mathlib.Core.Option.{some}
use lib.ListN.{get_elem?}
use Rattle.atomic_table.specs.Seated.{TableId}
use Rattle.atomic_table.specs.Table.{State, Me}
use Rattle.job_matrix.specs.declared.rules.SeatView.{SeatView}
use Rattle.job_matrix.specs.declared.rules.SeatView.TheVariants.{Leads, Claims, Spent}
use Rattle.job_matrix.specs.Counting.{times, total, CountsBelow}

-- the number of each job of a board is below it
abbrev pub number_limit : ℕ
number_limit = 2 ^ 63

abbrev pub pass_limit : ℕ
pass_limit = 65536

-- which board it is, and the limit below which its numbers are
pub record BoardView : Type 0 where
  pub name : TableId
  pub limit : ℕ

-- a pass: its board, the numbers that it claimed, and whether it was told that no number is left
pub record PassView : Type 0 where
  pub board : BoardView
  pub jobs : List ℕ
  pub told : Bool

-- a chief: its board, the numbers of all passes that came back, and counts of passes made, back, and told that no number is left
pub record ChiefView : Type 0 where
  pub board : BoardView
  pub jobs : List ℕ
  pub made : ℕ
  pub back : ℕ
  pub told : ℕ

-- what a pass adds to the count of those told
abbrev pub worth : Bool → ℕ
worth true = 1
worth false = 0

abbrev pub limit_of : SeatView → ℕ
limit_of (Leads limit made back told jobs) = limit
limit_of (Claims limit told jobs) = limit
limit_of Spent = 0

abbrev pub jobs_of : SeatView → List ℕ
jobs_of (Leads limit made back told jobs) = jobs
jobs_of (Claims limit told jobs) = jobs
jobs_of Spent = []

abbrev pub told_of : SeatView → ℕ
told_of (Leads limit made back told jobs) = told
told_of (Claims limit told jobs) = told
told_of Spent = 0

abbrev pub made_of : SeatView → ℕ
made_of (Leads limit made back told jobs) = made
made_of (Claims limit told jobs) = 0
made_of Spent = 0

abbrev pub back_of : SeatView → ℕ
back_of (Leads limit made back told jobs) = back
back_of (Claims limit told jobs) = 0
back_of Spent = 0

abbrev pub out_of : SeatView → ℕ
out_of (Leads limit made back told jobs) = 0
out_of (Claims limit told jobs) = 1
out_of Spent = 0

abbrev pub after_split : SeatView → SeatView
after_split (Leads limit made back told jobs) = Leads limit (made + 1) back told jobs
after_split (Claims limit told jobs) = Claims limit told jobs
after_split Spent = Spent

abbrev pub new_pass : SeatView → SeatView
new_pass chief = Claims (limit_of chief) 0 []

abbrev pub after_join : SeatView → SeatView → SeatView
after_join (Leads limit made back told jobs) pass =
    Leads limit made (back + 1) (told + told_of pass) (jobs ++ jobs_of pass)
after_join (Claims limit told jobs) pass = Claims limit told jobs
after_join Spent pass = Spent

-- what a seat of a board of n numbers knows; the first seat, and no other, is the chief's
abbrev pub Fits : ℕ → ℕ → SeatView → Type 0
Fits n seat (Leads limit made back told jobs) = (seat ≡ 0) × (limit ≡ n) × (told ≤ back)
Fits n seat (Claims limit told jobs) = (seat ≢ 0) × (limit ≡ n) × (told ≤ 1)
Fits n seat Spent = seat ≢ 0

-- The rule of a board: its word, and what all seats know, also those of dropped passes. `once`: the numbers below the word and n were claimed once,
-- and no others; `over`: the word went past n once for each pass that was told so; `passes`: a pass that was made is out or came back.
pub record Kept (n : ℕ) (words : List ℕ) (views : List SeatView) : Type 0 where
  pub next : ℕ
  pub word : words ≡ next ∷ []
  pub small : n ≤ number_limit
  pub once : CountsBelow (min next n) (λ x. total (λ v. times x (jobs_of v)) views)
  pub over : next ≡ min next n + total told_of views
  pub passes : total out_of views + total back_of views ≡ total made_of views
  pub few : total made_of views ≤ pass_limit
  pub each : (seat : ℕ) (v : SeatView) → get_elem? views seat ≡ some v → Fits n seat v

abbrev pub Fair : ℕ → State ℕ SeatView → Type 0
Fair n s = Kept n s.words s.views

-- A number below the limit becomes the pass's, and is greater than each that it had. From the limit on the pass is told that none is left.
abbrev pub Claimed : Me ℕ SeatView → ℕ → Me ℕ SeatView → Type 0
Claimed before found after =
    (found < limit_of before.0
    → (after ≡ (Claims (limit_of before.0) (told_of before.0) (jobs_of before.0 ++ found ∷ []), before.1))
    × ((x : ℕ) → found ≤ x → times x (jobs_of before.0) ≡ 0))
    × (limit_of before.0 ≤ found
    → after ≡ (Claims (limit_of before.0) (told_of before.0 + 1) (jobs_of before.0), before.1))
