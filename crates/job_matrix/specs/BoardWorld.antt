-- The world of a board, without threads: workers claim numbers below n, do their jobs and leave, in any order of events.
use Rattle.std.specs.Prelude.{◌≡◌, ◌≤◌, ◌+◌, ℕ, Bool, true, false, List, [], ◌∷◌, ◌++◌, Option, Some, None, map, replicate, nat_lt, IsPermutation, slice_get, slice_set, if◌then◌else◌}
use Rattle.std.specs.List.{range_with_len}
use Rattle.job_matrix.specs.Counting.{times, total, CountsBelow}
use Rattle.job_matrix.specs.Trays.{jobs_in, AreRight, put_each}

-- the number that a worker holds, whether it was told that no number is left, and whether it left
pub record Worker : Type 0 where
  pub holds : Option ℕ
  pub told : Bool
  pub left : Bool

pub record World (V : Type 0) : Type 0 where
  pub next : ℕ
  pub workers : List Worker
  pub done : List (ℕ × V)
  pub lost : List ℕ

pub data Event : Type 0 where
  claims : ℕ → Event
  finishes : ℕ → Event
  leaves : ℕ → Event

abbrev pub whose : Event → ℕ
whose (claims w) = w
whose (finishes w) = w
whose (leaves w) = w

abbrev pub worker : Option ℕ → Bool → Bool → Worker
worker holds told left = record { holds = holds; told = told; left = left }

abbrev pub held : Option ℕ → List ℕ
held (Some job) = job ∷ []
held None = []

module _ {V : Type 0} where
  -- a worker who is there, holds nothing and was not told gets the next number, or is told that none is left
  abbrev pub after_claim : ℕ → World V → ℕ → Option ℕ → Bool → Bool → World V
  after_claim n s w None false false =
      if nat_lt s.next n
      then record s { next = s.next + 1; workers = slice_set s.workers w (worker (Some s.next) false false) }
      else record s { workers = slice_set s.workers w (worker None true false) }
  after_claim n s w holds told left = s

  abbrev pub after_finish : (ℕ → V) → World V → ℕ → Option ℕ → Bool → Bool → World V
  after_finish meaning s w (Some job) told left =
      record s { workers = slice_set s.workers w (worker None told left); done = s.done ++ (job, meaning job) ∷ [] }
  after_finish meaning s w None told left = s

  abbrev pub after_leave : World V → ℕ → Option ℕ → Bool → Bool → World V
  after_leave s w holds told left =
      record s { workers = slice_set s.workers w (worker None told true); lost = s.lost ++ held holds }

  abbrev pub event_by : (ℕ → V) → ℕ → World V → Event → Option Worker → World V
  event_by meaning n s (claims w) (Some it) = after_claim n s w it.holds it.told it.left
  event_by meaning n s (finishes w) (Some it) = after_finish meaning s w it.holds it.told it.left
  event_by meaning n s (leaves w) (Some it) = after_leave s w it.holds it.told it.left
  event_by meaning n s event None = s

  -- an event of a worker who is not there changes nothing
  abbrev pub after_event : (ℕ → V) → ℕ → World V → Event → World V
  after_event meaning n s event = event_by meaning n s event (slice_get s.workers (whose event))

  abbrev pub world_after : (ℕ → V) → ℕ → World V → List Event → World V
  world_after meaning n s [] = s
  world_after meaning n s (event ∷ events) = world_after meaning n (after_event meaning n s event) events

  abbrev pub first_world : ℕ → World V
  first_world workers = record { next = 0; workers = replicate workers (worker None false false); done = []; lost = [] }

  abbrev pub count_in : World V → ℕ → ℕ
  count_in s x = total (λ w. times x (held w.holds)) s.workers + times x (jobs_in s.done) + times x s.lost

  -- each number below the next is in one place, once, and no other is; each value that is done is the right one
  pub record IsWhole (meaning : ℕ → V) (n : ℕ) (s : World V) : Type 0 where
    pub once : CountsBelow s.next (count_in s)
    pub right : AreRight meaning s.done
    pub within : s.next ≤ n

-- whatever the events, each number is in one place, once
abbrev pub AnyOrder : Type 0 → Type 0
AnyOrder V =
    (meaning : ℕ → V) (n workers : ℕ) (events : List Event)
    → IsWhole meaning n (world_after meaning n (first_world workers) events)

-- if all numbers were given, and none is held or lost, each job is done once, with its value
abbrev pub AllDone : Type 0 → Type 0
AllDone V =
    (meaning : ℕ → V) (n workers : ℕ) (events : List Event)
    → (let s = world_after meaning n (first_world workers) events in
    s.next ≡ n → ((w : ℕ) (it : Worker) → slice_get s.workers w ≡ Some it → it.holds ≡ None) → s.lost ≡ []
    → CountsBelow n (λ x. times x (jobs_in s.done)) × AreRight meaning s.done)

-- in that case a tray into which the values are put, in any order, has them in order of the jobs
abbrev pub TrayIsFilled : Type 0 → Type 0
TrayIsFilled V =
    (meaning : ℕ → V) (n workers : ℕ) (events : List Event) (order : List (ℕ × V))
    → (let s = world_after meaning n (first_world workers) events in
    s.next ≡ n → ((w : ℕ) (it : Worker) → slice_get s.workers w ≡ Some it → it.holds ≡ None) → s.lost ≡ []
    → IsPermutation s.done order → put_each (replicate n None) order ≡ map Some (map meaning (range_with_len 0 n)))
