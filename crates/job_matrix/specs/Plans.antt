-- Plans: how many workers there are, and how many records a range has.
use Rattle.std.specs.Prelude.{ℕ, ◌^◌, nat_le, ◌&&◌, Option, Some, None, if◌then◌else◌}

abbrev pub worker_limit : ℕ
worker_limit = 16

abbrev pub cut_limit : ℕ
cut_limit = 2 ^ 20

pub record PlanView : Type 0 where
  pub workers : ℕ
  pub cut : ℕ

abbrev pub plan_of : ℕ → ℕ → Option PlanView
plan_of workers cut =
    if nat_le 1 workers && nat_le workers worker_limit && nat_le 1 cut && nat_le cut cut_limit
    then Some (record { workers = workers; cut = cut })
    else None
