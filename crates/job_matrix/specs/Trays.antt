-- Trays: a slot for the value of each job, what lies there, and jobs that are done, each with its value.
use Rattle.std.specs.Prelude.{◌≡◌, ◌≤◌, ℕ, List, [], ◌∷◌, get_or, length, map, replicate, Option, Some, None, slice_get, slice_set}
use Rattle.std.specs.List.{range_with_len}
use Rattle.job_matrix.specs.declared.trays.PutFault.{PutFault}
use Rattle.job_matrix.specs.declared.trays.PutFault.TheVariants.{Stranger, Twice}
use Rattle.job_matrix.specs.Counting.{times, CountsBelow}

module _ {V : Type 0} where
  abbrev pub IsFree : List (Option V) → ℕ → Type 0
  IsFree slots job = slice_get slots job ≡ Some None

  abbrev pub Has : List (Option V) → ℕ → V → Type 0
  Has slots job value = slice_get slots job ≡ Some (Some value)

  abbrev pub put_where : Option (Option V) → List (Option V) → ℕ → V → List (Option V)
  put_where (Some None) slots job value = slice_set slots job (Some value)
  put_where (Some (Some other)) slots job value = slots
  put_where None slots job value = slots

  -- the value put into its slot if that is free; else nothing changes
  abbrev pub put_one : List (Option V) → ℕ → V → List (Option V)
  put_one slots job value = put_where (slice_get slots job) slots job value

  abbrev pub IsRefused : List (Option V) → ℕ → V → PutFault V → Type 0
  IsRefused slots job value (Stranger back) = (length slots ≤ job) × (back ≡ value)
  IsRefused slots job value (Twice back) = ((other : V) × Has slots job other) × (back ≡ value)

  abbrev pub jobs_in : List (ℕ × V) → List ℕ
  jobs_in done = map (λ d. d.0) done

  abbrev pub EachJob : (ℕ → V → Type 0) → List (ℕ × V) → Type 0
  EachJob P [] = Unit {0}
  EachJob P (d ∷ done) = P d.0 d.1 × EachJob P done

  -- each value is the one of its job
  abbrev pub AreRight : (ℕ → V) → List (ℕ × V) → Type 0
  AreRight meaning done = EachJob (λ job value. value ≡ meaning job) done

  -- exactly these jobs are done, each with its value of `values`
  abbrev pub AreDone : List V → List ℕ → List (ℕ × V) → Type 0
  AreDone values jobs done = (jobs_in done ≡ jobs) × EachJob (λ job value. (other : V) → value ≡ get_or values job other) done

  abbrev pub put_each : List (Option V) → List (ℕ × V) → List (Option V)
  put_each slots [] = slots
  put_each slots (d ∷ done) = put_each (put_one slots d.0 d.1) done

-- if each job below n was done once, in any order, a tray of n is filled with their values in order
abbrev pub FillsInOrder : Type 0 → Type 0
FillsInOrder V =
    (meaning : ℕ → V) (n : ℕ) (done : List (ℕ × V))
    → CountsBelow n (λ x. times x (jobs_in done)) → AreRight meaning done
    → put_each (replicate n None) done ≡ map Some (map meaning (range_with_len 0 n))
