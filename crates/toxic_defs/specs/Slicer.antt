-- The slicer: each chunk in slices of drawn sizes, which leave some microseconds after one another.
use Rattle.std.specs.Prelude.{ℕ, ◌+◌, ◌-◌, ◌*◌, ◌%◌, min, List, length}
use Rattle.pcap_records.specs.Instants.{horizon, microsecond}
use Rattle.reassembly.specs.RecordedLines.{LineByte, Line}
use Rattle.toxic_defs.specs.DelayedBytes.{latest, begins, moved}
use Rattle.toxic_defs.specs.Slices.{sliced}

-- the size of slice k: `average` bytes, plus or minus a drawn number up to `variation`
abbrev pub slice_size : (ℕ → ℕ) → ℕ → ℕ → ℕ → ℕ
slice_size random average variation k = average - variation + random (1 + k) % (2 * variation + 1)

-- chunk k, the last of these, leaves `gap` after the one before it, and not before its own instant
abbrev pub paced : ℕ → ℕ → ℕ → List ℕ → ℕ
paced limit gap k ats = latest (λ j at. min (at + (k - j) * gap) limit) ats

abbrev pub slicer_leaves : ℕ → ℕ → List LineByte → ℕ
slicer_leaves limit gap bytes = paced limit gap (length (begins bytes) - 1) (begins bytes)

abbrev pub paced_bytes : ℕ → (ℕ → ℕ) → ℕ → ℕ → ℕ → List LineByte → List LineByte
paced_bytes ticks random average variation delay bytes =
    moved (slicer_leaves (horizon ticks) (microsecond ticks * delay)) (sliced (slice_size random average variation) 0 0 bytes)

abbrev pub paced_line : ℕ → (ℕ → ℕ) → ℕ → ℕ → ℕ → Line → Line
paced_line ticks random average variation delay f = record {
  bytes = paced_bytes ticks random average variation delay f.bytes;
  end = f.end;
}
