-- Latency: each chunk comes some milliseconds later, and none before an earlier chunk.
use Rattle.std.specs.Prelude.{ℕ, ◌+◌, ◌-◌, ◌*◌, ◌%◌, min, List}
use Rattle.pcap_records.specs.Instants.{horizon, millisecond}
use Rattle.reassembly.specs.RecordedLines.{LineByte, Line}
use Rattle.toxic_defs.specs.DelayedBytes.{latest, begins, moved}

-- the delay of chunk k: `latency` milliseconds, plus or minus a drawn number up to `jitter`, but never below 0
abbrev pub drawn_delay : ℕ → (ℕ → ℕ) → ℕ → ℕ → ℕ → ℕ
drawn_delay ticks random latency jitter k = millisecond ticks * (latency + random (1 + k) % (2 * jitter + 1) - jitter)

-- a chunk leaves after its delay, or with an earlier chunk that leaves later, and at the limit at most
abbrev pub latency_leaves : ℕ → (ℕ → ℕ) → List LineByte → ℕ
latency_leaves limit delay bytes = latest (λ j at. min (at + delay j) limit) (begins bytes)

abbrev pub late_bytes : ℕ → (ℕ → ℕ) → ℕ → ℕ → List LineByte → List LineByte
late_bytes ticks random latency jitter bytes =
    moved (latency_leaves (horizon ticks) (drawn_delay ticks random latency jitter)) bytes

abbrev pub late_line : ℕ → (ℕ → ℕ) → ℕ → ℕ → Line → Line
late_line ticks random latency jitter f = record { bytes = late_bytes ticks random latency jitter f.bytes; end = f.end }
