-- Toxics: what each makes of a line, and what a chain of them makes of it.
use Rattle.std.specs.Prelude.{ℕ, ◌+◌, ◌*◌, ◌%◌, Bool, ◌&&◌, nat_lt, nat_le, if◌then◌else◌, IsTrue, List, [], ◌∷◌, Option, Some, None}
use Rattle.std.specs.List.{AllByRecursion}
use Rattle.pcap_records.specs.Instants.{horizon, instant, millisecond}
use Rattle.reassembly.specs.RecordedLines.{Line}
use Rattle.toxic_defs.specs.RandomWords.{word_of}
use Rattle.toxic_defs.specs.EndRule.{ended}
use Rattle.toxic_defs.specs.Limits.{greatest_attribute, greatest_rate, greatest_limit, million}
use Rattle.toxic_defs.specs.Latency.{late_line}
use Rattle.toxic_defs.specs.Bandwidth.{rated_line}
use Rattle.toxic_defs.specs.Slicer.{paced_line}
use Rattle.toxic_defs.specs.LimitData.{limited}
use Rattle.toxic_defs.specs.Timeout.{timed_out}
use Rattle.toxic_defs.specs.ResetPeer.{reset_at}
use Rattle.toxic_defs.specs.SlowClose.{slow_line}
use Rattle.toxic_defs.specs.declared.words.Key.{Key}
use Rattle.toxic_defs.specs.declared.kinds.Kind.{Kind}
use Rattle.toxic_defs.specs.declared.kinds.Kind.TheVariants.{Latency, Bandwidth, SlowClose, Timeout, ResetPeer, Slicer, LimitData}

-- ---- toxics in range

-- a toxic: its kind, and the number of connections in a million that it applies to
pub record RatedKind : Type 0 where
  pub kind : Kind
  pub ppm : ℕ

abbrev pub fits : Kind → Bool
fits (Latency latency jitter) = nat_le latency greatest_attribute && nat_le jitter greatest_attribute
fits (Bandwidth rate) = nat_lt 0 rate && nat_le rate greatest_rate
fits (SlowClose delay) = nat_le delay greatest_attribute
fits (Timeout timeout) = nat_le timeout greatest_attribute
fits (ResetPeer timeout) = nat_le timeout greatest_attribute
fits (Slicer average_size size_variation delay) =
    nat_lt size_variation average_size && nat_le average_size greatest_attribute && nat_le delay greatest_attribute
fits (LimitData bytes) = nat_le bytes greatest_limit

abbrev pub is_in_range : RatedKind → Bool
is_in_range t = fits t.kind && nat_le t.ppm million

abbrev pub IsInRange : RatedKind → Type 0
IsInRange t = IsTrue (is_in_range t)

abbrev pub AreInRange : List RatedKind → Type 0
AreInRange toxics = AllByRecursion IsInRange toxics

abbrev pub made_toxic : Kind → ℕ → Option RatedKind
made_toxic kind ppm = if is_in_range (record { kind = kind; ppm = ppm }) then Some (record { kind = kind; ppm = ppm }) else None

-- ---- one toxic

-- a toxic applies by its random word 0 (RandomWords)
abbrev pub applies : RatedKind → Key → Bool
applies toxic key = nat_lt (word_of key 0 % million) toxic.ppm

-- `time` milliseconds after the opening
abbrev pub after : ℕ → ℕ → ℕ → ℕ
after ticks opened time = instant ticks (opened + millisecond ticks * time)

-- What a kind of toxic makes of a line of a connection opened at `opened`; `random` gives random words. A timeout lets no byte through.
abbrev pub effect : ℕ → (ℕ → ℕ) → ℕ → Kind → Line → Line
effect ticks random opened (Latency latency jitter) f = late_line ticks random latency jitter f
effect ticks random opened (Bandwidth rate) f = rated_line ticks rate f
effect ticks random opened (Slicer average_size size_variation delay) f = paced_line ticks random average_size size_variation delay f
effect ticks random opened (LimitData bytes) f = limited bytes f
effect ticks random opened (Timeout time) f = timed_out time (after ticks opened time)
effect ticks random opened (ResetPeer time) f = reset_at (after ticks opened time) f
effect ticks random opened (SlowClose delay) f = slow_line (horizon ticks) (millisecond ticks * delay) f

-- A toxic that applies lets the end be no earlier than the last byte (`ended`). One that does not apply leaves the line as it is.
unfoldable pub run : ℕ → RatedKind → Key → ℕ → Line → Line
run ticks toxic key opened f = if applies toxic key then ended (effect ticks (word_of key) opened toxic.kind f) else f

-- ---- a chain

-- The toxics in turn, each on the line that the one before gave. s, c, d and t are the numbers of scenario, connection, direction and first toxic.
abbrev pub chain_from : ℕ → ℕ → ℕ → ℕ → ℕ → ℕ → ℕ → List RatedKind → Line → Line
chain_from ticks opened seed s c d t [] f = f
chain_from ticks opened seed s c d t (toxic ∷ toxics) f =
    chain_from ticks opened seed s c d (t + 1) toxics (run ticks toxic (record { seed = seed; s = s; c = c; d = d; t = t }) opened f)

unfoldable pub chain : ℕ → List RatedKind → ℕ → ℕ → ℕ → ℕ → ℕ → Line → Line
chain ticks toxics opened seed s c d f = chain_from ticks opened seed s c d 0 toxics f
