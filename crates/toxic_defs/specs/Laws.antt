-- What holds of every line that toxics change or the session cut cuts, and of every delivered connection.
use Rattle.std.specs.Prelude.{◌≡◌, ◌<◌, ◌≤◌, ℕ, ◌+◌, false, List, [], ◌∷◌, length, map, take, Option, Some, None}
use Rattle.std.specs.List.{AllByRecursion}
use Rattle.pcap_records.specs.Instants.{horizon}
use Rattle.reassembly.specs.RecordedLines.{LineByte, Line, End, live, fin, close, reset, RecordedConnection}
use Rattle.reassembly.specs.LineLaws.{IsLine, IsNotBefore, LiesBetween}
use Rattle.toxic_defs.specs.SessionCut.{cut_line}
use Rattle.toxic_defs.specs.Toxics.{RatedKind, IsInRange, AreInRange, applies, run, chain}
use Rattle.toxic_defs.specs.DeliveredLines.{MetProxy, DeliveredConnection, delivered_connection}
use Rattle.toxic_defs.specs.declared.words.Key.{Key}

-- ---- the session cut

-- the end is before `limit`, if it has an instant
abbrev pub IsBefore : ℕ → End → Type 0
IsBefore limit live = Unit {0}
IsBefore limit (fin at) = at < limit
IsBefore limit (close at) = at < limit
IsBefore limit (reset at) = at < limit

abbrev pub CutLinesAreLines : Type 0
CutLinesAreLines = (ticks : ℕ) (up down f : Line) → IsLine f → IsLine (cut_line ticks up down f)

-- the bytes of a cut line are the first of those before, each with its instant and its mark
abbrev pub FirstBytesStay : Type 0
FirstBytesStay =
    (ticks : ℕ) (up down f : Line) → IsLine f
    → (cut_line ticks up down f).bytes ≡ take (length (cut_line ticks up down f).bytes) f.bytes

pub record IsBeforeHorizon (ticks : ℕ) (f : Line) : Type 0 where
  pub bytes : AllByRecursion (λ b. b.at < horizon ticks) f.bytes
  pub ends : IsBefore (horizon ticks) f.end

abbrev pub CutLinesEndInTime : Type 0
CutLinesEndInTime = (ticks : ℕ) (up down f : Line) → IsBeforeHorizon ticks (cut_line ticks up down f)

-- if no end is before an instant, the end of the cut line is not either
abbrev pub CutEndsAreNotEarly : Type 0
CutEndsAreNotEarly =
    (ticks opened : ℕ) (up down f : Line) → IsNotBefore opened up.end → IsNotBefore opened down.end → IsNotBefore opened f.end
    → IsNotBefore opened (cut_line ticks up down f).end

-- ---- toxics

abbrev pub ToxicsKeepLines : Type 0
ToxicsKeepLines =
    (ticks : ℕ) (toxic : RatedKind) (key : Key) (opened : ℕ) (f : Line) → IsInRange toxic → IsLine f → IsLine (run ticks toxic key opened f)

abbrev pub ChainsKeepLines : Type 0
ChainsKeepLines = (ticks : ℕ) (toxics : List RatedKind) (opened seed s c d : ℕ) (f : Line) → AreInRange toxics → IsLine f → IsLine (chain ticks toxics opened seed s c d f)

-- none of the toxics applies; the first one has number t
abbrev pub NoneApplies : ℕ → ℕ → ℕ → ℕ → ℕ → List RatedKind → Type 0
NoneApplies seed s c d t [] = Unit {0}
NoneApplies seed s c d t (toxic ∷ toxics) = (applies toxic (record { seed = seed; s = s; c = c; d = d; t = t }) ≡ false) × NoneApplies seed s c d (t + 1) toxics

abbrev pub IdleChainsChangeNothing : Type 0
IdleChainsChangeNothing = (ticks : ℕ) (toxics : List RatedKind) (opened seed s c d : ℕ) (f : Line) → NoneApplies seed s c d 0 toxics → chain ticks toxics opened seed s c d f ≡ f

-- ---- what was recorded

-- the bytes are the first that were recorded, none earlier than it was
abbrev pub DelaysFirst : List LineByte → List LineByte → Type 0
DelaysFirst [] recorded = Unit {0}
DelaysFirst (b ∷ bytes) [] = ⊥
DelaysFirst (b ∷ bytes) (was ∷ recorded) = (b.value ≡ was.value) × (was.at ≤ b.at) × DelaysFirst bytes recorded

abbrev pub AreUpTo : ℕ → List LineByte → Type 0
AreUpTo limit bytes = AllByRecursion (λ b. b.at ≤ limit) bytes

abbrev pub AreFrom : ℕ → List LineByte → Type 0
AreFrom opened bytes = AllByRecursion (λ b. opened ≤ b.at) bytes

-- a line is made of recorded bytes of a connection opened at `opened`
pub record Delays (ticks opened : ℕ) (recorded : List LineByte) (f : Line) : Type 0 where
  pub line : IsLine f
  pub in_time : AreUpTo (horizon ticks) f.bytes
  pub bytes : DelaysFirst f.bytes recorded
  pub ends : IsNotBefore opened f.end

abbrev pub RecordedLinesDelay : Type 0
RecordedLinesDelay = (ticks opened : ℕ) (f : Line) → IsLine f → AreUpTo (horizon ticks) f.bytes → IsNotBefore opened f.end → Delays ticks opened f.bytes f

abbrev pub ToxicsDelay : Type 0
ToxicsDelay =
    (ticks : ℕ) (toxic : RatedKind) (key : Key) (opened : ℕ) (recorded : List LineByte) (f : Line) → IsInRange toxic → opened ≤ horizon ticks → AreFrom opened recorded
    → Delays ticks opened recorded f → Delays ticks opened recorded (run ticks toxic key opened f)

abbrev pub ChainsDelay : Type 0
ChainsDelay =
    (ticks : ℕ) (toxics : List RatedKind) (opened seed s c d : ℕ) (recorded : List LineByte) (f : Line) → AreInRange toxics → opened ≤ horizon ticks → AreFrom opened recorded
    → Delays ticks opened recorded f → Delays ticks opened recorded (chain ticks toxics opened seed s c d f)

abbrev pub CutLinesDelay : Type 0
CutLinesDelay =
    (ticks opened : ℕ) (recorded : List LineByte) (up down f : Line) → IsNotBefore opened up.end → IsNotBefore opened down.end
    → Delays ticks opened recorded f → Delays ticks opened recorded (cut_line ticks up down f)

abbrev pub values_of : List LineByte → List ℕ
values_of bytes = map (λ b. b.value) bytes

abbrev pub DelayedBytesAreTheFirst : Type 0
DelayedBytesAreTheFirst = (bytes recorded : List LineByte) → DelaysFirst bytes recorded → values_of bytes ≡ take (length bytes) (values_of recorded)

-- ---- what is delivered

abbrev pub MetInRange : Option MetProxy → Type 0
MetInRange None = Unit {0}
MetInRange (Some met) = AreInRange met.up × AreInRange met.down

-- no byte is before the opening or past the horizon, and no end is before the opening
pub record IsRecordedInTime (ticks : ℕ) (r : RecordedConnection) : Type 0 where
  pub up : IsLine r.up.line
  pub down : IsLine r.down.line
  pub up_between : LiesBetween r.opened (horizon ticks) r.up.line
  pub down_between : LiesBetween r.opened (horizon ticks) r.down.line
  pub opened : r.opened ≤ horizon ticks

pub record DelaysRecorded (ticks : ℕ) (r : RecordedConnection) (d : DeliveredConnection) : Type 0 where
  pub up : Delays ticks r.opened r.up.line.bytes d.up
  pub down : Delays ticks r.opened r.down.line.bytes d.down

-- by any proxy, or none
abbrev pub DeliveredIsRecorded : Type 0
DeliveredIsRecorded =
    (ticks seed s c : ℕ) (met : Option MetProxy) (r : RecordedConnection) → MetInRange met → IsRecordedInTime ticks r
    → DelaysRecorded ticks r (delivered_connection ticks seed s c met r)
