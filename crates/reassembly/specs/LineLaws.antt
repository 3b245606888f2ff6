-- What holds of every recorded line.
use Rattle.std.specs.Prelude.{◌≡◌, ◌≤◌, ◌<◌, ℕ, ◌^◌, List, [], ◌∷◌, length, Option, true, false}
use Rattle.std.specs.List.{AllByRecursion}
use Rattle.frame_headers.specs.declared.peers.Peer.{Peer}
use Rattle.conn_table.specs.IndexedSegments.{TimedSegment}
use Rattle.reassembly.specs.RecordedLines.{LineByte, Line, End, live, fin, close, reset, recorded_side}

-- the bytes after one at `last`: instants do not fall, and change only when a chunk starts
abbrev pub GoesOn : ℕ → List LineByte → Type 0
GoesOn last [] = Unit {0}
GoesOn last (b ∷ bytes) = (last ≤ b.at) × (b.starts ≡ false → b.at ≡ last) × GoesOn b.at bytes

-- a chunk starts with the first byte, instants never fall, and the bytes of a chunk have one instant
abbrev pub IsInChunks : List LineByte → Type 0
IsInChunks [] = Unit {0}
IsInChunks (b ∷ bytes) = (b.starts ≡ true) × GoesOn b.at bytes

abbrev pub last_instant : ℕ → List LineByte → ℕ
last_instant before [] = before
last_instant before (b ∷ bytes) = last_instant b.at bytes

-- the end is not before `at`, if it has an instant
abbrev pub IsNotBefore : ℕ → End → Type 0
IsNotBefore at live = Unit {0}
IsNotBefore at (fin m) = at ≤ m
IsNotBefore at (close m) = at ≤ m
IsNotBefore at (reset m) = at ≤ m

pub record IsLine (l : Line) : Type 0 where
  pub chunks : IsInChunks l.bytes
  pub ends : IsNotBefore (last_instant 0 l.bytes) l.end
  pub short : length l.bytes < 2 ^ 32

-- ---- of a connection of a capture

-- the instants of segments do not fall in the order of the file
abbrev pub InstantsRise : ℕ → List TimedSegment → Type 0
InstantsRise last [] = Unit {0}
InstantsRise last (m ∷ members) = (last ≤ m.at) × InstantsRise m.at members

-- no payload is longer than a capture
abbrev pub HasShortPayload : TimedSegment → Type 0
HasShortPayload m = length m.fields.payload ≤ 2 ^ 30

abbrev pub RecordedSidesAreLines : Type 0
RecordedSidesAreLines =
    (members : List TimedSegment) (sender : Peer) (base : Option ℕ) → InstantsRise 0 members → AllByRecursion HasShortPayload members
    → IsLine (recorded_side members sender base).line

-- ---- between two instants

abbrev pub IsBetween : ℕ → ℕ → TimedSegment → Type 0
IsBetween opened limit m = (opened ≤ m.at) × (m.at ≤ limit)

-- no byte is before `opened` or after `limit`, and no end is before `opened`
pub record LiesBetween (opened limit : ℕ) (l : Line) : Type 0 where
  pub from : AllByRecursion (λ b. opened ≤ b.at) l.bytes
  pub to : AllByRecursion (λ b. b.at ≤ limit) l.bytes
  pub ends : IsNotBefore opened l.end

-- if all segments are between two instants, the line lies between them
abbrev pub RecordedSidesLieBetween : Type 0
RecordedSidesLieBetween =
    (members : List TimedSegment) (sender : Peer) (base : Option ℕ) (opened limit : ℕ) → AllByRecursion (IsBetween opened limit) members
    → LiesBetween opened limit (recorded_side members sender base).line
