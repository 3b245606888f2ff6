-- Bytes of a line that leave later, under latency, a bandwidth or a slicer.
use Rattle.std.specs.Prelude.{ℕ, ◌+◌, max, if◌then◌else◌, List, [], ◌∷◌, ◌++◌, map}
use Rattle.reassembly.specs.RecordedLines.{LineByte}

-- the greatest of what f gives for some instants and their places, counted from i; 0 without any
abbrev pub latest_from : ℕ → (ℕ → ℕ → ℕ) → List ℕ → ℕ
latest_from i f [] = 0
latest_from i f (at ∷ ats) = max (f i at) (latest_from (i + 1) f ats)

abbrev pub latest : (ℕ → ℕ → ℕ) → List ℕ → ℕ
latest f ats = latest_from 0 f ats

-- the instants at which chunks begin
abbrev pub begins : List LineByte → List ℕ
begins [] = []
begins (b ∷ bytes) = if b.starts then b.at ∷ begins bytes else begins bytes

abbrev pub instants_of : List LineByte → List ℕ
instants_of bytes = map (λ b. b.at) bytes

-- ---- bytes at other instants

abbrev pub at_instant : ℕ → LineByte → LineByte
at_instant at b = record { value = b.value; at = at; starts = b.starts }

-- each byte after those `before` it, at the instant that `leaves` gives for all up to it
abbrev pub along : (List LineByte → ℕ) → List LineByte → List LineByte → List LineByte
along leaves before [] = []
along leaves before (b ∷ bytes) = at_instant (leaves (before ++ b ∷ [])) b ∷ along leaves (before ++ b ∷ []) bytes

abbrev pub moved : (List LineByte → ℕ) → List LineByte → List LineByte
moved leaves bytes = along leaves [] bytes
