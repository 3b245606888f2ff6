-- Lines whose instants never fall, shorter than the space of sequence numbers.
use Rattle.std.specs.Prelude.{◌≤◌, ◌<◌, ℕ, ◌^◌, List, [], ◌∷◌, length}
use Rattle.reassembly.specs.RecordedLines.{LineByte, Line, End}
use Rattle.reassembly.specs.LineLaws.{IsLine, IsNotBefore}

-- from an instant on, instants never fall, nor is the end before the last of them
abbrev pub Climbs : ℕ → List LineByte → End → Type 0
Climbs last [] end = IsNotBefore last end
Climbs last (b ∷ bytes) end = (last ≤ b.at) × Climbs b.at bytes end

pub record IsTimely (l : Line) : Type 0 where
  pub climbs : Climbs 0 l.bytes l.end
  pub short : length l.bytes < 2 ^ 32

abbrev pub LinesAreTimely : Type 0
LinesAreTimely = (l : Line) → IsLine l → IsTimely l
