-- What contracts see of a `Line`: its bytes one by one, its end, and the ticks of a second.
use Rattle.std.specs.Prelude.{◌≡◌, ℕ, Bool, false, List, [], ◌∷◌, map, Option, Some, None}
use Rattle.std.specs.List.{flat_map}
use Rattle.pcap_records.specs.declared.unit.Unit.{Unit}
use Rattle.pcap_records.specs.Instants.{ticks_of}
use Rattle.reassembly.specs.RecordedLines.{LineByte, Line, End, live, fin, close, reset}
use Rattle.reassembly.specs.declared.line_parts.LinePart.{LinePart}
use Rattle.reassembly.specs.declared.line_parts.End as code
use Rattle.reassembly.specs.declared.line_parts.End.TheVariants as ends

pub record LineView : Type 0 where
  pub ticks : ℕ
  pub line : Line

-- bytes of one instant, of which none starts a chunk
abbrev pub bytes_without_mark : ℕ → List ℕ → List LineByte
bytes_without_mark at bytes = map (λ x. record { value = x; at = at; starts = false }) bytes

-- bytes of one instant; `starts` says whether a chunk starts with the first
abbrev pub bytes_with_mark : ℕ → Bool → List ℕ → List LineByte
bytes_with_mark at starts [] = []
bytes_with_mark at starts (b ∷ bytes) = record { value = b; at = at; starts = starts } ∷ bytes_without_mark at bytes

abbrev pub bytes_of_part : LinePart → List LineByte
bytes_of_part p = bytes_with_mark p.at p.starts p.bytes.now

abbrev pub bytes_of_parts : List LinePart → List LineByte
bytes_of_parts parts = flat_map bytes_of_part parts

abbrev pub end_view : code.End → End
end_view ends.Live = live
end_view (ends.Fin at) = fin at
end_view (ends.Close at) = close at
end_view (ends.Reset at) = reset at

abbrev pub end_instant : End → Option ℕ
end_instant live = None
end_instant (fin at) = Some at
end_instant (close at) = Some at
end_instant (reset at) = Some at

-- an end of the same kind, at an instant to which R relates its own
abbrev pub IsMovedBy : (ℕ → ℕ → Type 0) → End → End → Type 0
IsMovedBy R live moved = moved ≡ live
IsMovedBy R (fin at) moved = (m : ℕ) × R at m × (moved ≡ fin m)
IsMovedBy R (close at) moved = (m : ℕ) × R at m × (moved ≡ close m)
IsMovedBy R (reset at) moved = (m : ℕ) × R at m × (moved ≡ reset m)

abbrev pub line_of : List LinePart → code.End → Line
line_of parts end = record { bytes = bytes_of_parts parts; end = end_view end }

abbrev pub line_view : Unit → List LinePart → code.End → LineView
line_view unit parts end = record { ticks = ticks_of unit; line = line_of parts end }
