-- What is laid, as it is made of recordings.
use Rattle.std.specs.Prelude.{ℕ, nat_lt, Bool, ◌&&◌, if◌then◌else◌, List, [], ◌∷◌, ◌++◌}
use Rattle.std.specs.List.{flat_map}
use Rattle.scenarios.specs.declared.proxies.Proxy.{Proxy}
use Rattle.conn_workers.specs.Recordings.{RecordingView, recorded_delivered}
use Rattle.laid_lines.specs.declared.laid.LaidLines.{LaidLines}
use Rattle.laid_lines.specs.declared.laid.ToxicapChunk.{ToxicapChunk}
use Rattle.laid_lines.specs.FlatLines.{FlatLines, lines_of}

abbrev pub flat_view : LaidLines → FlatLines
flat_view l = record { bytes = flat_map (λ p. p.now) l.pieces.items; chunks = l.chunks.items; connections = l.connections.items }

-- lines after others
abbrev pub after : FlatLines → FlatLines → FlatLines
after laid more = record { bytes = laid.bytes ++ more.bytes; chunks = laid.chunks ++ more.chunks; connections = laid.connections ++ more.connections }

-- of a recording in a scenario with its number
abbrev pub lines_by : ℕ → ℕ × List Proxy → RecordingView → FlatLines
lines_by seed s r = lines_of r.ticks r.conn.vlan r.conn.client r.conn.server r.recorded.opened (recorded_delivered seed s r)

-- what is laid of a chunk that has begun: once it is over, the chunk, unless it has no bytes
abbrev pub closed : Bool → ToxicapChunk → List ToxicapChunk
closed is_over begun = if is_over && nat_lt 0 begun.end then begun ∷ [] else []
