-- The members of a connection as a table lists them, and the spans of their payloads in a file.
use Rattle.std.specs.Prelude.{◌≤◌, ℕ, ◌+◌, ◌-◌, List, map, length, drop, filter, slice_range, Bool, true, false, ◌&&◌, not, nat_le}
use Rattle.std.specs.List.{take_while}
use Rattle.frame_headers.specs.Flags.{has_flag, fin_flag, syn_flag, rst_flag, ack_flag}
use Rattle.conn_table.specs.declared.conns.Member.{Member}
use Rattle.conn_table.specs.IndexedSegments.{TimedSegment}
use Rattle.reassembly.specs.Positions.{origin, shifted_position, shifted_start}
use Rattle.reassembly.specs.Spans.{Span}

abbrev pub IsInFile : List ℕ → Member → Type 0
IsInFile file m = m.start + m.len ≤ length file

abbrev pub payload_in : List ℕ → Member → List ℕ
payload_in file m = slice_range file m.start (m.start + m.len)

-- the span of a payload that begins at a shifted position: its positions from 0 on
abbrev pub span_at : ℕ → ℕ → List ℕ → Span
span_at start at payload = record { from = start - origin; at = at; bytes = drop (origin - start) payload }

abbrev pub member_position : ℕ → Member → ℕ
member_position base m = shifted_position base m.seq m.flags

abbrev pub member_span : ℕ → List ℕ → Member → Span
member_span base file m = span_at (member_position base m) m.at (payload_in file m)

abbrev pub segment_span : ℕ → TimedSegment → Span
segment_span base m = span_at (shifted_start base m) m.at m.fields.payload

abbrev pub member_spans : ℕ → List ℕ → List Member → List Span
member_spans base file ms = map (member_span base file) ms

abbrev pub same_side : Bool → Bool → Bool
same_side true b = b
same_side false b = not b

abbrev pub is_of : Bool → Member → Bool
is_of client m = same_side client m.from_client

abbrev pub own_members : Bool → List Member → List Member
own_members client ms = filter (is_of client) ms

abbrev pub is_reset_member : Member → Bool
is_reset_member m = has_flag m.flags rst_flag

abbrev pub members_before_reset : List Member → List Member
members_before_reset ms = take_while (λ m. not (is_reset_member m)) ms

abbrev pub is_server_answer : Member → Bool
is_server_answer m = not m.from_client && has_flag m.flags syn_flag && has_flag m.flags ack_flag

-- a FIN that counts: it stands at position 0 or later
abbrev pub is_fin_member : ℕ → Member → Bool
is_fin_member base m = has_flag m.flags fin_flag && nat_le origin (member_position base m + m.len)
