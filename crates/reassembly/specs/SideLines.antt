-- A side's line by spans: its bytes up to the first gap or a FIN, and its end.
use Rattle.std.specs.Prelude.{◌≡◌, ◌≤◌, ◌<◌, ℕ, ◌+◌, ◌-◌, ◌==◌, ◌⊎◌, min, max, Bool, true, ◌||◌, not, List, [], ◌∷◌, map, length, count_by, sum_by, find, Option, Some, None, is_some, option_map, unwrap_or, if◌then◌else◌}
use Rattle.std.specs.List.{range_with_len, prefix_len}
use Rattle.pcap_records.specs.Instants.{greatest}
use Rattle.conn_table.specs.IndexedSegments.{TimedSegment}
use Rattle.conn_table.specs.declared.conns.Member.{Member}
use Rattle.reassembly.specs.declared.sides.CountedFin.{CountedFin}
use Rattle.reassembly.specs.declared.sides.SideLine.{SideLine}
use Rattle.reassembly.specs.Positions.{origin}
use Rattle.reassembly.specs.LineView.{line_of}
use Rattle.reassembly.specs.RecordedLines.{LineByte, End, fin, RecordedSide, fin_position, fin_segment}
use Rattle.reassembly.specs.Spans.{Span, TimedByte, limit, end_of, first_byte}
use Rattle.reassembly.specs.MemberSpans.{member_position, member_spans, own_members, is_fin_member}

-- ---- bytes, of which g gives that of each position

abbrev pub value_of : Option TimedByte → ℕ
value_of o = unwrap_or (option_map (λ b. b.value) o) 0

abbrev pub instant_of : Option TimedByte → ℕ
instant_of o = unwrap_or (option_map (λ b. b.at) o) 0

-- when all of the first n positions were there
abbrev pub latest_below : (ℕ → Option TimedByte) → ℕ → ℕ
latest_below g n = greatest (map (λ x. instant_of (g x)) (range_with_len 0 n))

abbrev pub line_byte : (ℕ → Option TimedByte) → ℕ → LineByte
line_byte g x = record {
  value = value_of (g x);
  at = latest_below g (x + 1);
  starts = x == 0 || not (latest_below g (x + 1) == latest_below g x);
}

abbrev pub line_bytes : (ℕ → Option TimedByte) → ℕ → List LineByte
line_bytes g n = map (line_byte g) (range_with_len 0 n)

abbrev pub has_byte : (ℕ → Option TimedByte) → ℕ → Bool
has_byte g x = is_some (g x)

-- the least position that is not covered; none is from `end` on
abbrev pub gap_before : (ℕ → Option TimedByte) → ℕ → ℕ
gap_before g end = prefix_len (has_byte g) (range_with_len 0 end)

abbrev pub count_from : (ℕ → Option TimedByte) → ℕ → ℕ → ℕ
count_from g end n = count_by (has_byte g) (range_with_len n (end - n))

-- all positions below n have a byte, and n is `stop` or has none
pub record IsFront (g : ℕ → Option TimedByte) (stop n : ℕ) : Type 0 where
  pub covered : (x : ℕ) → x < n → has_byte g x ≡ true
  pub within : n ≤ stop
  pub ends : (n ≡ stop) ⊎ (g n ≡ None)

abbrev pub first_from : List Span → ℕ
first_from [] = 0
first_from (p ∷ ps) = p.from

-- ---- the FIN

abbrev pub segment_fin : ℕ → TimedSegment → CountedFin
segment_fin base m = record { position = fin_position base m; at = m.at }

abbrev pub counted_fin : ℕ → List TimedSegment → Option CountedFin
counted_fin base members = option_map (segment_fin base) (fin_segment base members)

abbrev pub fin_of : ℕ → Member → CountedFin
fin_of base m = record { position = member_position base m + m.len - origin; at = m.at }

abbrev pub fin_of_members : ℕ → List Member → Option CountedFin
fin_of_members base members = option_map (fin_of base) (find (is_fin_member base) members)

-- the position by which a line ends
abbrev pub stop_of : Option CountedFin → ℕ
stop_of None = limit
stop_of (Some c) = c.position

abbrev pub length_to : Option CountedFin → ℕ → ℕ
length_to None gap = gap
length_to (Some c) gap = min c.position gap

abbrev pub end_by : ℕ → ℕ → End → Option CountedFin → End
end_by n latest other None = other
end_by n latest other (Some c) = if n == c.position then fin (max c.at latest) else other

-- ---- a side

-- the first n positions, and how many bytes are lost
abbrev pub side_to : (ℕ → Option TimedByte) → Option CountedFin → End → ℕ → ℕ → RecordedSide
side_to g counted other n lost = record { line = record { bytes = line_bytes g n; end = end_by n (latest_below g n) other counted }; lost = lost }

-- no position from here on is covered
abbrev pub end_of_all : List Span → ℕ
end_of_all ps = greatest (map end_of ps)

-- the side of payloads of which the first that covers a position counts there; it ends by `other` if not by the FIN
abbrev pub side_of_spans : List Span → Option CountedFin → End → RecordedSide
side_of_spans ps counted other =
    let n = length_to counted (gap_before (first_byte ps) (end_of_all ps)) in
    side_to (first_byte ps) counted other n (count_from (first_byte ps) (end_of_all ps) n)

abbrev pub without_bytes : End → RecordedSide
without_bytes end = record { line = record { bytes = []; end = end }; lost = 0 }

abbrev pub len_of : Span → ℕ
len_of p = length p.bytes

-- the line of the first n positions; the other bytes of the ordered spans are lost
abbrev pub side_by : List Span → Option CountedFin → End → ℕ → RecordedSide
side_by ps counted other n = side_to (first_byte ps) counted other n (sum_by len_of ps - n)

-- the side that members make; without a base it has no bytes
abbrev pub IsSideOf : Option ℕ → Bool → List ℕ → List Member → End → RecordedSide → Type 0
IsSideOf None client file members other s = s ≡ without_bytes other
IsSideOf (Some base) client file members other s =
    let own = own_members client members in
    s ≡ side_of_spans (member_spans base file own) (fin_of_members base own) other

abbrev pub side_view : SideLine → RecordedSide
side_view s = record { line = line_of s.parts.items s.end; lost = s.lost }
