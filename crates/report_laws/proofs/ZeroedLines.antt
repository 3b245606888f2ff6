-- Connections and lines without the bytes of their payloads.
use Rattle.std.proofs.Common.{◌≡◌, ℕ, ◌+◌, Bool, true, false, ◌&&◌, not, nat_lt, nat_le, if◌then◌else◌, List, [], ◌∷◌, length, map, filter, Option, Some, None, is_none, refl, sym, ap, ◌∙◌, zero, ◌-◌, ◌==◌, min, max, ◌||◌, slice_index, is_some, ap₂}
use Rattle.std.specs.List.{enumerate_from, cons_option, find, range_with_len, prefix_len, count_by}
use Rattle.std.proofs.lemmas.List.{length-map}
use Rattle.std.proofs.lemmas.Simd.{map-map}
use Rattle.conn_table.specs.SeenCapture.{SeenPacket}
use Rattle.conn_table.specs.IndexedSegments.{TimedSegment, IndexedSegment, is_segment, indexed_segments, same_peer}
use Rattle.conn_table.specs.Connections.{last_of, is_opening, of_one_pair, repeats, begins_in, beginnings, beginning_of, is_at, later_members, Connection, connection_of, connections, is_unopened, unopened_count}
use Rattle.report_laws.specs.SeenHeads.{zeroed_fields, zeroed_packet}
use Rattle.report_laws.proofs.MappedLists.{filter_mapped, enumerate_mapped, last_mapped, first_mapped, zero_at}
use Rattle.std.specs.Option.{option_map, unwrap_or}
use Rattle.std.proofs.Math.Path.{fun_ext}
use Rattle.pcap_records.specs.Instants.{greatest}
use Rattle.frame_headers.specs.declared.peers.Peer.{Peer}
use Rattle.frame_headers.specs.Flags.{has_flag, fin_flag}
use Rattle.reassembly.specs.Positions.{members_of, effective_members, is_reset, is_answer, client_base, server_base, client_of, server_of, origin, shifted_start, shifted_end, covers, is_covered, value_at, arrival_at, available_at, reach, first_gap, covered_count}
use Rattle.reassembly.specs.RecordedLines.{LineByte, End, fin, Line, RecordedSide, fin_segment, is_counted_fin, length_before, line_length, byte_at, end_at, reset_or_live, sent_by, side_of, recorded_side, RecordedConnection, recorded_connection}
use Rattle.reassembly.proofs.MappedLists.{filter-map, take_while-map}

-- ---- connections of segments whose payloads are zeroed: the same ones, with zeroed payloads

abbrev pub zeroed_timed : TimedSegment → TimedSegment
zeroed_timed m = record m { fields = zeroed_fields m.fields }

abbrev pub zeroed_segment : IndexedSegment → IndexedSegment
zeroed_segment s = record s { timed = zeroed_timed s.timed }

abbrev pub zeroed_connection : Connection → Connection
zeroed_connection c = record { number = c.number; opening = zeroed_timed c.opening; later = map zeroed_timed c.later }

-- ---- segments

pub indexed_zeroed : (n : ℕ) (packets : List SeenPacket) → indexed_segments n (map zeroed_packet packets) ≡ map zeroed_segment (indexed_segments n packets)
unfolding indexed_segments
indexed_zeroed n [] = refl
indexed_zeroed n (p ∷ packets) =
    let s : IndexedSegment = record { index = n; timed = record { at = p.at; fields = p.frame.fields } } in
    elim (is_segment p.frame.class) as (λ b. cons_option (if b then Some (zeroed_segment s) else None) (indexed_segments (n + 1) (map zeroed_packet packets))
    ≡ map zeroed_segment (cons_option (if b then Some s else None) (indexed_segments (n + 1) packets)))
    [ true ↦ ap (λ (more : List IndexedSegment). zeroed_segment s ∷ more) (indexed_zeroed (n + 1) packets) | false ↦ indexed_zeroed (n + 1) packets ]

-- ---- connections

module _ (segs : List IndexedSegment) where
  abbrev zeros : List IndexedSegment
  zeros = map zeroed_segment segs

  begins_zeroed : (s : IndexedSegment) → begins_in zeros (zeroed_segment s) ≡ begins_in segs s
  begins_zeroed s =
      ap (λ (b : Bool). is_opening s && not b)
      (last_mapped zeroed_segment (λ last. repeats last (zeroed_segment s)) (λ last. repeats last s) refl (λ last. refl)
      (λ x. is_opening x && of_one_pair (zeroed_segment s) x && nat_lt x.index s.index) (λ x. is_opening x && of_one_pair s x && nat_lt x.index s.index) (λ x. refl) segs)

  beginnings_zeroed : beginnings zeros ≡ map zeroed_segment (beginnings segs)
  unfolding beginnings
  beginnings_zeroed = filter_mapped zeroed_segment (begins_in zeros) (begins_in segs) begins_zeroed segs

  -- what is read of the beginning of a segment's connection
  beginning_zeroed : {C : Type 0} (g h : Option IndexedSegment → C) → g None ≡ h None → ((b : IndexedSegment) → g (Some (zeroed_segment b)) ≡ h (Some b))
      → (s : IndexedSegment) → g (beginning_of zeros (zeroed_segment s)) ≡ h (beginning_of segs s)
  beginning_zeroed g h none some s =
      ap (λ (begun : List IndexedSegment). g (last_of (filter (λ b. of_one_pair (zeroed_segment s) b && nat_le b.index s.index) begun))) beginnings_zeroed
      ∙ last_mapped zeroed_segment g h none some (λ b. of_one_pair (zeroed_segment s) b && nat_le b.index s.index) (λ b. of_one_pair s b && nat_le b.index s.index) (λ b. refl) (beginnings segs)

  members_zeroed : (b : IndexedSegment) → later_members zeros (zeroed_segment b) ≡ map zeroed_segment (later_members segs b)
  members_zeroed b =
      filter_mapped zeroed_segment (λ s. nat_lt b.index s.index && is_at (zeroed_segment b) (beginning_of zeros s)) (λ s. nat_lt b.index s.index && is_at b (beginning_of segs s))
      (λ s. ap (λ (at : Bool). nat_lt b.index s.index && at) (beginning_zeroed (is_at (zeroed_segment b)) (is_at b) refl (λ x. refl) s)) segs

  connection_zeroed : (number : ℕ) (b : IndexedSegment) → connection_of zeros (number, zeroed_segment b) ≡ zeroed_connection (connection_of segs (number, b))
  connection_zeroed number b =
      ap (λ (later : List TimedSegment). let c : Connection = record { number = number; opening = zeroed_timed b.timed; later = later } in c)
      (ap (map (λ s. s.timed)) (members_zeroed b) ∙ map-map (λ s. s.timed) zeroed_segment (later_members segs b) ∙ sym (map-map zeroed_timed (λ s. s.timed) (later_members segs b)))

  pub connections_zeroed : connections zeros ≡ map zeroed_connection (connections segs)
  unfolding connections
  connections_zeroed =
      ap (λ (begun : List IndexedSegment). map (connection_of zeros) (enumerate_from 0 begun)) beginnings_zeroed
      ∙ enumerate_mapped zeroed_segment (connection_of zeros) zeroed_connection (connection_of segs) connection_zeroed 0 (beginnings segs)

  pub unopened_same : unopened_count zeros ≡ unopened_count segs
  unfolding unopened_count
  unopened_same =
      ap length (filter_mapped zeroed_segment (is_unopened zeros) (is_unopened segs) (beginning_zeroed is_none is_none refl (λ x. refl)) segs)
      ∙ length-map (filter (is_unopened segs) segs) zeroed_segment

-- ---- recorded lines of segments whose payloads are zeroed: the same ones, with zeroed bytes

abbrev pub zeroed_byte : LineByte → LineByte
zeroed_byte b = record b { value = 0 }

abbrev pub zeroed_line : Line → Line
zeroed_line f = record f { bytes = map zeroed_byte f.bytes }

abbrev pub zeroed_side : RecordedSide → RecordedSide
zeroed_side s = record s { line = zeroed_line s.line }

abbrev pub zeroed_recorded : RecordedConnection → RecordedConnection
zeroed_recorded r = record r { up = zeroed_side r.up; down = zeroed_side r.down }

-- ---- what is not the value of a byte stays

module _ (base : ℕ) where
  end_zeroed : (m : TimedSegment) → shifted_end base (zeroed_timed m) ≡ shifted_end base m
  end_zeroed m = ap (λ n. shifted_start base m + n) (length-map m.fields.payload (λ (byte : ℕ). zero))

  covers_zeroed : (x : ℕ) (m : TimedSegment) → covers base x (zeroed_timed m) ≡ covers base x m
  covers_zeroed x m = ap (λ n. nat_le (shifted_start base m) (x + origin) && nat_lt (x + origin) n) (end_zeroed m)

  fin_zeroed : (m : TimedSegment) → is_counted_fin base (zeroed_timed m) ≡ is_counted_fin base m
  fin_zeroed m = ap (λ n. has_flag m.fields.flags fin_flag && nat_le origin n) (end_zeroed m)

  module _ (ms : List TimedSegment) where
    abbrev zero_members : List TimedSegment
    zero_members = map zeroed_timed ms

    covered_zeroed : (x : ℕ) → is_covered base zero_members x ≡ is_covered base ms x
    covered_zeroed x = first_mapped zeroed_timed is_some is_some refl (λ m. refl) (covers base x) (covers base x) (covers_zeroed x) ms

    arrival_zeroed : (x : ℕ) → arrival_at base zero_members x ≡ arrival_at base ms x
    arrival_zeroed x =
        let read : Option TimedSegment → ℕ = λ o. unwrap_or (option_map (λ m. m.at) o) 0 in
        first_mapped zeroed_timed read read refl (λ m. refl) (covers base x) (covers base x) (covers_zeroed x) ms

    value_zeroed : (x : ℕ) → value_at base zero_members x ≡ zero
    value_zeroed x =
        first_mapped zeroed_timed (λ o. unwrap_or (option_map (λ m. slice_index m.fields.payload (x + origin - shifted_start base m)) o) 0) (λ o. zero)
        refl (λ m. zero_at m.fields.payload (x + origin - shifted_start base m)) (covers base x) (covers base x) (covers_zeroed x) ms

    available_zeroed : (n : ℕ) → available_at base zero_members n ≡ available_at base ms n
    available_zeroed n = ap (λ arrival. greatest (map arrival (range_with_len 0 n))) (fun_ext arrival_zeroed)

    reach_zeroed : reach base zero_members ≡ reach base ms
    reach_zeroed =
        ap greatest (map-map (λ m. shifted_end base m - origin) zeroed_timed ms)
        ∙ ap (λ (end : TimedSegment → ℕ). greatest (map (λ m. end m - origin) ms)) (fun_ext end_zeroed)

    gap_zeroed : first_gap base zero_members ≡ first_gap base ms
    gap_zeroed = ap₂ (λ test n. prefix_len test (range_with_len 0 n)) (fun_ext covered_zeroed) reach_zeroed

    count_zeroed : (n : ℕ) → covered_count base zero_members n ≡ covered_count base ms n
    count_zeroed n = ap₂ (λ test far. count_by test (range_with_len n (far - n))) (fun_ext covered_zeroed) reach_zeroed

    -- what is read of the segment with the FIN
    fin_read : {C : Type 0} (read : Option TimedSegment → C) → ((m : TimedSegment) → read (Some (zeroed_timed m)) ≡ read (Some m)) → read (fin_segment base zero_members) ≡ read (fin_segment base ms)
    fin_read read some = first_mapped zeroed_timed read read refl some (is_counted_fin base) (is_counted_fin base) fin_zeroed ms

    length_zeroed : line_length base zero_members ≡ line_length base ms
    length_zeroed =
        fin_read (λ o. length_before base o (first_gap base zero_members)) (λ m. ap (λ n. min (n - origin) (first_gap base zero_members)) (end_zeroed m))
        ∙ ap (length_before base (fin_segment base ms)) gap_zeroed

    byte_zeroed : (x : ℕ) → byte_at base zero_members x ≡ zeroed_byte (byte_at base ms x)
    byte_zeroed x = λ i. record {
      value = value_zeroed x i;
      at = available_zeroed (x + 1) i;
      starts = x == 0 || not (available_zeroed (x + 1) i == available_zeroed x i);
    }

    pub side_zeroed : (other : End) → side_of base zero_members other ≡ zeroed_side (side_of base ms other)
    side_zeroed other =
        let len = line_length base ms in
        let bytes = ap₂ (λ byte n. map byte (range_with_len 0 n)) (fun_ext byte_zeroed) length_zeroed ∙ sym (map-map zeroed_byte (byte_at base ms) (range_with_len 0 len)) in
        let end = ap (λ n. end_at base n (available_at base zero_members n) other (fin_segment base zero_members)) length_zeroed
        ∙ ap (λ latest. end_at base len latest other (fin_segment base zero_members)) (available_zeroed len)
        ∙ fin_read (end_at base len (available_at base ms len) other) (λ m. ap (λ e. if len == e - origin then fin (max m.at (available_at base ms len)) else other) (end_zeroed m)) in
        let lost = ap (covered_count base zero_members) length_zeroed ∙ count_zeroed len in
        λ i. record { line = record { bytes = bytes i; end = end i }; lost = lost i }

-- ---- the sides of a connection

effective_zeroed : (ms : List TimedSegment) → effective_members (map zeroed_timed ms) ≡ map zeroed_timed (effective_members ms)
effective_zeroed ms = take_while-map (λ m. not (is_reset m)) zeroed_timed ms

reset_zeroed : (ms : List TimedSegment) → reset_or_live (find is_reset (map zeroed_timed ms)) ≡ reset_or_live (find is_reset ms)
reset_zeroed ms = first_mapped zeroed_timed reset_or_live reset_or_live refl (λ m. refl) is_reset is_reset (λ m. refl) ms

recorded_zeroed : (ms : List TimedSegment) (sender : Peer) (base : Option ℕ) → recorded_side (map zeroed_timed ms) sender base ≡ zeroed_side (recorded_side ms sender base)
unfolding recorded_side
recorded_zeroed ms sender None = λ i. record { line = record { bytes = []; end = reset_zeroed ms i }; lost = 0 }
recorded_zeroed ms sender (Some base) =
    ap₂ (λ sent other. side_of base sent other)
    (ap (sent_by sender) (effective_zeroed ms) ∙ filter-map (λ m. same_peer m.fields.from sender) zeroed_timed (effective_members ms)) (reset_zeroed ms)
    ∙ side_zeroed base (sent_by sender (effective_members ms)) (reset_or_live (find is_reset ms))

server_base_zeroed : (c : Connection) → server_base (zeroed_connection c) ≡ server_base c
unfolding server_base
server_base_zeroed c =
    let read : Option TimedSegment → Option ℕ = λ o. option_map (λ m. m.fields.seq) o in
    ap (λ ms. read (find (is_answer (server_of c)) ms)) (effective_zeroed (members_of c))
    ∙ first_mapped zeroed_timed read read refl (λ m. refl) (is_answer (server_of c)) (is_answer (server_of c)) (λ m. refl) (effective_members (members_of c))

pub connection_recorded : (c : Connection) → recorded_connection (zeroed_connection c) ≡ zeroed_recorded (recorded_connection c)
connection_recorded c =
    let up = recorded_zeroed (members_of c) (client_of c) (Some (client_base c)) in
    let down = ap (recorded_side (map zeroed_timed (members_of c)) (server_of c)) (server_base_zeroed c) ∙ recorded_zeroed (members_of c) (server_of c) (server_base c) in
    λ i. record {
      up = up i;
      down = down i;
      client_base = client_base c;
      server_base = server_base_zeroed c i;
      opened = c.opening.at;
      mac_client = c.opening.fields.mac_from;
      mac_server = c.opening.fields.mac_to;
    }
