-- Steps of the pass over a line: what was written, before what is left to write, is the whole.
use Rattle.std.proofs.Common.{◌≡◌, ◌≤◌, ◌<◌, ℕ, ◌+◌, ◌%◌, ◌^◌, List, [], ◌∷◌, ◌++◌, length, take, drop, Option, Some, None, refl, sym, ap, ◌∙◌, subst, arith, append-nil, append_assoc, length-drop}
use Rattle.std.proofs.lemmas.List.{drop_all, take-append-drop}
use Rattle.pcap_records.specs.Instants.{horizon, ticks_of}
use Rattle.frame_headers.specs.Layout.{payload_limit}
use Rattle.reassembly.specs.RecordedLines.{LineByte, Line, End}
use Rattle.reassembly.specs.LineView.{bytes_of_parts, end_view, line_of}
use Rattle.reassembly.specs.declared.line_parts.LinePart.{LinePart}
use Rattle.reassembly.specs.declared.line_parts.End as code
use Rattle.reassembly.specs.Positions.{sequence_space}
use Rattle.segment_writer.specs.WrittenSegments.{WrittenSide, SentSegment, Piece, opening_segment, pieces, segments_sent_from, end_segments, sequence_number, acknowledgment_number, end_numbers_before}
use Rattle.segment_writer.specs.TimelyLines.{Climbs, IsTimely}
use Rattle.segment_writer.specs.FirstPieces.{piece_size, values, first_instant, first_of}
use Rattle.segment_writer.specs.LineCursors.{left_at, IsCursor, bytes_before, IsAcknowledged}
use Rattle.segment_writer.specs.Senders.{own_side, peer_side, framed_by, piece_segment, ending_segments, line_written}
use Rattle.segment_writer.specs.declared.framed.Framed.{Framed}
use Rattle.segment_writer.specs.declared.pieces.Cursor.{Cursor}
use Rattle.segment_writer.specs.declared.turns.Acknowledged.{Acknowledged}
use Rattle.segment_writer.specs.declared.senders.Sender.{Sender}
use Rattle.segment_writer.specs.declared.turns.Ending.{Ending}
use Rattle.segment_writer.proofs.PieceCuts.{first_piece}
use Rattle.segment_writer.proofs.RecordSteps.{piece_within, length-piece, first_instant-cursor}
use Rattle.segment_writer.proofs.PartBytes.{inside_is, length-left}
use Rattle.segment_writer.proofs.Acknowledging.{climbs_behind, acknowledged_later}
use Rattle.segment_writer.proofs.SentClimb.{climbs_from, line_climbs, end_climbs, SentClimbs, written_from, written_next, written_late}

-- what is written of these bytes and the end, after n bytes
abbrev pub left_written : Sender → Line → Line → ℕ → ℕ → List LineByte → List Framed
left_written s own peer place n bytes = written_from s place (segments_sent_from (own_side s own) (peer_side s peer) n (pieces payload_limit payload_limit bytes))

abbrev first_segment : Sender → Line → Line → ℕ → List LineByte → SentSegment
first_segment s own peer n bytes = piece_segment (sequence_number (own_side s own) n) (acknowledgment_number (peer_side s peer) (first_instant bytes)) (first_of payload_limit bytes)

sent_next : (own peer : WrittenSide) (n : ℕ) (p : Piece) (ps : List Piece)
    → segments_sent_from own peer n (p ∷ ps) ≡ piece_segment (sequence_number own n) (acknowledgment_number peer p.at) p ∷ segments_sent_from own peer (n + length p.bytes) ps
unfolding segments_sent_from
sent_next own peer n p ps = refl

sent_end : (own peer : WrittenSide) (n : ℕ) → segments_sent_from own peer n [] ≡ end_segments own peer n own.line.end
unfolding segments_sent_from
sent_end own peer n = refl

no_pieces : (limit room : ℕ) → pieces limit room [] ≡ []
unfolding pieces
no_pieces limit room = refl

-- the first segment, and the others
next_written : (s : Sender) (own peer : Line) (place n size : ℕ) (bytes : List LineByte) → 0 < length bytes → size ≡ piece_size payload_limit bytes → first_instant bytes < horizon (ticks_of s.unit)
    → left_written s own peer place n bytes ≡ framed_by s (place, first_segment s own peer n bytes) ∷ left_written s own peer (place + 1) (n + size) (drop size bytes)
next_written s own peer place n size [] some is early = absurd (omega arith)
next_written s own peer place n size (b ∷ bytes) some is early =
    let all : List LineByte = b ∷ bytes in
    let rest : List Piece = pieces payload_limit payload_limit (drop (piece_size payload_limit all) all) in
    let count : length (values (take (piece_size payload_limit all) all)) ≡ size = length-piece (piece_size payload_limit all) all (piece_within payload_limit all) ∙ sym is in
    ap (λ ps. written_from s place (segments_sent_from (own_side s own) (peer_side s peer) n ps)) (first_piece payload_limit payload_limit b bytes (omega arith))
    ∙ ap (written_from s place) (sent_next (own_side s own) (peer_side s peer) n (first_of payload_limit all) rest)
    ∙ written_next s place (first_segment s own peer n all) (segments_sent_from (own_side s own) (peer_side s peer) (n + length (values (take (piece_size payload_limit all) all))) rest) early
    ∙ ap (λ k. framed_by s (place, first_segment s own peer n all) ∷ written_from s (place + 1) (segments_sent_from (own_side s own) (peer_side s peer) (n + k) rest)) count
    ∙ ap (λ k. framed_by s (place, first_segment s own peer n all) ∷ left_written s own peer (place + 1) (n + size) (drop k all)) (sym is)

whole_is : (s : Sender) (own peer : Line) → left_written s own peer 0 0 own.bytes ≡ line_written s own peer
unfolding line_written
whole_is s own peer = refl

climbs_first : (last : ℕ) (bytes : List LineByte) (end : End) → 0 < length bytes → Climbs last bytes end → (last ≤ first_instant bytes) × Climbs (first_instant bytes) bytes end
climbs_first last [] end some climbs = absurd (omega arith)
climbs_first last (b ∷ bytes) end some climbs = (climbs.0, ((let same : b.at ≤ b.at = omega arith in same), climbs.1))

some_piece : (limit : ℕ) (bytes : List LineByte) → 0 < limit → 0 < length bytes → 0 < piece_size limit bytes
some_piece limit [] h some = absurd (omega arith)
some_piece limit (b ∷ bytes) h some = omega arith

climbs_drop : (size low : ℕ) (bytes : List LineByte) (end : End) → Climbs low bytes end → Climbs low (drop size bytes) end
climbs_drop size low bytes end climbs =
    let behind = climbs_behind low (take size bytes) (drop size bytes) end (subst (λ (xs : List LineByte). Climbs low xs end) (sym (take-append-drop size bytes)) climbs) in
    climbs_from low behind.0 (drop size bytes) end behind.1 behind.2

-- ---- a turn

module _ (s : Sender) (own : List LinePart) (own_end : code.End) (peer : List LinePart) (peer_end : code.End) where
  pub record Going (list : List Framed) (from : Cursor) (acknowledged : Acknowledged) (sent place : ℕ) : Type 0 where
    pub last : ℕ
    pub from_is : IsCursor own from
    pub acknowledged_is : IsAcknowledged peer acknowledged last
    pub climbs : Climbs last (left_at own from) (end_view own_end)
    pub bytes : sent + length (left_at own from) ≡ length (bytes_of_parts own)
    pub few : place ≤ sent
    pub done : list ++ left_written s (line_of own own_end) (line_of peer peer_end) place sent (left_at own from) ≡ line_written s (line_of own own_end) (line_of peer peer_end)

  pub going_starts : (list : List Framed) (part : ℕ) → list ≡ [] → IsCursor own (record { part = part; offset = 0 }) → bytes_of_parts (drop part own) ≡ bytes_of_parts own → IsTimely (line_of own own_end)
      → Going list (record { part = part; offset = 0 }) (record { part = 0; bytes = 0 }) 0 0
  going_starts list part none place left timely = record {
    last = 0;
    from_is = place;
    acknowledged_is = record { within = omega arith; count = refl; before = tt };
    climbs = subst (λ (xs : List LineByte). Climbs 0 xs (end_view own_end)) (sym left) timely.climbs;
    bytes = omega (arith, ap length left);
    few = omega arith;
    done = ap (λ xs. xs ++ left_written s (line_of own own_end) (line_of peer peer_end) 0 0 (bytes_of_parts (drop part own))) none
        ∙ ap (left_written s (line_of own own_end) (line_of peer peer_end) 0 0) left ∙ whole_is s (line_of own own_end) (line_of peer peer_end);
  }

  module _ (list : List Framed) (from : Cursor) (acknowledged : Acknowledged) (sent place : ℕ) (going : Going list from acknowledged sent place) where
    -- ---- at a part

    module _ (p : LinePart) (ps : List LinePart) (e : drop from.part own ≡ p ∷ ps) where
      at_is : p.at ≡ first_instant (left_at own from)
      at_is = first_instant-cursor own from p ps e going.from_is

      some_left : 0 < length (left_at own from)
      some_left =
          let inside : from.offset < length p.bytes.now = inside_is own from p ps e going.from_is in
          omega (arith, length-left own from p ps e (omega arith))

      climbs_here : (going.last ≤ first_instant (left_at own from)) × Climbs (first_instant (left_at own from)) (left_at own from) (end_view own_end)
      climbs_here = climbs_first going.last (left_at own from) (end_view own_end) some_left going.climbs

      pub step_acknowledges : IsAcknowledged peer acknowledged p.at
      step_acknowledges = acknowledged_later peer acknowledged going.last p.at going.acknowledged_is (omega (arith, at_is, climbs_here.0))

      pub step_early : p.at < horizon (ticks_of s.unit) → first_instant (left_at own from) < horizon (ticks_of s.unit)
      step_early early = omega (arith, at_is)

      pub going_late : horizon (ticks_of s.unit) ≤ p.at → list ≡ line_written s (line_of own own_end) (line_of peer peer_end)
      going_late late =
          let climb = line_climbs payload_limit payload_limit (first_instant (left_at own from)) (own_side s (line_of own own_end)) (peer_side s (line_of peer peer_end)) sent (left_at own from) climbs_here.1 in
          let none : left_written s (line_of own own_end) (line_of peer peer_end) place sent (left_at own from) ≡ [] =
          written_late s place (first_instant (left_at own from)) (segments_sent_from (own_side s (line_of own own_end)) (peer_side s (line_of peer peer_end)) sent (pieces payload_limit payload_limit (left_at own from))) (omega (arith, at_is)) climb in
          sym (append-nil list) ∙ ap (λ xs. list ++ xs) (sym none) ∙ going.done

      module _ (size : ℕ) (size_is : size ≡ piece_size payload_limit (left_at own from)) where
        pub step_fits : length (bytes_of_parts own) < 2 ^ 32 → sent + size < 2 ^ 32
        step_fits short = omega (arith, going.bytes, piece_within payload_limit (left_at own from))

        pub step_falls : (after : Cursor) → left_at own after ≡ drop size (left_at own from) → length (left_at own after) < length (left_at own from)
        step_falls after is =
            let some : 0 < length (left_at own from) = some_left in
            let more : 0 < piece_size payload_limit (left_at own from) = some_piece payload_limit (left_at own from) (omega arith) some in
            omega (arith, ap length is, length-drop size (left_at own from))

        pub going_on : (after : Cursor) (h : Acknowledged) (seq ack at_place : ℕ) (framed : Framed) (more : List Framed) → p.at < horizon (ticks_of s.unit)
            → IsCursor own after → left_at own after ≡ drop size (left_at own from)
            → IsAcknowledged peer h p.at → h.bytes ≡ bytes_before p.at (bytes_of_parts peer)
            → seq ≡ (s.base + 1 + sent) % sequence_space → ack ≡ (s.peer_base + 1 + h.bytes + end_numbers_before p.at (end_view peer_end)) % sequence_space → at_place ≡ place
            → framed ≡ framed_by s (at_place, piece_segment seq ack (first_of payload_limit (left_at own from)))
            → more ≡ list ++ framed ∷ []
            → Going more after h (sent + size) (place + 1)
        going_on after h seq ack at_place framed more early is_cursor left acknowledges count seq_is ack_is place_is framed_is more_is =
            let own_line : Line = line_of own own_end in
            let peer_line : Line = line_of peer peer_end in
            let some : 0 < length (left_at own from) = some_left in
            let several : 0 < piece_size payload_limit (left_at own from) = some_piece payload_limit (left_at own from) (omega arith) some in
            let within = piece_within payload_limit (left_at own from) in
            let ack' : ack ≡ acknowledgment_number (peer_side s peer_line) (first_instant (left_at own from)) =
            ack_is ∙ ap (λ n. (s.peer_base + 1 + n + end_numbers_before p.at (end_view peer_end)) % sequence_space) count ∙ ap (acknowledgment_number (peer_side s peer_line)) at_is in
            let framed' : framed ≡ framed_by s (place, first_segment s own_line peer_line sent (left_at own from)) =
            framed_is ∙ (λ i. framed_by s (place_is i, piece_segment (seq_is i) (ack' i) (first_of payload_limit (left_at own from)))) in
            let rest : List Framed = left_written s own_line peer_line (place + 1) (sent + size) (drop size (left_at own from)) in
            let next = next_written s own_line peer_line place sent size (left_at own from) some size_is (step_early early) in
            record {
              last = p.at;
              from_is = is_cursor;
              acknowledged_is = acknowledges;
              climbs = subst (λ (xs : List LineByte). Climbs p.at xs (end_view own_end)) (sym left)
                  (climbs_from p.at (first_instant (left_at own from)) (drop size (left_at own from)) (end_view own_end) (omega (arith, at_is))
                  (climbs_drop size (first_instant (left_at own from)) (left_at own from) (end_view own_end) climbs_here.1));
              bytes = omega (arith, ap length left, length-drop size (left_at own from), going.bytes, within, size_is);
              few = omega (arith, going.few, several, size_is);
              done = ap (λ xs. more ++ left_written s own_line peer_line (place + 1) (sent + size) xs) left
                  ∙ ap (λ xs. xs ++ rest) (more_is ∙ ap (λ x. list ++ x ∷ []) framed')
                  ∙ append_assoc list (framed_by s (place, first_segment s own_line peer_line sent (left_at own from)) ∷ []) rest
                  ∙ ap (λ xs. list ++ xs) (sym next) ∙ going.done;
            }

    -- ---- after all parts

    module _ (over : length own ≤ from.part) where
      nothing_left : left_at own from ≡ []
      nothing_left = ap (λ (xs : List LinePart). drop from.offset (bytes_of_parts xs)) (drop_all from.part own over) ∙ drop_all {X = LineByte} from.offset [] (omega arith)

      module _ (o : Option Ending) (is : (a b : WrittenSide) (n : ℕ) → end_segments a b n (end_view own_end) ≡ ending_segments a b n o) where
        end_left : left_written s (line_of own own_end) (line_of peer peer_end) place sent (left_at own from)
            ≡ written_from s place (ending_segments (own_side s (line_of own own_end)) (peer_side s (line_of peer peer_end)) sent o)
        end_left =
            ap (left_written s (line_of own own_end) (line_of peer peer_end) place sent) nothing_left
            ∙ ap (λ ps. written_from s place (segments_sent_from (own_side s (line_of own own_end)) (peer_side s (line_of peer peer_end)) sent ps)) (no_pieces payload_limit payload_limit)
            ∙ ap (written_from s place) (sent_end (own_side s (line_of own own_end)) (peer_side s (line_of peer peer_end)) sent ∙ is (own_side s (line_of own own_end)) (peer_side s (line_of peer peer_end)) sent)

        ended : written_from s place (ending_segments (own_side s (line_of own own_end)) (peer_side s (line_of peer peer_end)) sent o) ≡ [] → list ≡ line_written s (line_of own own_end) (line_of peer peer_end)
        ended none = sym (append-nil list) ∙ ap (λ xs. list ++ xs) (sym (end_left ∙ none)) ∙ going.done

      pub going_ends : ((a b : WrittenSide) (n : ℕ) → end_segments a b n (end_view own_end) ≡ ending_segments a b n None) → list ≡ line_written s (line_of own own_end) (line_of peer peer_end)
      going_ends is = ended None is refl

      module _ (o : Ending) (is : (a b : WrittenSide) (n : ℕ) → end_segments a b n (end_view own_end) ≡ ending_segments a b n (Some o)) where
        pub end_acknowledges : IsAcknowledged peer acknowledged o.at
        end_acknowledges =
            let not_before = subst (λ (xs : List LineByte). Climbs going.last xs (end_view own_end)) nothing_left going.climbs in
            let a : WrittenSide = own_side s (line_of own own_end) in
            let b : WrittenSide = peer_side s (line_of peer peer_end) in
            let climb = subst (λ (xs : List SentSegment). SentClimbs going.last xs) (is a b sent) (end_climbs going.last a b sent (end_view own_end) not_before) in
            acknowledged_later peer acknowledged going.last o.at going.acknowledged_is climb.0

        pub going_ends_late : horizon (ticks_of s.unit) ≤ o.at → list ≡ line_written s (line_of own own_end) (line_of peer peer_end)
        going_ends_late late = ended (Some o) is (written_late s place o.at (ending_segments (own_side s (line_of own own_end)) (peer_side s (line_of peer peer_end)) sent (Some o)) late ((let same : o.at ≤ o.at = omega arith in same), tt))

        pub going_ends_with : (h : Acknowledged) (seq ack at_place : ℕ) (framed : Framed) (more : List Framed) → o.at < horizon (ticks_of s.unit) → h.bytes ≡ bytes_before o.at (bytes_of_parts peer)
            → seq ≡ (s.base + 1 + sent) % sequence_space → ack ≡ (s.peer_base + 1 + h.bytes + end_numbers_before o.at (end_view peer_end)) % sequence_space → at_place ≡ place
            → framed ≡ framed_by s (at_place, opening_segment o.at seq ack o.flags) → more ≡ list ++ framed ∷ []
            → more ≡ line_written s (line_of own own_end) (line_of peer peer_end)
        going_ends_with h seq ack at_place framed more early count seq_is ack_is place_is framed_is more_is =
            let own' : WrittenSide = own_side s (line_of own own_end) in
            let peer' : WrittenSide = peer_side s (line_of peer peer_end) in
            let ack' : ack ≡ acknowledgment_number peer' o.at = ack_is ∙ ap (λ n. (s.peer_base + 1 + n + end_numbers_before o.at (end_view peer_end)) % sequence_space) count in
            let framed' : framed ≡ framed_by s (place, opening_segment o.at (sequence_number own' sent) (acknowledgment_number peer' o.at) o.flags) =
            framed_is ∙ (λ i. framed_by s (place_is i, opening_segment o.at (seq_is i) (ack' i) o.flags)) in
            more_is ∙ ap (λ x. list ++ x ∷ []) framed'
            ∙ ap (λ xs. list ++ xs) (sym (end_left (Some o) is ∙ written_next s place (opening_segment o.at (sequence_number own' sent) (acknowledgment_number peer' o.at) o.flags) [] early))
            ∙ going.done
