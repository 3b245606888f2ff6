-- The bytes of a record: its header, the headers of its frame, and the payload.
use Rattle.std.proofs.Common.{◌≡◌, ◌≤◌, ◌<◌, ℕ, ◌+◌, ◌-◌, Bool, true, false, if◌then◌else◌, List, [], ◌∷◌, ◌++◌, length, take, drop, replicate, refl, sym, ap, ap₂, ◌∙◌, arith, append-nil, append_assoc, length-append, length-drop, length-take, take_all, take_at, drop_at, Option, Some, None}
use Rattle.std.proofs.lemmas.List.{drop_all, length-map, length-replicate}
use borrow.Rule.Slice.PartMut.{put_mid}
use Rattle.pcap_records.specs.Instants.{ticks_of}
use Rattle.pcap_records.specs.Reading.{record_header_len}
use Rattle.pcap_records.specs.Writing.{record_header, record_bytes}
use Rattle.frame_headers.specs.Flags.{psh_flag, ack_flag}
use Rattle.frame_headers.specs.Headers.{headers}
use Rattle.frame_headers.specs.Layout.{headers_len, payload_limit}
use Rattle.frame_headers.specs.declared.written.Header.{Header}
use Rattle.reassembly.specs.RecordedLines.{LineByte}
use Rattle.reassembly.specs.LineView.{bytes_of_parts}
use Rattle.reassembly.specs.declared.line_parts.LinePart.{LinePart}
use Rattle.segment_writer.specs.WrittenSegments.{is_chunk_border}
use Rattle.segment_writer.specs.FirstPieces.{chunk_rest, piece_size, values, first_instant, first_of}
use Rattle.segment_writer.specs.LineCursors.{left_at, IsCursor}
use Rattle.segment_writer.specs.Senders.{header_with, frame_with, framed_by, piece_segment, turn_number}
use Rattle.segment_writer.specs.SegmentOutlines.{framed_of}
use Rattle.segment_writer.specs.declared.segment_outline.SegmentOutline.{SegmentOutline}
use Rattle.segment_writer.specs.declared.pieces.Cursor.{Cursor}
use Rattle.segment_writer.specs.declared.senders.Sender.{Sender}
use Rattle.segment_writer.proofs.PartBytes.{mark, inside_is, left_is, first_instant-marked}

-- ---- a record that was opened and filled with its payload

abbrev pub opened_record : ℕ → ℕ → ℕ → ℕ → List ℕ
opened_record n ticks at len = record_header ticks at len ++ replicate n 0

pub length-record_header : (ticks at n : ℕ) → length (record_header ticks at n) ≡ record_header_len
unfolding record_header
length-record_header ticks at n = refl

pub length-opened : (n ticks at len : ℕ) → length (opened_record n ticks at len) ≡ record_header_len + n
length-opened n ticks at len = length-append (record_header ticks at len) (replicate n 0) ∙ ap₂ (λ k m. k + m) (length-record_header ticks at len) (length-replicate n 0)

-- headers are short
pub few_headers : (vlan : Option ℕ) → headers_len vlan ≤ 58
few_headers None = omega arith
few_headers (Some v) = omega arith

-- the slice from some length on
abbrev pub slice_from : ℕ → List ℕ → List ℕ
slice_from begin xs = take (length xs - begin) (drop begin xs)

-- a slice that was written over, in the vector that holds it
written_over : (n : ℕ) (new old : List ℕ) → length new ≡ length old → n ≡ length old → take n (new ++ drop (length new) old) ≡ new
written_over n new old same count = ap (λ k. take k (new ++ drop (length new) old)) (let e : n ≡ length new = omega arith in e) ∙ take_at new (drop (length new) old) (length new) refl

-- after what was written before
module _ (n ticks at len frame : ℕ) (out slice payload : List ℕ) (is : slice ≡ (out ++ opened_record n ticks at len) ++ payload) (count : frame ≡ length out + record_header_len) where
  abbrev before_frame : List ℕ
  before_frame = out ++ record_header ticks at len

  length-before : length before_frame ≡ frame
  length-before = length-append out (record_header ticks at len) ∙ ap (λ k. length out + k) (length-record_header ticks at len) ∙ sym count

  slice_is : slice ≡ before_frame ++ (replicate n 0 ++ payload)
  slice_is = is ∙ ap (λ xs. xs ++ payload) (sym (append_assoc out (record_header ticks at len) (replicate n 0))) ∙ append_assoc before_frame (replicate n 0) payload

  -- its frame has room for the headers, and the payload
  pub frame_is : slice_from frame slice ≡ replicate n 0 ++ payload
  frame_is = take_all (length slice - frame) (drop frame slice) (omega (arith, length-drop frame slice)) ∙ ap (drop frame) slice_is ∙ drop_at before_frame (replicate n 0 ++ payload) frame length-before

  pub length-frame : length (slice_from frame slice) ≡ n + length payload
  length-frame = ap length frame_is ∙ length-append (replicate n 0) payload ∙ ap (λ k. k + length payload) (length-replicate n 0)

  -- once the headers are written into it, the record is appended
  module _ (h : Header) (vec_len : ℕ) (whole new : List ℕ) (same : slice ≡ whole) (all : vec_len ≡ length whole) (fills : len ≡ n + length payload)
      (written : new ≡ headers h (drop n (slice_from frame slice)) ++ drop n (slice_from frame slice)) (kept : length new ≡ length (slice_from frame slice)) where
    pub put_is : take vec_len (put_mid frame (length slice - frame) slice new ++ drop (length (put_mid frame (length slice - frame) slice new)) whole) ≡ out ++ record_bytes ticks at (frame_with h payload)
    put_is =
        let new_is : new ≡ frame_with h payload = written ∙ ap (λ xs. headers h xs ++ xs) (ap (drop n) frame_is ∙ drop_at (replicate n 0) payload n (length-replicate n 0)) in
        let before : take frame slice ≡ before_frame = ap (take frame) slice_is ∙ take_at before_frame (replicate n 0 ++ payload) frame length-before in
        let after : drop (length slice - frame) (drop frame slice) ≡ [] = drop_all (length slice - frame) (drop frame slice) (omega (arith, length-drop frame slice)) in
        let made : put_mid frame (length slice - frame) slice new ≡ before_frame ++ new = (λ i. before i ++ (new ++ after i)) ∙ ap (λ xs. before_frame ++ xs) (append-nil new) in
        let lengths : length (put_mid frame (length slice - frame) slice new) ≡ length slice =
        ap length made ∙ length-append before_frame new ∙ ap (λ k. length before_frame + k) (kept ∙ ap length frame_is) ∙ sym (ap length slice_is ∙ length-append before_frame (replicate n 0 ++ payload)) in
        let size : len ≡ length (frame_with h payload) = fills ∙ sym length-frame ∙ sym kept ∙ ap length new_is in
        written_over vec_len (put_mid frame (length slice - frame) slice new) whole (lengths ∙ ap length same) all ∙ made
        ∙ append_assoc out (record_header ticks at len) new ∙ (λ i. out ++ (record_header ticks at (size i) ++ new_is i))

-- ---- pieces

chunk_rest-le-length : (bytes : List LineByte) → chunk_rest bytes ≤ length bytes
chunk_rest-le-length [] = omega arith
chunk_rest-le-length (b ∷ bytes) = by b.starts (chunk_rest-le-length bytes)
  where
    by : (s : Bool) → chunk_rest bytes ≤ length bytes → (if s then 0 else chunk_rest bytes + 1) ≤ length (b ∷ bytes)
    by true h = omega arith
    by false h = omega arith

pub piece_within : (limit : ℕ) (bytes : List LineByte) → piece_size limit bytes ≤ length bytes
piece_within limit [] = omega arith
piece_within limit (b ∷ bytes) = omega (arith, chunk_rest-le-length bytes)

pub piece_limited : (limit : ℕ) (bytes : List LineByte) → piece_size limit bytes ≤ limit
piece_limited limit [] = omega arith
piece_limited limit (b ∷ bytes) = omega arith

pub length-piece : (n : ℕ) (bytes : List LineByte) → n ≤ length bytes → length (values (take n bytes)) ≡ n
length-piece n bytes h = length-map (take n bytes) (λ (b : LineByte). b.value) ∙ length-take n bytes ∙ omega arith

pub first_instant-cursor : (parts : List LinePart) (c : Cursor) (p : LinePart) (ps : List LinePart) → drop c.part parts ≡ p ∷ ps → IsCursor parts c → p.at ≡ first_instant (left_at parts c)
first_instant-cursor parts c p ps e place =
    let inside : c.offset < length p.bytes.now = inside_is parts c p ps e place in
    let some : 0 < length (drop c.offset p.bytes.now) = omega (arith, length-drop c.offset p.bytes.now) in
    sym (ap first_instant (left_is parts c p ps e (omega arith)) ∙ first_instant-marked p.at (mark p.starts c.offset) (drop c.offset p.bytes.now) (bytes_of_parts ps) some)

-- ---- segments

-- the segment of a piece, by its key, length and flags
pub piece_is : (s : Sender) (own : List LinePart) (l : SegmentOutline) (at place : ℕ) → l.key ≡ record { moment = at; conn = s.conn; turn = turn_number s.turn; place = place } → at ≡ first_instant (left_at own l.from)
    → l.len ≡ piece_size payload_limit (left_at own l.from) → l.flags ≡ (if is_chunk_border (drop l.len (left_at own l.from)) then psh_flag + ack_flag else ack_flag)
    → framed_of s own l ≡ framed_by s (place, piece_segment l.seq l.ack (first_of payload_limit (left_at own l.from)))
piece_is s own l at place key_is at_is len_is flags_are =
    let ahead : List LineByte = left_at own l.from in
    let key : l.key ≡ record { moment = first_instant ahead; conn = s.conn; turn = turn_number s.turn; place = place } = key_is ∙ (λ i. record { moment = at_is i; conn = s.conn; turn = turn_number s.turn; place = place }) in
    let flags = flags_are ∙ ap (λ n. if is_chunk_border (drop n ahead) then psh_flag + ack_flag else ack_flag) len_is in
    λ i. record { key = key i; bytes = record_bytes (ticks_of s.unit) (key i).moment (frame_with (header_with s l.seq l.ack (flags i)) (values (take (len_is i) ahead))) }
