-- Segments in a row, and what stays of them where the row grows.
use Rattle.std.proofs.Common.{◌≡◌, ◌≤◌, ℕ, ◌+◌, Bool, true, false, List, [], ◌∷◌, ◌++◌, length, map, take, drop, refl, sym, ap, ap₂, ◌∙◌, subst, arith, append-nil, append_assoc, length-append, length-drop}
use Rattle.std.specs.List.{AllByRecursion}
use Rattle.std.proofs.lemmas.List.{map-append, take-append-le, drop-append-le}
use Rattle.lists.proofs.Lists.{all_weaker, all_push}
use Rattle.pcap_records.specs.Instants.{ticks_of}
use Rattle.pcap_records.specs.Writing.{record_bytes}
use Rattle.frame_headers.specs.Layout.{payload_limit}
use Rattle.segment_writer.specs.Senders.{frame_with, header_with, in_turn}
use Rattle.reassembly.specs.declared.line_parts.LinePart.{LinePart}
use Rattle.segment_writer.specs.SegmentOutlines.{framed_of, side_sender, IsOutline}
use Rattle.segment_writer.specs.SegmentRows.{payload_in, IsHeld, framed_at, sender_of, IsInRow}
use Rattle.segment_writer.specs.OpenRows.{written_in, IsLonger, IsRow, IsSideOf}
use Rattle.segment_writer.specs.declared.framed.Framed.{Framed}
use Rattle.segment_writer.specs.declared.payloads.Payload.{Payload}
use Rattle.segment_writer.specs.declared.payloads.Payload.TheVariants.{Lent, Gathered}
use Rattle.segment_writer.specs.declared.segment_outline.SegmentOutline.{SegmentOutline}
use Rattle.segment_writer.specs.declared.open_rows.OpenRow.{OpenRow}
use Rattle.segment_writer.specs.declared.row_segments.RowSegment.{RowSegment}
use Rattle.segment_writer.specs.declared.senders.Sender.{Sender}

-- ---- all of a list

module _ {X Y : Type 0} (P : X → Type 0) (f g : X → Y) (same : (x : X) → P x → f x ≡ g x) where
  map_same : (xs : List X) → AllByRecursion P xs → map f xs ≡ map g xs
  map_same [] all = refl
  map_same (x ∷ xs) all = ap₂ (λ y ys. y ∷ ys) (same x all.0) (map_same xs all.1)

-- ---- who sends is of the same connection and unit

pub side_conn : (client : Sender) (b : Bool) → (side_sender client b).conn ≡ client.conn
side_conn client true = refl
side_conn client false = refl

-- ---- what is gathered grows

within_append : (start len : ℕ) (xs more : List ℕ) → start + len ≤ length xs → take len (drop start (xs ++ more)) ≡ take len (drop start xs)
within_append start len xs more within =
    let behind : len ≤ length (drop start xs) = omega (arith, length-drop start xs, within) in
    ap (take len) (drop-append-le start xs more (omega (arith, within))) ∙ take-append-le len (drop start xs) more behind

pub payload_grows : (gathered more : List ℕ) (p : Payload) → IsHeld gathered p → payload_in (gathered ++ more) p ≡ payload_in gathered p
payload_grows gathered more (Lent bytes) held = refl
payload_grows gathered more (Gathered start len) held = within_append start len gathered more held

pub held_grows : (gathered more : List ℕ) (p : Payload) → IsHeld gathered p → IsHeld (gathered ++ more) p
held_grows gathered more (Lent bytes) held = tt
held_grows gathered more (Gathered start len) held = omega (arith, held, length-append gathered more)

-- ---- a segment stays as it is

module _ (gathered bytes : List ℕ) where
  module _ (s : RowSegment) (is : IsInRow gathered s) where
    same_payload : payload_in (gathered ++ bytes) s.payload ≡ payload_in gathered s.payload
    same_payload = payload_grows gathered bytes s.payload is.held

    pub framed_stays : framed_at (gathered ++ bytes) s ≡ framed_at gathered s
    framed_stays = λ i. record {
      key = record { moment = s.moment; conn = s.client.now.conn; turn = s.turn; place = s.place };
      bytes = record_bytes (ticks_of (sender_of s).unit) s.moment (frame_with (header_with (sender_of s) s.seq s.ack s.flags) (same_payload i));
    }

    pub is_stays : IsInRow (gathered ++ bytes) s
    is_stays = record {
      early = is.early;
      held = held_grows gathered bytes s.payload is.held;
      small = subst (λ xs. length xs ≤ payload_limit) (sym same_payload) is.small;
    }

  pub row_stays : (ss : List RowSegment) → AllByRecursion (IsInRow gathered) ss → map (framed_at (gathered ++ bytes)) ss ≡ map (framed_at gathered) ss
  row_stays ss all = map_same (IsInRow gathered) (framed_at (gathered ++ bytes)) (framed_at gathered) framed_stays ss all

  pub all_stay : (ss : List RowSegment) → AllByRecursion (IsInRow gathered) ss → AllByRecursion (IsInRow (gathered ++ bytes)) ss
  all_stay ss all = all_weaker (IsInRow gathered) (IsInRow (gathered ++ bytes)) is_stays ss all

-- ---- a row that grows

pub row_grows : (gathered now bytes : List ℕ) → now ≡ gathered ++ bytes → (ss : List RowSegment) → AllByRecursion (IsInRow gathered) ss
    → (map (framed_at now) ss ≡ map (framed_at gathered) ss) × AllByRecursion (IsInRow now) ss
row_grows gathered now bytes now_is ss rows = rw now_is (row_stays gathered bytes ss rows, all_stay gathered bytes ss rows)

-- by one segment
pub segment_put : (before now : OpenRow) (bytes : List ℕ) (s : RowSegment) (x : Framed) → now.gathered.items ≡ before.gathered.items ++ bytes
    → now.segments.items ≡ before.segments.items ++ s ∷ [] → framed_at now.gathered.items s ≡ x → IsInRow now.gathered.items s → IsRow before → IsLonger before (x ∷ []) now
segment_put before now bytes s x gathered_is segments_are framed in_row rows =
    let written : RowSegment → Framed = framed_at now.gathered.items in
    let grown = row_grows before.gathered.items now.gathered.items bytes gathered_is before.segments.items rows in
    record {
      written = ap (map written) segments_are
          ∙ map-append written before.segments.items (s ∷ [])
          ∙ ap₂ (λ (xs : List Framed) (y : Framed). xs ++ y ∷ []) grown.0 framed;
      row = subst (AllByRecursion (IsInRow now.gathered.items)) (sym segments_are) (all_push (IsInRow now.gathered.items) before.segments.items s grown.1 in_row);
    }

pub longer_not : (row : OpenRow) → IsRow row → IsLonger row [] row
longer_not row rows = record { written = sym (append-nil (written_in row)); row = rows }

pub longer_on : (a b c : OpenRow) (xs ys : List Framed) → IsLonger a xs b → IsLonger b ys c → IsLonger a (xs ++ ys) c
longer_on a b c xs ys first next = record {
  written = next.written ∙ ap (λ us. us ++ ys) first.written ∙ append_assoc (written_in a) xs ys;
  row = next.row;
}

-- ---- the outline of a segment that is sent in a turn

module _ (client s : Sender) (own : List LinePart) (l : SegmentOutline) (side : IsSideOf client s) (outline : IsOutline s own l) where
  -- who sends it, in that turn
  abbrev pub sender_now : Sender
  sender_now = side_sender client l.is_server

  sent_by : in_turn sender_now s.turn ≡ s
  sent_by = ap (λ (b : Bool). in_turn (side_sender client b) s.turn) outline.side ∙ side

  pub side_framed : framed_of sender_now own l ≡ framed_of s own l
  side_framed = ap (λ (t : Sender). framed_of t own l) sent_by

  pub side_outline : IsOutline sender_now own l
  side_outline =
      let o : IsOutline (in_turn sender_now s.turn) own l = subst (λ (t : Sender). IsOutline t own l) (sym sent_by) outline in
      record { side = o.side; conn = o.conn; early = o.early; small = o.small; within = o.within; cursor = o.cursor }
