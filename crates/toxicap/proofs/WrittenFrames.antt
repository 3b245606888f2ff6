-- Each written segment is a record before the horizon whose frame is a TCP segment with both checksums right.
use Rattle.std.proofs.Common.{◌≡◌, ◌≢◌, ◌<◌, ◌≤◌, ◌⊎◌, inl, inr, ℕ, zero, suc, ◌+◌, ◌-◌, ◌^◌, ◌==◌, Bool, true, false, ◌||◌, nat_lt, Option, Some, None, List}
use Rattle.std.proofs.Common.{[], ◌∷◌, ◌++◌, length, map, refl, sym, ap, arith, length-append, if◌then◌else◌}
use Rattle.std.proofs.lemmas.Bool.{ltb-true, or_parts}
use Rattle.toxicap.specs.{AllByRecursion, enumerate_from, horizon, packet_limit, record_bytes, SegmentFields, segment_fields, IsHeader, IsVlan, HeadersAreSound}
use Rattle.toxicap.specs.{headers, headers_len, payload_limit, Header, Framed, LineByte, End, live, fin, close, reset, Host, WrittenSide, WrittenConnection}
use Rattle.toxicap.specs.{SentSegment, Piece, is_chunk_border, pieces_led_by, pieces, end_segments, segments_sent_from, segments_sent_by, frame_bytes}
use Rattle.toxicap.specs.{framed_segment, header_of, syn_segment, syn_ack_segment, ack_segment, refusal_segment, framed_by_client, framed_by_server}
use Rattle.toxicap.specs.{opening_turn, up_turn, down_turn, insert_by_key, is_key_below, sorted_by_key, segments_before_horizon, written_segments, IsSoundFrame}
use Rattle.toxicap.proofs.ReadCaptures.{each_of_both}
use Rattle.frame_headers.specs.Flags

-- ---- the record of a segment

-- a segment goes from one host to another
pub record Goes (sender receiver : Host) (f : SegmentFields) : Type 0 where
  pub from : f.from ≡ sender.peer
  pub to : f.to ≡ receiver.peer

-- it goes from one side of a connection to the other
abbrev pub HasEnds : WrittenConnection → SegmentFields → Type 0
HasEnds c f = Goes c.client.host c.server.host f ⊎ Goes c.server.host c.client.host f

-- a record with a sound frame that a file can hold, of a connection
pub record IsRecord (ticks : ℕ) (c : WrittenConnection) (x : Framed) : Type 0 where
  pub frame : List ℕ
  pub limited : length frame ≤ packet_limit
  pub sound : IsSoundFrame frame
  pub ends : HasEnds c (segment_fields frame)
  pub bytes : x.bytes ≡ record_bytes ticks x.key.moment frame

-- what a host and a segment have to be for headers to hold them
pub record IsHost (h : Host) : Type 0 where
  pub mac : length h.mac ≡ 6
  pub addr : h.peer.addr < 2 ^ 32
  pub port : h.peer.port < 2 ^ 16

pub record IsSentSegment (s : SentSegment) : Type 0 where
  pub short : length s.payload ≤ payload_limit
  pub seq : s.seq < 2 ^ 32
  pub ack : s.ack < 2 ^ 32
  pub flags : s.flags < 2 ^ 8

-- headers with a tag are the longest
headers_few : (vlan : Option ℕ) → headers_len vlan ≤ headers_len (Some 0)
headers_few None = omega arith
headers_few (Some v) = omega arith

module _ (ticks : ℕ) (sound : HeadersAreSound) (c : WrittenConnection) (vlan : IsVlan c.vlan) (from to : Host) (is_from : IsHost from) (is_to : IsHost to) (differ : from.peer ≢ to.peer) (ends : (f : SegmentFields) → Goes from to f → HasEnds c f) where
  framed_is : (turn place : ℕ) (s : SentSegment) → IsSentSegment s → IsRecord ticks c (framed_segment ticks c turn from to (place, s))
  unfolding frame_bytes
  framed_is turn place s sent =
      let h : Header = header_of c from to s in
      let is : IsHeader h = record {
        mac_from = is_from.mac;
        mac_to = is_to.mac;
        from_addr = is_from.addr;
        from_port = is_from.port;
        to_addr = is_to.addr;
        to_port = is_to.port;
        seq = sent.seq;
        ack = sent.ack;
        flags = sent.flags;
      } in
      let written = sound h s.payload is sent.short in
      let sums = written.1 in
      let read = written.2 vlan in
      record {
        frame = frame_bytes c from to s;
        limited = omega (arith, length-append (headers h s.payload) s.payload, written.0, sent.short, headers_few c.vlan);
        sound = (read.class differ, sums.ipv4, rw read.fields sums.tcp);
        ends = ends _ (record { from = ap (λ (f : SegmentFields). f.from) read.fields; to = ap (λ (f : SegmentFields). f.to) read.fields });
        bytes = refl;
      }

  turn_is : (turn n : ℕ) (sent : List SentSegment) → AllByRecursion IsSentSegment sent → AllByRecursion (IsRecord ticks c) (map (framed_segment ticks c turn from to) (enumerate_from n sent))
  turn_is turn n [] are = tt
  turn_is turn n (s ∷ sent) are = (framed_is turn n s are.0, turn_is turn (n + 1) sent are.1)

-- ---- pieces

abbrev IsWithin : ℕ → Piece → Type 0
IsWithin limit p = length p.bytes ≤ limit

-- the first piece has room for `room` bytes, the others have the limit's
abbrev AreWithin : ℕ → ℕ → List Piece → Type 0
AreWithin limit room [] = Unit {0}
AreWithin limit room (p ∷ ps) = IsWithin room p × AllByRecursion (IsWithin limit) ps

within-all : (limit : ℕ) (ps : List Piece) → AreWithin limit limit ps → AllByRecursion (IsWithin limit) ps
within-all limit [] fit = tt
within-all limit (p ∷ ps) fit = fit

led_within : (limit room : ℕ) (c : LineByte) (ps : List Piece) → AreWithin limit (room - 1) ps → 1 ≤ room → AreWithin limit room (pieces_led_by c ps)
led_within limit room c [] fit some = tt
led_within limit room c (p ∷ ps) fit some = (omega (arith, fit.0), fit.1)

at_least_two : (room : ℕ) → 1 ≤ room → (room == 1) ≡ false → 1 ≤ room - 1
at_least_two zero some other = absurd (omega (arith, some))
at_least_two (suc zero) some other = absurd cc
at_least_two (suc (suc n)) some other = omega arith

pieces_fit : (limit room : ℕ) (cs : List LineByte) → 1 ≤ room → room ≤ limit → AreWithin limit room (pieces limit room cs)
unfolding pieces
pieces_fit limit room [] some within = tt
pieces_fit limit room (c ∷ cs) some within =
    by (is_chunk_border cs || room == 1) (within-all limit (pieces limit limit cs) (pieces_fit limit limit cs (omega arith) (omega arith)))
    (λ more. led_within limit room c (pieces limit (room - 1) cs) (pieces_fit limit (room - 1) cs more (omega arith)) some) refl
  where
    by : (b : Bool) → AllByRecursion (IsWithin limit) (pieces limit limit cs) → (1 ≤ room - 1 → AreWithin limit room (pieces_led_by c (pieces limit (room - 1) cs)))
        → is_chunk_border cs || room == 1 ≡ b
        → AreWithin limit room (if b then record { at = c.at; bytes = c.value ∷ []; ends = is_chunk_border cs } ∷ pieces limit limit cs else pieces_led_by c (pieces limit (room - 1) cs))
    by true rest more test = (some, rest)
    by false rest more test = more (at_least_two room some (or_parts (is_chunk_border cs) (room == 1) test).1)

-- ---- the segments of a line

last_is : (own peer : WrittenSide) (n : ℕ) (e : End) → AllByRecursion IsSentSegment (end_segments own peer n e)
last_is own peer n live = tt
last_is own peer n (fin at) = (record { short = omega arith; seq = omega arith; ack = omega arith; flags = omega arith }, tt)
last_is own peer n (close at) = (record { short = omega arith; seq = omega arith; ack = omega arith; flags = omega arith }, tt)
last_is own peer n (reset at) = (record { short = omega arith; seq = omega arith; ack = omega arith; flags = omega arith }, tt)

piece_flags : (ends : Bool) → (if ends then Flags.psh_flag + Flags.ack_flag else Flags.ack_flag) < 2 ^ 8
piece_flags true = omega arith
piece_flags false = omega arith

from_is : (own peer : WrittenSide) (n : ℕ) (ps : List Piece) → AllByRecursion (IsWithin payload_limit) ps → AllByRecursion IsSentSegment (segments_sent_from own peer n ps)
unfolding segments_sent_from
from_is own peer n [] fit = last_is own peer n own.line.end
from_is own peer n (p ∷ ps) fit = (record { short = fit.0; seq = omega arith; ack = omega arith; flags = piece_flags p.ends }, from_is own peer (n + length p.bytes) ps fit.1)

sent_is : (own peer : WrittenSide) → AllByRecursion IsSentSegment (segments_sent_by own peer)
sent_is own peer =
    let ps : List Piece = pieces payload_limit payload_limit own.line.bytes in
    from_is own peer 0 ps (within-all payload_limit ps (pieces_fit payload_limit payload_limit own.line.bytes (omega arith) (omega arith)))

-- ---- a connection

pub record IsSoundWritten (t : WrittenConnection) : Type 0 where
  pub client : IsHost t.client.host
  pub server : IsHost t.server.host
  pub differ : t.client.host.peer ≢ t.server.host.peer
  pub client_base : t.client.base < 2 ^ 32
  pub server_base : t.server.base < 2 ^ 32
  pub vlan : IsVlan t.vlan

module _ (ticks : ℕ) (sound : HeadersAreSound) (t : WrittenConnection) (is : IsSoundWritten t) where
  by_client_is : (turn place : ℕ) (s : SentSegment) → IsSentSegment s → IsRecord ticks t (framed_by_client ticks t turn (place, s))
  by_client_is turn place s sent = framed_is ticks sound t is.vlan t.client.host t.server.host is.client is.server is.differ (λ f goes. inl goes) turn place s sent

  by_server_is : (turn place : ℕ) (s : SentSegment) → IsSentSegment s → IsRecord ticks t (framed_by_server ticks t turn (place, s))
  by_server_is turn place s sent = framed_is ticks sound t is.vlan t.server.host t.client.host is.server is.client (λ same. is.differ (sym same)) (λ f goes. inr goes) turn place s sent

  opening_is : (refused : Bool) → AllByRecursion (IsRecord ticks t) (opening_turn refused ticks t)
  opening_is false = (
    by_client_is 0 0 (syn_segment t) (record { short = omega arith; seq = is.client_base; ack = omega arith; flags = omega arith }),
    (
      by_server_is 0 1 (syn_ack_segment t) (record { short = omega arith; seq = is.server_base; ack = omega arith; flags = omega arith }),
      (by_client_is 0 2 (ack_segment t) (record { short = omega arith; seq = omega arith; ack = omega arith; flags = omega arith }), tt),
    ),
  )
  opening_is true = (
    by_client_is 0 0 (syn_segment t) (record { short = omega arith; seq = is.client_base; ack = omega arith; flags = omega arith }),
    (by_server_is 0 1 (refusal_segment t) (record { short = omega arith; seq = omega arith; ack = omega arith; flags = omega arith }), tt),
  )

pub record IsWritten (ticks : ℕ) (c : WrittenConnection) (x : Framed) : Type 0 where
  pub is : IsRecord ticks c x
  pub in_time : x.key.moment < horizon ticks

kept_in_time : (ticks : ℕ) (c : WrittenConnection) (xs : List Framed) → AllByRecursion (IsRecord ticks c) xs → AllByRecursion (IsWritten ticks c) (segments_before_horizon ticks xs)
kept_in_time ticks c [] all = tt
kept_in_time ticks c (x ∷ xs) all = by (nat_lt x.key.moment (horizon ticks)) refl (kept_in_time ticks c xs all.1)
  where
    by : (b : Bool) → nat_lt x.key.moment (horizon ticks) ≡ b → AllByRecursion (IsWritten ticks c) (segments_before_horizon ticks xs)
        → AllByRecursion (IsWritten ticks c) (if b then x ∷ segments_before_horizon ticks xs else segments_before_horizon ticks xs)
    by true early rest = (record { is = all.0; in_time = ltb-true _ _ early }, rest)
    by false late rest = rest

module _ (P : Framed → Type 0) where
  all-insert_by_key : (x : Framed) (ys : List Framed) → P x → AllByRecursion P ys → AllByRecursion P (insert_by_key x ys)
  all-insert_by_key x [] is all = (is, tt)
  all-insert_by_key x (y ∷ ys) is all = by (is_key_below y.key x.key) (all-insert_by_key x ys is all.1)
    where
      by : (b : Bool) → AllByRecursion P (insert_by_key x ys) → AllByRecursion P (if b then y ∷ insert_by_key x ys else x ∷ y ∷ ys)
      by true rest = (all.0, rest)
      by false rest = (is, all)

  pub all-sorted_by_key : (xs : List Framed) → AllByRecursion P xs → AllByRecursion P (sorted_by_key xs)
  unfolding sorted_by_key
  all-sorted_by_key [] all = tt
  all-sorted_by_key (x ∷ xs) all = all-insert_by_key x (sorted_by_key xs) all.0 (all-sorted_by_key xs all.1)

pub segments_are : (ticks : ℕ) → HeadersAreSound → (t : WrittenConnection) → IsSoundWritten t → AllByRecursion (IsWritten ticks t) (written_segments ticks t)
unfolding written_segments
segments_are ticks sound t is =
    let up = turn_is ticks sound t is.vlan t.client.host t.server.host is.client is.server is.differ (λ f goes. inl goes) 1 0 (segments_sent_by t.client t.server) (sent_is t.client t.server) in
    let down = turn_is ticks sound t is.vlan t.server.host t.client.host is.server is.client (λ same. is.differ (sym same)) (λ f goes. inr goes) 2 0 (segments_sent_by t.server t.client) (sent_is t.server t.client) in
    let lines = each_of_both (IsRecord ticks t) (opening_turn t.refused ticks t ++ up_turn ticks t) (down_turn ticks t)
    (each_of_both (IsRecord ticks t) (opening_turn t.refused ticks t) (up_turn ticks t) (opening_is ticks sound t is t.refused) up) down in
    all-sorted_by_key (IsWritten ticks t) _ (kept_in_time ticks t _ lines)
