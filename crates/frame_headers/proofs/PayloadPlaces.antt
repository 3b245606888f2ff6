-- A segment's payload lies in its frame, after the three headers.
use Rattle.std.proofs.Common.{◌≡◌, ◌≤◌, ℕ, ◌+◌, ◌-◌, ◌==◌, ◌||◌, not, nat_lt, List, length, take, drop, refl, arith, length-take, length-drop}
use Rattle.std.proofs.lemmas.Bool.{ltb-false, or_parts}
use Rattle.std.proofs.lemmas.List.{drop-take, take-take, drop-drop}
use Rattle.frame_headers.specs.HeaderLaws.{IsPayloadInPlace, PayloadsAreInPlace}
use Rattle.frame_headers.specs.Frame.{segment, is_tagged, version, frame_class, datagram, ip_payload, header_len, total_len, data_offset, segment_fields}
use Rattle.frame_headers.proofs.SegmentTests.{segment_tests}
use Rattle.frame_headers.specs.Layout.{link_len}

-- which lengths of a segment's frame, datagram and TCP bytes fit one another
record HasWholeHeaders (frame : List ℕ) : Type 0 where
  link : link_len (is_tagged frame) ≤ length frame
  header : header_len (datagram frame) ≤ total_len (datagram frame)
  total : total_len (datagram frame) ≤ length (datagram frame)
  carried : length (ip_payload (datagram frame)) ≡ total_len (datagram frame) - header_len (datagram frame)
  offset : data_offset (ip_payload (datagram frame)) ≤ length (ip_payload (datagram frame))

HasWholeHeaders-segment : (frame : List ℕ) → frame_class frame ≡ segment → HasWholeHeaders frame
HasWholeHeaders-segment frame is =
    let ip : List ℕ = datagram frame in
    let tcp : List ℕ = ip_payload ip in
    let told = segment_tests frame is in
    let ipv4 = or_parts (nat_lt (length ip) 20 || not (version ip == 4) || nat_lt (header_len ip) 20) (nat_lt (total_len ip) (header_len ip)) told.bad_ipv4 in
    let tcp4 = or_parts (nat_lt (length tcp) 20 || nat_lt (data_offset tcp) 20) (nat_lt (length tcp) (data_offset tcp)) told.bad_tcp in
    let header : header_len ip ≤ total_len ip = ltb-false (total_len ip) (header_len ip) ipv4.1 in
    let total : total_len ip ≤ length ip = ltb-false (length ip) (total_len ip) told.cut in
    record {
      link = ltb-false (length frame) (link_len (is_tagged frame)) told.short;
      header = header;
      total = total;
      carried = omega (arith, length-take (total_len ip - header_len ip) (drop (header_len ip) ip), length-drop (header_len ip) ip, header, total);
      offset = ltb-false (length tcp) (data_offset tcp) tcp4.1;
    }

part : (d n : ℕ) (xs : List ℕ) → d ≤ n → drop d (take n xs) ≡ take (n - d) (drop d xs)
part d n xs within =
    let whole : n ≡ d + (n - d) = omega arith in
    let e = drop-take d (n - d) xs in
    rw (← whole) at e

length-payload : (frame : List ℕ) → HasWholeHeaders frame
    → length (segment_fields frame).payload ≡ total_len (datagram frame) - header_len (datagram frame) - data_offset (ip_payload (datagram frame))
unfolding segment_fields
length-payload frame whole =
    let tcp : List ℕ = ip_payload (datagram frame) in
    let d : ℕ = data_offset tcp in
    omega (arith, length-take (length tcp - d) (drop d tcp), length-drop d tcp, whole.carried, whole.offset)

in_place : (frame : List ℕ) → HasWholeHeaders frame → IsPayloadInPlace frame
unfolding segment_fields
in_place frame whole =
    let l : ℕ = link_len (is_tagged frame) in
    let ip : List ℕ = datagram frame in
    let tcp : List ℕ = ip_payload ip in
    let h : ℕ = header_len ip in
    let t : ℕ = total_len ip in
    let d : ℕ = data_offset tcp in
    let len : length (segment_fields frame).payload ≡ t - h - d = length-payload frame whole in
    let count : l + h + d + (t - h - d) - (l + h + d) ≡ t - h - d = omega arith in
    let first : drop (l + h + d) frame ≡ drop d (drop h ip) = rw (drop-drop d h ip, drop-drop (h + d) l frame) (reorder l h d frame) in
    let cut : drop d tcp ≡ take (t - h - d) (drop d (drop h ip)) = part d (t - h) (drop h ip) (omega (arith, whole.carried, whole.offset)) in
    let all : length tcp - d ≡ t - h - d = omega (arith, whole.carried) in
    record {
      within = omega (arith, len, length-drop l frame, whole.link, whole.total, whole.header, whole.carried, whole.offset);
      bytes = rw (len, count, first, all, cut, take-take (t - h - d) (t - h - d) (drop d (drop h ip)) (omega arith)) refl;
    }
  where
    reorder : (l h d : ℕ) (frame : List ℕ) → drop (l + h + d) frame ≡ drop (l + (h + d)) frame
    reorder l h d frame = let e : l + h + d ≡ l + (h + d) = omega arith in rw e refl

pub payloads_are_in_place : PayloadsAreInPlace
payloads_are_in_place frame is = in_place frame (HasWholeHeaders-segment frame is)
