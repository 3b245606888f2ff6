-- The fields of a segment fit their places in written headers, if its frame is made of bytes.
use Rattle.std.proofs.Common.{◌≡◌, ◌≢◌, ◌<◌, ◌≤◌, ℕ, zero, suc, ◌-◌, ◌%◌, ◌^◌, ◌==◌, Bool, true, false, ◌&&◌, if◌then◌else◌, Some, None, refl, List, [], ◌∷◌, length, take, drop, slice_index, sym, ◌∙◌, true≢false, arith, rules, length-take, length-drop}
use Rattle.std.specs.List.{AllByRecursion}
use Rattle.std.proofs.lemmas.List.Elements.{All-from_recursion, recursion_from_All, All-take, All-drop}
use Rattle.std.proofs.lemmas.Bool.{ltb-false}
use Rattle.byteorder.specs.Numbers.{big_from-lt}
use Rattle.frame_headers.specs.HeaderLaws.{IsVlan, SegmentsFit}
use Rattle.frame_headers.specs.declared.peers.Peer.{Peer}
use Rattle.frame_headers.specs.Frame.{number_at, is_tagged, vlan_numbered, vlan_in, datagram, ip_payload, sender, receiver, header_len, total_len, segment_fields}
use Rattle.frame_headers.proofs.SegmentTests.{segment_tests}
use Rattle.frame_headers.specs.Layout.{ethernet_len, link_len, vlan_limit}

abbrev IsByte : ℕ → Type 0
IsByte x = x < 256

bytes_taken : (n : ℕ) (xs : List ℕ) → AllByRecursion IsByte xs → AllByRecursion IsByte (take n xs)
bytes_taken n xs are = recursion_from_All IsByte (take n xs) (All-take IsByte n xs (All-from_recursion IsByte xs are))

bytes_left : (n : ℕ) (xs : List ℕ) → AllByRecursion IsByte xs → AllByRecursion IsByte (drop n xs)
bytes_left n xs are = recursion_from_All IsByte (drop n xs) (All-drop IsByte n xs (All-from_recursion IsByte xs are))

byte_at : (xs : List ℕ) → AllByRecursion IsByte xs → (k : ℕ) → slice_index xs k < 256
byte_at [] are k = omega arith
byte_at (x ∷ xs) are zero = are.0
byte_at (x ∷ xs) are (suc k) = byte_at xs are.1 k

differs : (a b : Peer) → (a.addr == b.addr && a.port == b.port) ≡ false → a ≢ b
differs a b test same = true≢false (sym (itself b) ∙ rw same at test)
  where
    itself : (p : Peer) → (p.addr == p.addr && p.port == p.port) ≡ true
    itself p = search rules

link_least : (tagged : Bool) → ethernet_len ≤ link_len tagged
link_least true = omega arith
link_least false = omega arith

numbered_fits : (n : ℕ) → n < vlan_limit → IsVlan (vlan_numbered n)
numbered_fits n limited = by (n == 0) refl
  where
    by : (b : Bool) → (n == 0) ≡ b → IsVlan (if b then None else Some n)
    by true is = tt
    by false is = record { some = grind (arith, is); limited = limited }

vlan_fits : (tagged : Bool) (frame : List ℕ) → IsVlan (vlan_in tagged frame)
vlan_fits false frame = tt
vlan_fits true frame = numbered_fits (number_at 2 ethernet_len frame % vlan_limit) (omega arith)

pub segments_fit : SegmentsFit
unfolding segment_fields
segments_fit frame are is =
    let told = segment_tests frame is in
    let whole : link_len (is_tagged frame) ≤ length frame = ltb-false (length frame) (link_len (is_tagged frame)) told.short in
    let long : ethernet_len ≤ length frame = omega (arith, whole, link_least (is_tagged frame)) in
    let ip : List ℕ = datagram frame in
    let ip_bytes : AllByRecursion IsByte ip = bytes_left (link_len (is_tagged frame)) frame are in
    let tcp : List ℕ = ip_payload ip in
    let tcp_bytes : AllByRecursion IsByte tcp =
    bytes_taken (total_len ip - header_len ip) (drop (header_len ip) ip) (bytes_left (header_len ip) ip ip_bytes) in
    let fits : (n place : ℕ) (xs : List ℕ) → AllByRecursion IsByte xs → number_at n place xs < 256 ^ n = λ n place xs bytes. big_from-lt 0 n (drop place xs) (byte_at (drop place xs) (bytes_left place xs bytes)) in
    record {
      mac_from = omega (arith, length-take 6 (drop 6 frame), length-drop 6 frame, long);
      mac_to = omega (arith, length-take 6 frame, long);
      vlan = vlan_fits (is_tagged frame) frame;
      from_addr = fits 4 12 ip ip_bytes;
      from_port = fits 2 0 tcp tcp_bytes;
      to_addr = fits 4 16 ip ip_bytes;
      to_port = fits 2 2 tcp tcp_bytes;
      seq = fits 4 4 tcp tcp_bytes;
      differ = differs (sender ip) (receiver ip) told.same_ends;
    }
