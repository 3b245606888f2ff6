-- None of the tests by which a frame has another class holds of a segment.
use Rattle.std.proofs.Common.{◌≡◌, ℕ, Bool, true, false, List, refl, if◌then◌else◌}
use Rattle.frame_headers.specs.Frame.{short, not_ipv4, bad_ipv4, fragment, not_tcp, cut, bad_tcp, same_ends, segment, is_tagged, is_short, is_not_ipv4, is_bad_ipv4, is_fragment, is_not_tcp, is_cut, is_bad_tcp, is_same_ends, frame_class, datagram, ip_payload}

pub record FailsTests (frame : List ℕ) : Type 0 where
  pub short : is_short (is_tagged frame) frame ≡ false
  pub not_ipv4 : is_not_ipv4 (is_tagged frame) frame ≡ false
  pub bad_ipv4 : is_bad_ipv4 (datagram frame) ≡ false
  pub fragment : is_fragment (datagram frame) ≡ false
  pub not_tcp : is_not_tcp (datagram frame) ≡ false
  pub cut : is_cut (datagram frame) ≡ false
  pub bad_tcp : is_bad_tcp (ip_payload (datagram frame)) ≡ false
  pub same_ends : is_same_ends (datagram frame) ≡ false

by_tests : (a b c d e f g h : Bool)
    → (if a then short else if b then not_ipv4 else if c then bad_ipv4 else if d then fragment else if e then not_tcp else if f then cut else if g then bad_tcp else if h then same_ends else segment) ≡ segment
    → (a ≡ false) × (b ≡ false) × (c ≡ false) × (d ≡ false) × (e ≡ false) × (f ≡ false) × (g ≡ false) × (h ≡ false)
by_tests true b c d e f g h is = absurd cc
by_tests false true c d e f g h is = absurd cc
by_tests false false true d e f g h is = absurd cc
by_tests false false false true e f g h is = absurd cc
by_tests false false false false true f g h is = absurd cc
by_tests false false false false false true g h is = absurd cc
by_tests false false false false false false true h is = absurd cc
by_tests false false false false false false false true is = absurd cc
by_tests false false false false false false false false is = (refl, refl, refl, refl, refl, refl, refl, refl)

pub segment_tests : (frame : List ℕ) → frame_class frame ≡ segment → FailsTests frame
unfolding frame_class
segment_tests frame is =
    let told = by_tests (is_short (is_tagged frame) frame) (is_not_ipv4 (is_tagged frame) frame) (is_bad_ipv4 (datagram frame)) (is_fragment (datagram frame)) (is_not_tcp (datagram frame)) (is_cut (datagram frame)) (is_bad_tcp (ip_payload (datagram frame))) (is_same_ends (datagram frame)) is in
    record {
      short = told.0;
      not_ipv4 = told.1;
      bad_ipv4 = told.2;
      fragment = told.3;
      not_tcp = told.4;
      cut = told.5;
      bad_tcp = told.6;
      same_ends = told.7;
    }
