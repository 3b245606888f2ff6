-- A write to all of a list after its first elements.
use Rattle.std.proofs.Common.{◌≡◌, ℕ, ◌+◌, ◌-◌, ◌≤◌, List, [], ◌++◌, length, take, drop, is_some, refl, sym, ap, ◌∙◌, arith, append-nil, append_assoc, length-append, length-drop, take_all, take_at, drop_at, drop-drop}
use Rattle.std.proofs.lemmas.List.{drop_all}
use borrow.Rule.Slice.PartMut.{put_mid}
use Rattle.byteorder.specs.Endian.{big_bytes}
use Rattle.frame_headers.specs.Sum.{tcp_sum}
use Rattle.frame_headers.specs.Headers.{ethernet, headers, ipv4, tcp, tcp_with}
use Rattle.frame_headers.specs.declared.written.Header.{Header}
use Rattle.frame_headers.specs.Layout.{link_len, ipv4_len, headers_len}

abbrev pub left_from : ℕ → List ℕ → List ℕ
left_from a xs = take (length xs - a) (drop a xs)

pub left_from-append : (front rest : List ℕ) (a : ℕ) → length front ≡ a → left_from a (front ++ rest) ≡ rest
left_from-append front rest a e =
    rw (drop_at front rest a e) (take_all (length (front ++ rest) - a) rest (omega (arith, length-append front rest)))

-- a write to it leaves the first elements, and nothing stands after it
pub put_mid-append : (front rest new : List ℕ) (a : ℕ) → length front ≡ a → put_mid a (length (front ++ rest) - a) (front ++ rest) new ≡ front ++ new
put_mid-append front rest new a e =
    let nothing : drop (length (front ++ rest) - a) rest ≡ [] = drop_all (length (front ++ rest) - a) rest (omega (arith, length-append front rest)) in
    rw (take_at front rest a e, drop_at front rest a e, nothing, append-nil new) refl

pub addresses_put : (to from xs : List ℕ) → length to ≡ 6 → length from ≡ 6 → put_mid 6 6 (to ++ drop 6 xs) from ≡ (to ++ from) ++ drop 12 xs
addresses_put to from xs t f =
    rw (take_at to (drop 6 xs) 6 t, drop_at to (drop 6 xs) 6 t, drop-drop 6 6 xs) (sym (append_assoc to from (drop 12 xs)))

pub ethernet_put : (to from xs ys rest link : List ℕ) (l : ℕ) → length to ≡ 6 → length from ≡ 6 → ys ≡ put_mid 6 6 (to ++ drop 6 xs) from → rest ≡ link ++ drop l (left_from 12 ys) → put_mid 12 (length ys - 12) ys rest ≡ ((to ++ from) ++ link) ++ drop (12 + l) xs
ethernet_put to from xs ys rest link l t f e g =
    let len : length (to ++ from) ≡ 12 = omega (arith, length-append to from) in
    rw (g, e, addresses_put to from xs t f, left_from-append (to ++ from) (drop 12 xs) 12 len, put_mid-append (to ++ from) (drop 12 xs) (link ++ drop l (drop 12 xs)) 12 len, drop-drop l 12 xs)
    (sym (append_assoc (to ++ from) link (drop (12 + l) xs)))

pub tcp_put : (h : Header) (xs head two : List ℕ) (sum : ℕ) → head ≡ tcp_with 0 h ++ drop 20 xs → sum ≡ tcp_sum h.from.addr h.to.addr head → two ≡ big_bytes 2 sum ++ drop 2 (left_from 16 head) → put_mid 16 (length head - 16) head two ≡ tcp h (drop 20 xs) ++ drop 20 xs
unfolding tcp
tcp_put h xs head two sum e s g =
    let first : List ℕ = take 16 (tcp_with 0 h) in
    let split : tcp_with 0 h ++ drop 20 xs ≡ first ++ (big_bytes 2 0 ++ (big_bytes 2 0 ++ drop 20 xs)) = refl in
    rw (g, s, e, split, left_from-append first (big_bytes 2 0 ++ (big_bytes 2 0 ++ drop 20 xs)) 16 refl) (put_mid-append first (big_bytes 2 0 ++ (big_bytes 2 0 ++ drop 20 xs)) _ 16 refl ∙ refl)

length-ipv4 : (h : Header) (n : ℕ) → length (ipv4 h n) ≡ 20
unfolding ipv4
length-ipv4 h n = refl

pub headers_put : (h : Header) (n l : ℕ) (xs link ip frame segment : List ℕ) → l ≡ link_len (is_some h.vlan) → headers_len h.vlan ≤ length xs → length link ≡ length xs → n ≡ length xs - (l + ipv4_len) → link ≡ ethernet h ++ drop (link_len (is_some h.vlan)) xs → ip ≡ ipv4 h n ++ drop 20 (left_from l link) → frame ≡ put_mid l (length link - l) link ip → segment ≡ tcp h (drop 20 (left_from (l + ipv4_len) frame)) ++ drop 20 (left_from (l + ipv4_len) frame) → put_mid (l + ipv4_len) (length frame - (l + ipv4_len)) frame segment ≡ headers h (drop (headers_len h.vlan) xs) ++ drop (headers_len h.vlan) xs
unfolding headers
headers_put h n l xs link ip frame segment is room same count e i f s =
    let all : ℕ = l + ipv4_len + 20 in
    let e_l : link ≡ ethernet h ++ drop l xs = rw is e in
    let len : length (ethernet h) ≡ l = omega (arith, length-append (ethernet h) (drop l xs), length-drop l xs, ap length e_l, is) in
    let head : List ℕ = ethernet h ++ ipv4 h n in
    let head_len : length head ≡ l + ipv4_len = omega (arith, length-append (ethernet h) (ipv4 h n), length-ipv4 h n, len) in
    let ip_is : ip ≡ ipv4 h n ++ drop (l + ipv4_len) xs = i ∙ rw (e_l, left_from-append (ethernet h) (drop l xs) l len, drop-drop 20 l xs) refl in
    let frame_is : frame ≡ head ++ drop (l + ipv4_len) xs =
    f ∙ rw (ip_is, e_l, put_mid-append (ethernet h) (drop l xs) (ipv4 h n ++ drop (l + ipv4_len) xs) l len) (sym (append_assoc (ethernet h) (ipv4 h n) (drop (l + ipv4_len) xs))) in
    let segment_is : segment ≡ tcp h (drop all xs) ++ drop all xs = s ∙ rw (frame_is, left_from-append head (drop (l + ipv4_len) xs) (l + ipv4_len) head_len, drop-drop 20 (l + ipv4_len) xs) refl in
    let number_at : n ≡ 20 + length (drop all xs) = omega (arith, length-drop all xs, is) in
    let made : put_mid (l + ipv4_len) (length frame - (l + ipv4_len)) frame segment ≡ headers h (drop all xs) ++ drop all xs =
    rw (segment_is, frame_is, put_mid-append head (drop (l + ipv4_len) xs) (tcp h (drop all xs) ++ drop all xs) (l + ipv4_len) head_len, number_at) (sym (append_assoc _ (tcp h (drop all xs)) (drop all xs))) in
    made ∙ ap (λ k. headers h (drop (k + ipv4_len + 20) xs) ++ drop (k + ipv4_len + 20) xs) is
