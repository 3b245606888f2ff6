-- A checksum in its own place makes the sum of all 0.
use Rattle.std.proofs.Common.{◌≡◌, ℕ, ◌+◌, ◌-◌, ◌%◌, ◌<◌, List, ◌++◌, length, false, eqb, refl, arith}
use Rattle.std.proofs.lemmas.Bool.{ne_eqb}
use Rattle.frame_headers.specs.Sum.{sum16, words_sum, folded_sum, pseudo_header, tcp_sum}
use Rattle.frame_headers.specs.Headers.{ipv4, ipv4_with, tcp, tcp_with}
use Rattle.frame_headers.specs.declared.written.Header.{Header}

folded_sum-pos : (n : ℕ) → 0 < n → folded_sum n ≡ (n - 1) % 65535 + 1
folded_sum-pos n h = let e : eqb n 0 ≡ false = ne_eqb n 0 (omega arith) in rw e refl

-- words that are not all 0, and the complement of their sum
pub complement_added : (words : ℕ) → 0 < words → 65535 - folded_sum (words + (65535 - folded_sum words)) ≡ 0
complement_added words h =
    let first = folded_sum-pos words h in
    let all = folded_sum-pos (words + (65535 - folded_sum words)) (omega arith) in
    omega arith

complement-below : (words : ℕ) → 65535 - folded_sum words < 65536
complement-below words = omega arith

ipv4_words : (sum : ℕ) (h : Header) (n : ℕ) → sum < 65536 → words_sum (ipv4_with sum h n) ≡ words_sum (ipv4_with 0 h n) + sum
ipv4_words sum h n b = omega arith

ipv4_above : (h : Header) (n : ℕ) → 0 < words_sum (ipv4_with 0 h n)
ipv4_above h n = omega arith

pub sum16-ipv4 : (h : Header) (n : ℕ) → sum16 (ipv4 h n) ≡ 0
unfolding ipv4
sum16-ipv4 h n =
    let words : ℕ = words_sum (ipv4_with 0 h n) in
    rw (ipv4_words (65535 - folded_sum words) h n (complement-below words)) (complement_added words (ipv4_above h n))

tcp_words : (sum : ℕ) (h : Header) (from to n : ℕ) (payload : List ℕ) → sum < 65536 → words_sum (pseudo_header from to n ++ (tcp_with sum h ++ payload)) ≡ words_sum (pseudo_header from to n ++ (tcp_with 0 h ++ payload)) + sum
tcp_words sum h from to n payload b = omega arith

tcp_above : (h : Header) (from to n : ℕ) (payload : List ℕ) → 0 < words_sum (pseudo_header from to n ++ (tcp_with 0 h ++ payload))
tcp_above h from to n payload = omega arith

pub tcp_sum-tcp : (h : Header) (payload : List ℕ) → tcp_sum h.from.addr h.to.addr (tcp h payload ++ payload) ≡ 0
unfolding tcp tcp_sum
tcp_sum-tcp h payload =
    let n : ℕ = length (tcp_with 0 h ++ payload) in
    let words : ℕ = words_sum (pseudo_header h.from.addr h.to.addr n ++ (tcp_with 0 h ++ payload)) in
    rw (tcp_words (65535 - folded_sum words) h h.from.addr h.to.addr n payload (complement-below words)) (complement_added words (tcp_above h h.from.addr h.to.addr n payload))
