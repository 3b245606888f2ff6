-- The Internet checksum (RFC 1071 section 1, RFC 791 section 3.1), and TCP's, with a pseudo header (RFC 9293 section 3.1).
use Rattle.std.specs.Prelude.{ℕ, ◌+◌, ◌-◌, ◌*◌, ◌%◌, List, [], ◌∷◌, ◌++◌, length, ◌==◌, if◌then◌else◌}
use Rattle.byteorder.specs.Endian.{big_bytes}
use Rattle.frame_headers.specs.Layout.{tcp_protocol}

-- the sum of the 16-bit words, the high byte of each first; an odd last byte is padded with a zero byte
abbrev pub words_sum : List ℕ → ℕ
words_sum [] = 0
words_sum (b ∷ []) = 256 * b
words_sum (high ∷ low ∷ bytes) = (256 * high + low) + words_sum bytes

-- a sum in one's complement of 16 bits: 0 for 0, else the number from 1 to 65535 that is equal to it modulo 65535
abbrev pub folded_sum : ℕ → ℕ
folded_sum sum = if sum == 0 then 0 else (sum - 1) % 65535 + 1

abbrev pub sum16 : List ℕ → ℕ
sum16 bytes = 65535 - folded_sum (words_sum bytes)

abbrev pub pseudo_header : ℕ → ℕ → ℕ → List ℕ
pseudo_header from to n = ((big_bytes 4 from ++ big_bytes 4 to) ++ big_bytes 2 tcp_protocol) ++ big_bytes 2 n

unfoldable pub tcp_sum : ℕ → ℕ → List ℕ → ℕ
tcp_sum from to tcp = sum16 (pseudo_header from to (length tcp) ++ tcp)
