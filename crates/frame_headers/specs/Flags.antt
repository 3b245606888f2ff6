-- The flags byte of a TCP header (RFC 9293 section 3.1), as the number of that byte.
use Rattle.std.specs.Prelude.{ℕ, Bool, bit_and, ◌==◌}

abbrev pub fin_flag : ℕ
fin_flag = 1

abbrev pub syn_flag : ℕ
syn_flag = 2

abbrev pub rst_flag : ℕ
rst_flag = 4

abbrev pub psh_flag : ℕ
psh_flag = 8

abbrev pub ack_flag : ℕ
ack_flag = 16

-- each bit of the flag is set among the flags
abbrev pub has_flag : ℕ → ℕ → Bool
has_flag flags flag = bit_and flags flag == flag
