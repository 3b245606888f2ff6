-- The text of a capture, and dumps: bytes written as pairs of hexadecimal digits in either case, the higher digit first, with blanks anywhere.
use Rattle.std.specs.Prelude.{◌≡◌, ℕ, ◌+◌, ◌*◌, ◌<◌, ◌%◌, ◌==◌, ◌||◌, ◌⊎◌, not, Bool, false, List, [], ◌∷◌, length, slice_get, position, count_by, filter}
use Rattle.std.specs.Prelude.{if◌then◌else◌, Option, Some, None, Result, Ok, Err}
use Rattle.run_files.specs.Words.{result_unwrap_or, IsBytes, decode_of, encode_lower, encode_upper, is_hex_digit, pair_value}
use Rattle.run_files.specs.declared.error.RunFault.{RunFault}
use Rattle.run_files.specs.declared.error.RunFault.TheVariants.{BadDump}
use Rattle.run_files.specs.declared.dumps.TextBytes.{TextBytes}
use Rattle.run_files.specs.declared.dumps.TextBytes.TheVariants.{InBlocks, Lent, Whole}

-- a tab, a line feed, a carriage return or a space
abbrev pub is_blank : ℕ → Bool
is_blank b = b == 9 || b == 10 || b == 13 || b == 32

abbrev pub is_foreign : ℕ → Bool
is_foreign b = not (is_blank b || is_hex_digit b)

abbrev pub without_blanks : List ℕ → List ℕ
without_blanks text = filter (λ b. not (is_blank b)) text

abbrev pub dumped_bytes : List ℕ → List ℕ
dumped_bytes text = result_unwrap_or (decode_of (without_blanks text)) []

-- by the place of the first foreign byte, if there is one; after the last byte if the number of digits is odd
abbrev pub dump_reading_from : Option ℕ → List ℕ → Result (List ℕ) RunFault
dump_reading_from (Some at) text = Err (BadDump at)
dump_reading_from None text = if count_by is_hex_digit text % 2 == 1 then Err (BadDump (length text)) else Ok (dumped_bytes text)

unfoldable pub dump_reading : List ℕ → Result (List ℕ) RunFault
dump_reading text = dump_reading_from (position is_foreign text) text

-- each byte that a table holds is the one that hex makes of its place's pair
abbrev pub HoldsPairs : List (Option ℕ) → Type 0
HoldsPairs pairs = (high low byte : ℕ) → low < 256 → slice_get pairs (high * 256 + low) ≡ Some (Some byte) → pair_value high low 0 ≡ Ok byte

-- the first two digits of a text make a byte, and the others are those of the rest
abbrev pub BeginsWith : List ℕ → ℕ → List ℕ → Type 0
BeginsWith text byte left = (high : ℕ) × (low : ℕ) × (without_blanks text ≡ high ∷ low ∷ without_blanks left) × (pair_value high low 0 ≡ Ok byte)

-- the digits of some bytes, all in lower or all in upper case, with any blanks, are a dump of these bytes
abbrev pub ReadsBack : Type 0
ReadsBack = (bytes text : List ℕ) → IsBytes bytes
    → (without_blanks text ≡ encode_lower bytes) ⊎ (without_blanks text ≡ encode_upper bytes)
    → dump_reading text ≡ Ok bytes

-- a dump's bytes are those that hex decodes: `dumped_bytes` has its default only for a text that is none
abbrev pub AreDecoded : Type 0
AreDecoded = (bytes text : List ℕ) → dump_reading text ≡ Ok bytes → decode_of (without_blanks text) ≡ Ok bytes

-- a text is taken for a dump if its first byte is a hexadecimal digit
abbrev pub is_dump : List ℕ → Bool
is_dump [] = false
is_dump (b ∷ _) = is_hex_digit b

-- ---- the bytes of the text of a capture

abbrev pub bytes_of_text : TextBytes → List ℕ
bytes_of_text (Whole bytes) = bytes.items
bytes_of_text (Lent bytes) = bytes.now
bytes_of_text (InBlocks blocks) = blocks

abbrev pub BlocksAreNoDump : TextBytes → Type 0
BlocksAreNoDump (Whole bytes) = Unit {0}
BlocksAreNoDump (Lent bytes) = Unit {0}
BlocksAreNoDump (InBlocks blocks) = is_dump blocks ≡ false
