-- Fields in the first bytes of a file and of a record.
use Rattle.std.proofs.Common.{◌≡◌, ◌≤◌, ℕ, zero, suc, ◌+◌, ◌-◌, List, length, take, drop, Option, Some, None, false, nat_lt, refl, ap, ◌∙◌, arith}
use Rattle.std.proofs.lemmas.List.{drop-take, get_or-take}
use Rattle.std.proofs.lemmas.Bool.Decides.{nat_tests}
use Rattle.byteorder.specs.Endian.{big_from, little_from}
use Rattle.pcap_records.specs.declared.heading.Order.{Order}
use Rattle.pcap_records.specs.declared.heading.Order.TheVariants.{Big, Little}
use Rattle.pcap_records.specs.Reading.{Heading, capture_limit, checked_heading, file_header_len, file_heading, magic_heading, number_in, packet_len, record_header_len, stamp_of}

big_first : (m : ℕ) (bytes : List ℕ) (n i : ℕ) → i + n ≤ m → big_from i n (take m bytes) ≡ big_from i n bytes
big_first m bytes zero i within = refl
big_first m bytes (suc n) i within = rw (get_or-take m bytes i 0 (omega arith), big_first m bytes n (suc i) (omega arith)) refl

little_first : (m : ℕ) (bytes : List ℕ) (n i : ℕ) → i + n ≤ m → little_from i n (take m bytes) ≡ little_from i n bytes
little_first m bytes zero i within = refl
little_first m bytes (suc n) i within = rw (get_or-take m bytes i 0 (omega arith), little_first m bytes n (suc i) (omega arith)) refl

first_number : (o : Order) (m n : ℕ) (bytes : List ℕ) → n ≤ m → number_in o n (take m bytes) ≡ number_in o n bytes
first_number Big m n bytes within = big_first m bytes n 0 (omega arith)
first_number Little m n bytes within = little_first m bytes n 0 (omega arith)

-- a field that the first m bytes have whole
pub number_within : (o : Order) (m n k : ℕ) (bytes : List ℕ) → k + n ≤ m → number_in o n (drop k (take m bytes)) ≡ number_in o n (drop k bytes)
number_within o m n k bytes within =
    let split : m ≡ k + (m - k) = omega arith in
    ap (λ j. number_in o n (drop k (take j bytes))) split
    ∙ ap (number_in o n) (drop-take k (m - k) bytes)
    ∙ first_number o (m - k) n (drop k bytes) (omega arith)

pub packet_len_within : (h : Heading) (bytes : List ℕ) → packet_len h (take record_header_len bytes) ≡ packet_len h bytes
packet_len_within h bytes = number_within h.order 16 4 8 bytes (omega arith)

pub stamp_within : (h : Heading) (bytes : List ℕ) → stamp_of h (take record_header_len bytes) ≡ stamp_of h bytes
stamp_within h bytes = rw (number_within h.order 16 4 0 bytes (omega arith), number_within h.order 16 4 4 bytes (omega arith)) refl

magic_within : (bytes : List ℕ) → magic_heading (take file_header_len bytes) ≡ magic_heading bytes
magic_within bytes = rw (number_within Big 24 4 0 bytes (omega arith), number_within Little 24 4 0 bytes (omega arith)) refl

checked_within : (o : Option Heading) (bytes : List ℕ) → checked_heading o (take file_header_len bytes) ≡ checked_heading o bytes
checked_within None bytes = refl
checked_within (Some h) bytes =
    rw (number_within h.order 24 2 4 bytes (omega arith), number_within h.order 24 2 6 bytes (omega arith), number_within h.order 24 4 20 bytes (omega arith)) refl

pub heading_within : (bytes : List ℕ) → checked_heading (magic_heading (take file_header_len bytes)) (take file_header_len bytes) ≡ checked_heading (magic_heading bytes) bytes
heading_within bytes = ap (λ o. checked_heading o (take file_header_len bytes)) (magic_within bytes) ∙ checked_within (magic_heading bytes) bytes

-- the heading of a file that is neither too long nor too short
pub heading_is : (bytes : List ℕ) → length bytes ≤ capture_limit → file_header_len ≤ length bytes → file_heading bytes ≡ checked_heading (magic_heading bytes) bytes
unfolding file_heading
heading_is bytes short long =
    let is_short : nat_lt capture_limit (length bytes) ≡ false = grind (arith, nat_tests) in
    let is_long : nat_lt (length bytes) file_header_len ≡ false = grind (arith, nat_tests) in
    rw (is_short, is_long) refl
