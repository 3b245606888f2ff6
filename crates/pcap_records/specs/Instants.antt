-- Time: the ticks that instants count; instants, whole ticks from 0 to a horizon; the greatest stamp so far.
use Rattle.std.specs.Prelude.{◌≡◌, ◌≤◌, ℕ, ◌+◌, ◌*◌, ◌/◌, ◌^◌, min, max, List, [], ◌∷◌, length, map, take}
use Rattle.std.specs.List.{range_with_len, slice_range}
use Rattle.pcap_records.specs.declared.unit.Unit.{Unit}
use Rattle.pcap_records.specs.declared.unit.Unit.TheVariants.{Micros, Nanos}

-- ticks of a second, in a capture in microseconds or in nanoseconds
abbrev pub microseconds : ℕ
microseconds = 1000000

abbrev pub nanoseconds : ℕ
nanoseconds = 1000000000

abbrev pub ticks_of : Unit → ℕ
ticks_of Micros = microseconds
ticks_of Nanos = nanoseconds

abbrev pub millisecond : ℕ → ℕ
millisecond ticks = ticks / 1000

abbrev pub microsecond : ℕ → ℕ
microsecond ticks = ticks / 1000000

-- no instant lies past it; its seconds are the first that a field of 32 bits does not hold
abbrev pub horizon : ℕ → ℕ
horizon ticks = 2 ^ 32 * ticks

-- the instant n ticks after 0, or the horizon if n is past it
abbrev pub instant : ℕ → ℕ → ℕ
instant ticks n = min n (horizon ticks)

abbrev pub greatest : List ℕ → ℕ
greatest [] = 0
greatest (n ∷ ns) = max n (greatest ns)

-- the greatest of `carry` and of the stamps from the first to the one at place i
abbrev pub greatest_so_far : ℕ → List ℕ → ℕ → ℕ
greatest_so_far carry stamps i = max carry (greatest (take (i + 1) stamps))

unfoldable pub instants : ℕ → List ℕ → List ℕ
instants carry stamps = map (greatest_so_far carry stamps) (range_with_len 0 (length stamps))

-- if the carry is the greatest stamp before record `from`, the instants from there on are those of the whole file
abbrev pub CarriedIsWhole : Type 0
CarriedIsWhole =
    (stamps : List ℕ) (from to : ℕ) → from ≤ to → to ≤ length stamps
    → instants (greatest (take from stamps)) (slice_range stamps from to) ≡ slice_range (instants 0 stamps) from to
