-- When the records of a capture are sent, and when what a line brings has come. A time is none if that never happens.
use Rattle.std.specs.Prelude.{ℕ, zero, suc, ◌+◌, min, max, nat_le, if◌then◌else◌, List, [], ◌∷◌, ◌++◌, map, Option, Some, None, slice_get, option_map, unwrap_or, ◌<◌, ◌≤◌, ◌-◌, replicate, length}
use Rattle.std.specs.Option.{option_flatten}
use Rattle.reassembly.specs.RecordedLines.{Line, End, live, fin, close, reset}
use Rattle.std.specs.List.{AllWithin}
use Rattle.closed_loop.specs.declared.arrivals.Arrival.{Arrival}

-- the time of record i
abbrev pub time_at : List (Option ℕ) → ℕ → Option ℕ
time_at times i = option_flatten (slice_get times i)

-- of a record that is sent
abbrev pub instant_in : List (Option ℕ) → ℕ → ℕ
instant_in times i = unwrap_or (time_at times i) 0

-- the later of two times
abbrev pub later : Option ℕ → Option ℕ → Option ℕ
later None t = None
later (Some a) None = None
later (Some a) (Some b) = Some (max a b)

-- the earlier of two times, if either comes
abbrev pub earlier : Option ℕ → Option ℕ → Option ℕ
earlier None t = t
earlier (Some a) None = Some a
earlier (Some a) (Some b) = Some (min a b)

-- n ticks after a time
abbrev pub after : ℕ → Option ℕ → Option ℕ
after n t = option_map (λ a. a + n) t

-- a time, unless it is past a limit
abbrev pub up_to : ℕ → Option ℕ → Option ℕ
up_to limit None = None
up_to limit (Some t) = if nat_le t limit then Some t else None

-- the instant of a FIN, if a line ends by one
abbrev pub fin_instants : End → List ℕ
fin_instants (fin at) = at ∷ []
fin_instants live = []
fin_instants (close at) = []
fin_instants (reset at) = []

-- when each byte of a line comes, and then its FIN as one byte more
abbrev pub arrivals : Line → List ℕ
arrivals l = map (λ b. b.at) l.bytes ++ fin_instants l.end

-- when the first n of some arrivals have come; the first none have always come
abbrev pub arrival : List ℕ → ℕ → Option ℕ
arrival coming zero = Some 0
arrival coming (suc n) = slice_get coming n

-- ---- arrivals in runs: of bytes that come at one time, how many have come with them

-- when each byte comes, if n came before
abbrev pub spread_from : ℕ → List Arrival → List ℕ
spread_from n [] = []
spread_from n (a ∷ rs) = replicate (a.upto - n) a.at ++ spread_from a.upto rs

abbrev pub spread : List Arrival → List ℕ
spread rs = spread_from 0 rs

-- each brings a byte at least
abbrev pub IsCountedFrom : ℕ → List Arrival → Type 0
IsCountedFrom n [] = Unit {0}
IsCountedFrom n (a ∷ rs) = (n < a.upto) × IsCountedFrom a.upto rs

-- how many bytes have come with the last of some
abbrev pub count_from : ℕ → List Arrival → ℕ
count_from n [] = n
count_from n (a ∷ rs) = count_from a.upto rs

-- the first k come before a number
pub record IsPassed (rs : List Arrival) (k number : ℕ) : Type 0 where
  pub within : k ≤ length rs
  pub before : AllWithin (λ a. a.at < number) rs 0 k
