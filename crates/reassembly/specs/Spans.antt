-- Spans: bytes from a position on, and when they were captured; and what a list of spans has for each position.
use Rattle.std.specs.Prelude.{◌≡◌, ◌≤◌, ◌<◌, ◌^◌, ℕ, ◌+◌, ◌-◌, List, [], ◌∷◌, map, length, take, drop, Option, None, is_some, true, option_map, slice_get, nat_le, if◌then◌else◌}
use Rattle.std.specs.List.{AllByRecursion}
use Rattle.std.specs.Option.{option_or}
use Rattle.reassembly.specs.declared.patches.Patch.{Patch}

pub record Span : Type 0 where
  pub from : ℕ
  pub at : ℕ
  pub bytes : List ℕ

pub record TimedByte : Type 0 where
  pub value : ℕ
  pub at : ℕ

-- no position of a connection's bytes reaches it
abbrev pub limit : ℕ
limit = 2 ^ 33

abbrev pub end_of : Span → ℕ
end_of p = p.from + length p.bytes

-- what a span has for position x
abbrev pub byte_in : Span → ℕ → Option TimedByte
byte_in p x =
    if nat_le p.from x then option_map (λ b. record { value = b; at = p.at }) (slice_get p.bytes (x - p.from)) else None

-- what the first span that covers position x has for it
abbrev pub first_byte : List Span → ℕ → Option TimedByte
first_byte [] x = None
first_byte (p ∷ ps) x = option_or (byte_in p x) (first_byte ps x)

-- what two lists have for position x; the first one counts
abbrev pub layered_byte : List Span → List Span → ℕ → Option TimedByte
layered_byte upper lower x = option_or (first_byte upper x) (first_byte lower x)

abbrev pub span_below : ℕ → Span → Span
span_below n p = record { from = p.from; at = p.at; bytes = take (n - p.from) p.bytes }

abbrev pub span_from : ℕ → Span → Span
span_from n p = record { from = p.from + (n - p.from); at = p.at; bytes = drop (n - p.from) p.bytes }

-- no span, if it has no bytes
abbrev pub with_bytes : Span → List ℕ → List Span
with_bytes p [] = []
with_bytes p (b ∷ bytes) = p ∷ []

abbrev pub unless_empty : Span → List Span
unless_empty p = with_bytes p p.bytes

-- the positions of a list's first span from `floor` on, and its other spans
abbrev pub spans_from : ℕ → List Span → List Span
spans_from floor [] = []
spans_from floor (r ∷ rs) = span_from floor r ∷ rs

-- none is empty, none begins before `low` or before the end of the one before it, and the last ends by `high`
abbrev pub AreOrdered : ℕ → List Span → ℕ → Type 0
AreOrdered low [] high = low ≤ high
AreOrdered low (p ∷ ps) high = (low ≤ p.from) × (0 < length p.bytes) × AreOrdered (end_of p) ps high

-- none is empty, and all end by the limit
abbrev pub IsNear : Span → Type 0
IsNear p = (0 < length p.bytes) × (end_of p ≤ limit)

abbrev pub AreNear : List Span → Type 0
AreNear ps = AllByRecursion IsNear ps

-- ---- a pass over a side's spans

-- `whole` is in order, ends by `high`, and has each position from `since` on; `late` may fill its gaps, and ends by `high`
pub record Taken (whole late : List Span) (since high : ℕ) : Type 0 where
  pub ordered : AreOrdered 0 whole high
  pub placed : AreNear late
  pub near : high ≤ limit
  pub run : since ≤ high
  pub under : (x : ℕ) → high ≤ x → first_byte late x ≡ None
  pub full : (x : ℕ) → since ≤ x → x < high → is_some (first_byte whole x) ≡ true

-- ---- of the code

abbrev pub span_of : Patch → Span
span_of p = record { from = p.from; at = p.at; bytes = p.bytes.now }

abbrev pub spans : List Patch → List Span
spans ps = map span_of ps
