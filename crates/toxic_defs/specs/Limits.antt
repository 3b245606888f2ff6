-- Limits of what a toxic takes, and of a direction's toxics.
use Rattle.std.specs.Prelude.{ℕ}

-- the greatest latency, jitter, delay, timeout and average size of slices
abbrev pub greatest_attribute : ℕ
greatest_attribute = 1000000000

-- the greatest rate, in KB a second
abbrev pub greatest_rate : ℕ
greatest_rate = 1000000

-- the greatest limit of bytes
abbrev pub greatest_limit : ℕ
greatest_limit = 1000000000000

-- the greatest `ppm`: a toxic with it applies to every connection
abbrev pub million : ℕ
million = 1000000

-- the greatest number of toxics in a direction
abbrev pub most_toxics : ℕ
most_toxics = 8
