-- Random words: the outputs of a generator (PCG XSH RR, of 64 bits of state) that is made from a key.
use Rattle.std.specs.Prelude.{◌≡◌, ℕ, zero, suc, ◌+◌, ◌*◌, ◌/◌, ◌%◌, ◌^◌, bit_xor}
use Rattle.std.specs.Int.{w32, rotate_right}
use Rattle.rand_pcg.specs.Lcg.{Lcg}
use Rattle.toxic_defs.specs.declared.words.Direction.{Direction}
use Rattle.toxic_defs.specs.declared.words.Direction.TheVariants.{Up, Down}
use Rattle.toxic_defs.specs.declared.words.Key.{Key}

-- ---- the generator

abbrev pub multiplier : ℕ
multiplier = 6364136223846793005

-- each step multiplies the state and adds the increment, on 64 bits; the first state is one step after the seed
unfoldable pub state : ℕ → ℕ → ℕ → ℕ
state seed increment zero = ((seed + increment) * multiplier + increment) % 2 ^ 64
state seed increment (suc k) = (state seed increment k * multiplier + increment) % 2 ^ 64

-- the high bits of a state, folded to 32 and rotated by the highest five
abbrev pub output : ℕ → ℕ
output x = rotate_right w32 (bit_xor (x / 2 ^ 18) x / 2 ^ 27 % 2 ^ 32) (x / 2 ^ 59)

-- ---- words by a key

abbrev pub direction_number : Direction → ℕ
direction_number Up = 0
direction_number Down = 1

-- a stream for each scenario s, connection c, direction d and toxic t, by their numbers; d is 0 for up, 1 for down
abbrev pub stream_of : Key → ℕ
stream_of key = key.s * 2 ^ 30 + key.c * 16 + key.d * 8 + key.t

-- the increment of a stream is odd
abbrev pub increment_of_key : Key → ℕ
increment_of_key key = 2 * stream_of key + 1

unfoldable pub word_of : Key → ℕ → ℕ
word_of key k = output (state key.seed (increment_of_key key) k)

-- a generator that gives word k of the key next
pub record StandsAt (words : Lcg) (key : Key) (k : ℕ) : Type 0 where
  pub state : words.state ≡ state key.seed (increment_of_key key) k
  pub increment : words.increment ≡ increment_of_key key
