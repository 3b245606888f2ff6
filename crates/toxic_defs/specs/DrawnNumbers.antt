-- Numbers that are drawn for the chunks and slices of a line.
use Rattle.std.specs.Prelude.{◌≡◌, ℕ, ◌+◌, ◌*◌, ◌%◌, Option, Some, None}
use Rattle.toxic_defs.specs.RandomWords.{word_of, StandsAt}
use Rattle.toxic_defs.specs.declared.words.Key.{Key}
use Rattle.toxic_defs.specs.declared.words.Draws.{Draws}
use Rattle.toxic_defs.specs.declared.drawn_numbers.Spread.{Spread}

-- a number from 0 to twice the spread, by word k
abbrev pub drawn : Key → ℕ → ℕ → ℕ
drawn key spread k = word_of key k % (2 * spread + 1)

abbrev pub StandsNext : Option Draws → Key → ℕ → ℕ → Type 0
StandsNext None key spread k = spread ≡ 0
StandsNext (Some draws) key spread k = StandsAt draws.words key k

-- word k gives the next number; without a spread all are 0, and no word is drawn
pub record GivesNext (s : Spread) (key : Key) (spread k : ℕ) : Type 0 where
  pub same : s.spread ≡ spread
  pub stands : StandsNext s.draws key spread k
