-- Files in blocks: the bytes that blocks hold, and how a file grows by a part that was loaded. After its own bytes each block has the first
-- of the next one, so that a record that begins in it lies in it whole.
use Rattle.std.specs.Prelude.{◌≡◌, ◌<◌, ℕ, ◌+◌, ◌-◌, ◌*◌, ◌^◌, ◌++◌, nat_lt, if◌then◌else◌, List, [], ◌∷◌, length, take, drop, get_or, set}
use Rattle.std.specs.List.{flat_map}

-- the number of bytes that are a block's own; the last block may have fewer
abbrev pub block_len : ℕ
block_len = 2 ^ 23

-- the most bytes of a record: a header of 16, and a packet
abbrev pub slice_limit : ℕ
slice_limit = 262160

-- the most bytes of a block: its own, and those of a record that begins at the last of them
unfoldable pub block_room : ℕ
block_room = block_len + slice_limit

abbrev pub block_limit : ℕ
block_limit = 2 ^ 7

abbrev pub bytes_in : List (List ℕ) → List ℕ
bytes_in blocks = flat_map (take block_len) blocks

-- each block has its own bytes of the file, and after them at most `slice_limit` more, as far as the file goes
abbrev pub AreBlocks : List (List ℕ) → Type 0
AreBlocks blocks = (k : ℕ) → k < length blocks → get_or blocks k [] ≡ take block_room (drop (k * block_len) (bytes_in blocks))

pub record IsInBlocks (len : ℕ) (blocks : List (List ℕ)) : Type 0 where
  pub counted : len ≡ length (bytes_in blocks)
  pub each : AreBlocks blocks

-- the bytes of a file that was loaded in parts: one with fewer bytes than a block ends it
unfoldable pub bytes_until_short : List (List ℕ) → List ℕ
bytes_until_short [] = []
bytes_until_short (part ∷ parts) = if nat_lt (length part) block_len then part else part ++ bytes_until_short parts

abbrev pub with_last_extended : List (List ℕ) → List ℕ → List (List ℕ)
with_last_extended blocks bytes = set blocks (length blocks - 1) (get_or blocks (length blocks - 1) [] ++ bytes)

pub record AreFull (blocks : List (List ℕ)) : Type 0 where
  pub each : AreBlocks blocks
  pub full : length (bytes_in blocks) ≡ length blocks * block_len

pub record IsGrown (old : List (List ℕ)) (part : List ℕ) (new : List (List ℕ)) : Type 0 where
  pub each : AreBlocks new
  pub bytes : bytes_in new ≡ bytes_in old ++ part
  pub one_more : length new ≡ length old + 1
