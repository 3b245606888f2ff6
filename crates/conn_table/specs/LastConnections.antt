-- The last connection of each pair, and the slots of the pairs that were looked up last.
use Rattle.std.specs.Prelude.{◌≡◌, ◌<◌, ℕ, ◌+◌, ◌-◌, ◌*◌, ◌/◌, ◌%◌, ◌^◌, bit_and, length, Option, Some, None, slice_get, if◌then◌else◌}
use Rattle.indexmap.specs.IndexMap.{get}
use Rattle.conn_table.specs.declared.conns.Pair.{Pair}
use Rattle.conn_table.specs.declared.last_connections.Current.{Current}
use Rattle.conn_table.specs.declared.last_connections.Recent.{Recent}
use Rattle.conn_table.specs.declared.last_connections.LastConnections.{LastConnections}
use Rattle.conn_table.specs.IndexedSegments.{same_pair}
use Rattle.conn_table.specs.PairWords.{addrs_word, ports_word}

-- The slot of a pair among n, a power of two: upper bits of a product, as in Fibonacci hashing. Proofs need only that a pair has one.
unfoldable pub slot_of : ℕ → Pair → ℕ
slot_of n p = bit_and (((addrs_word p + ports_word p) % 2 ^ 64 * 0x9e37_79b9_7f4a_7c15) % 2 ^ 64 / 2 ^ 32) (n - 1)

abbrev pub current_in : Option Recent → Pair → Option Current
current_in None p = None
current_in (Some r) p = if same_pair r.pair p then Some r.current else None

-- slot i is that of the pair in it, and has the connection that the map has for the pair
pub record IsSlot (last : LastConnections) (i : ℕ) (r : Recent) : Type 0 where
  pub slot : slot_of (length last.recent.items) r.pair ≡ i
  pub current : get same_pair last.map r.pair ≡ Some r.current

pub record IsLasts (last : LastConnections) : Type 0 where
  pub some : 0 < length last.recent.items
  pub slots : (i : ℕ) (r : Recent) → slice_get last.recent.items i ≡ Some (Some r) → IsSlot last i r
