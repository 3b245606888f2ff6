-- What of a pair is fed to a hasher: two words, from which it could be read back.
use Rattle.std.specs.Prelude.{ℕ, ◌+◌, ◌*◌, ◌^◌, Option, None, Some, ◌++◌}
use Rattle.std.specs.Hash as fed
use Rattle.conn_table.specs.declared.conns.Pair.{Pair}

abbrev pub vlan_number : Option ℕ → ℕ
vlan_number None = 0
vlan_number (Some v) = v + 1

-- no proof needs more of a word than that equal pairs have the same
unfoldable pub addrs_word : Pair → ℕ
addrs_word p = p.low.addr * 2 ^ 32 + p.high.addr

unfoldable pub ports_word : Pair → ℕ
ports_word p = vlan_number p.vlan * 2 ^ 32 + p.low.port * 2 ^ 16 + p.high.port

abbrev pub pair_words : Pair → fed.HashWrites
pair_words p = fed.u64 (addrs_word p) ++ fed.u64 (ports_word p)
