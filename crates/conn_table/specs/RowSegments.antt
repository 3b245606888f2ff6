-- What worked rows are made of: two clients, a server, and segments between them.
use Rattle.std.specs.Prelude.{ℕ, [], None}
use Rattle.frame_headers.specs.declared.peers.Peer.{Peer}
use Rattle.conn_table.specs.IndexedSegments.{IndexedSegment}

abbrev pub client : Peer
client = record { addr = 0x0a000001; port = 40000 }

abbrev pub second_client : Peer
second_client = record { addr = 0x0a000003; port = 40001 }

abbrev pub server : Peer
server = record { addr = 0x0a000002; port = 80 }

-- a segment without a payload, whose record's number is its instant, too
abbrev pub row_segment : ℕ → Peer → Peer → ℕ → ℕ → IndexedSegment
row_segment index from to flags seq = record {
  index = index;
  timed = record {
    at = index;
    fields = record { mac_from = []; mac_to = []; vlan = None; from = from; to = to; seq = seq; ack = 0; flags = flags; payload = [] };
  };
}
