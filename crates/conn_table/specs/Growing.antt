-- The table of a partial, which grows segment by segment.
use Rattle.std.specs.Prelude.{◌≡◌, ◌<◌, ◌^◌, ℕ, zero, suc, ◌+◌, List, [], ◌∷◌, ◌++◌, map, length, fold, Option, Some, None, Bool, ◌&&◌, not, if◌then◌else◌}
use Rattle.std.specs.Bool.{beq}
use Rattle.std.specs.Option.{option_map}
use Rattle.indexmap.specs.IndexMap.{get}
use Rattle.frame_headers.specs.declared.peers.Peer.{Peer}
use Rattle.conn_table.specs.declared.conns.Pair.{Pair}
use Rattle.conn_table.specs.declared.conns.Member.{Member}
use Rattle.conn_table.specs.declared.conns.Conn.{Conn}
use Rattle.conn_table.specs.declared.entries.Entry.{Entry}
use Rattle.conn_table.specs.declared.last_connections.Current.{Current}
use Rattle.conn_table.specs.declared.growth.Growth.{Growth}
use Rattle.conn_table.specs.IndexedSegments.{same_pair}
use Rattle.conn_table.specs.KeptSegments.{KeptSegment, is_from_low, opens, opening_of, is_again}
use Rattle.conn_table.specs.LastConnections.{IsLasts}
use Rattle.conn_table.specs.Entries.{kept_by}

-- ---- connections

abbrev pub sender_of : KeptSegment → Peer
sender_of k = if is_from_low k then k.pair.low else k.pair.high

abbrev pub receiver_of : KeptSegment → Peer
receiver_of k = if is_from_low k then k.pair.high else k.pair.low

-- a segment as a member; `client_low` says whether the client is the lower peer
abbrev pub member_from : Bool → KeptSegment → Member
member_from client_low k = record k.member { from_client = beq k.member.from_client client_low }

-- the connection of number n that k begins, with no other member yet
abbrev pub conn_with : ℕ → KeptSegment → Conn
conn_with n k = record {
  number = n;
  opening = k.member.index;
  opened = k.member.at;
  vlan = k.pair.vlan;
  client = sender_of k;
  server = receiver_of k;
  members = member_from (is_from_low k) k ∷ [];
}

abbrev pub grown_at : ℕ → Member → List Conn → List Conn
grown_at n x [] = []
grown_at zero x (c ∷ cs) = record c { members = c.members ++ x ∷ [] } ∷ cs
grown_at (suc n) x (c ∷ cs) = c ∷ grown_at n x cs

-- ---- one segment after another

-- the connections of some segments, the number of unopened segments, and the last connection of each pair
pub record GrownView : Type 0 where
  pub conns : List Conn
  pub unopened : ℕ
  pub current : Pair → Option Current

abbrev pub grown_none : GrownView
grown_none = record { conns = []; unopened = 0; current = λ p. None }

-- an opening begins a connection, unless it repeats the one that begins its pair's last connection
abbrev pub begins : Option Current → KeptSegment → Bool
begins last k = opens k && not (is_again (option_map (λ c. c.opening) last) (opening_of k))

abbrev pub grown_begun : GrownView → KeptSegment → GrownView
grown_begun g k = record {
  conns = g.conns ++ conn_with (length g.conns) k ∷ [];
  unopened = g.unopened;
  current = λ p. if same_pair k.pair p then Some (record { number = length g.conns; opening = opening_of k }) else g.current p;
}

-- any other segment belongs to its pair's last connection, or is unopened
abbrev pub grown_plain : Option Current → GrownView → KeptSegment → GrownView
grown_plain None g k = record g { unopened = g.unopened + 1 }
grown_plain (Some c) g k = record g { conns = grown_at c.number (member_from c.opening.from_low k) g.conns }

abbrev pub grown_with : GrownView → KeptSegment → GrownView
grown_with g k = if begins (g.current k.pair) k then grown_begun g k else grown_plain (g.current k.pair) g k

unfoldable pub grown_of : List KeptSegment → GrownView
grown_of ks = fold grown_with grown_none ks

-- ---- what the code has of it

abbrev pub shown_by : Growth → GrownView
shown_by g = record { conns = g.conns.items; unopened = g.unopened; current = λ p. get same_pair g.last_connections.map p }

pub record HasGrown (done : List Entry) (g : Growth) : Type 0 where
  pub shown : shown_by g ≡ grown_of (map kept_by done)
  pub last_connections : IsLasts g.last_connections

-- one more segment may be taken
pub record IsReady (g : Growth) : Type 0 where
  pub last_connections : IsLasts g.last_connections
  pub few : length g.conns.items < 2 ^ 31
  pub few_unopened : g.unopened < 2 ^ 31
  pub placed : (p : Pair) (x : Current) → get same_pair g.last_connections.map p ≡ Some x → x.number < length g.conns.items
