-- The text of a report: ASCII, one space between words, numbers in decimal, each of its lines ended by LF.
use Rattle.std.specs.Prelude.{ℕ, ◌-◌, ◌<◌, ◌/◌, ◌%◌, ◌^◌, List, [], ◌++◌, length, map, codes, Option, Some, None, Bool, true, false}
use Rattle.std.specs.List.{zip, flat_map}
use Rattle.std.specs.Fmt.{decimal}
use Rattle.pcap_records.specs.Instants.{greatest}
use Rattle.frame_headers.specs.declared.peers.Peer.{Peer}
use Rattle.conn_table.specs.SeenCapture.{SeenCapture}
use Rattle.conn_table.specs.ClassCounts.{counts_of}
use Rattle.conn_table.specs.declared.class_counts.Counts.{Counts}
use Rattle.reassembly.specs.RecordedLines.{LineByte, Line, End, live, fin, close, reset, RecordedSide, RecordedConnection}
use Rattle.toxic_defs.specs.DeliveredLines.{DeliveredConnection}

-- ---- the counts line

-- scenario S records N rest R
abbrev pub heading_text : ℕ → ℕ → ℕ → List ℕ
heading_text s records rest =
    codes "scenario " ++ (decimal s ++ (codes " records " ++ (decimal records ++ (codes " rest " ++ decimal rest))))

-- then the number of packets of each class: of the first four
abbrev pub first_classes_text : Counts → List ℕ
first_classes_text n =
    codes " segment " ++ (decimal n.segment ++ (codes " short " ++ (decimal n.short ++ (codes " notipv4 " ++ (decimal n.not_ipv4
    ++ (codes " badipv4 " ++ decimal n.bad_ipv4))))))

-- and of the other five
abbrev pub other_classes_text : Counts → List ℕ
other_classes_text n =
    codes " fragment " ++ (decimal n.fragment ++ (codes " nottcp " ++ (decimal n.not_tcp ++ (codes " cut " ++ (decimal n.cut
    ++ (codes " badtcp " ++ (decimal n.bad_tcp ++ (codes " sameends " ++ (decimal n.same_ends ++ codes "\n")))))))))

abbrev pub counts_text_of : ℕ → ℕ → ℕ → Counts → List ℕ
counts_text_of s records rest n = heading_text s records rest ++ (first_classes_text n ++ other_classes_text n)

unfoldable pub counts_text : ℕ → SeenCapture → List ℕ
counts_text s c = counts_text_of s (length c.packets) c.rest (counts_of c.packets)

-- ---- the connections line

unfoldable pub connections_text : ℕ → ℕ → List ℕ
connections_text connections unopened =
    codes "connections " ++ (decimal connections ++ (codes " unopened " ++ (decimal unopened ++ codes "\n")))

-- ---- a connection's line

-- a.b.c.d:port
abbrev pub peer_text : Peer → List ℕ
peer_text p =
    decimal (p.addr / 2 ^ 24) ++ (codes "." ++ (decimal (p.addr / 2 ^ 16 % 256) ++ (codes "." ++ (decimal (p.addr / 256 % 256)
    ++ (codes "." ++ (decimal (p.addr % 256) ++ (codes ":" ++ decimal p.port)))))))

abbrev pub proxy_text : Option ℕ → List ℕ
proxy_text None = codes "-"
proxy_text (Some n) = decimal n

-- the end, with its ticks since the connection was opened
abbrev pub end_text : ℕ → End → List ℕ
end_text opened live = codes "open"
end_text opened (fin at) = codes "fin+" ++ decimal (at - opened)
end_text opened (close at) = codes "close+" ++ decimal (at - opened)
end_text opened (reset at) = codes "reset+" ++ decimal (at - opened)

-- "refused" stands for the end of a refused connection
abbrev pub end_word : Bool → ℕ → End → List ℕ
end_word true opened e = codes "refused"
end_word false opened e = end_text opened e

-- the longest that a delivered byte was held back
abbrev pub longest_delay : List LineByte → List LineByte → ℕ
longest_delay recorded delivered = greatest (map (λ (r, d). d.at - r.at) (zip recorded delivered))

-- delivered, recorded and lost bytes, the end, and the longest delay
abbrev pub side_text : ℕ → Bool → RecordedSide → Line → List ℕ
side_text opened refused s f =
    decimal (length f.bytes) ++ (codes "/" ++ (decimal (length s.line.bytes) ++ (codes "/" ++ (decimal s.lost
    ++ (codes " " ++ (end_word refused opened f.end ++ (codes " max " ++ decimal (longest_delay s.line.bytes f.bytes))))))))

-- the VLAN, if there is one
abbrev pub vlan_text : Option ℕ → List ℕ
vlan_text None = []
vlan_text (Some n) = codes " vlan " ++ decimal n

-- proxy P, after vlan V if there is one
abbrev pub met_text : Option ℕ → Option ℕ → List ℕ
met_text vlan proxy = vlan_text vlan ++ (codes " proxy " ++ proxy_text proxy)

-- number client > server, then the VLAN and the proxy
abbrev pub peers_text : ℕ → Option ℕ → Peer → Peer → Option ℕ → List ℕ
peers_text number vlan client server proxy =
    decimal number ++ (codes " " ++ (peer_text client ++ (codes " > " ++ (peer_text server ++ met_text vlan proxy))))

-- the connection of a number between a client and a server, in a VLAN or in none
unfoldable pub connection_text : ℕ → Option ℕ → Peer → Peer → RecordedConnection → DeliveredConnection → List ℕ
connection_text number vlan client server r d =
    peers_text number vlan client server d.proxy
    ++ (codes " up " ++ (side_text r.opened d.refused r.up d.up ++ (codes " down " ++ (side_text r.opened d.refused r.down d.down ++ codes "\n"))))

-- ---- lines that a report can describe

-- the lines of the client and of the server have fewer than 2^32 bytes, as the report's writer needs
pub record AreShort (client server : Line) : Type 0 where
  pub up : length client.bytes < 2 ^ 32
  pub down : length server.bytes < 2 ^ 32

-- ---- a report

-- the report of scenario s: the counts of the capture c, and the connections with their lines
unfoldable pub report_text : ℕ → SeenCapture → ℕ → List (List ℕ) → List ℕ
report_text s c unopened lines = counts_text s c ++ (connections_text (length lines) unopened ++ flat_map (λ line. line) lines)
