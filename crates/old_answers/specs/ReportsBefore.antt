-- The lines of a report before frames with a tag: the definitions of then, word for word.
use Rattle.std.specs.Prelude.{ℕ, List, ◌++◌, codes, Option}
use Rattle.std.specs.Fmt.{decimal}
use Rattle.frame_headers.specs.declared.peers.Peer.{Peer}
use Rattle.reassembly.specs.RecordedLines.{RecordedConnection}
use Rattle.toxic_defs.specs.DeliveredLines.{DeliveredConnection}
use Rattle.report.specs.ReportText.{peer_text, proxy_text, side_text}

abbrev pub peers_text_before : ℕ → Peer → Peer → Option ℕ → List ℕ
peers_text_before number client server proxy =
    decimal number ++ (codes " " ++ (peer_text client ++ (codes " > " ++ (peer_text server ++ (codes " proxy " ++ proxy_text proxy)))))

unfoldable pub connection_text_before : ℕ → Peer → Peer → RecordedConnection → DeliveredConnection → List ℕ
connection_text_before number client server r d =
    peers_text_before number client server d.proxy
    ++ (codes " up " ++ (side_text r.opened d.refused r.up d.up ++ (codes " down " ++ (side_text r.opened d.refused r.down d.down ++ codes "\n"))))
