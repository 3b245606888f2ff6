-- A connection without a VLAN contributes what it did before frames with a tag.
use Rattle.std.proofs.Common.{◌≡◌, ℕ, Bool, true, false, ◌++◌, List, [], ◌∷◌, map, Option, None, refl, ap, ap₂, ◌∙◌}
use Rattle.std.specs.List.{enumerate_from}
use Rattle.frame_headers.specs.Headers.{headers}
use Rattle.frame_headers.specs.declared.peers.Peer.{Peer}
use Rattle.conn_table.specs.Connections.{Connection}
use Rattle.reassembly.specs.Positions.{client_of, server_of, vlan_of}
use Rattle.reassembly.specs.RecordedLines.{RecordedConnection, recorded_connection}
use Rattle.toxic_defs.specs.DeliveredLines.{MetProxy, DeliveredConnection, delivered_connection}
use Rattle.segment_writer.specs.declared.framed.Framed.{Framed}
use Rattle.segment_writer.specs.WrittenSegments.{WrittenConnection, SentSegment, frame_bytes, framed_by_client, framed_by_server, opening_turn, segments_sent_by, down_turn, segments_before_horizon, sorted_by_key, written_segments}
use Rattle.segment_writer.specs.WrittenConnections.{written_connection}
use Rattle.report.specs.ReportText.{connection_text}
use Rattle.scenarios.specs.declared.proxies.Proxy.{Proxy}
use Rattle.conn_workers.specs.Recordings.{met_proxy, Contribution, contribution, contribution_of}
use Rattle.old_answers.specs.SegmentsBefore.{headers_before, frame_bytes_before, framed_by_client_before, framed_by_server_before, opening_turn_before, up_turn_before, written_segments_before, written_connection_before}
use Rattle.old_answers.specs.ReportsBefore.{connection_text_before}
use Rattle.old_answers.specs.AnswersBefore.{contribution_before, contribution_of_before}

-- ---- the segments that are written of it

module _ (ticks number : ℕ) (client server : Peer) (r : RecordedConnection) (d : DeliveredConnection) where
  written : WrittenConnection
  written = written_connection number None client server r d

  opening_kept : (refused : Bool) → opening_turn refused ticks written ≡ opening_turn_before refused ticks written
  unfolding written frame_bytes frame_bytes_before headers headers_before
  opening_kept true = refl
  opening_kept false = refl

  by_client_kept : (xs : List (ℕ × SentSegment)) → map (framed_by_client ticks written 1) xs ≡ map (framed_by_client_before ticks written 1) xs
  unfolding written frame_bytes frame_bytes_before headers headers_before
  by_client_kept [] = refl
  by_client_kept (x ∷ xs) = ap (λ (more : List Framed). framed_by_client ticks written 1 x ∷ more) (by_client_kept xs)

  by_server_kept : (xs : List (ℕ × SentSegment)) → map (framed_by_server ticks written 2) xs ≡ map (framed_by_server_before ticks written 2) xs
  unfolding written frame_bytes frame_bytes_before headers headers_before
  by_server_kept [] = refl
  by_server_kept (x ∷ xs) = ap (λ (more : List Framed). framed_by_server ticks written 2 x ∷ more) (by_server_kept xs)

  segments_kept : written_segments ticks (written_connection number None client server r d) ≡ written_segments_before ticks (written_connection_before number client server r d)
  unfolding written written_segments written_segments_before
  segments_kept =
      ap (λ (turns : List Framed). sorted_by_key (segments_before_horizon ticks (turns ++ down_turn ticks written)))
      (ap₂ (λ (opening up : List Framed). opening ++ up) (opening_kept d.refused) (by_client_kept (enumerate_from 0 (segments_sent_by written.client written.server))))
      ∙ ap (λ (down : List Framed). sorted_by_key (segments_before_horizon ticks ((opening_turn_before d.refused ticks written ++ up_turn_before ticks written) ++ down)))
      (by_server_kept (enumerate_from 0 (segments_sent_by written.server written.client)))

-- ---- its line in the report

line_kept : (number : ℕ) (client server : Peer) (r : RecordedConnection) (d : DeliveredConnection)
    → connection_text number None client server r d ≡ connection_text_before number client server r d
unfolding connection_text connection_text_before
line_kept number client server r d = refl

-- ---- what it contributes

contribution_kept : (ticks : ℕ) (c : Connection) (s seed : ℕ) (met : Option MetProxy) → vlan_of c ≡ None → contribution ticks c s seed met ≡ contribution_before ticks c s seed met
unfolding contribution contribution_before
contribution_kept ticks c s seed met has_none =
    ap (λ (vlan : Option ℕ). contributed (written_segments ticks (written_connection c.number vlan (client_of c) (server_of c) r d)) (connection_text c.number vlan (client_of c) (server_of c) r d)) has_none
    ∙ ap₂ contributed (segments_kept ticks c.number (client_of c) (server_of c) r d) (line_kept c.number (client_of c) (server_of c) r d)
  where
    r : RecordedConnection
    r = recorded_connection c

    d : DeliveredConnection
    d = delivered_connection ticks seed s c.number met r

    contributed : List Framed → List ℕ → Contribution
    contributed segments line = record { segments = segments; line = line }

pub contribution_is_kept : (ticks seed : ℕ) (s : ℕ × List Proxy) (c : Connection) → vlan_of c ≡ None → contribution_of ticks seed s c ≡ contribution_of_before ticks seed s c
contribution_is_kept ticks seed (number, proxies) c has_none = contribution_kept ticks c number seed (met_proxy (server_of c) proxies) has_none
