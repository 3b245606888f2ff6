-- What connections contribute together: shares of a row, texts of reports, and the summary of a run.
use Rattle.std.specs.Prelude.{◌≡◌, ℕ, zero, suc, All, List, [], ◌∷◌, map, take, drop, Bool, length, count_by, is_some, ◌<◌, get_or}
use Rattle.std.specs.List.{flat_map, enumerate_from}
use Rattle.std.specs.List.Sorted.{IsPermutation}
use Rattle.segment_writer.specs.WrittenSegments.{sorted_by_key}
use Rattle.segment_writer.specs.declared.framed.Framed.{Framed}
use Rattle.scenarios.specs.declared.proxies.Proxy.{Proxy}
use Rattle.conn_workers.specs.declared.row_shares.RowShare.{RowShare}
use Rattle.conn_workers.specs.Recordings.{RecordingView, recorded_delivery, recorded_row, connections_of, recorded_lines}
use Rattle.conn_table.specs.SeenCapture.{SeenCapture}
use Rattle.conn_table.specs.ClassCounts.{counts_of}
use Rattle.conn_table.specs.IndexedSegments.{indexed_segments}
use Rattle.conn_table.specs.Connections.{Connection, unopened_count}
use Rattle.reassembly.specs.Positions.{server_of}
use Rattle.reassembly.specs.RecordedLines.{recorded_connection}
use Rattle.scenarios.specs.Populate.{met_number}
use Rattle.conn_workers.specs.declared.summaries.RunSummary.{RunSummary}
use Rattle.conn_workers.specs.declared.summaries.SeenConn.{SeenConn}
use Rattle.conn_workers.specs.declared.scenario_texts.ShareTexts.{ShareTexts}

-- ---- what connections contribute to a scenario together, and how a row of them is cut into ranges

abbrev pub row_segments : ℕ → ℕ × List Proxy → List RecordingView → List Framed
row_segments seed s recordings = flat_map (λ r. (recorded_delivery seed s r).segments) recordings

-- their lines of the report
abbrev pub row_text : ℕ → ℕ × List Proxy → List RecordingView → List ℕ
row_text seed s recordings = flat_map (λ r. (recorded_delivery seed s r).line) recordings

-- the segments in order of key
abbrev pub row_share : ℕ → ℕ × List Proxy → List RecordingView → RowShare
row_share seed s recordings = record { segments = sorted_by_key (row_segments seed s recordings); lines = row_text seed s recordings }

-- ---- ranges

-- `count` ranges of a list, one after another: each has `size` elements, or what is left
abbrev pub ranges_of : {X : Type 0} → ℕ → ℕ → List X → List (List X)
ranges_of size zero xs = []
ranges_of size (suc count) xs = take size xs ∷ ranges_of size count (drop size xs)

abbrev pub row_shares : ℕ → ℕ → ℕ → ℕ × List Proxy → List RecordingView → List RowShare
row_shares size count seed s recordings = map (row_share seed s) (ranges_of size count recordings)

-- shares hold together what all connections contribute to a scenario, the segments of each share in order of key
pub record HoldRow (seed : ℕ) (s : ℕ × List Proxy) (recordings : List RecordingView) (shares : List RowShare) : Type 0 where
  pub sorted : All (λ x. sorted_by_key x.segments ≡ x.segments) shares
  pub segments : IsPermutation (flat_map (λ d. d.segments) (recorded_row seed s recordings)) (flat_map (λ x. x.segments) shares)
  pub lines : flat_map (λ x. x.lines) shares ≡ flat_map (λ d. d.line) (recorded_row seed s recordings)

-- ---- what a run sees of its capture beside its outputs, and how many connections meet a proxy

-- What summaries show of a connection: its server, and each side's bytes after a gap or its FIN.
abbrev pub seen_of_connection : Connection → SeenConn
seen_of_connection c = record {
  server = server_of c;
  up_lost = (recorded_connection c).up.lost;
  down_lost = (recorded_connection c).down.lost;
}

-- the same, by the connection's recording
abbrev pub seen_of_recording : RecordingView → SeenConn
seen_of_recording r = record { server = r.conn.server; up_lost = r.recorded.up.lost; down_lost = r.recorded.down.lost }

-- a proxy of the scenario is for the server of the connection, enabled or not
abbrev pub meets : List Proxy → SeenConn → Bool
meets proxies c = is_some (met_number c.server proxies)

abbrev pub met_count : List Proxy → List SeenConn → ℕ
met_count proxies connections = count_by (meets proxies) connections

-- The summary of a run: what is seen of its capture, and for each scenario how many connections meet a proxy.
unfoldable pub run_summary : SeenCapture → List (List Proxy) → RunSummary
run_summary c scenarios = record {
  records = length c.packets;
  rest = c.rest;
  counts = counts_of c.packets;
  unopened = unopened_count (indexed_segments 0 c.packets);
  connections = map seen_of_connection (connections_of c);
  met = map (λ proxies. met_count proxies (map seen_of_connection (connections_of c))) scenarios;
}

-- ---- the lines of connections in reports: for each range of connections a text for each scenario. A share also has what summaries show

unfoldable pub texts_under : ℕ → List (List Proxy) → List RecordingView → List (List ℕ)
texts_under seed scenarios recordings = map (λ s. row_text seed s recordings) (enumerate_from 0 scenarios)

abbrev pub share_of : ℕ → List (List Proxy) → List RecordingView → ShareTexts
share_of seed scenarios recordings = record { texts = texts_under seed scenarios recordings; connections = map seen_of_recording recordings }

abbrev pub text_shares : ℕ → ℕ → ℕ → List (List Proxy) → List RecordingView → List ShareTexts
text_shares size count seed scenarios recordings = map (share_of seed scenarios) (ranges_of size count recordings)

-- the report lines of the scenario with a number, share after share
abbrev pub text_of : ℕ → List ShareTexts → List ℕ
text_of number shares = flat_map (λ share. get_or share.texts number []) shares

-- Each share has a text for each scenario. The texts of one scenario are the lines of all connections in its report. Together, the shares have
-- what summaries show of each connection, in order.
pub record HoldLines (seed : ℕ) (scenarios : List (List Proxy)) (recordings : List RecordingView) (shares : List ShareTexts) : Type 0 where
  pub each : All (λ share. length share.texts ≡ length scenarios) shares
  pub connections : flat_map (λ share. share.connections) shares ≡ map seen_of_recording recordings
  pub lines : (number : ℕ) → number < length scenarios
      → text_of number shares ≡ flat_map (λ line. line) (recorded_lines seed (number, get_or scenarios number []) recordings)
