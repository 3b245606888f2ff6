-- Lines that are laid after others, connection by connection and scenario by scenario.
use Rattle.std.proofs.Common.{◌≡◌, ℕ, List, [], ◌∷◌, ◌++◌, ap, ◌∙◌, sym, refl, append_assoc, append-nil}
use Rattle.std.specs.List.{enumerate_from}
use Rattle.std.proofs.lemmas.Grind.{flat_map-append}
use Rattle.pcap_records.specs.CaptureView.{CaptureView, contents_of}
use Rattle.conn_table.specs.SeenCapture.{seen_capture}
use Rattle.conn_table.specs.IndexedConnections.{without_indices}
use Rattle.scenarios.specs.declared.proxies.Proxy.{Proxy}
use Rattle.conn_workers.specs.Recordings.{whole_connections, rows, recording_in, recordings_of}
use Rattle.conn_workers.specs.DeliveryLaws.{TablesAreWhole}
use Rattle.conn_workers.proofs.RowLemmas.{rows_alike}
use Rattle.laid_lines.specs.FlatLines.{FlatLines, flat_lines, lines_in, together}
use Rattle.laid_lines.specs.RecordedLines.{after, lines_by}

after_assoc : (x y z : FlatLines) → after (after x y) z ≡ after x (after y z)
after_assoc x y z = λ i. record {
  bytes = append_assoc x.bytes y.bytes z.bytes i;
  chunks = append_assoc x.chunks y.chunks z.chunks i;
  connections = append_assoc x.connections y.connections z.connections i;
}

pub after_none : (x : FlatLines) → after x (together []) ≡ x
after_none x = λ i. record { bytes = append-nil x.bytes i; chunks = append-nil x.chunks i; connections = append-nil x.connections i }

together_both : (xs ys : List FlatLines) → together (xs ++ ys) ≡ after (together xs) (together ys)
together_both xs ys = λ i. record {
  bytes = flat_map-append (λ l. l.bytes) xs ys i;
  chunks = flat_map-append (λ l. l.chunks) xs ys i;
  connections = flat_map-append (λ l. l.connections) xs ys i;
}

-- one more is laid, and others are left
pub laid_one : (laid more one : FlatLines) (rest : List FlatLines) → more ≡ after laid one → after more (together rest) ≡ after laid (together (one ∷ rest))
laid_one laid more one rest is = ap (λ l. after l (together rest)) is ∙ after_assoc laid one (together rest)

-- or some more are
pub laid_some : (laid more : FlatLines) (some rest : List FlatLines) → more ≡ after laid (together some) → after more (together rest) ≡ after laid (together (some ++ rest))
laid_some laid more some rest is = ap (λ l. after l (together rest)) is ∙ after_assoc laid (together some) (together rest) ∙ ap (after laid) (sym (together_both some rest))

-- of recordings, or of the connections of the definition
pub recorded_lines_are : TablesAreWhole → (c : CaptureView) (scenarios : List (List Proxy)) (seed : ℕ)
    → together (rows (lines_by seed) (enumerate_from 0 scenarios) (recordings_of c)) ≡ flat_lines (seen_capture (contents_of c)) scenarios seed
unfolding flat_lines
recorded_lines_are whole c scenarios seed =
    ap together (rows_alike (lines_by seed) (lines_in c.ticks seed) (recording_in c) without_indices (λ s x. refl) (enumerate_from 0 scenarios) (whole_connections c)
    ∙ ap (rows (lines_in c.ticks seed) (enumerate_from 0 scenarios)) (whole c).connections)
