-- The segments of a connection of a capture: where their payloads lie, and which side sent each.
use Rattle.std.proofs.Common.{◌≡◌, ◌≤◌, ℕ, ◌+◌, not, true, List, [], length, take, drop, slice_range, slice_get, Some, option_map, sym, ap, ◌∙◌, subst, arith, length-take, length-drop, get_or}
use Rattle.std.specs.Option.{option_map_or, unwrap_or}
use Rattle.std.proofs.lemmas.Option.{slice_get-map, slice_get-get_or}
use Rattle.pcap_records.specs.declared.capture.Record.{Record}
use Rattle.pcap_records.specs.CaptureView.{CaptureView, IsSoundCapture, packet_of}
use Rattle.frame_headers.specs.declared.peers.Peer.{Peer}
use Rattle.frame_headers.specs.HeaderLaws.{PayloadsAreInPlace}
use Rattle.frame_headers.specs.Frame.{segment_fields, payload_offset}
use Rattle.conn_table.specs.IndexedSegments.{IndexedSegment, same_peer}
use Rattle.conn_table.specs.Connections.{of_one_pair}
use Rattle.conn_table.specs.KeptSegments.{packet_start, frame_at, payload_start}
use Rattle.conn_table.specs.TableFacts.{IsPlaced}
use Rattle.conn_table.proofs.TableSoundness.{placed_part}
use Rattle.conn_table.proofs.Peers.{peers_differ, other_sender}
use Rattle.reassembly.specs.RecordedView.{IsRecorded}

-- ---- payloads

frame_is : (c : CaptureView) (i : ℕ) (r : Record) → slice_get c.records i ≡ Some r → frame_at c i ≡ take r.len (drop r.start c.bytes)
frame_is c i r e =
    ap (λ o. unwrap_or (option_map (λ p. p.bytes) o) []) (slice_get-map (packet_of c.bytes) c.records i) ∙ ap (λ o. unwrap_or (option_map (λ p. p.bytes) (option_map (packet_of c.bytes) o)) []) e

start_is : (c : CaptureView) (i : ℕ) (r : Record) → slice_get c.records i ≡ Some r → packet_start c i ≡ r.start
start_is c i r e = ap (λ o. option_map_or (λ (r : Record). r.start) o 0) e

-- ---- a segment of a connection

pub record IsOfPeers (c : CaptureView) (client server : Peer) (s : IndexedSegment) : Type 0 where
  pub in_file : payload_start c s.index + length s.timed.fields.payload ≤ length c.bytes
  pub payload : slice_range c.bytes (payload_start c s.index) (payload_start c s.index + length s.timed.fields.payload) ≡ s.timed.fields.payload
  pub server_sent : same_peer s.timed.fields.from server ≡ not (same_peer s.timed.fields.from client)

placed : (ticks : ℕ) (c : CaptureView) (s : IndexedSegment) → IsSoundCapture ticks c.bytes c.records → PayloadsAreInPlace → IsRecorded c s → IsPlaced c s
placed ticks c s sound law rec =
    let i : ℕ = s.index in
    let d : Record = record { stamp = 0; start = 0; len = 0 } in
    let r : Record = get_or c.records i d in
    let got : slice_get c.records i ≡ Some r = slice_get-get_or c.records i d rec.within in
    let frame : List ℕ = frame_at c i in
    let is : frame ≡ take r.len (drop r.start c.bytes) = frame_is c i r got in
    let start : packet_start c i ≡ r.start = start_is c i r got in
    let place = law frame rec.class in
    let within_file = sound.within i d rec.within in
    let bytes : List ℕ = (segment_fields frame).payload in
    let same : s.timed.fields.payload ≡ bytes = ap (λ f. f.payload) rec.fields in
    let off : ℕ = payload_offset frame in
    let n : ℕ = length bytes in
    let R : List ℕ → Type 0 = λ f. (off + n ≤ length f) in
    let fits : off + n ≤ length (take r.len (drop r.start c.bytes)) = subst R is place.within in
    let long = length-take r.len (drop r.start c.bytes) in
    let P : List ℕ → Type 0 = λ bs. (packet_start c i + off + length bs ≤ length c.bytes) in
    let Q : List ℕ → Type 0 = λ bs. slice_range c.bytes (packet_start c i + off) (packet_start c i + off + length bs) ≡ bs in
    record {
      within = subst P (sym same) (omega (arith, within_file.ends, length-drop r.start c.bytes));
      bytes = subst Q (sym same)
          (ap (λ k. slice_range c.bytes (k + off) (k + off + n)) start ∙ placed_part c.bytes r.start r.len off n fits within_file.ends ∙ ap (λ f. slice_range f off (off + n)) (sym is) ∙ place.bytes);
    }

pub of_peers : (ticks : ℕ) (c : CaptureView) (b s : IndexedSegment) → IsSoundCapture ticks c.bytes c.records → PayloadsAreInPlace → IsRecorded c b → IsRecorded c s → of_one_pair b s ≡ true
    → IsOfPeers c b.timed.fields.from b.timed.fields.to s
of_peers ticks c b s sound law rec_b rec paired =
    let p = placed ticks c s sound law rec in
    record {
      in_file = p.within;
      payload = p.bytes;
      server_sent = other_sender s.timed.fields.vlan b.timed.fields.vlan b.timed.fields.from b.timed.fields.to s.timed.fields.from s.timed.fields.to (rw rec_b.fields (peers_differ (frame_at c b.index) rec_b.class)) paired;
    }
