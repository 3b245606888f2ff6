-- What the members of a connection make is what its segments make.
use Rattle.std.proofs.Common.{◌≡◌, arith, ℕ, not, ◌&&◌, Bool, true, false, List, ◌∷◌, map, filter, Option, Some, None, option_map, refl, sym, ap, ◌∙◌, subst}
use Rattle.std.specs.List.{AllByRecursion, All, take_while, find}
use Rattle.std.proofs.lemmas.List.Elements.{All-from_recursion}
use Rattle.pcap_records.specs.CaptureView.{CaptureView, IsSoundCapture}
use Rattle.frame_headers.specs.declared.peers.Peer.{Peer}
use Rattle.frame_headers.specs.HeaderLaws.{PayloadsAreInPlace}
use Rattle.frame_headers.specs.Flags.{has_flag, syn_flag, ack_flag}
use Rattle.frame_headers.specs.Frame.{segment_fields}
use Rattle.conn_table.specs.KeptSegments.{frame_at}
use Rattle.conn_table.specs.IndexedSegments.{TimedSegment, IndexedSegment, same_peer}
use Rattle.conn_table.specs.Connections.{Connection, of_one_pair}
use Rattle.conn_table.specs.IndexedConnections.{IndexedConnection, without_indices}
use Rattle.conn_table.specs.Tables.{member_in, conn_in}
use Rattle.conn_table.specs.declared.conns.Member.{Member}
use Rattle.conn_table.specs.declared.conns.Conn.{Conn}
use Rattle.conn_table.proofs.Peers.{one_pair-itself}
use Rattle.reassembly.specs.Positions.{members_of, client_of, server_of, client_base, effective_members, is_reset, is_answer, server_base, shifted_start}
use Rattle.reassembly.specs.RecordedLines.{RecordedSide, RecordedConnection, is_counted_fin, reset_or_live, sent_by, side_of, recorded_side, recorded_connection}
use Rattle.reassembly.specs.MemberSpans.{IsInFile, span_at, segment_span, member_span, member_spans, own_members, is_of, is_reset_member, is_server_answer, members_before_reset, is_fin_member}
use Rattle.reassembly.specs.SideLines.{segment_fin, counted_fin, fin_of, fin_of_members, without_bytes, IsSideOf}
use Rattle.reassembly.specs.LineLaws.{HasShortPayload, IsLine}
use Rattle.reassembly.specs.RecordedView.{IsRecorded, IsConnectionOf, IsOfMembers, reset_end, other_end}
use Rattle.std.proofs.lemmas.Simd.{map-map}
use Rattle.lists.proofs.Lists.{all_weaker, all_map, all_filter, all_take_while}
use Rattle.reassembly.proofs.MappedLists.{take_while-map, filter-map, found_same, map_same, filter_same, and_both}
use Rattle.reassembly.proofs.Chunks.{recorded_sides_are_lines}
use Rattle.reassembly.proofs.Joining.{sides_agree}
use Rattle.reassembly.proofs.RecordedSegments.{IsOfPeers, of_peers}

abbrev timed : IndexedSegment → TimedSegment
timed s = s.timed

-- ---- each segment

pub all_of_peers : (ticks : ℕ) (c : CaptureView) (x : IndexedConnection) → IsSoundCapture ticks c.bytes c.records → PayloadsAreInPlace → IsConnectionOf c x
    → AllByRecursion (IsOfPeers c x.opening.timed.fields.from x.opening.timed.fields.to) (x.opening ∷ x.later)
all_of_peers ticks c x sound law of =
    let rec = of.recorded in
    let b : IndexedSegment = x.opening in
    and_both (IsRecorded c) (λ s. of_one_pair b s ≡ true) (IsOfPeers c b.timed.fields.from b.timed.fields.to) (λ s r p. of_peers ticks c b s sound law rec.0 r p) (b ∷ x.later) rec (one_pair-itself b, of.paired)

pub all_in_file : (ticks : ℕ) (c : CaptureView) (x : IndexedConnection) (file : List ℕ) (conn : Conn) (members : List Member) → IsSoundCapture ticks c.bytes c.records → PayloadsAreInPlace → IsConnectionOf c x
    → file ≡ c.bytes → members ≡ conn.members → conn ≡ conn_in c x → All (IsInFile file) members
all_in_file ticks c x file conn members sound law of is are shown =
    let client : Peer = x.opening.timed.fields.from in
    let server : Peer = x.opening.timed.fields.to in
    let there : AllByRecursion (IsInFile c.bytes) (map (member_in c client) (x.opening ∷ x.later)) =
    all_map (IsInFile c.bytes) (member_in c client) (x.opening ∷ x.later)
    (all_weaker (IsOfPeers c client server) (λ s. IsInFile c.bytes (member_in c client s)) (λ s h. h.in_file) (x.opening ∷ x.later) (all_of_peers ticks c x sound law of)) in
    let here : All (IsInFile c.bytes) (map (member_in c client) (x.opening ∷ x.later)) = All-from_recursion (IsInFile c.bytes) (map (member_in c client) (x.opening ∷ x.later)) there in
    let all : members ≡ map (member_in c client) (x.opening ∷ x.later) = are ∙ ap (λ k. k.members) shown in
    let P : List ℕ → Type 0 = λ f. All (IsInFile f) members in
    let Q : List Member → Type 0 = λ ms. All (IsInFile c.bytes) ms in
    subst P (sym is) (subst Q (sym all) here)

-- ---- the members before the first reset, and those of one side

module _ (c : CaptureView) (client server : Peer) where
  abbrev shown : IndexedSegment → Member
  shown s = member_in c client s

  abbrev counted : List IndexedSegment → List IndexedSegment
  counted segs = take_while (λ s. not (is_reset s.timed)) segs

  members_are : (segs : List IndexedSegment) → members_before_reset (map shown segs) ≡ map shown (counted segs)
  members_are segs = take_while-map (λ m. not (is_reset_member m)) shown segs

  effective_are : (segs : List IndexedSegment) → effective_members (map timed segs) ≡ map timed (counted segs)
  effective_are segs = take_while-map (λ m. not (is_reset m)) timed segs

  reset_same : (segs : List IndexedSegment) → AllByRecursion (IsOfPeers c client server) segs → other_end (map shown segs) ≡ reset_or_live (find is_reset (map timed segs))
  reset_same segs all =
      ap reset_end
      (found_same (λ (m : Member). m.at) is_reset_member shown (λ (m : TimedSegment). m.at) is_reset timed segs (all_weaker (IsOfPeers c client server) _ (λ s h. (refl, refl)) segs all))
      ∙ by (find is_reset (map timed segs))
    where
      by : (o : Option TimedSegment) → reset_end (option_map (λ (m : TimedSegment). m.at) o) ≡ reset_or_live o
      by None = refl
      by (Some m) = refl

  abbrev sender : Bool → Peer
  sender true = client
  sender false = server

  abbrev sent : Bool → List IndexedSegment → List IndexedSegment
  sent up segs = filter (λ s. same_peer s.timed.fields.from (sender up)) segs

  side_same : (up : Bool) (s : IndexedSegment) → IsOfPeers c client server s → is_of up (shown s) ≡ same_peer s.timed.fields.from (sender up)
  side_same true s h = refl
  side_same false s h = sym h.server_sent

  own_are : (up : Bool) (segs : List IndexedSegment) → AllByRecursion (IsOfPeers c client server) segs → own_members up (map shown segs) ≡ map shown (sent up segs)
  own_are up segs all =
      filter-map (is_of up) shown segs
      ∙ ap (map shown) (filter_same (λ s. is_of up (shown s)) (λ s. same_peer s.timed.fields.from (sender up)) segs (all_weaker (IsOfPeers c client server) (λ s. is_of up (shown s) ≡ same_peer s.timed.fields.from (sender up)) (side_same up) segs all))

  sent_are : (up : Bool) (segs : List IndexedSegment) → sent_by (sender up) (map timed segs) ≡ map timed (sent up segs)
  sent_are up segs = filter-map (λ m. same_peer m.fields.from (sender up)) timed segs

  spans_same : (base : ℕ) (segs : List IndexedSegment) → AllByRecursion (IsOfPeers c client server) segs → map (segment_span base) (map timed segs) ≡ member_spans base c.bytes (map shown segs)
  spans_same base segs all =
      map-map (segment_span base) timed segs
      ∙ map_same (λ s. segment_span base s.timed) (λ s. member_span base c.bytes (shown s)) segs (all_weaker (IsOfPeers c client server) (λ s. segment_span base s.timed ≡ member_span base c.bytes (shown s)) (λ s h. ap (λ p. span_at (shifted_start base s.timed) s.timed.at p) (sym h.payload)) segs all)
      ∙ sym (map-map (member_span base c.bytes) shown segs)

  fin_same : (base : ℕ) (segs : List IndexedSegment) → AllByRecursion (IsOfPeers c client server) segs → fin_of_members base (map shown segs) ≡ counted_fin base (map timed segs)
  fin_same base segs all = found_same (fin_of base) (is_fin_member base) shown (segment_fin base) (is_counted_fin base) timed segs (all_weaker (IsOfPeers c client server) _ (λ s h. (refl, refl)) segs all)

  side_is_recorded : (base : Option ℕ) (up : Bool) (segs : List IndexedSegment) (s : RecordedSide) → AllByRecursion (IsOfPeers c client server) segs
      → IsSideOf base up c.bytes (members_before_reset (map shown segs)) (other_end (map shown segs)) s → s ≡ recorded_side (map timed segs) (sender up) base
  unfolding recorded_side
  side_is_recorded None up segs s all is = is ∙ ap without_bytes (reset_same segs all)
  side_is_recorded (Some base) up segs s all is =
      let E : List IndexedSegment = counted segs in
      let all_E = all_take_while (IsOfPeers c client server) (λ s. not (is_reset s.timed)) segs all in
      let all_F = all_filter (IsOfPeers c client server) (λ s. same_peer s.timed.fields.from (sender up)) E all_E in
      let own : own_members up (members_before_reset (map shown segs)) ≡ map shown (sent up E) = ap (own_members up) (members_are segs) ∙ own_are up E all_E in
      let ours : sent_by (sender up) (effective_members (map timed segs)) ≡ map timed (sent up E) = ap (sent_by (sender up)) (effective_are segs) ∙ sent_are up E in
      let spans_are : map (segment_span base) (map timed (sent up E)) ≡ member_spans base c.bytes (map shown (sent up E)) = spans_same base (sent up E) all_F in
      let fin_is : fin_of_members base (map shown (sent up E)) ≡ counted_fin base (map timed (sent up E)) = fin_same base (sent up E) all_F in
      let ends : other_end (map shown segs) ≡ reset_or_live (find is_reset (map timed segs)) = reset_same segs all in
      (rw (own, ← spans_are, fin_is, ends) at is) ∙ sides_agree base (map timed (sent up E)) (reset_or_live (find is_reset (map timed segs)))
      ∙ ap (λ l. side_of base l (reset_or_live (find is_reset (map timed segs)))) (sym ours)

  answer_same : (segs : List IndexedSegment) → AllByRecursion (IsOfPeers c client server) segs
      → option_map (λ (m : Member). m.seq) (find is_server_answer (members_before_reset (map shown segs))) ≡ option_map (λ (m : TimedSegment). m.fields.seq) (find (is_answer server) (effective_members (map timed segs)))
  answer_same segs all =
      rw (members_are segs, effective_are segs)
      (found_same (λ (m : Member). m.seq) is_server_answer shown (λ (m : TimedSegment). m.fields.seq) (is_answer server) timed (counted segs)
      (all_weaker (IsOfPeers c client server) _ (λ s h. (ap (λ b. b && has_flag s.timed.fields.flags syn_flag && has_flag s.timed.fields.flags ack_flag) (sym h.server_sent), refl)) (counted segs) (all_take_while (IsOfPeers c client server) (λ s. not (is_reset s.timed)) segs all)))

-- ---- the whole connection

server_base_is : (c : CaptureView) (x : IndexedConnection) → AllByRecursion (IsOfPeers c x.opening.timed.fields.from x.opening.timed.fields.to) (x.opening ∷ x.later)
    → option_map (λ (m : Member). m.seq) (find is_server_answer (members_before_reset (map (member_in c x.opening.timed.fields.from) (x.opening ∷ x.later)))) ≡ server_base (without_indices x)
unfolding server_base
server_base_is c x all = answer_same c x.opening.timed.fields.from x.opening.timed.fields.to (x.opening ∷ x.later) all

pub recorded_is : (ticks : ℕ) (c : CaptureView) (x : IndexedConnection) (file : List ℕ) (conn : Conn) (members : List Member) (r : RecordedConnection) → IsSoundCapture ticks c.bytes c.records → PayloadsAreInPlace → IsConnectionOf c x
    → file ≡ c.bytes → members ≡ conn.members → conn ≡ conn_in c x → IsOfMembers file members r → r.opened ≡ conn.opened
    → r.mac_client ≡ (segment_fields (frame_at c conn.opening)).mac_from → r.mac_server ≡ (segment_fields (frame_at c conn.opening)).mac_to
    → r ≡ recorded_connection (without_indices x)
recorded_is ticks c x file conn members r sound law of is are shown sides opened mac_client mac_server =
    let b : IndexedSegment = x.opening in
    let client : Peer = b.timed.fields.from in
    let server : Peer = b.timed.fields.to in
    let segs : List IndexedSegment = x.opening ∷ x.later in
    let all = all_of_peers ticks c x sound law of in
    let whole : members ≡ map (member_in c client) segs = are ∙ ap (λ k. k.members) shown in
    let P : List ℕ → Type 0 = λ f. IsOfMembers f members r in
    let Q : List Member → Type 0 = λ ms. IsOfMembers c.bytes ms r in
    let s : IsOfMembers c.bytes (map (member_in c client) segs) r = subst Q whole (subst P is sides) in
    let up : r.up ≡ recorded_side (map timed segs) client (Some r.client_base) = side_is_recorded c client server (Some r.client_base) true segs r.up all s.up in
    let down : r.down ≡ recorded_side (map timed segs) server r.server_base = side_is_recorded c client server r.server_base false segs r.down all s.down in
    let base : r.server_base ≡ server_base (without_indices x) = s.server ∙ server_base_is c x all in
    let first : r.client_base ≡ b.timed.fields.seq = s.client in
    let rec = of.recorded in
    let fields : segment_fields (frame_at c conn.opening) ≡ b.timed.fields = ap (λ k. segment_fields (frame_at c k.opening)) shown ∙ sym rec.0.fields in
    λ i. record {
      up = (up ∙ ap (λ k. recorded_side (map timed segs) client (Some k)) first) i;
      down = (down ∙ ap (recorded_side (map timed segs) server) base) i;
      client_base = first i;
      server_base = base i;
      opened = (opened ∙ ap (λ k. k.opened) shown) i;
      mac_client = (mac_client ∙ ap (λ f. f.mac_from) fields) i;
      mac_server = (mac_server ∙ ap (λ f. f.mac_to) fields) i;
    }

-- ---- both lines of it are lines

pub record AreLines (r : RecordedConnection) : Type 0 where
  pub up : IsLine r.up.line
  pub down : IsLine r.down.line

pub shorts : (ticks : ℕ) (c : CaptureView) (x : IndexedConnection) → IsSoundCapture ticks c.bytes c.records → PayloadsAreInPlace → IsConnectionOf c x → AllByRecursion HasShortPayload (members_of (without_indices x))
shorts ticks c x sound law of =
    all_map HasShortPayload (λ s. s.timed) (x.opening ∷ x.later)
    (all_weaker (IsOfPeers c x.opening.timed.fields.from x.opening.timed.fields.to) (λ s. HasShortPayload s.timed) short (x.opening ∷ x.later) (all_of_peers ticks c x sound law of))
  where
    short : (s : IndexedSegment) → IsOfPeers c x.opening.timed.fields.from x.opening.timed.fields.to s → HasShortPayload s.timed
    short s h = let a = h.in_file in let b = sound.limited in omega (arith, a, b)

pub are_lines : (ticks : ℕ) (c : CaptureView) (x : IndexedConnection) (r : RecordedConnection) → IsSoundCapture ticks c.bytes c.records → PayloadsAreInPlace → IsConnectionOf c x
    → r ≡ recorded_connection (without_indices x) → AreLines r
are_lines ticks c x r sound law of is =
    let k : Connection = without_indices x in
    let short = shorts ticks c x sound law of in
    subst AreLines (sym is) (record {
      up = recorded_sides_are_lines (members_of k) (client_of k) (Some (client_base k)) of.rising short;
      down = recorded_sides_are_lines (members_of k) (server_of k) (server_base k) of.rising short;
    })
