-- Where deliveries stand, that each is its connection's own, and that it is made of what was recorded in time.
use Rattle.std.proofs.Common.{◌≡◌, ℕ, ◌+◌, ◌*◌, List, length, Some, refl, ap, ap₂, ◌∙◌, arith, [], ◌∷◌, map, sym, subst, suc, true, false, find, Option, None, option_map}
use Rattle.std.specs.List.{enumerate_from, slice_get, AllByRecursion, flat_map}
use Rattle.std.proofs.lemmas.List.FromFn.{length-enumerate_from}
use Rattle.conn_table.specs.IndexedSegments.{TimedSegment, IndexedSegment, indexed_segments}
use Rattle.conn_table.specs.Connections.{Connection, connection_of, beginnings, connections}
use Rattle.reassembly.specs.Positions.{members_of, server_of, client_of, client_base, server_base}
use Rattle.scenarios.specs.declared.proxies.Proxy.{Proxy}
use Rattle.conn_workers.specs.Recordings.{met_proxy, contribution, contribution_of, connections_of, delivery, delivery_of, deliveries, whole_connections, recording_in, recordings_of, met_of}
use Rattle.conn_workers.specs.DeliveryLaws.{RowsAreWhole, DeliveriesArePlaced, table_connections, IsDeliveredOf, IsMadeOf, IsOfRecorded, IsOfScenario}
use Rattle.conn_workers.proofs.RowLemmas.{length-rows, cell_found, numbered, number_is}
use Rattle.pcap_records.specs.Instants.{horizon}
use Rattle.pcap_records.specs.CaptureView.{CaptureView, IsSoundCapture, contents_of}
use Rattle.lists.proofs.Lists.{all_weaker, all_map, all_append, all_found}
use Rattle.conn_table.specs.IndexedConnections.{without_indices, IndexedConnectionsAgree}
use Rattle.reassembly.specs.RecordedLines.{recorded_connection, Line, RecordedConnection}
use Rattle.reassembly.specs.LineLaws.{RecordedSidesAreLines, RecordedSidesLieBetween}
use Rattle.reassembly.specs.ConnectionInstants.{IsInTime, ConnectionsAreInTime}
use Rattle.toxic_defs.specs.Laws.{IsRecordedInTime, IsBeforeHorizon, Delays, MetInRange, CutLinesEndInTime, DelayedBytesAreTheFirst, DeliveredIsRecorded}
use Rattle.conn_workers.proofs.TableConnections.{all_segments, connections_are}
use Rattle.frame_headers.specs.declared.peers.Peer.{Peer}
use Rattle.conn_table.specs.SeenCapture.{seen_capture}
use Rattle.reassembly.proofs.MappedLists.{and_both}
use Rattle.toxic_defs.specs.Toxics.{chain}
use Rattle.toxic_defs.specs.DeliveredLines.{MetProxy, DeliveredConnection, connection_by_cut, connection_by_proxy, delivered_connection}
use Rattle.scenarios.specs.Populate.{leads_to}
use Rattle.scenarios.specs.ProxyLaws.{IsSound}

-- ---- where deliveries stand, and that a connection's contribution is its own

pub rows_are_whole : RowsAreWhole
unfolding deliveries
rows_are_whole ticks seed r =
    length-rows (delivery_of ticks seed) (enumerate_from 0 r.scenarios) (connections_of r.seen) ∙ ap (λ n. n * length (connections_of r.seen)) (length-enumerate_from 0 r.scenarios)

-- connections stand in order of number
pub own_number : (segs : List IndexedSegment) (number : ℕ) (c : Connection) → slice_get (connections segs) number ≡ Some c → c.number ≡ number
unfolding connections
own_number segs number c is =
    number_is (connection_of segs) (λ x. x.number) (λ p. refl) 0 (beginnings segs) number c is ∙ (let e : 0 + number ≡ number = omega arith in e)

pub deliveries_are_placed : DeliveriesArePlaced
unfolding deliveries
deliveries_are_placed ticks seed number s r c proxies has =
    let own : c.number ≡ number = own_number (indexed_segments 0 r.seen.packets) number c has.connection in
    cell_found (delivery_of ticks seed) (enumerate_from 0 r.scenarios) (connections_of r.seen) s number (s, proxies) c (numbered r.scenarios s proxies has.scenario) has.connection
    ∙ ap (λ n. Some (delivery s n (contribution_of ticks seed (s, proxies) c))) own

-- ---- isolation

connection : ℕ → TimedSegment → List TimedSegment → Connection
connection number opening later = record { number = number; opening = opening; later = later }

pub same_connection : (x y : Connection) → x.number ≡ y.number → members_of x ≡ members_of y → x ≡ y
unfolding connection
same_connection x y number members =
    let opening : x.opening ≡ y.opening = cc in
    let later : x.later ≡ y.later = cc in
    ap (λ n. connection n x.opening x.later) number ∙ ap₂ (connection y.number) opening later

pub contribution_is : (ticks seed s : ℕ) (x y : Connection) (a b : List Proxy) → x ≡ y → met_proxy (server_of x) a ≡ met_proxy (server_of y) b → contribution_of ticks seed (s, a) x ≡ contribution_of ticks seed (s, b) y
contribution_is ticks seed s x y a b same met = ap₂ (λ c m. contribution ticks c s seed m) same met

-- ---- what is recorded of a capture's connections lies between their opening and the horizon

recorded_in_time : RecordedSidesAreLines → RecordedSidesLieBetween → (ticks : ℕ) (x : Connection) → IsInTime ticks x → IsRecordedInTime ticks (recorded_connection x)
recorded_in_time lines between ticks x is =
    let opened : ℕ = x.opening.at in
    record {
      up = lines (members_of x) (client_of x) (Some (client_base x)) is.rising is.short;
      down = lines (members_of x) (server_of x) (server_base x) is.rising is.short;
      up_between = between (members_of x) (client_of x) (Some (client_base x)) opened (horizon ticks) is.between;
      down_between = between (members_of x) (server_of x) (server_base x) opened (horizon ticks) is.between;
      opened = is.between.0.1;
    }

pub connections_in_time : RecordedSidesAreLines → RecordedSidesLieBetween → ConnectionsAreInTime → (c : CaptureView) → IsSoundCapture c.ticks c.bytes c.records
    → AllByRecursion (λ x. IsRecordedInTime c.ticks (recorded_connection x)) (table_connections c)
connections_in_time lines between in_time c sound =
    all_weaker (IsInTime c.ticks) (λ x. IsRecordedInTime c.ticks (recorded_connection x)) (recorded_in_time lines between c.ticks) (table_connections c)
    (subst (λ segs. AllByRecursion (IsInTime c.ticks) (connections segs)) (all_segments c) (in_time c 0 (length c.records) 0 sound (omega arith)))

-- what holds of each made element holds of what it is made of
all_made : {A B : Type 0} (P : B → Type 0) (f : A → B) (xs : List A) → AllByRecursion P (map f xs) → AllByRecursion (λ x. P (f x)) xs
all_made P f [] all = tt
all_made P f (x ∷ xs) all = (all.0, all_made P f xs all.1)

pub recordings_in_time : IndexedConnectionsAgree → (c : CaptureView) → AllByRecursion (λ x. IsRecordedInTime c.ticks (recorded_connection x)) (table_connections c)
    → AllByRecursion (λ r. IsRecordedInTime r.ticks r.recorded) (recordings_of c)
recordings_in_time agree c all =
    let P : Connection → Type 0 = λ x. IsRecordedInTime c.ticks (recorded_connection x) in
    all_map (λ r. IsRecordedInTime r.ticks r.recorded) (recording_in c) (whole_connections c)
    (all_made P without_indices (whole_connections c) (subst (λ xs. AllByRecursion P xs) (sym (connections_are agree c)) all))

-- ---- the proxy that is met

all_numbered : (n : ℕ) (proxies : List Proxy) → AllByRecursion IsSound proxies → AllByRecursion (λ x. IsSound x.1) (enumerate_from n proxies)
all_numbered n [] all = tt
all_numbered n (p ∷ proxies) all = (all.0, all_numbered (n + 1) proxies all.1)

met_in_range : (server : Peer) (proxies : List Proxy) → AllByRecursion IsSound proxies → MetInRange (met_proxy server proxies)
met_in_range server proxies all = by (find (λ x. leads_to server x.1) (enumerate_from 0 proxies)) refl
  where
    by : (o : Option (ℕ × Proxy)) → find (λ x. leads_to server x.1) (enumerate_from 0 proxies) ≡ o → MetInRange (option_map met_of o)
    by None is = tt
    by (Some x) is =
        let sound = all_found (λ x. IsSound x.1) (λ x. leads_to server x.1) (enumerate_from 0 proxies) x (all_numbered 0 proxies all) is in
        (sound.up_toxics.in_range, sound.down_toxics.in_range)

-- ---- lines

record AreBeforeHorizon (ticks : ℕ) (d : DeliveredConnection) : Type 0 where
  up : IsBeforeHorizon ticks d.up
  down : IsBeforeHorizon ticks d.down

cut_before_horizon : CutLinesEndInTime → (ticks : ℕ) (proxy : Option ℕ) (up down : Line) → AreBeforeHorizon ticks (connection_by_cut ticks proxy up down)
cut_before_horizon law ticks proxy up down = record { up = law ticks up down up; down = law ticks up down down }

before_horizon : CutLinesEndInTime → (ticks seed s c : ℕ) (met : Option MetProxy) (r : RecordedConnection) → AreBeforeHorizon ticks (delivered_connection ticks seed s c met r)
unfolding delivered_connection
before_horizon law ticks seed s c None r = cut_before_horizon law ticks None r.up.line r.down.line
before_horizon law ticks seed s c (Some met) r =
    elim met.enabled as (λ enabled. AreBeforeHorizon ticks (connection_by_proxy enabled ticks seed s c met r)) [
      | true ↦ cut_before_horizon law ticks (Some met.number) (chain ticks met.up r.opened seed s c 0 r.up.line) (chain ticks met.down r.opened seed s c 1 r.down.line)
      | false ↦ record { up = record { bytes = tt; ends = tt }; down = record { bytes = tt; ends = tt } }
    ]

line_made : DelayedBytesAreTheFirst → (ticks opened : ℕ) (recorded delivered : Line) → Delays ticks opened recorded.bytes delivered → IsBeforeHorizon ticks delivered → IsDeliveredOf ticks opened recorded delivered
line_made first ticks opened recorded delivered is before = record {
  first = first delivered.bytes recorded.bytes is.bytes;
  delayed = is.bytes;
  ends = is.ends;
  before_horizon = before;
}

-- the theorems about toxics and the cut on which all of it stands
pub record Theorems : Type 0 where
  pub delivered : DeliveredIsRecorded
  pub cut : CutLinesEndInTime
  pub first : DelayedBytesAreTheFirst

connection_made : Theorems → (ticks seed s c : ℕ) (met : Option MetProxy) (r : RecordedConnection) → MetInRange met → IsRecordedInTime ticks r → IsMadeOf ticks r (delivered_connection ticks seed s c met r)
connection_made laws ticks seed s c met r ranges is =
    let d : DeliveredConnection = delivered_connection ticks seed s c met r in
    let delays = laws.delivered ticks seed s c met r ranges is in
    let before = before_horizon laws.cut ticks seed s c met r in
    record {
      up = line_made laws.first ticks r.opened r.up.line d.up delays.up before.up;
      down = line_made laws.first ticks r.opened r.down.line d.down delays.down before.down;
    }

-- ---- deliveries

-- what holds of the element at each place holds of all
by_place : {A : Type 0} (P : A → Type 0) (xs : List A) → ((k : ℕ) (x : A) → slice_get xs k ≡ Some x → P x) → AllByRecursion P xs
by_place P [] each = tt
by_place P (x ∷ xs) each = (each 0 x refl, by_place P xs (λ k y is. each (suc k) y is))

own_places : (c : CaptureView) → AllByRecursion (λ x. slice_get (table_connections c) x.number ≡ Some x) (table_connections c)
own_places c = by_place (λ x. slice_get (table_connections c) x.number ≡ Some x) (table_connections c) placed
  where
    placed : (k : ℕ) (x : Connection) → slice_get (table_connections c) k ≡ Some x → slice_get (table_connections c) x.number ≡ Some x
    placed k x is = ap (slice_get (table_connections c)) (own_number (indexed_segments 0 (seen_capture (contents_of c)).packets) k x is) ∙ is

delivery_made : Theorems → (c : CaptureView) (seed : ℕ) (s : ℕ × List Proxy) (x : Connection) → AllByRecursion IsSound s.1 → slice_get (table_connections c) x.number ≡ Some x
    → IsRecordedInTime c.ticks (recorded_connection x) → IsOfRecorded c seed s (delivery_of c.ticks seed s x)
unfolding contribution
delivery_made laws c seed s x sound placed is = record {
  connection = x;
  numbered = placed;
  told = refl;
  made = connection_made laws c.ticks seed s.0 x.number (met_proxy (server_of x) s.1) (recorded_connection x) (met_in_range (server_of x) s.1 sound) is;
}

pub row_is_recorded : Theorems → (c : CaptureView) (seed : ℕ) (s : ℕ × List Proxy) → AllByRecursion IsSound s.1 → AllByRecursion (λ x. IsRecordedInTime c.ticks (recorded_connection x)) (table_connections c)
    → AllByRecursion (IsOfRecorded c seed s) (map (delivery_of c.ticks seed s) (table_connections c))
row_is_recorded laws c seed s sound in_time =
    all_map (IsOfRecorded c seed s) (delivery_of c.ticks seed s) (table_connections c)
    (and_both (λ x. slice_get (table_connections c) x.number ≡ Some x) (λ x. IsRecordedInTime c.ticks (recorded_connection x)) (λ x. IsOfRecorded c seed s (delivery_of c.ticks seed s x))
    (λ x placed is. delivery_made laws c seed s x sound placed is) (table_connections c) (own_places c) in_time)

-- ---- of all scenarios

module _ (laws : Theorems) (c : CaptureView) (seed : ℕ) (scenarios : List (List Proxy)) (in_time : AllByRecursion (λ x. IsRecordedInTime c.ticks (recorded_connection x)) (table_connections c)) where
  -- a row's deliveries tell the number of its scenario
  of_scenario : (s : ℕ × List Proxy) → slice_get scenarios s.0 ≡ Some s.1 → (xs : List Connection) → AllByRecursion (IsOfRecorded c seed s) (map (delivery_of c.ticks seed s) xs)
      → AllByRecursion (IsOfScenario c seed scenarios) (map (delivery_of c.ticks seed s) xs)
  of_scenario s listed [] all = tt
  of_scenario s listed (x ∷ xs) all = (record { proxies = s.1; numbered = listed; recorded = all.0 }, of_scenario s listed xs all.1)

  rows_made : (n : ℕ) (rest : List (List Proxy)) → ((k : ℕ) (proxies : List Proxy) → slice_get rest k ≡ Some proxies → slice_get scenarios (n + k) ≡ Some proxies) → AllByRecursion (AllByRecursion IsSound) rest
      → AllByRecursion (IsOfScenario c seed scenarios) (flat_map (λ s. map (delivery_of c.ticks seed s) (table_connections c)) (enumerate_from n rest))
  rows_made n [] at sound = tt
  rows_made n (proxies ∷ rest) at sound =
      let s : ℕ × List Proxy = (n, proxies) in
      let here : n + 0 ≡ n = omega arith in
      let listed : slice_get scenarios n ≡ Some proxies = ap (slice_get scenarios) (sym here) ∙ at 0 proxies refl in
      all_append (IsOfScenario c seed scenarios) (map (delivery_of c.ticks seed s) (table_connections c)) (flat_map (λ s. map (delivery_of c.ticks seed s) (table_connections c)) (enumerate_from (n + 1) rest))
      (of_scenario s listed (table_connections c) (row_is_recorded laws c seed s sound.0 in_time))
      (rows_made (n + 1) rest (λ k q is. let next : n + 1 + k ≡ n + suc k = omega arith in ap (slice_get scenarios) next ∙ at (suc k) q is) sound.1)

  pub deliveries_are_recorded : AllByRecursion (AllByRecursion IsSound) scenarios → AllByRecursion (IsOfScenario c seed scenarios) (deliveries c.ticks seed (table_connections c) scenarios)
  unfolding deliveries
  deliveries_are_recorded sound = rows_made 0 scenarios (λ k q is. let here : 0 + k ≡ k = omega arith in ap (slice_get scenarios) here ∙ is) sound
