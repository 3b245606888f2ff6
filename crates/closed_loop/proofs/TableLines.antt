-- The connections of a capture's table, and what is recorded of them.
use Rattle.std.proofs.Common.{◌≡◌, ◌∙◌, sym, ap, refl, ℕ, zero, suc, ◌<◌, ◌≤◌, ◌+◌, min, List, [], ◌∷◌, ◌++◌, map, length, get_or, take, drop, Option, Some, None, option_map, arith}
use Rattle.std.proofs.lemmas.List.{length-map}
use Rattle.closed_loop.specs.declared.manners.Manners.{Manners}
use Rattle.closed_loop.specs.Scripts.{scripts_of}
use Rattle.std.specs.List.{AllByRecursion, slice_get}
use Rattle.std.proofs.lemmas.Option.{slice_get-map, get_or_from_slice_get, slice_get_within}
use Rattle.std.proofs.lemmas.List.Elements.{All-from_recursion}
use Rattle.pcap_records.specs.CaptureView.{CaptureView}
use Rattle.conn_table.specs.declared.conns.Conn.{Conn}
use Rattle.conn_table.specs.IndexedConnections.{IndexedConnection}
use Rattle.conn_table.specs.Tables.{table_in, conn_in}
use Rattle.reassembly.specs.RecordedView.{IsConnOf, IsConnectionOf, ConnectionsAreOfCapture, ConnsAreOfCapture}
use Rattle.conn_workers.specs.Recordings.{whole_table, whole_connections, RecordingView, recording_in, recordings_of}

pub conns_are : (c : CaptureView) → (whole_table c).conns ≡ map (conn_in c) (whole_connections c)
unfolding table_in
conns_are c = refl

pub is_of_capture : (c : CaptureView) (conns : List Conn) (i : ℕ) (conn : Conn) → conns ≡ (whole_table c).conns → ConnsAreOfCapture
    → i < length conns → conn ≡ get_or conns i conn → IsConnOf c conn
is_of_capture c conns i conn shown are within read =
    let all : AllByRecursion (IsConnOf c) conns = rw (shown, conns_are c) (are c 0 (length c.records) 0) in
    rw read (All-from_recursion (IsConnOf c) conns all i conn within)

-- the connection at a place, and what is recorded of it
pub record StandsAt (c : CaptureView) (conn : Conn) (x : RecordingView) : Type 0 where
  pub connection : IndexedConnection
  pub of_capture : IsConnectionOf c connection
  pub shown : conn ≡ conn_in c connection
  pub recording : x ≡ recording_in c connection

some_is : {X : Type 0} (a b : X) → Some a ≡ Some b → a ≡ b
some_is a b is = cc

pub at_place : (c : CaptureView) (conns : List Conn) (i : ℕ) (conn : Conn) (x : RecordingView) → conns ≡ (whole_table c).conns → ConnectionsAreOfCapture
    → slice_get conns i ≡ Some conn → slice_get (recordings_of c) i ≡ Some x → StandsAt c conn x
at_place c conns i conn x shown are conn_at x_at = by_place (slice_get (whole_connections c) i) refl
  where
    conn_there : option_map (conn_in c) (slice_get (whole_connections c) i) ≡ Some conn
    conn_there = sym (slice_get-map (conn_in c) (whole_connections c) i) ∙ ap (λ (xs : List Conn). slice_get xs i) (sym (shown ∙ conns_are c)) ∙ conn_at

    x_there : option_map (recording_in c) (slice_get (whole_connections c) i) ≡ Some x
    x_there = sym (slice_get-map (recording_in c) (whole_connections c) i) ∙ x_at

    by_place : (o : Option IndexedConnection) → slice_get (whole_connections c) i ≡ o → StandsAt c conn x
    by_place None at = absurd (let e = rw at at conn_there in cc)
    by_place (Some y) at = record {
      connection = y;
      of_capture = rw (← get_or_from_slice_get (whole_connections c) i y y at)
          (All-from_recursion (IsConnectionOf c) (whole_connections c) (are c 0 (length c.records) 0) i y (slice_get_within (whole_connections c) i y at));
      shown = sym (some_is (conn_in c y) conn (rw at at conn_there));
      recording = sym (some_is (recording_in c y) x (rw at at x_there));
    }

pub as_many : (c : CaptureView) → length (recordings_of c) ≡ length (whole_table c).conns
as_many c =
    length-map (whole_connections c) (recording_in c) ∙ sym (length-map (whole_connections c) (conn_in c)) ∙ ap length (sym (conns_are c))

-- ---- the element at a place

pub record IsNext {X : Type 0} (xs : List X) (i : ℕ) : Type 0 where
  pub item : X
  pub at : slice_get xs i ≡ Some item
  pub taken : take (i + 1) xs ≡ take i xs ++ item ∷ []
  pub left : drop i xs ≡ item ∷ drop (i + 1) xs

pub next : {X : Type 0} (xs : List X) (i : ℕ) → i < length xs → IsNext xs i
next [] i within = absurd (omega arith)
next (x ∷ xs) zero within = record { item = x; at = refl; taken = refl; left = refl }
next (x ∷ xs) (suc i) within =
    let rest = next xs i (omega arith) in
    let e : suc i + 1 ≡ suc (i + 1) = omega arith in
    record { item = rest.item; at = rest.at; taken = rw e (ap (λ ys. x ∷ ys) rest.taken); left = rw e rest.left }

-- ---- scripts

pub scripts_end : (manners : Manners) (recorded : List (Option ℕ)) (xs : List Conn) (rs : List RecordingView) (n : ℕ) → min (length xs) (length rs) ≤ n
    → scripts_of manners recorded (drop n xs) (map (λ (r : RecordingView). r.recorded) (drop n rs)) ≡ []
scripts_end manners recorded [] rs zero all = refl
scripts_end manners recorded [] rs (suc n) all = refl
scripts_end manners recorded (x ∷ xs) [] zero all = refl
scripts_end manners recorded (x ∷ xs) (r ∷ rs) zero all = absurd (omega arith)
scripts_end manners recorded (x ∷ xs) [] (suc n) all = by_rest (drop n xs)
  where
    by_rest : (ys : List Conn) → scripts_of manners recorded ys [] ≡ []
    by_rest [] = refl
    by_rest (y ∷ ys) = refl
scripts_end manners recorded (x ∷ xs) (r ∷ rs) (suc n) all = scripts_end manners recorded xs rs n (omega arith)
