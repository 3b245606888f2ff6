-- Rows of values, and what is made of recordings, against the definition of what connections contribute.
use Rattle.std.proofs.Common.{◌≡◌, ◌<◌, ◌≤◌, ℕ, zero, suc, ◌+◌, ◌*◌, ◌/◌, ◌%◌, List, [], ◌∷◌, map, length, get_or, Some, refl, sym, ap, ap₂, ◌∙◌, arith}
use Rattle.std.specs.List.{enumerate_from, slice_get}
use Rattle.std.proofs.Math.Nat.{suc-mul, mul-le-mul_right}
use Rattle.std.proofs.lemmas.Nat.{div-add-mod', div_below, mod_below}
use Rattle.std.proofs.lemmas.List.{length-append, length-map, get_or-map, get_or_append_left, get_or-append-add}
use Rattle.std.proofs.lemmas.List.FromFn.{get_or-enumerate_from, length-enumerate_from}
use Rattle.std.proofs.lemmas.Option.{slice_get-get_or, slice_get_within, get_or_from_slice_get}
use Rattle.conn_workers.specs.Recordings.{rows, Contribution, contribution, contribution_of, connections_of, delivery_of, deliveries, whole_table, whole_connections, RecordingView, recording_in, recordings_of, recorded_delivery, recorded_deliveries}
use Rattle.std.proofs.lemmas.Simd.{map-map}
use Rattle.pcap_records.specs.CaptureView.{CaptureView, contents_of}
use Rattle.conn_table.specs.SeenCapture.{seen_capture}
use Rattle.conn_table.specs.IndexedConnections.{IndexedConnection, without_indices, IndexedConnectionsAgree}
use Rattle.conn_table.specs.Tables.{conn_in}
use Rattle.scenarios.specs.declared.proxies.Proxy.{Proxy}
use Rattle.conn_table.specs.Connections.{Connection}
use Rattle.conn_workers.specs.declared.deliveries.Delivery.{Delivery}
use Rattle.conn_workers.specs.DeliveryLaws.{LinesAreContributed, RowsAreContributed, TablesAreWhole}
use Rattle.conn_workers.proofs.TableConnections.{connections_are, conns_are, conns_are_all, counts_are, unopened_is}

-- ---- lists that stand row by row

-- if a place is within rows, they have columns
pub some_columns : (j rows columns : ℕ) → j < rows * columns → 0 < columns
some_columns j rows zero below = let none : rows * zero ≡ zero = omega arith in absurd (omega (arith, below, none))
some_columns j rows (suc columns) below = omega arith

module _ {R C V : Type 0} (f : R → C → V) where
  pub length-rows : (rs : List R) (cs : List C) → length (rows f rs cs) ≡ length rs * length cs
  length-rows [] cs = let e : 0 ≡ 0 * length cs = omega arith in e
  length-rows (r ∷ rs) cs =
      length-append (map (f r) cs) (rows f rs cs) ∙ ap₂ (λ a b. a + b) (length-map cs (f r)) (length-rows rs cs)
      ∙ (let e : length cs + length rs * length cs ≡ suc (length rs) * length cs = omega (arith, suc-mul (length rs) (length cs)) in e)

  -- the value of row s and column c
  pub cell : (rs : List R) (cs : List C) (s c : ℕ) (d : V) (r : R) (x : C) → s < length rs → c < length cs
      → get_or (rows f rs cs) (s * length cs + c) d ≡ f (get_or rs s r) (get_or cs c x)
  cell [] cs s c d r x row column = absurd (omega (arith, row))
  cell (a ∷ rs) cs zero c d r x row column =
      let place : zero * length cs + c ≡ c = omega arith in
      rw place
      (get_or_append_left (map (f a) cs) (rows f rs cs) d c (omega (arith, column, length-map cs (f a)))
      ∙ get_or-map (f a) cs c x d column)
  cell (a ∷ rs) cs (suc s) c d r x row column =
      let place : suc s * length cs + c ≡ length (map (f a) cs) + (s * length cs + c) = omega (arith, suc-mul s (length cs), length-map cs (f a)) in
      rw place
      (get_or-append-add (map (f a) cs) (rows f rs cs) (s * length cs + c) d ∙ cell rs cs s c d r x (omega (arith, row)) column)

  -- of as many columns, the value at a place
  pub at_place : (rs : List R) (cs : List C) (j : ℕ) (d : V) (r : R) (x : C) → 0 < length cs → j < length rs * length cs
      → get_or (rows f rs cs) j d ≡ f (get_or rs (j / length cs) r) (get_or cs (j % length cs) x)
  at_place rs cs j d r x some below =
      ap (λ k. get_or (rows f rs cs) k d) (sym (div-add-mod' j (length cs)))
      ∙ cell rs cs (j / length cs) (j % length cs) d r x (div_below j (length cs) (length rs) some below) (mod_below j (length cs) some)

  -- the same if row and column are known
  pub cell_found : (rs : List R) (cs : List C) (s c : ℕ) (r : R) (x : C) → slice_get rs s ≡ Some r → slice_get cs c ≡ Some x
      → slice_get (rows f rs cs) (s * length cs + c) ≡ Some (f r x)
  cell_found rs cs s c r x row column =
      let row_within : s < length rs = slice_get_within rs s r row in
      let column_within : c < length cs = slice_get_within cs c x column in
      let below : suc s * length cs ≤ length rs * length cs = mul-le-mul_right (length cs) row_within in
      let within : s * length cs + c < length (rows f rs cs) = omega (arith, below, column_within, suc-mul s (length cs), length-rows rs cs) in
      slice_get-get_or (rows f rs cs) (s * length cs + c) (f r x) within
      ∙ ap Some (cell rs cs s c (f r x) r x row_within column_within
      ∙ ap₂ f (get_or_from_slice_get rs s r r row) (get_or_from_slice_get cs c x x column))

-- two outlines of lists that are mapped from one list
module _ {R C D E V : Type 0} (f : R → C → V) (g : R → D → V) (a : E → C) (b : E → D) (alike : (r : R) (x : E) → f r (a x) ≡ g r (b x)) where
  pub row_alike : (r : R) (xs : List E) → map (f r) (map a xs) ≡ map (g r) (map b xs)
  row_alike r [] = refl
  row_alike r (x ∷ xs) = rw (alike r x, row_alike r xs) refl

  pub rows_alike : (rs : List R) (xs : List E) → rows f rs (map a xs) ≡ rows g rs (map b xs)
  rows_alike [] xs = refl
  rows_alike (r ∷ rs) xs = rw (row_alike r xs, rows_alike rs xs) refl

-- ---- lists whose elements are numbered

pub get_or-numbered : {X : Type 0} (xs : List X) (k : ℕ) (d : X) → k < length xs → get_or (enumerate_from 0 xs) k (0, d) ≡ (k, get_or xs k d)
get_or-numbered xs k d within =
    get_or-enumerate_from 0 xs k (0, d) within ∙ ap (λ i. let p : ℕ × _ = (i, get_or xs k d) in p) (let e : 0 + k ≡ k = omega arith in e)

pub numbered : {X : Type 0} (xs : List X) (k : ℕ) (x : X) → slice_get xs k ≡ Some x → slice_get (enumerate_from 0 xs) k ≡ Some (k, x)
numbered xs k x is =
    let within : k < length xs = slice_get_within xs k x is in
    slice_get-get_or (enumerate_from 0 xs) k (0, x) (omega (arith, within, length-enumerate_from 0 xs))
    ∙ ap Some (get_or-numbered xs k x within) ∙ ap (λ y. let p : ℕ × _ = (k, y) in Some p) (get_or_from_slice_get xs k x x is)

-- what is made of numbered elements, and tells their numbers, has its own place for its number
pub number_is : {X C : Type 0} (f : ℕ × X → C) (number : C → ℕ) → ((p : ℕ × X) → number (f p) ≡ p.0)
    → (n : ℕ) (xs : List X) (k : ℕ) (c : C) → slice_get (map f (enumerate_from n xs)) k ≡ Some c → number c ≡ n + k
number_is f number tells n [] k c is = absurd (omega (arith, slice_get_within [] k c is))
number_is f number tells n (x ∷ xs) zero c is = ap number (let same : c ≡ f (n, x) = cc in same) ∙ tells (n, x) ∙ (let e : n ≡ n + zero = omega arith in e)
number_is f number tells n (x ∷ xs) (suc k) c is = number_is f number tells (n + 1) xs k c is ∙ (let e : n + 1 + k ≡ n + suc k = omega arith in e)

-- ---- what is made of recordings, against the definition of what connections contribute

-- of the table's connection and what is recorded of it, or of the connection
delivery_is : (seed : ℕ) (c : CaptureView) (s : ℕ × List Proxy) (x : IndexedConnection) → recorded_delivery seed s (recording_in c x) ≡ delivery_of c.ticks seed s (without_indices x)
unfolding contribution
delivery_is seed c s x = refl

pub deliveries_are : IndexedConnectionsAgree → (seed : ℕ) (c : CaptureView) (scenarios : List (List Proxy))
    → recorded_deliveries seed (recordings_of c) scenarios ≡ deliveries c.ticks seed (connections_of (seen_capture (contents_of c))) scenarios
unfolding recorded_deliveries deliveries
deliveries_are agree seed c scenarios =
    rows_alike (recorded_delivery seed) (delivery_of c.ticks seed) (recording_in c) without_indices (delivery_is seed c) (enumerate_from 0 scenarios) (whole_connections c)
    ∙ ap (λ conns. deliveries c.ticks seed conns scenarios) (connections_are agree c)

pub rows_are_contributed : IndexedConnectionsAgree → RowsAreContributed
rows_are_contributed agree seed c s =
    row_alike (recorded_delivery seed) (delivery_of c.ticks seed) (recording_in c) without_indices (delivery_is seed c) s (whole_connections c)
    ∙ ap (λ (cs : List Connection). map (delivery_of c.ticks seed s) cs) (connections_are agree c)

pub lines_are_contributed : IndexedConnectionsAgree → LinesAreContributed
lines_are_contributed agree seed c s =
    row_alike (λ t r. (recorded_delivery seed t r).line) (λ t x. (contribution_of c.ticks seed t x).line) (recording_in c) without_indices (λ t x. ap (λ (d : Delivery). d.line) (delivery_is seed c t x)) s (whole_connections c)
    ∙ ap (λ (cs : List Connection). map (λ x. (contribution_of c.ticks seed s x).line) cs) (connections_are agree c) ∙ sym (map-map (λ (p : Contribution). p.line) (contribution_of c.ticks seed s) (connections_of (seen_capture (contents_of c))))

-- ---- by jobs

pub length-recorded_deliveries : (seed : ℕ) (recordings : List RecordingView) (scenarios : List (List Proxy))
    → length (recorded_deliveries seed recordings scenarios) ≡ length scenarios * length recordings
unfolding recorded_deliveries
length-recorded_deliveries seed recordings scenarios =
    length-rows (recorded_delivery seed) (enumerate_from 0 scenarios) recordings ∙ ap (λ n. n * length recordings) (length-enumerate_from 0 scenarios)

-- the delivery of a job, whatever stands past the last of any list
pub job_is : (seed : ℕ) (recordings : List RecordingView) (scenarios : List (List Proxy)) (job : ℕ) (r : RecordingView) (proxies : List Proxy) (other : Delivery)
    → job < length (recorded_deliveries seed recordings scenarios)
    → recorded_delivery seed (job / length recordings, get_or scenarios (job / length recordings) proxies) (get_or recordings (job % length recordings) r)
    ≡ get_or (recorded_deliveries seed recordings scenarios) job other
unfolding recorded_deliveries
job_is seed recordings scenarios job r proxies other within =
    let count : ℕ = length recordings in
    let below : job < length scenarios * count = omega (arith, within, length-recorded_deliveries seed recordings scenarios) in
    let some : 0 < count = some_columns job (length scenarios) count below in
    let row : job / count < length scenarios = div_below job count (length scenarios) some below in
    let inside : job < length (enumerate_from 0 scenarios) * count = rw (length-enumerate_from 0 scenarios) below in
    sym (at_place (recorded_delivery seed) (enumerate_from 0 scenarios) recordings job other (0, proxies) r some inside
    ∙ ap (λ s. recorded_delivery seed s (get_or recordings (job % count) r)) (get_or-numbered scenarios (job / count) proxies row))

-- a recording for each connection of the table
pub as_many_recorded : (c : CaptureView) → length (recordings_of c) ≡ length (whole_table c).conns
as_many_recorded c = length-map (whole_connections c) (recording_in c) ∙ sym (length-map (whole_connections c) (conn_in c)) ∙ ap length (sym (conns_are c))

pub tables_are_whole : IndexedConnectionsAgree → TablesAreWhole
tables_are_whole agree c = record {
  connections = connections_are agree c;
  conns = conns_are_all agree c;
  recordings = as_many_recorded c;
  unopened = unopened_is c;
  counts = counts_are c;
}
