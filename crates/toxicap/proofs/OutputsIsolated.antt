-- What other connections meet changes no line of a report and no record between the ends of a connection.
use Rattle.std.proofs.Common.{◌≡◌, ◌≤◌, ℕ, zero, suc, ◌+◌, Bool, true, false, nat_lt, cond, List, [], ◌∷◌, ◌++◌, length, map, filter, Option, Some, Ok, Err}
use Rattle.std.proofs.Common.{inl, inr, refl, sym, ap, ap₂, ◌∙◌, subst, arith, if◌then◌else◌}
use Rattle.std.specs.Prelude.{slice_get}
use Rattle.std.proofs.Math.Bool.{or_comm}
use Rattle.std.proofs.lemmas.Bool.{ltb-false}
use Rattle.std.proofs.lemmas.List.Elements.{filter-append}
use Rattle.std.proofs.lemmas.Simd.{map-map}
use Rattle.pcap_records.specs.declared.fault.CaptureFault.TheVariants.{CaptureTooLong}
use Rattle.toxicap.specs.{AllByRecursion, enumerate_from, flat_map, ShortHeader, Unit, ticks_of, Reading, capture_limit, file_header_len, magic_heading}
use Rattle.toxicap.specs.{checked_heading, file_heading, reading, WrittenIsRead, ReadingsSplit, segment_fields, HeadersAreSound, SegmentsFit, SeenCapture}
use Rattle.toxicap.specs.{seen_capture, indexed_segments, Connection, unopened_count, server_of, MetProxy, DeliveredConnection, Framed, is_key_below, below}
use Rattle.toxicap.specs.{insert_by_key, sorted_by_key, NeverFalls, SortedNeverFalls, NoneBelow, capture_of, Proxy, contribution, contribution_of, met_proxy}
use Rattle.toxicap.specs.{connections_of, TooManyScenarios, Output, scenario_output, outputs_of, scenario_limit, answer, IsOutput, HaveSameLine}
use Rattle.toxicap.specs.{HaveSameRecords, line_of, is_between, packets_between, AreBytes}
use Rattle.toxicap.proofs.ReadCaptures.{each_filtered, reading_unit, IsSoundConnection, packets_have, connections_are}
use Rattle.toxicap.proofs.WrittenFrames.{HasEnds, IsWritten}
use Rattle.toxicap.proofs.OutputsRead.{packet_of, frame_is, IsOfSome, reading_of, capture_reading, written_of, part_is, parts_are}
use Rattle.toxicap.proofs.ReportLines.{is_line, line_body, connection_is, line_in_report}

-- ---- the output of a scenario

module _ {X Y : Type 0} (f : ℕ × X → Y) where
  output_at : (n : ℕ) (xs : List X) (k : ℕ) (x : X) → slice_get xs k ≡ Some x → slice_get (map f (enumerate_from n xs)) k ≡ Some (f (n + k, x))
  output_at n [] k x is = absurd cc
  output_at n (y ∷ xs) zero x is = ap₂ (λ (i : ℕ) (z : X). Some (f (i, z))) (let e : n ≡ n + zero = omega arith in e) (let same : y ≡ x = cc in same)
  output_at n (y ∷ xs) (suc k) x is = output_at (n + 1) xs k x is ∙ ap (λ (i : ℕ). Some (f (i, x))) (let e : n + 1 + k ≡ n + suc k = omega arith in e)

output_is : (bytes : List ℕ) (read : Reading) (seed s : ℕ) (proxies : List Proxy) (o : Output) → reading bytes ≡ Ok read → IsOutput bytes seed s proxies o
    → scenario_output (seen_capture read.contents) seed (s, proxies) ≡ o
unfolding answer outputs_of
output_is bytes read seed s proxies o is of = by (nat_lt scenario_limit (length of.scenarios)) (rw is at of.answered)
  where
    by : (over : Bool) → (if over then Err TooManyScenarios else Ok (outputs_of (seen_capture read.contents) of.scenarios seed)) ≡ Ok of.outputs
        → scenario_output (seen_capture read.contents) seed (s, proxies) ≡ o
    by true answered = absurd cc
    by false answered =
        let c : SeenCapture = seen_capture read.contents in
        let same : outputs_of c of.scenarios seed ≡ of.outputs = cc in
        let zero_on : s ≡ 0 + s = omega arith in
        let found : Some (scenario_output c seed (s, proxies)) ≡ Some o =
        ap (λ (n : ℕ). Some (scenario_output c seed (n, proxies))) zero_on ∙ sym (output_at (scenario_output c seed) 0 of.scenarios s proxies of.scenario)
        ∙ ap (λ (os : List Output). slice_get os s) same ∙ of.output in
        cc

-- ---- lines

-- a connection meets the same proxy in both lists
abbrev HaveSameProxy : List Proxy → List Proxy → Connection → Type 0
HaveSameProxy a b x = met_proxy (server_of x) a ≡ met_proxy (server_of x) b

own_line : (c : SeenCapture) (seed number s : ℕ) (proxies : List Proxy) (x : Connection) → slice_get (connections_of c) number ≡ Some x
    → line_of (scenario_output c seed (s, proxies)).report (number + 2) ≡ Some (line_body (contribution_of c.ticks seed (s, proxies) x).line)
unfolding scenario_output contribution
own_line c seed number s proxies x is =
    rw map-map (line_in_report (λ y. (contribution_of c.ticks seed (s, proxies) y).line) are s c (unopened_count (indexed_segments 0 c.packets)) (connections_of c) number x is)
  where
    are : (y : Connection) → is_line true (contribution_of c.ticks seed (s, proxies) y).line ≡ true
    are y = connection_is _ _ _ _ _ _

lines_kept : (c : SeenCapture) (seed number s : ℕ) (a b : List Proxy) (x : Connection) → slice_get (connections_of c) number ≡ Some x
    → HaveSameProxy a b x → HaveSameLine number (scenario_output c seed (s, a)) (scenario_output c seed (s, b))
lines_kept c seed number s a b x is same = (
  line_body (contribution_of c.ticks seed (s, a) x).line,
  own_line c seed number s a x is,
  own_line c seed number s b x is ∙ ap (λ (met : Option MetProxy). Some (line_body (contribution c.ticks x s seed met).line)) (sym same),
)

-- ---- records in order of key that are filtered

first_inserted : (x : Framed) (ys : List Framed) → NoneBelow below x ys → insert_by_key x ys ≡ x ∷ ys
first_inserted x [] none = refl
first_inserted x (y ∷ ys) none = rw none.0 refl

module _ (q : Framed → Bool) where
  inserted_filtered : (x : Framed) (ys : List Framed) → NeverFalls (insert_by_key x ys) → filter q (insert_by_key x ys) ≡ cond (q x) (insert_by_key x (filter q ys)) (filter q ys)
  inserted_filtered x [] ordered = refl
  inserted_filtered x (y ∷ ys) ordered = by (is_key_below y.key x.key) refl (λ h. inserted_filtered x ys h) ordered
    where
      passed : is_key_below y.key x.key ≡ true → (kept keep : Bool)
          → cond keep (y ∷ cond kept (insert_by_key x (filter q ys)) (filter q ys)) (cond kept (insert_by_key x (filter q ys)) (filter q ys))
          ≡ cond kept (insert_by_key x (cond keep (y ∷ filter q ys) (filter q ys))) (cond keep (y ∷ filter q ys) (filter q ys))
      passed lower true true = rw lower refl
      passed lower true false = refl
      passed lower false keep = refl

      by : (lower : Bool) → is_key_below y.key x.key ≡ lower → (NeverFalls (insert_by_key x ys) → filter q (insert_by_key x ys) ≡ cond (q x) (insert_by_key x (filter q ys)) (filter q ys))
          → NeverFalls (if lower then y ∷ insert_by_key x ys else x ∷ y ∷ ys)
          → filter q (if lower then y ∷ insert_by_key x ys else x ∷ y ∷ ys) ≡ cond (q x) (insert_by_key x (filter q (y ∷ ys))) (filter q (y ∷ ys))
      by true lower rest ordered = rw (rest ordered.1) (passed lower (q x) (q y))
      by false higher rest ordered =
          ap (λ (zs : List Framed). cond (q x) zs (filter q (y ∷ ys))) (sym (first_inserted x (filter q (y ∷ ys)) (each_filtered (λ z. below z x ≡ false) q (y ∷ ys) ordered.0)))

  sorted_filtered : SortedNeverFalls → (xs : List Framed) → filter q (sorted_by_key xs) ≡ sorted_by_key (filter q xs)
  unfolding sorted_by_key
  sorted_filtered never_falls [] = refl
  sorted_filtered never_falls (x ∷ xs) = inserted_filtered x (sorted_by_key xs) (never_falls (x ∷ xs)) ∙ by (q x) (sorted_filtered never_falls xs)
    where
      by : (keep : Bool) → filter q (sorted_by_key xs) ≡ sorted_by_key (filter q xs)
          → cond keep (insert_by_key x (filter q (sorted_by_key xs))) (filter q (sorted_by_key xs)) ≡ sorted_by_key (cond keep (x ∷ filter q xs) (filter q xs))
      by true rest = ap (insert_by_key x) rest
      by false rest = rest

mapped_filtered : {X Y : Type 0} (p : Y → Bool) (f : X → Y) (xs : List X) → filter p (map f xs) ≡ map f (filter (λ x. p (f x)) xs)
mapped_filtered p f [] = refl
mapped_filtered p f (x ∷ xs) = by (p (f x)) (mapped_filtered p f xs)
  where
    by : (keep : Bool) → filter p (map f xs) ≡ map f (filter (λ x. p (f x)) xs)
        → cond keep (f x ∷ filter p (map f xs)) (filter p (map f xs)) ≡ map f (cond keep (x ∷ filter (λ x. p (f x)) xs) (filter (λ x. p (f x)) xs))
    by true rest = ap (λ ys. f x ∷ ys) rest
    by false rest = rest

-- ---- records between the ends of a connection

module _ (x : Connection) where
  abbrev is_kept : Framed → Bool
  is_kept z = is_between x (segment_fields (packet_of z).bytes)

  other_ends : (ticks : ℕ) (c : Connection) (d : DeliveredConnection) (zs : List Framed) → AllByRecursion (IsWritten ticks (written_of c d)) zs
      → is_between x c.opening.fields ≡ false → filter is_kept zs ≡ []
  other_ends ticks c d [] all other = refl
  other_ends ticks c d (z ∷ zs) (is, all) other = rw (by is.is.ends) (other_ends ticks c d zs all other)
    where
      by : HasEnds (written_of c d) (segment_fields is.is.frame) → is_kept z ≡ false
      by (inl goes) = rw (frame_is ticks z (written_of c d) is, goes.from, goes.to) other
      by (inr goes) = rw (frame_is ticks z (written_of c d) is, goes.from, goes.to, or_comm) other

  module _ (sound_headers : HeadersAreSound) (ticks seed s : ℕ) (a b : List Proxy) where
    same_kept : (cs : List Connection) → AllByRecursion IsSoundConnection cs → AllByRecursion (λ y. is_between x y.opening.fields ≡ true → HaveSameProxy a b y) cs
        → filter is_kept (flat_map (λ p. p.segments) (map (contribution_of ticks seed (s, a)) cs)) ≡ filter is_kept (flat_map (λ p. p.segments) (map (contribution_of ticks seed (s, b)) cs))
    same_kept [] sound meet = refl
    same_kept (c ∷ cs) sound meet =
        filter-append is_kept (contribution_of ticks seed (s, a) c).segments _ ∙ ap₂ (λ (ys : List Framed) (zs : List Framed). ys ++ zs) (by (is_between x c.opening.fields) refl) (same_kept cs sound.1 meet.1)
        ∙ sym (filter-append is_kept (contribution_of ticks seed (s, b) c).segments _)
      where
        none : (proxies : List Proxy) → is_between x c.opening.fields ≡ false → filter is_kept (contribution_of ticks seed (s, proxies) c).segments ≡ []
        none proxies other = let part = part_is sound_headers ticks seed (s, proxies) c sound.0 in other_ends ticks c part.0 _ part.1 other

        by : (between : Bool) → is_between x c.opening.fields ≡ between
            → filter is_kept (contribution_of ticks seed (s, a) c).segments ≡ filter is_kept (contribution_of ticks seed (s, b) c).segments
        by true is = ap (λ (met : Option MetProxy). filter is_kept (contribution ticks c s seed met).segments) (meet.0 is)
        by false is = none a is ∙ sym (none b is)

-- ---- what is read

-- a file that is read is no longer than a capture may be
read_within : ReadingsSplit → (bytes : List ℕ) (r : Reading) → reading bytes ≡ Ok r → length bytes ≤ capture_limit
unfolding file_heading
read_within readings_split bytes r is = by (nat_lt capture_limit (length bytes)) refl (readings_split bytes r is).3.0
  where
    by : (over : Bool) → nat_lt capture_limit (length bytes) ≡ over
        → (if over then Err CaptureTooLong else (if nat_lt (length bytes) file_header_len then Err ShortHeader else checked_heading (magic_heading bytes) bytes)) ≡ Ok (readings_split bytes r is).0
        → length bytes ≤ capture_limit
    by true test told = absurd cc
    by false test told = ltb-false capture_limit (length bytes) test

module _ (never_falls : SortedNeverFalls) (readings_split : ReadingsSplit) (written_is_read : WrittenIsRead) where
  between_are : (x : Connection) (unit : Unit) (ticks : ℕ) → ticks ≡ ticks_of unit → (xs : List Framed) → AllByRecursion (IsOfSome ticks) xs → (one : Reading)
      → reading (capture_of ticks xs) ≡ Ok one → packets_between x one ≡ map packet_of (sorted_by_key (filter (is_kept x) xs))
  between_are x unit ticks counted xs all one is =
      let told : reading (capture_of ticks xs) ≡ Ok (reading_of ticks xs) =
      subst (λ n. AllByRecursion (IsOfSome n) xs → length (capture_of n xs) ≤ capture_limit → reading (capture_of n xs) ≡ Ok (reading_of n xs)) (sym counted)
      (capture_reading written_is_read unit xs) all (read_within readings_split (capture_of ticks xs) one is) in
      let same : one ≡ reading_of ticks xs = cc in
      ap (packets_between x) same ∙ mapped_filtered (λ p. is_between x (segment_fields p.bytes)) packet_of (sorted_by_key xs)
      ∙ ap (map packet_of) (sorted_filtered (is_kept x) never_falls xs)

  records_kept : HeadersAreSound → (c : SeenCapture) (unit : Unit) → c.ticks ≡ ticks_of unit → AllByRecursion IsSoundConnection (connections_of c) → (seed s : ℕ) (a b : List Proxy) (x : Connection)
      → AllByRecursion (λ y. is_between x y.opening.fields ≡ true → HaveSameProxy a b y) (connections_of c) → HaveSameRecords x (scenario_output c seed (s, a)) (scenario_output c seed (s, b))
  unfolding scenario_output
  records_kept sound_headers c unit counted sound seed s a b x same one other one_read other_read =
      between_are x unit c.ticks counted _ (parts_are sound_headers c.ticks seed (s, a) (connections_of c) sound) one one_read
      ∙ ap (λ (zs : List Framed). map packet_of (sorted_by_key zs)) (same_kept x sound_headers c.ticks seed s a b (connections_of c) sound same)
      ∙ sym (between_are x unit c.ticks counted _ (parts_are sound_headers c.ticks seed (s, b) (connections_of c) sound) other other_read)

  pub outputs_kept : HeadersAreSound → SegmentsFit → (bytes : List ℕ) (read : Reading) (seed s number : ℕ) (a b : List Proxy) (first second : Output) (x : Connection)
      → AreBytes bytes → reading bytes ≡ Ok read → IsOutput bytes seed s a first → IsOutput bytes seed s b second
      → slice_get (connections_of (seen_capture read.contents)) number ≡ Some x
      → (HaveSameProxy a b x → HaveSameLine number first second)
      × (AllByRecursion (λ y. is_between x y.opening.fields ≡ true → HaveSameProxy a b y) (connections_of (seen_capture read.contents)) → HaveSameRecords x first second)
  outputs_kept sound_headers fit bytes read seed s number a b first second x are is of_first of_second at =
      let c : SeenCapture = seen_capture read.contents in
      let Kept : Output → Output → Type 0 = λ (o : Output) (p : Output). (HaveSameProxy a b x → HaveSameLine number o p)
      × (AllByRecursion (λ y. is_between x y.opening.fields ≡ true → HaveSameProxy a b y) (connections_of c) → HaveSameRecords x o p) in
      let unit = reading_unit readings_split bytes read is in
      let sound : AllByRecursion IsSoundConnection (connections_of c) = connections_are fit read.contents.packets (packets_have readings_split bytes read is are) in
      subst (λ (o : Output). Kept o second) (output_is bytes read seed s a first is of_first)
      (subst (λ (p : Output). Kept (scenario_output c seed (s, a)) p) (output_is bytes read seed s b second is of_second)
      (lines_kept c seed number s a b x at, records_kept sound_headers c unit.0 unit.1 sound seed s a b x))
