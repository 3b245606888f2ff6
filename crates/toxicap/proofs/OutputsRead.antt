-- Output captures are read back whole.
use Rattle.std.proofs.Common.{◌≡◌, ◌≤◌, ℕ, ◌+◌, Bool, true, false, ◌||◌, nat_lt, List, [], ◌∷◌, ◌++◌, length, map, drop, Ok, Err, refl, sym, ap, ap₂, ◌∙◌}
use Rattle.std.proofs.Common.{subst, arith, if◌then◌else◌}
use Rattle.std.proofs.lemmas.Bool.{ltb-false}
use Rattle.toxicap.specs.{AllByRecursion, enumerate_from, flat_map, Unit, ticks_of, Little, Packet, Contents, Reading, capture_limit, reading}
use Rattle.toxicap.specs.{record_header_len, file_header, record_bytes, record_header, written_capture, IsWritable, WrittenIsRead, ReadingsSplit}
use Rattle.toxicap.specs.{HeadersAreSound, SegmentsFit, TooManyScenarios, Framed, Proxy, indexed_segments, Connection, connections, WrittenConnection, below}
use Rattle.toxicap.specs.{sorted_by_key, capture_of, client_of, server_of, vlan_of, recorded_connection, DeliveredConnection, delivered_connection}
use Rattle.toxicap.specs.{written_connection, NeverFalls, SortedNeverFalls, NoneBelow, met_proxy, contribution, contribution_of, SeenCapture, seen_packets}
use Rattle.toxicap.specs.{seen_capture, scenario_output, outputs_of, scenario_limit, answer, NeverFall, IsSoundFrame, IsReadWhole, OutputsAreRead}
use Rattle.toxicap.proofs.ReadCaptures.{each_of_both, reading_unit, HasBytes, IsSoundConnection, packets_have, connections_are, server_base_fits}
use Rattle.toxicap.proofs.WrittenFrames.{IsSoundWritten, IsWritten, all-sorted_by_key, segments_are}

-- ---- packets of written segments

not_earlier : (a b : ℕ) (later : Bool) → nat_lt a b || later ≡ false → b ≤ a
not_earlier a b later test = by (nat_lt a b) refl test
  where
    by : (t : Bool) → nat_lt a b ≡ t → t || later ≡ false → b ≤ a
    by true is test = absurd cc
    by false is test = ltb-false a b is

abbrev pub packet_of : Framed → Packet
packet_of x = record { stamp = x.key.moment; bytes = drop record_header_len x.bytes }

module _ (ticks : ℕ) where
  -- a record of some connection
  abbrev pub IsOfSome : Framed → Type 0
  IsOfSome x = (c : WrittenConnection) × IsWritten ticks c x

  of_some : (c : WrittenConnection) (xs : List Framed) → AllByRecursion (IsWritten ticks c) xs → AllByRecursion IsOfSome xs
  of_some c [] all = tt
  of_some c (x ∷ xs) all = ((c, all.0), of_some c xs all.1)

  pub frame_is : (x : Framed) (c : WrittenConnection) (is : IsWritten ticks c x) → (packet_of x).bytes ≡ is.is.frame
  unfolding record_header
  frame_is x c is = ap (drop record_header_len) is.is.bytes

  bytes_are : (xs : List Framed) → AllByRecursion IsOfSome xs → flat_map (λ x. x.bytes) xs ≡ flat_map (λ p. record_bytes ticks p.stamp p.bytes) (map packet_of xs)
  bytes_are [] all = refl
  bytes_are (x ∷ xs) ((c, is), all) = ap₂ (λ bs more. bs ++ more) (is.is.bytes ∙ ap (record_bytes ticks x.key.moment) (sym (frame_is x c is))) (bytes_are xs all)

  writable : (xs : List Framed) → AllByRecursion IsOfSome xs → AllByRecursion (IsWritable ticks) (map packet_of xs)
  writable [] all = tt
  writable (x ∷ xs) ((c, is), all) = (record { stamped = is.in_time; limited = rw (frame_is x c is) is.is.limited }, writable xs all)

  sound : (xs : List Framed) → AllByRecursion IsOfSome xs → AllByRecursion (λ p. IsSoundFrame p.bytes) (map packet_of xs)
  sound [] all = tt
  sound (x ∷ xs) ((c, is), all) = (subst IsSoundFrame (sym (frame_is x c is)) is.is.sound, sound xs all)

never_fall : (x : Framed) (xs : List Framed) → NoneBelow below x xs → NeverFalls xs → NeverFall x.key.moment (map packet_of xs)
never_fall x [] none ordered = tt
never_fall x (y ∷ ys) none ordered = (not_earlier y.key.moment x.key.moment _ none.0, never_fall y ys ordered.0 ordered.1)

in_time_order : (xs : List Framed) → NeverFalls xs → NeverFall 0 (map packet_of xs)
in_time_order [] ordered = tt
in_time_order (x ∷ xs) ordered = (omega arith, never_fall x xs ordered.0 ordered.1)

-- the reading of a capture: a packet for each record, in order
abbrev pub reading_of : ℕ → List Framed → Reading
reading_of ticks xs = record { order = Little; contents = record { ticks = ticks; packets = map packet_of (sorted_by_key xs); rest = 0 } }

pub capture_reading : WrittenIsRead → (unit : Unit) (xs : List Framed) → AllByRecursion (IsOfSome (ticks_of unit)) xs
    → length (capture_of (ticks_of unit) xs) ≤ capture_limit → reading (capture_of (ticks_of unit) xs) ≡ Ok (reading_of (ticks_of unit) xs)
unfolding capture_of
capture_reading written_is_read unit xs written within =
    let ticks : ℕ = ticks_of unit in
    let all = all-sorted_by_key (IsOfSome ticks) xs written in
    let bytes : file_header ticks ++ flat_map (λ x. x.bytes) (sorted_by_key xs) ≡ written_capture ticks (map packet_of (sorted_by_key xs)) =
    ap (λ bs. file_header ticks ++ bs) (bytes_are ticks (sorted_by_key xs) all) in
    rw bytes (written_is_read unit (map packet_of (sorted_by_key xs)) (writable ticks (sorted_by_key xs) all) (rw bytes at within))

capture_read : SortedNeverFalls → WrittenIsRead → (unit : Unit) (xs : List Framed) → AllByRecursion (IsOfSome (ticks_of unit)) xs
    → length (capture_of (ticks_of unit) xs) ≤ capture_limit → IsReadWhole (ticks_of unit) (capture_of (ticks_of unit) xs)
capture_read never_falls written_is_read unit xs written within = (
  map packet_of (sorted_by_key xs),
  capture_reading written_is_read unit xs written within,
  in_time_order (sorted_by_key xs) (never_falls xs),
  sound (ticks_of unit) (sorted_by_key xs) (all-sorted_by_key (IsOfSome (ticks_of unit)) xs written),
)

-- ---- outputs

abbrev pub written_of : Connection → DeliveredConnection → WrittenConnection
written_of c d = written_connection c.number (vlan_of c) (client_of c) (server_of c) (recorded_connection c) d

talk_is : (c : Connection) → IsSoundConnection c → (d : DeliveredConnection) → IsSoundWritten (written_of c d)
talk_is c is d = record {
  client = record { mac = is.opening.mac_from; addr = is.opening.from_addr; port = is.opening.from_port };
  server = record { mac = is.opening.mac_to; addr = is.opening.to_addr; port = is.opening.to_port };
  differ = is.opening.differ;
  client_base = is.opening.seq;
  server_base = server_base_fits c is;
  vlan = is.opening.vlan;
}

module _ (sound_headers : HeadersAreSound) (ticks seed : ℕ) where
  pub part_is : (scenario : ℕ × List Proxy) (c : Connection) → IsSoundConnection c
      → (d : DeliveredConnection) × AllByRecursion (IsWritten ticks (written_of c d)) (contribution_of ticks seed scenario c).segments
  unfolding contribution
  part_is (number, proxies) c is =
      let d : DeliveredConnection = delivered_connection ticks seed number c.number (met_proxy (server_of c) proxies) (recorded_connection c) in
      (d, segments_are ticks sound_headers (written_of c d) (talk_is c is d))

  pub parts_are : (scenario : ℕ × List Proxy) (cs : List Connection) → AllByRecursion IsSoundConnection cs
      → AllByRecursion (IsOfSome ticks) (flat_map (λ p. p.segments) (map (contribution_of ticks seed scenario) cs))
  parts_are scenario [] all = tt
  parts_are scenario (c ∷ cs) all =
      let part = part_is scenario c all.0 in
      each_of_both (IsOfSome ticks) _ _ (of_some ticks (written_of c part.0) _ part.1) (parts_are scenario cs all.1)

outputs_read : SortedNeverFalls → WrittenIsRead → HeadersAreSound → SegmentsFit → (unit : Unit) (packets : List Packet) (rest : ℕ) → AllByRecursion HasBytes packets → (seed n : ℕ) (scenarios : List (List Proxy))
    → let c : SeenCapture = seen_capture (record { ticks = ticks_of unit; packets = packets; rest = rest }) in
    AllByRecursion (λ o. length o.capture ≤ capture_limit → IsReadWhole (ticks_of unit) o.capture) (map (scenario_output c seed) (enumerate_from n scenarios))
unfolding scenario_output
outputs_read never_falls written_is_read sound_headers fit unit packets rest have seed n [] = tt
outputs_read never_falls written_is_read sound_headers fit unit packets rest have seed n (s ∷ scenarios) =
    let all = parts_are sound_headers (ticks_of unit) seed (n, s) (connections (indexed_segments 0 (seen_packets 0 packets))) (connections_are fit packets have) in
    (capture_read never_falls written_is_read unit _ all, outputs_read never_falls written_is_read sound_headers fit unit packets rest have seed (n + 1) scenarios)

with_ticks : (c : Contents) (ticks : ℕ) → c.ticks ≡ ticks → c ≡ record { ticks = ticks; packets = c.packets; rest = c.rest }
with_ticks c ticks counted = ap (λ (t : ℕ). let d : Contents = record { ticks = t; packets = c.packets; rest = c.rest } in d) counted

pub outputs_are_read : SortedNeverFalls → ReadingsSplit → WrittenIsRead → HeadersAreSound → SegmentsFit → OutputsAreRead
unfolding answer outputs_of
outputs_are_read never_falls readings_split written_is_read sound_headers fit bytes read scenarios seed outputs are is answered =
    by (nat_lt scenario_limit (length scenarios)) (rw is at answered)
  where
    unit : Unit
    unit = (reading_unit readings_split bytes read is).0

    counted : read.contents.ticks ≡ ticks_of unit
    counted = (reading_unit readings_split bytes read is).1

    each : AllByRecursion (λ o. length o.capture ≤ capture_limit → IsReadWhole (ticks_of unit) o.capture)
        (outputs_of (seen_capture (record { ticks = ticks_of unit; packets = read.contents.packets; rest = read.contents.rest })) scenarios seed)
    each = outputs_read never_falls written_is_read sound_headers fit unit read.contents.packets read.contents.rest (packets_have readings_split bytes read is are) seed 0 scenarios

    by : (over : Bool) → (if over then Err TooManyScenarios else Ok (outputs_of (seen_capture read.contents) scenarios seed)) ≡ Ok outputs
        → AllByRecursion (λ o. length o.capture ≤ capture_limit → IsReadWhole read.contents.ticks o.capture) outputs
    by true answered = absurd cc
    by false answered =
        let same : outputs_of (seen_capture read.contents) scenarios seed ≡ outputs = cc in
        let alike : outputs_of (seen_capture (record { ticks = ticks_of unit; packets = read.contents.packets; rest = read.contents.rest })) scenarios seed ≡ outputs =
        sym (ap (λ (c : Contents). outputs_of (seen_capture c) scenarios seed) (with_ticks read.contents (ticks_of unit) counted)) ∙ same in
        rw counted (subst (λ os. AllByRecursion (λ o. length o.capture ≤ capture_limit → IsReadWhole (ticks_of unit) o.capture) os) alike each)
