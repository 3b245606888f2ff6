-- Laws of what a rehearsal gives: output captures can be read, other connections do not matter, and reports see how much was sent, not what.
use Rattle.std.specs.Prelude.{◌≡◌, ◌<◌, ◌≤◌, ℕ, List, [], ◌∷◌, length, drop, slice_range, Ok, ◌+◌, ◌==◌, Bool, true, ◌&&◌, ◌||◌, filter, Option, Some}
use Rattle.std.specs.Prelude.{slice_get}
use Rattle.toxicap.specs.Words.{AllByRecursion, slice_split, Little, Packet, Reading, capture_limit, reading, frame_class, segment, segment_fields, datagram}
use Rattle.toxicap.specs.Words.{SegmentFields, sum16, tcp_sum, Output, Proxy, seen_capture, same_peer, Connection, client_of, server_of, met_proxy}
use Rattle.toxicap.specs.Words.{connections_of, DifferInPayloads}
use Rattle.toxicap.specs.Rehearsal.{answer}
use Rattle.toxicap.specs.PrintedReports.{reports_in}

-- ---- each output capture is a whole file of the format, its records in order of time

abbrev pub NeverFall : ℕ → List Packet → Type 0
NeverFall at [] = Unit {0}
NeverFall at (p ∷ ps) = (at ≤ p.stamp) × NeverFall p.stamp ps

-- a TCP segment, with both checksums right: each sum over what it covers, itself among it, is all ones
abbrev pub IsSoundFrame : List ℕ → Type 0
IsSoundFrame frame =
    (frame_class frame ≡ segment)
    × (sum16 (slice_range (datagram frame) 0 20) ≡ 0)
    × (tcp_sum (segment_fields frame).from.addr (segment_fields frame).to.addr (drop 20 (datagram frame)) ≡ 0)

-- a file in `ticks` a second, without a rest, in order of time, of only such frames
abbrev pub IsReadWhole : ℕ → List ℕ → Type 0
IsReadWhole ticks bytes =
    (packets : List Packet)
    × (reading bytes ≡ Ok (record { order = Little; contents = record { ticks = ticks; packets = packets; rest = 0 } }))
    × NeverFall 0 packets
    × AllByRecursion (λ p. IsSoundFrame p.bytes) packets

abbrev pub AreBytes : List ℕ → Type 0
AreBytes xs = AllByRecursion (λ x. x < 256) xs

-- every output of a rehearsal that is no longer than a capture may be, in the ticks of what was read
abbrev pub OutputsAreRead : Type 0
OutputsAreRead =
    (bytes : List ℕ) (read : Reading) (scenarios : List (List Proxy)) (seed : ℕ) (outputs : List Output) → AreBytes bytes → reading bytes ≡ Ok read
    → answer bytes scenarios seed ≡ Ok outputs
    → AllByRecursion (λ o. length o.capture ≤ capture_limit → IsReadWhole read.contents.ticks o.capture) outputs

-- ---- the toxics of other connections change neither a connection's line in the report nor its records in the output capture

-- the output of scenario s with these proxies, in a rehearsal of bytes under some scenarios
pub record IsOutput (bytes : List ℕ) (seed s : ℕ) (proxies : List Proxy) (o : Output) : Type 0 where
  pub scenarios : List (List Proxy)
  pub outputs : List Output
  pub answered : answer bytes scenarios seed ≡ Ok outputs
  pub scenario : slice_get scenarios s ≡ Some proxies
  pub output : slice_get outputs s ≡ Some o

-- a connection meets one proxy under both, with its number, its enabled flag and its toxics, or none under either
abbrev pub MeetsSame : List Proxy → List Proxy → Connection → Type 0
MeetsSame a b x = met_proxy (server_of x) a ≡ met_proxy (server_of x) b

-- ---- lines of a report

-- the line of a number in a text that is cut at its line feeds
abbrev pub line_of : List ℕ → ℕ → Option (List ℕ)
line_of text number = slice_get (slice_split (λ x. x == 10) text) number

-- both reports have one line for the connection of a number, after the two lines of their heads
abbrev pub HaveSameLine : ℕ → Output → Output → Type 0
HaveSameLine number first second =
    (line : List ℕ) × (line_of first.report (number + 2) ≡ Some line) × (line_of second.report (number + 2) ≡ Some line)

-- ---- records of an output capture

-- a segment goes from either end of a connection to the other
abbrev pub is_between : Connection → SegmentFields → Bool
is_between x f =
    (same_peer f.from (client_of x) && same_peer f.to (server_of x)) || (same_peer f.to (client_of x) && same_peer f.from (server_of x))

-- the packets between the ends of a connection, in the order of the file that was read
abbrev pub packets_between : Connection → Reading → List Packet
packets_between x read = filter (λ p. is_between x (segment_fields p.bytes)) read.contents.packets

-- as they are read, both captures have the same packets with the same stamps between the ends of a connection
abbrev pub HaveSameRecords : Connection → Output → Output → Type 0
HaveSameRecords x first second =
    (one other : Reading) → reading first.capture ≡ Ok one → reading second.capture ≡ Ok other → packets_between x one ≡ packets_between x other

-- ---- isolation

-- A capture is rehearsed twice with one seed, and scenario s has the proxies a, then b. If a connection meets the same proxy of both, its line
-- is the same. If each connection between its two ends does, the records between these ends are. What others meet does not matter.
abbrev pub OutputsAreIsolated : Type 0
OutputsAreIsolated =
    (bytes : List ℕ) (read : Reading) (seed s number : ℕ) (a b : List Proxy) (first second : Output) (x : Connection)
    → AreBytes bytes → reading bytes ≡ Ok read → IsOutput bytes seed s a first → IsOutput bytes seed s b second
    → slice_get (connections_of (seen_capture read.contents)) number ≡ Some x
    → (MeetsSame a b x → HaveSameLine number first second)
    × (AllByRecursion (λ y. is_between x y.opening.fields ≡ true → MeetsSame a b y) (connections_of (seen_capture read.contents))
    → HaveSameRecords x first second)

-- ---- reports see how much segments carry

-- the reports of two captures that differ in bytes of payloads alone, one after another, are the same
abbrev pub ReportsSeeLengths : Type 0
ReportsSeeLengths =
    (one other : List ℕ) (a b : Reading) → reading one ≡ Ok a → reading other ≡ Ok b → DifferInPayloads (seen_capture a.contents) (seen_capture b.contents)
    → (scenarios : List (List Proxy)) (seed : ℕ) → reports_in (answer one scenarios seed) ≡ reports_in (answer other scenarios seed)
