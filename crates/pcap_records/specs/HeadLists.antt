-- How a reader of heads keeps them: the first bytes of each packet in one buffer, and records that say where they lie there.
use Rattle.std.specs.Prelude.{◌≡◌, ◌≤◌, ℕ, ◌+◌, ◌*◌, min, max, List, [], ◌∷◌, ◌++◌, length, map, take, drop, All}
use Rattle.pcap_records.specs.declared.capture.Record.{Record}
use Rattle.pcap_records.specs.declared.head_list.HeadList.{HeadList}
use Rattle.pcap_records.specs.declared.head_list.Stop.{Stop}
use Rattle.pcap_records.specs.declared.head_list.Stop.TheVariants.{Torn, TooLong, NoMemory}
use Rattle.pcap_records.specs.declared.heads.State.{State}
use Rattle.pcap_records.specs.declared.heads.State.TheVariants.{Header, Records, Refused}
use Rattle.pcap_records.specs.CaptureView.{heading_of}
use Rattle.pcap_records.specs.Instants.{horizon, ticks_of}
use Rattle.pcap_records.specs.Reading.{Heading, next_record, torn, too_long, file_header_len, packet_limit, record_header_len}
use Rattle.pcap_records.specs.Heads.{Head, HeadReaderView, Finding, no_header, some_heads, a_fault, head_bytes, head_len}

-- the packet of a record, as far as it lies in some bytes
abbrev pub told_packet : List ℕ → Record → List ℕ
told_packet bytes r = take r.len (drop r.start bytes)

abbrev pub kept_bytes : List ℕ → Record → List ℕ
kept_bytes bytes r = head_bytes (told_packet bytes r)

-- the number of kept bytes if the packet is whole
abbrev pub kept_len : List ℕ → Record → ℕ
kept_len bytes r = min (head_len (told_packet bytes r)) r.len

abbrev pub kept_head : List ℕ → Record → Head
kept_head bytes r = record { stamp = r.stamp; len = r.len; bytes = kept_bytes bytes r }

abbrev pub heads_kept : HeadList → List Head
heads_kept list = map (kept_head list.bytes.items) list.records.items

-- a record's head lies in the bytes that are kept, and its packet would end by `need`
pub record IsKept (ticks : ℕ) (bytes : List ℕ) (need : ℕ) (r : Record) : Type 0 where
  pub held : r.start + kept_len bytes r ≤ length bytes
  pub ends : r.start + r.len ≤ need
  pub limited : r.len ≤ packet_limit
  pub stamped : r.stamp ≤ horizon ticks

-- nothing of the list is more than the part of the file that was taken
pub record AreKept (ticks : ℕ) (list : HeadList) : Type 0 where
  pub each : All (IsKept ticks list.bytes.items list.need) list.records.items
  pub bytes : length list.bytes.items ≤ list.taken
  pub need : list.need ≤ list.taken
  pub few : file_header_len + record_header_len * length list.records.items ≤ list.taken

-- a list grows by a record of these bytes of the file, and by its head
pub record IsGrownBy (file : List ℕ) (r : Record) (old new : HeadList) : Type 0 where
  pub bytes : new.bytes.items ≡ old.bytes.items ++ kept_bytes file r
  pub records : new.records.items ≡ old.records.items ++ record { stamp = r.stamp; start = length old.bytes.items; len = r.len } ∷ []
  pub need : new.need ≡ max old.need (length old.bytes.items + r.len)
  pub taken : new.taken ≡ old.taken + record_header_len + r.len

pub record IsAsBefore (old new : HeadList) : Type 0 where
  pub bytes : new.bytes.items ≡ old.bytes.items
  pub records : new.records.items ≡ old.records.items
  pub need : new.need ≡ old.need
  pub taken : new.taken ≡ old.taken

-- why no further record was taken, if these bytes are left
abbrev pub IsStop : Heading → List ℕ → Stop → Type 0
IsStop h rest Torn = next_record h rest ≡ torn
IsStop h rest TooLong = next_record h rest ≡ too_long
IsStop h rest NoMemory = Unit {0}

abbrev pub finding : State → List Head → Finding
finding Header heads = no_header
finding (Records h) heads = some_heads (heading_of h) heads
finding (Refused fault) heads = a_fault fault

abbrev pub seen : State → HeadList → HeadReaderView
seen state list = record { taken = list.taken; found = finding state (heads_kept list) }

abbrev pub IsSoundIn : State → HeadList → Type 0
IsSoundIn Header list = (list.bytes.items ≡ []) × (list.records.items ≡ []) × (list.need ≡ 0)
IsSoundIn (Records h) list = AreKept (ticks_of h.unit) list
IsSoundIn (Refused fault) list = Unit {0}
