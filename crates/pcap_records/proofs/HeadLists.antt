-- Lists of heads: what they keep as they grow.
use Rattle.std.proofs.Common.{◌≡◌, ◌≤◌, ℕ, ◌+◌, ◌-◌, Bool, true, false, nat_lt, min, max, List, [], ◌∷◌, ◌++◌, length, map, take, drop, replicate, All, refl, ap, ap₂, sym, ◌∙◌, arith, length-drop, length-append, length-take}
use Rattle.std.specs.List.{AllByRecursion}
use Rattle.std.proofs.lemmas.List.{take_all, drop-drop, length-replicate, drop-append-le, take-append-le, map_push, length_push}
use Rattle.std.proofs.lemmas.Bool.{ltb-true, ltb-false}
use Rattle.std.proofs.lemmas.List.Elements.{All-push, All-weaker, recursion_from_All}
use Rattle.std.proofs.Math.Seq.{drop-append_seam, take-append-add}
use Rattle.pcap_records.specs.declared.capture.Record.{Record}
use Rattle.pcap_records.specs.declared.head_list.HeadList.{HeadList}
use Rattle.pcap_records.specs.CaptureView.{IsWithinFile, packet_of}
use Rattle.pcap_records.specs.Reading.{Heading, first_packet, packet_len}
use Rattle.pcap_records.specs.FoundRecords.{IsRecordAt}
use Rattle.pcap_records.specs.Heads.{head_bytes, head_len, head_of, read_on, some_heads}
use Rattle.pcap_records.specs.HeadLists.{AreKept, IsGrownBy, IsKept, heads_kept, kept_bytes, kept_head, kept_len, told_packet}
use Rattle.pcap_records.proofs.HeadReading.{read_on-whole}
use Rattle.pcap_records.proofs.PacketHeads.{head_bytes-again, head_len-append, head_len-head, head_len-least}

-- the head of a packet that lies within some bytes is what is kept of it
pub head_is_kept : (bytes : List ℕ) (r : Record) → r.start + r.len ≤ length bytes → head_of (packet_of bytes r) ≡ kept_head bytes r
head_is_kept bytes r within =
    let len : length (told_packet bytes r) ≡ r.len = omega (arith, length-take r.len (drop r.start bytes), length-drop r.start bytes) in
    rw len refl

kept_bytes-len : (bytes : List ℕ) (r : Record) → r.start + r.len ≤ length bytes → length (kept_bytes bytes r) ≡ kept_len bytes r
kept_bytes-len bytes r within =
    let packet = told_packet bytes r in
    omega (arith, length-take (head_len packet) packet, length-take r.len (drop r.start bytes), length-drop r.start bytes)

abbrev IsHeld : List ℕ → Record → Type 0
IsHeld bytes r = r.start + kept_len bytes r ≤ length bytes

-- what is kept of a packet of n bytes, if its kept bytes are there and others follow them
first_stays : (n : ℕ) (xs more : List ℕ) → min (head_len (take n xs)) n ≤ length xs
    → (head_len (take n (xs ++ more)) ≡ head_len (take n xs)) × (head_bytes (take n (xs ++ more)) ≡ head_bytes (take n xs))
first_stays n xs more held = by (nat_lt (length xs) n) refl
  where
    by : (b : Bool) → nat_lt (length xs) n ≡ b → (head_len (take n (xs ++ more)) ≡ head_len (take n xs)) × (head_bytes (take n (xs ++ more)) ≡ head_bytes (take n xs))
    by false is =
        let same : take n (xs ++ more) ≡ take n xs = take-append-le n xs more (omega (arith, ltb-false _ _ is)) in
        (ap head_len same, ap head_bytes same)
    by true is =
        let short = ltb-true _ _ is in
        let all : take n xs ≡ xs = take_all n xs (omega (arith, short)) in
        let count : n ≡ length xs + (n - length xs) = omega (arith, short) in
        let longer : take n (xs ++ more) ≡ xs ++ take (n - length xs) more = ap (λ m. take m (xs ++ more)) count ∙ take-append-add xs more (n - length xs) in
        let within : head_len xs ≤ length xs = omega (arith, short, held, ap head_len all) in
        let len : head_len (xs ++ take (n - length xs) more) ≡ head_len xs = head_len-append xs (take (n - length xs) more) (omega (arith, within, head_len-least xs)) in
        let first : head_bytes (xs ++ take (n - length xs) more) ≡ head_bytes xs =
        ap (λ m. take m (xs ++ take (n - length xs) more)) len ∙ take-append-le (head_len xs) xs (take (n - length xs) more) within in
        (ap head_len longer ∙ len ∙ sym (ap head_len all), ap head_bytes longer ∙ first ∙ sym (ap head_bytes all))

start_within : (bytes : List ℕ) (r : Record) → IsHeld bytes r → r.start ≤ length bytes
start_within bytes r held = omega arith

held_from : (bytes : List ℕ) (r : Record) → IsHeld bytes r → kept_len bytes r ≤ length (drop r.start bytes)
held_from bytes r held = omega (arith, length-drop r.start bytes)

kept_head-append : (bytes more : List ℕ) (r : Record) → IsHeld bytes r → kept_head (bytes ++ more) r ≡ kept_head bytes r
kept_head-append bytes more r held =
    rw (drop-append-le r.start bytes more (start_within bytes r held), (first_stays r.len (drop r.start bytes) more (held_from bytes r held)).1) refl

kept_len-append : (bytes more : List ℕ) (r : Record) → IsHeld bytes r → kept_len (bytes ++ more) r ≡ kept_len bytes r
kept_len-append bytes more r held =
    rw (drop-append-le r.start bytes more (start_within bytes r held), (first_stays r.len (drop r.start bytes) more (held_from bytes r held)).0) refl

map_same : {A B : Type 0} (f g : A → B) (xs : List A) → AllByRecursion (λ x. f x ≡ g x) xs → map f xs ≡ map g xs
map_same f g [] all = refl
map_same f g (x ∷ xs) all = ap₂ (λ y ys. y ∷ ys) all.0 (map_same f g xs all.1)

pub heads-append : (bytes more : List ℕ) (rs : List Record) → All (IsHeld bytes) rs → map (kept_head (bytes ++ more)) rs ≡ map (kept_head bytes) rs
heads-append bytes more rs all =
    map_same (kept_head (bytes ++ more)) (kept_head bytes) rs
    (recursion_from_All _ rs (All-weaker (IsHeld bytes) (λ r. kept_head (bytes ++ more) r ≡ kept_head bytes r) (kept_head-append bytes more) rs all))

pub heads_of_packets : (bytes : List ℕ) (rs : List Record) → All (λ r. r.start + r.len ≤ length bytes) rs → map head_of (map (packet_of bytes) rs) ≡ map (kept_head bytes) rs
heads_of_packets bytes rs all = by rs (recursion_from_All (λ (r : Record). r.start + r.len ≤ length bytes) rs all)
  where
    by : (rs : List Record) → AllByRecursion (λ r. r.start + r.len ≤ length bytes) rs → map head_of (map (packet_of bytes) rs) ≡ map (kept_head bytes) rs
    by [] all = refl
    by (r ∷ rs) all = ap₂ (λ y ys. y ∷ ys) (head_is_kept bytes r all.0) (by rs all.1)

all_held : (ticks : ℕ) (list : HeadList) → AreKept ticks list → All (IsHeld list.bytes.items) list.records.items
all_held ticks list kept = All-weaker (IsKept ticks list.bytes.items list.need) (IsHeld list.bytes.items) (λ r is. is.held) list.records.items kept.each

added_packet : (bytes file : List ℕ) (r : Record) → told_packet (bytes ++ kept_bytes file r) (record { stamp = r.stamp; start = length bytes; len = r.len }) ≡ kept_bytes file r
added_packet bytes file r =
    let packet = told_packet file r in
    ap (take r.len) (drop-append_seam bytes (kept_bytes file r))
    ∙ take_all r.len (kept_bytes file r) (omega (arith, length-take (head_len packet) packet, length-take r.len (drop r.start file)))

pub heads_grown : (ticks : ℕ) (file : List ℕ) (r : Record) (old new : HeadList) → AreKept ticks old → IsGrownBy file r old new → r.start + r.len ≤ length file → heads_kept new ≡ heads_kept old ++ head_of (packet_of file r) ∷ []
heads_grown ticks file r old new kept grown within =
    let bytes = old.bytes.items in
    let first = kept_bytes file r in
    let next : Record = record { stamp = r.stamp; start = length bytes; len = r.len } in
    let its : kept_head (bytes ++ first) next ≡ kept_head file r = rw (added_packet bytes file r, head_bytes-again (told_packet file r)) refl in
    rw (grown.bytes, grown.records, map_push (kept_head (bytes ++ first)) old.records.items next, heads-append bytes first old.records.items (all_held ticks old kept), its, head_is_kept file r within) refl

pub kept_grown : (ticks : ℕ) (file : List ℕ) (r : Record) (old new : HeadList) → AreKept ticks old → IsGrownBy file r old new → IsWithinFile ticks file r → AreKept ticks new
kept_grown ticks file r old new kept grown within =
    let bytes = old.bytes.items in
    let first = kept_bytes file r in
    let len : length new.bytes.items ≡ length bytes + kept_len file r = rw grown.bytes (omega (arith, length-append bytes first, kept_bytes-len file r within.ends)) in
    let next : Record = record { stamp = r.stamp; start = length bytes; len = r.len } in
    let same : (q : Record) → IsKept ticks bytes old.need q → kept_len new.bytes.items q ≡ kept_len bytes q =
    λ q is. ap (λ all. kept_len all q) grown.bytes ∙ kept_len-append bytes first q is.held in
    let stays : (q : Record) → IsKept ticks bytes old.need q → IsKept ticks new.bytes.items new.need q =
    λ q is. record { held = omega (arith, len, same q is, is.held); ends = omega (arith, grown.need, is.ends); limited = is.limited; stamped = is.stamped } in
    let its : kept_len new.bytes.items next ≡ kept_len file r =
    ap (λ all. kept_len all next) grown.bytes ∙ ap (λ packet. min (head_len packet) r.len) (added_packet bytes file r) ∙ ap (λ n. min n r.len) (head_len-head (told_packet file r)) in
    let added : IsKept ticks new.bytes.items new.need next = record { held = omega (arith, len, its); ends = omega (arith, grown.need); limited = within.limited; stamped = within.stamped } in
    record {
      each = rw grown.records (All-push (IsKept ticks new.bytes.items new.need) old.records.items next (All-weaker (IsKept ticks bytes old.need) (IsKept ticks new.bytes.items new.need) stays old.records.items kept.each) added);
      bytes = omega (arith, len, grown.taken, kept.bytes);
      need = omega (arith, grown.need, grown.taken, kept.need, kept.bytes);
      few = rw (grown.records, length_push old.records.items next) (omega (arith, grown.taken, kept.few));
    }

-- a whole record is passed: whatever follows, the file has the heads that it had
pub read_on-grown : (h : Heading) (bytes : List ℕ) (at : ℕ) (r : Record) (old new : HeadList) → AreKept h.ticks old → IsGrownBy bytes r old new → IsRecordAt h bytes at r
    → (more : List ℕ) → read_on (some_heads h (heads_kept old)) (drop at bytes ++ more) ≡ read_on (some_heads h (heads_kept new)) (drop (at + (16 + r.len)) bytes ++ more)
read_on-grown h bytes at r old new kept grown found more =
    let rest = drop at bytes in
    let heads : heads_kept old ++ head_of (first_packet h rest) ∷ [] ≡ heads_kept new =
    ap (λ p. heads_kept old ++ head_of p ∷ []) (sym found.packet) ∙ sym (heads_grown h.ticks bytes r old new kept grown found.within.ends) in
    let left : drop (16 + packet_len h rest) rest ≡ drop (at + (16 + r.len)) bytes =
    ap (λ n. drop (16 + n) rest) (sym found.len) ∙ drop-drop (16 + r.len) at bytes in
    read_on-whole h (heads_kept old) rest more found.is_whole ∙ ap₂ (λ some bytes. read_on (some_heads h some) (bytes ++ more)) heads left

-- the bytes that are kept, and zeros behind them up to where the packets would end
pub record IsStretched (list : HeadList) (bytes : List ℕ) : Type 0 where
  pub zeros : List ℕ
  pub is : bytes ≡ list.bytes.items ++ zeros
  pub len : length bytes ≡ max (length list.bytes.items) list.need

pub stretched : (list : HeadList) (bytes : List ℕ) (n m : ℕ) → bytes ≡ take n list.bytes.items ++ replicate (n - m) 0 → m ≡ length list.bytes.items → n ≡ max m list.need → IsStretched list bytes
stretched list bytes n m is counted most =
    let kept = list.bytes.items in
    let all : take n kept ≡ kept = take_all n kept (omega (arith, counted, most)) in
    let whole : bytes ≡ kept ++ replicate (n - m) 0 = rw all at is in
    record {
      zeros = replicate (n - m) 0;
      is = whole;
      len = rw whole (omega (arith, length-append kept (replicate (n - m) 0), length-replicate {A = ℕ} (n - m) 0, counted, most));
    }

pub heads_of_capture : (ticks : ℕ) (list : HeadList) (bytes : List ℕ) → AreKept ticks list → IsStretched list bytes → map head_of (map (packet_of bytes) list.records.items) ≡ heads_kept list
heads_of_capture ticks list bytes kept to =
    heads_of_packets bytes list.records.items
    (All-weaker (IsKept ticks list.bytes.items list.need) (λ r. r.start + r.len ≤ length bytes) (λ r is. omega (arith, to.len, is.ends)) list.records.items kept.each)
    ∙ ap (λ all. map (kept_head all) list.records.items) to.is
    ∙ heads-append list.bytes.items to.zeros list.records.items (all_held ticks list kept)
