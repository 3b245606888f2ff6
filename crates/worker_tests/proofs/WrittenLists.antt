-- The lists of a capture's connections: each is in order of key, and no key stands twice, whatever list comes first.
use Rattle.std.proofs.Common.{◌≡◌, ◌<◌, ℕ, zero, suc, ◌+◌, List, [], ◌∷◌, ◌++◌, map, length, reverse, get_or, refl, sym, ap, ap₂, ◌∙◌, subst, arith, append-nil, length-append}
use Rattle.std.specs.List.{All, AllByRecursion, flat_map}
use Rattle.std.specs.List.Sorted.{IsPermutation}
use Rattle.std.proofs.lemmas.List.{map_push, reverse-append}
use Rattle.std.proofs.lemmas.List.Concat.{flat_map-append}
use Rattle.std.proofs.lemmas.List.Elements.{All-nil, All-cons}
use Rattle.std.proofs.lemmas.List.Sorted.{IsPermutation-refl, IsPermutation-trans, IsPermutation-append_comm, IsPermutation-append_left}
use Rattle.pcap_records.specs.CaptureView.{CaptureView}
use Rattle.conn_table.specs.declared.conns.Conn.{Conn}
use Rattle.conn_table.specs.Tables.{TableView, table_in}
use Rattle.reassembly.specs.RecordedView.{IsConnOf}
use Rattle.reassembly.specs.RecordedView.{ConnsAreOfCapture}
use Rattle.segment_writer.specs.declared.framed.Framed.{Framed}
use Rattle.segment_writer.specs.KeyOrder.{RisingIsSorted}
use Rattle.segment_writer.specs.KeyLaws.{HasNoKeyTwice, KeysRise, AreNumbered, KeysStandOnce, OnceInAnyOrder}
use Rattle.segment_writer.specs.WrittenSegments.{WrittenConnection, sorted_by_key, written_segments}
use Rattle.time_merge.specs.MergedCapture.{all_segments}

all_at : {A : Type 0} (P : A → Type 0) (xs : List A) (i : ℕ) (d : A) → AllByRecursion P xs → i < length xs → P (get_or xs i d)
all_at P [] i d all within = absurd (omega (arith, within))
all_at P (x ∷ xs) zero d all within = all.0
all_at P (x ∷ xs) (suc i) d all within = all_at P xs i d all.1 (omega (arith, within))

-- each connection of the table of all records may be asked for
pub conn_of_capture : ConnsAreOfCapture → (c : CaptureView) (table : TableView) → table ≡ table_in c 0 (length c.records) 0 → (conns : List Conn) → conns ≡ table.conns
    → (i : ℕ) → i < length conns → (conn : Conn) → conn ≡ get_or conns i conn → IsConnOf c conn
unfolding table_in
conn_of_capture are c table is conns have i within conn read =
    let shown = have ∙ ap (λ (t : TableView). t.conns) is in
    let all : AllByRecursion (IsConnOf c) conns = rw shown (are c 0 (length c.records) 0) in
    rw read (all_at (IsConnOf c) conns i conn all within)

-- the lists are written of `count` connections, numbered from 0 on; a second has `ticks` ticks
pub record AreWritten (ticks : ℕ) (lists : List (List Framed)) (count : ℕ) : Type 0 where
  pub conns : List WrittenConnection
  pub numbered : AreNumbered 0 conns
  pub many : length conns ≡ count
  pub shown : lists ≡ map (written_segments ticks) conns

numbered_more : (n : ℕ) (cs : List WrittenConnection) (c : WrittenConnection) → AreNumbered n cs → c.number ≡ n + length cs → AreNumbered n (cs ++ c ∷ [])
numbered_more n [] c numbered is = (omega arith, tt)
numbered_more n (d ∷ cs) c numbered is = (numbered.0, numbered_more (n + 1) cs c numbered.1 (omega arith))

pub none_written : (ticks : ℕ) → AreWritten ticks [] 0
none_written ticks = record { conns = []; numbered = tt; many = refl; shown = refl }

pub one_more : (ticks : ℕ) (lists more : List (List Framed)) (count : ℕ) (c : WrittenConnection) (xs : List Framed) → AreWritten ticks lists count → c.number ≡ count → xs ≡ written_segments ticks c → more ≡ lists ++ xs ∷ [] → AreWritten ticks more (count + 1)
one_more ticks lists more count c xs were number is added = record {
  conns = were.conns ++ c ∷ [];
  numbered = numbered_more 0 were.conns c were.numbered (omega (arith, were.many));
  many = length-append were.conns (c ∷ []) ∙ omega (arith, were.many);
  shown = added ∙ ap₂ (λ ls x. ls ++ x ∷ []) were.shown is ∙ sym (map_push (written_segments ticks) were.conns c);
}

each_sorted : KeysRise → RisingIsSorted → (ticks : ℕ) (cs : List WrittenConnection) → All (λ list. sorted_by_key list ≡ list) (map (written_segments ticks) cs)
each_sorted rise sorted ticks [] = All-nil (λ list. sorted_by_key list ≡ list)
each_sorted rise sorted ticks (c ∷ cs) =
    All-cons (λ list. sorted_by_key list ≡ list) (written_segments ticks c) (map (written_segments ticks) cs) (sorted (written_segments ticks c) (rise ticks c)) (each_sorted rise sorted ticks cs)

pub lists_sorted : KeysRise → RisingIsSorted → (ticks : ℕ) (lists : List (List Framed)) (count : ℕ) → AreWritten ticks lists count → All (λ list. sorted_by_key list ≡ list) lists
lists_sorted rise sorted ticks lists count are = subst (λ (ls : List (List Framed)). All (λ list. sorted_by_key list ≡ list) ls) (sym are.shown) (each_sorted rise sorted ticks are.conns)

all_of : (ticks : ℕ) (cs : List WrittenConnection) → all_segments (map (written_segments ticks) cs) ≡ flat_map (written_segments ticks) cs
all_of ticks [] = refl
all_of ticks (c ∷ cs) = ap (λ ys. written_segments ticks c ++ ys) (all_of ticks cs)

pub lists_once : KeysStandOnce → (ticks : ℕ) (lists : List (List Framed)) (count : ℕ) → AreWritten ticks lists count → HasNoKeyTwice (all_segments lists)
lists_once once ticks lists count are = subst (λ (xs : List Framed). HasNoKeyTwice xs) (sym (ap all_segments are.shown ∙ all_of ticks are.conns)) (once ticks 0 are.conns are.numbered)

-- ---- the last one first

reversed_all : (lists : List (List Framed)) → IsPermutation (all_segments lists) (all_segments (reverse lists))
reversed_all [] = IsPermutation-refl []
reversed_all (x ∷ lists) =
    let turned : all_segments (reverse (x ∷ lists)) ≡ all_segments (reverse lists) ++ x =
    ap all_segments (reverse-append (x ∷ []) lists) ∙ flat_map-append (λ (list : List Framed). list) (reverse lists) (x ∷ []) ∙ ap (λ ys. all_segments (reverse lists) ++ ys) (append-nil x) in
    subst (λ ys. IsPermutation (x ++ all_segments lists) ys) (sym turned)
    (IsPermutation-trans (x ++ all_segments lists) (all_segments lists ++ x) (all_segments (reverse lists) ++ x) (IsPermutation-append_comm x (all_segments lists))
    (IsPermutation-append_left x (all_segments lists) (all_segments (reverse lists)) (reversed_all lists)))

pub turned_once : OnceInAnyOrder → (lists turned : List (List Framed)) → turned ≡ reverse lists → HasNoKeyTwice (all_segments lists) → HasNoKeyTwice (all_segments turned)
turned_once any_order lists turned is once =
    subst (λ (ls : List (List Framed)). HasNoKeyTwice (all_segments ls)) (sym is) (any_order (all_segments lists) (all_segments (reverse lists)) (reversed_all lists) once)

-- ---- before an empty one

pub once_before_empty : (lists more : List (List Framed)) (none : List Framed) → none ≡ [] → more ≡ lists ++ none ∷ [] → HasNoKeyTwice (all_segments lists) → HasNoKeyTwice (all_segments more)
once_before_empty lists more none is_none is once =
    let same : all_segments more ≡ all_segments lists =
    ap all_segments is ∙ flat_map-append (λ (list : List Framed). list) lists (none ∷ []) ∙ ap (λ (xs : List Framed). all_segments lists ++ (xs ++ [])) is_none ∙ append-nil (all_segments lists) in
    subst (λ (xs : List Framed). HasNoKeyTwice xs) (sym same) once
