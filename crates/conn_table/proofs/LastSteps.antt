-- The slots of the pairs that were looked up last.
use Rattle.std.proofs.Common.{◌≡◌, ◌<◌, ℕ, Bool, true, false, cond, List, length, set, get_or, replicate, slice_get, is_some, Option, Some, None, refl, sym, ap, subst, ◌∙◌, arith, inl, inr, ◌⊎◌, length-set}
use Rattle.std.proofs.lemmas.Bool.{cases_eq, false_from_ne_true}
use Rattle.std.proofs.lemmas.List.{length-replicate, get_or-replicate}
use Rattle.std.proofs.lemmas.Option.{same_Some, slice_get-get_or, slice_get_read, slice_get_within}
use Rattle.lists.proofs.Lists.{slice_get-set_same, slice_get-set_other}
use Rattle.indexmap.specs.IndexMap.{get}
use Rattle.conn_table.specs.declared.conns.Pair.{Pair}
use Rattle.conn_table.specs.declared.last_connections.Current.{Current}
use Rattle.conn_table.specs.declared.last_connections.Recent.{Recent}
use Rattle.conn_table.specs.declared.last_connections.LastConnections.{LastConnections}
use Rattle.conn_table.specs.IndexedSegments.{same_pair}
use Rattle.conn_table.specs.LastConnections.{slot_of, current_in, IsSlot, IsLasts}
use Rattle.conn_table.proofs.Peers.{same_pair-is}

-- ---- no slot is taken

none_taken : (n i : ℕ) (r : Recent) → slice_get (replicate n None) i ≡ Some (Some r) → ⊥
none_taken n i r at =
    let none : Option Recent = None in
    let within : i < n = omega (arith, slice_get_within (replicate n None) i (Some r) at, length-replicate n none) in
    let free : slice_get (replicate n None) i ≡ Some None =
    slice_get-get_or (replicate n None) i None (omega (arith, length-replicate n none)) ∙ ap (λ (y : Option Recent). Some y) (get_or-replicate n i None None within) in
    absurd cc

pub last_connections-none : (last_connections : LastConnections) (n : ℕ) → 0 < n → last_connections.recent.items ≡ replicate n None → IsLasts last_connections
last_connections-none last_connections n some items = record {
  some = subst (λ k. 0 < k) (sym (ap (λ (xs : List (Option Recent)). length xs) items ∙ length-replicate n None)) some;
  slots = λ i r at. absurd (none_taken n i r (ap (λ (xs : List (Option Recent)). slice_get xs i) (sym items) ∙ at));
}

-- ---- a pair that was looked up

pub last-recent : (last_connections : LastConnections) (p : Pair) (i : ℕ) (o : Option Recent) (c : Current) → IsLasts last_connections → slice_get last_connections.recent.items i ≡ Some o → current_in o p ≡ Some c → Some c ≡ get same_pair last_connections.map p
last-recent last_connections p i None c is at found = absurd cc
last-recent last_connections p i (Some r) c is at found = by_pair (same_pair r.pair p) refl found
  where
    by_pair : (b : Bool) → same_pair r.pair p ≡ b → cond b (Some r.current) None ≡ Some c → Some c ≡ get same_pair last_connections.map p
    by_pair true same some = sym some ∙ sym (ap (λ (q : Pair). get same_pair last_connections.map q) (sym (same_pair-is r.pair p same)) ∙ (is.slots i r at).current)
    by_pair false other some = absurd cc

pub last-found : (last_connections : LastConnections) (p : Pair) (i : ℕ) (o : Option Recent) (x : Option Current) → IsLasts last_connections → i < length last_connections.recent.items → o ≡ get_or last_connections.recent.items i o → x ≡ current_in o p → is_some x ≡ true → x ≡ get same_pair last_connections.map p
last-found last_connections p i o None is within at found some = absurd cc
last-found last_connections p i o (Some c) is within at found some = last-recent last_connections p i o c is (slice_get_read last_connections.recent.items (length last_connections.recent.items) i o refl within at) (sym found)

-- the slot of a pair is taken by it
pub last_connections-set : (old new : LastConnections) (n : ℕ) (p : Pair) (c : Current) → IsLasts old → n ≡ length old.recent.items → slot_of n p < n
    → new.recent.items ≡ set old.recent.items (slot_of n p) (Some (record { pair = p; current = c }))
    → get same_pair new.map p ≡ Some c → ((q : Pair) → same_pair p q ≡ false → get same_pair new.map q ≡ get same_pair old.map q) → IsLasts new
last_connections-set old new n p c is count within items last others = record {
  some = subst (λ k. 0 < k) (count ∙ sym len) (subst (λ k. 0 < k) (sym count) is.some);
  slots = λ i r at. by_slot i r (ap (λ (xs : List (Option Recent)). slice_get xs i) (sym items) ∙ at) (cases_eq i (slot_of n p));
}
  where
    taking : Option Recent
    taking = Some (record { pair = p; current = c })

    len : length new.recent.items ≡ length old.recent.items
    len = ap (λ (xs : List (Option Recent)). length xs) items ∙ length-set old.recent.items (slot_of n p) taking

    slot_is : (q : Pair) → slot_of (length new.recent.items) q ≡ slot_of n q
    slot_is q = ap (λ k. slot_of k q) (len ∙ sym count)

    by_slot : (i : ℕ) (r : Recent) → slice_get (set old.recent.items (slot_of n p) taking) i ≡ Some (Some r) → (i ≡ slot_of n p) ⊎ (i ≡ slot_of n p → ⊥) → IsSlot new i r
    by_slot i r at (inl here) =
        let there = ap (slice_get (set old.recent.items (slot_of n p) taking)) (sym here) ∙ at in
        let taken = slice_get-set_same old.recent.items (slot_of n p) taking (omega (arith, count, within)) in
        let same : record { pair = p; current = c } ≡ r = same_Some _ _ (same_Some _ _ (sym taken ∙ there)) in
        subst (IsSlot new i) same (record { slot = slot_is p ∙ sym here; current = last })
    by_slot i r at (inr other) =
        let was : IsSlot old i r = is.slots i r (sym (slice_get-set_other old.recent.items (slot_of n p) i _ other) ∙ at) in
        let slot : slot_of n r.pair ≡ i = ap (λ k. slot_of k r.pair) count ∙ was.slot in
        let apart : same_pair p r.pair ≡ false = false_from_ne_true (same_pair p r.pair) (λ same. other (sym (ap (slot_of n) (same_pair-is p r.pair same) ∙ slot))) in
        record { slot = slot_is r.pair ∙ slot; current = others r.pair apart ∙ was.current }
