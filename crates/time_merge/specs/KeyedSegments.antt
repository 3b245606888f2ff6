-- Segments by their keys, with the list and index where they stand: what is merged in place of segments.
use Rattle.std.specs.Prelude.{◌≡◌, ◌<◌, ℕ, ◌+◌, List, [], ◌∷◌, length, drop, map, slice_index_or}
use Rattle.std.specs.List.{enumerate_from, flat_map, range_with_len}
use Rattle.std.specs.List.Sorted.{IsPermutation, IsSortedBy}
use Rattle.std.specs.Ordering.{then_cmp, on, nat_cmp}
use Rattle.std.specs.declared.cmp.Ordering.{Ordering}
use Rattle.segment_writer.specs.declared.framed.SegKey.{SegKey}
use Rattle.segment_writer.specs.declared.framed.Framed.{Framed}
use Rattle.segment_writer.specs.SegmentOutlines.{no_segment}
use Rattle.segment_writer.specs.WrittenSegments.{has_lower_key}
use Rattle.time_merge.specs.declared.key_order.KeyedSegments.{KeyedSegments}
use Rattle.time_merge.specs.declared.orders.Place.{Place}
use Rattle.time_merge.specs.declared.orders.Order.{Order}
use Rattle.time_merge.specs.declared.orders.Order.TheVariants.{Listed, OfOneList}

abbrev pub key_cmp : SegKey → SegKey → Ordering
key_cmp = then_cmp (on (λ k. k.moment) nat_cmp) (then_cmp (on (λ k. k.conn) nat_cmp) (then_cmp (on (λ k. k.turn) nat_cmp) (on (λ k. k.place) nat_cmp)))

-- a segment of a list by its key
pub record Keyed : Type 0 where
  pub key : SegKey
  pub list : ℕ
  pub index : ℕ

abbrev pub keyed_cmp : Keyed → Keyed → Ordering
keyed_cmp = on (λ k. k.key) key_cmp

abbrev pub no_place : Place
no_place = record { list = 0; index = 0 }

abbrev pub place_in_first : ℕ → Place
place_in_first index = record { list = 0; index = index }

abbrev pub places_in : Order → List Place
places_in (Listed places) = places.items
places_in (OfOneList n) = map place_in_first (range_with_len 0 n)

abbrev pub place_of : Keyed → Place
place_of l = record { list = l.list; index = l.index }

-- the places of all of some keyed segments, in order of these
abbrev pub ArePlacesInOrder : List Keyed → List Place → Type 0
ArePlacesInOrder all places = (keys : List Keyed) × IsPermutation all keys × IsSortedBy (has_lower_key (λ k. k.key)) keys × (places ≡ map place_of keys)

abbrev pub keyed_segments : ℕ → ℕ → List Framed → List Keyed
keyed_segments list index [] = []
keyed_segments list index (x ∷ xs) = record { key = x.key; list = list; index = index } ∷ keyed_segments list (index + 1) xs

module _ {L : Type 0} (segments : L → List Framed) where
  abbrev pub all_keyed_segments : List L → List Keyed
  all_keyed_segments lists = flat_map (λ (list, l). keyed_segments list 0 (segments l)) (enumerate_from 0 lists)

  -- what an iterator over a list has still to give
  abbrev pub keyed_left : KeyedSegments L → List Keyed
  keyed_left l = keyed_segments l.list l.index (drop l.index (segments l.segments.now))

  abbrev pub segment_at : List L → Place → Framed
  segment_at lists p = slice_index_or (slice_index_or (map segments lists) p.list []) p.index no_segment

  pub record IsPlace (lists : List L) (p : Place) : Type 0 where
    pub list : p.list < length lists
    pub index : p.index < length (slice_index_or (map segments lists) p.list [])

  abbrev pub segment_of : List L → Keyed → Framed
  segment_of lists l = segment_at lists (place_of l)

  pub record IsKeyed (lists : List L) (l : Keyed) : Type 0 where
    pub stands : IsPlace lists (place_of l)
    pub key : (segment_of lists l).key ≡ l.key
