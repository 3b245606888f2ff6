-- Files in blocks: slices of them, all their bytes, and how a file grows by a part that was loaded.
use Rattle.std.proofs.Common.{◌≡◌, ◌≤◌, ◌<◌, ℕ, zero, suc, ◌+◌, ◌-◌, ◌*◌, ◌/◌, ◌%◌, ◌++◌, min, List, [], ◌∷◌, length, map, take, drop, get_or, set, true, false, nat_lt, inl, inr, refl, sym, ap, ◌∙◌, arith, length-append, length-take, length-drop}
use Rattle.std.specs.List.{flat_map}
use Rattle.std.proofs.lemmas.List.{drop-drop, drop-take, take-take, map-set, length-map, length-set, get_or-map, take_min, take-append-le, drop-append-le, append-nil, append_assoc, get_or-set_same, get_or-set_other, get_or_append_left}
use Rattle.std.proofs.lemmas.Grind.{flat_map-append}
use Rattle.pcap_records.specs.Blocks.{block_len, block_room, slice_limit, bytes_in, with_last_extended, bytes_until_short, AreBlocks, AreFull, IsGrown}
use Rattle.std.proofs.Math.ListN.{drop_of_length-le}
use Rattle.std.proofs.Math.Seq.{take-nil, take-length, take-append-add, map-set_same, get_or-append_seam, drop-append_seam}
use Rattle.std.proofs.lemmas.List.Folds.{flat_map-map}
use Rattle.std.proofs.lemmas.Bool.{cases_lt}
use Rattle.std.proofs.lemmas.Bool.Decides.{nat_tests}

pub room_is : block_room ≡ block_len + slice_limit
unfolding block_room
room_is = refl

-- a slice of the first bytes, if they are enough, is one of them all
pub slice_of_first : (text : List ℕ) (from m o len : ℕ) → o + len ≤ m → take len (drop o (take m (drop from text))) ≡ take len (drop (from + o) text)
slice_of_first text from m o len within =
    let split : m ≡ o + (m - o) = omega arith in
    ap (λ n. take len (drop o (take n (drop from text)))) split
    ∙ ap (take len) (drop-take o (m - o) (drop from text))
    ∙ take-take len (m - o) (drop o (drop from text)) (omega arith)
    ∙ ap (take len) (drop-drop o from text)

-- a slice of a file is a slice of the block in which it begins
module _ (text block : List ℕ) (start len : ℕ)
    (is_block : block ≡ take block_room (drop (start / block_len * block_len) text)) (short : len ≤ slice_limit) (within : start + len ≤ length text) where
  abbrev from : ℕ
  from = start / block_len * block_len

  abbrev o : ℕ
  o = start % block_len

  place : from + o ≡ start
  place = omega arith

  fits : o + len ≤ block_room
  fits = omega (arith, room_is)

  pub ends_in_block : o + len ≤ length block
  ends_in_block = rw is_block (omega (arith, place, fits, length-take block_room (drop from text), length-drop from text))

  pub slice_in_block : take len (drop o block) ≡ take len (drop start text)
  slice_in_block = rw is_block (slice_of_first text from block_room o len fits ∙ ap (λ n. take len (drop n text)) place)

-- the k-th block of a file, if more is known of blocks than their bytes
pub block_at : {A : Type 0} (bytes_of : A → List ℕ) (blocks : List A) (block : A) (k : ℕ) (text : List ℕ)
    → bytes_in (map bytes_of blocks) ≡ text → AreBlocks (map bytes_of blocks) → k < length blocks → block ≡ get_or blocks k block
    → bytes_of block ≡ take block_room (drop (k * block_len) text)
block_at bytes_of blocks block k text is_text each within is_block =
    let within_map : k < length (map bytes_of blocks) = omega (arith, within, length-map blocks bytes_of) in
    ap bytes_of is_block ∙ sym (get_or-map bytes_of blocks k block [] within) ∙ each k within_map ∙ ap (λ t. take block_room (drop (k * block_len) t)) is_text

pub length_in : (blocks : List (List ℕ)) → length (bytes_in blocks) ≤ length blocks * block_len
length_in [] = omega arith
length_in (block ∷ blocks) = omega (arith, length_in blocks, length-append (take block_len block) (bytes_in blocks), length-take block_len block)

-- blocks whose last one is extended, if more is known of blocks than their bytes
pub extended_last : {A : Type 0} (bytes_of : A → List ℕ) (blocks : List A) (last new : A) (bytes : List ℕ) (n : ℕ)
    → n ≡ length blocks → 0 < length blocks → bytes_of last ≡ bytes_of (get_or blocks (n - 1) last) → bytes_of new ≡ bytes_of last ++ bytes
    → map bytes_of (set blocks (n - 1) new) ≡ with_last_extended (map bytes_of blocks) bytes
extended_last bytes_of blocks last new bytes n count some is extended =
    map-set bytes_of blocks (n - 1) new
    ∙ rw (extended, is, count, length-map blocks bytes_of, get_or-map bytes_of blocks (length blocks - 1) last [] (omega arith)) refl

pub none_after : (text : List ℕ) (start len : ℕ) → length text ≤ start → [] ≡ take len (drop start text)
none_after text start len past = sym (ap (take len) (drop_of_length-le text past) ∙ take-nil len)

-- no slice begins past the last block
pub past_blocks : {A : Type 0} (bytes_of : A → List ℕ) (blocks : List A) (text : List ℕ) (start : ℕ)
    → bytes_in (map bytes_of blocks) ≡ text → length blocks ≤ start / block_len → length text ≤ start
past_blocks bytes_of blocks text start is_text past = omega (arith, length_in (map bytes_of blocks), length-map blocks bytes_of, ap length is_text)

take_all : (n : ℕ) (xs : List ℕ) → length xs ≤ n → take n xs ≡ xs
take_all n xs within =
    let count : min n (length xs) ≡ length xs = omega arith in
    sym (take_min n xs) ∙ ap (λ m. take m xs) count ∙ take-length xs

-- a block that gets more bytes after its own has the same of its own
same_bytes : (blocks : List (List ℕ)) (i : ℕ) (block : List ℕ) → take block_len block ≡ take block_len (get_or blocks i [])
    → bytes_in (set blocks i block) ≡ bytes_in blocks
same_bytes blocks i block same =
    sym (flat_map-map (λ bytes. bytes) (take block_len) (set blocks i block))
    ∙ ap (flat_map (λ bytes. bytes)) (map-set_same (take block_len) blocks i block [] same)
    ∙ flat_map-map (λ bytes. bytes) (take block_len) blocks

-- n blocks and a last one, all full, get a part
module _ (blocks : List (List ℕ)) (n : ℕ) (text part : List ℕ)
    (count : n + 1 ≡ length blocks) (each : (k : ℕ) → k < n + 1 → get_or blocks k [] ≡ take block_room (drop (k * block_len) text))
    (full : length text ≡ (n + 1) * block_len) (short : length part ≤ block_len) where
  rest_len : length (drop (n * block_len) text) ≡ block_len
  rest_len = omega (arith, length-drop (n * block_len) text)

  last_is : get_or blocks n [] ≡ drop (n * block_len) text
  last_is = each n (omega arith) ∙ take_all block_room (drop (n * block_len) text) (omega (arith, rest_len, room_is))

  -- each block but the last, and the last one with the first bytes of the part
  earlier_is : (k : ℕ) → k < n → get_or blocks k [] ≡ take block_room (drop (k * block_len) (text ++ part))
  earlier_is k before =
      let reach : block_room ≤ length (drop (k * block_len) text) = omega (arith, length-drop (k * block_len) text, room_is) in
      each k (omega arith)
      ∙ sym (take-append-le block_room (drop (k * block_len) text) part reach)
      ∙ ap (take block_room) (sym (drop-append-le (k * block_len) text part (omega arith)))

  extended_is : get_or blocks n [] ++ take slice_limit part ≡ take block_room (drop (n * block_len) (text ++ part))
  extended_is =
      let rest = drop (n * block_len) text in
      let room : block_room ≡ length rest + slice_limit = omega (arith, room_is, rest_len) in
      ap (λ last. last ++ take slice_limit part) last_is
      ∙ sym (take-append-add rest part slice_limit)
      ∙ ap (λ m. take m (rest ++ part)) (sym room)
      ∙ ap (take block_room) (sym (drop-append-le (n * block_len) text part (omega arith)))

  part_is : part ≡ take block_room (drop ((n + 1) * block_len) (text ++ part))
  part_is =
      sym (take_all block_room part (omega (arith, room_is)))
      ∙ ap (take block_room) (sym (drop-append_seam text part) ∙ ap (λ m. drop m (text ++ part)) full)

  abbrev extended : List (List ℕ)
  extended = set blocks n (get_or blocks n [] ++ take slice_limit part)

  extended_each : (k : ℕ) → k < n + 1 → get_or extended k [] ≡ take block_room (drop (k * block_len) (text ++ part))
  extended_each k within =
      elim (cases_lt k n) [
        | inl before ↦ get_or-set_other blocks n k (get_or blocks n [] ++ take slice_limit part) [] (omega arith) ∙ earlier_is k before
        | inr after ↦
            let last : k ≡ n = omega arith in
            rw last (get_or-set_same blocks n (get_or blocks n [] ++ take slice_limit part) [] (omega arith) ∙ extended_is)
      ]

  pub grown_each : (k : ℕ) → k < n + 2 → get_or (extended ++ part ∷ []) k [] ≡ take block_room (drop (k * block_len) (text ++ part))
  grown_each k within =
      let len : length extended ≡ n + 1 = length-set blocks n (get_or blocks n [] ++ take slice_limit part) ∙ sym count in
      elim (cases_lt k (n + 1)) [
        | inl before ↦ get_or_append_left extended (part ∷ []) [] k (rw len before) ∙ extended_each k before
        | inr after ↦
            let last : k ≡ length extended = omega (arith, len) in
            ap (λ j. get_or (extended ++ part ∷ []) j []) last
            ∙ get_or-append_seam extended part [] []
            ∙ part_is
            ∙ ap (λ j. take block_room (drop (j * block_len) (text ++ part))) (sym len ∙ sym last)
      ]

  pub grown_bytes : text ≡ bytes_in blocks → bytes_in (extended ++ part ∷ []) ≡ text ++ part
  grown_bytes is =
      let own : take block_len (get_or blocks n [] ++ take slice_limit part) ≡ take block_len (get_or blocks n []) =
      take-append-le block_len (get_or blocks n []) (take slice_limit part) (rw last_is (omega (arith, rest_len))) in
      flat_map-append (take block_len) extended (part ∷ [])
      ∙ ap (λ bytes. bytes ++ (take block_len part ++ [])) (same_bytes blocks n (get_or blocks n [] ++ take slice_limit part) own ∙ sym is)
      ∙ ap (λ bytes. text ++ bytes) (append-nil (take block_len part) ∙ take_all block_len part short)

grown_by : (blocks : List (List ℕ)) (n : ℕ) (part : List ℕ) → n + 1 ≡ length blocks → AreFull blocks → length part ≤ block_len
    → IsGrown blocks part (set blocks n (get_or blocks n [] ++ take slice_limit part) ++ part ∷ [])
grown_by blocks n part count are short =
    let text = bytes_in blocks in
    let each : (k : ℕ) → k < n + 1 → get_or blocks k [] ≡ take block_room (drop (k * block_len) text) = λ k within. are.each k (rw (← count) within) in
    let full : length text ≡ (n + 1) * block_len = are.full ∙ ap (λ m. m * block_len) (sym count) in
    let new = set blocks n (get_or blocks n [] ++ take slice_limit part) in
    let bytes = grown_bytes blocks n text part count each full short refl in
    let len : length (new ++ part ∷ []) ≡ n + 2 = omega (arith, length-append new (part ∷ []), length-set blocks n (get_or blocks n [] ++ take slice_limit part)) in
    record {
      each = λ k within. grown_each blocks n text part count each full short k (rw len at within) ∙ ap (λ t. take block_room (drop (k * block_len) t)) (sym bytes);
      bytes = bytes;
      one_more = omega (arith, len);
    }

grown_first : (part text : List ℕ) → part ≡ text → length part ≤ block_len
    → (k : ℕ) → k < 1 → get_or (part ∷ []) k [] ≡ take block_room (drop (k * block_len) text)
grown_first part text is short zero within = sym (take_all block_room part (omega (arith, room_is))) ∙ ap (take block_room) is
grown_first part text is short (suc k) within = absurd (omega arith)

pub grown : (blocks : List (List ℕ)) (part : List ℕ) → AreFull blocks → length part ≤ block_len
    → IsGrown blocks part (with_last_extended blocks (take slice_limit part) ++ part ∷ [])
grown [] part are short =
    let bytes : take block_len part ++ [] ≡ part = append-nil (take block_len part) ∙ take_all block_len part short in
    record {
      each = λ k within. grown_first part (take block_len part ++ []) (sym bytes) short k within;
      bytes = bytes;
      one_more = refl;
    }
grown (block ∷ blocks) part are short = grown_by (block ∷ blocks) (length (block ∷ blocks) - 1) part (omega arith) are short

until_full : (part : List ℕ) (parts : List (List ℕ)) → block_len ≤ length part → bytes_until_short (part ∷ parts) ≡ part ++ bytes_until_short parts
unfolding bytes_until_short
until_full part parts long =
    let is_full : nat_lt (length part) block_len ≡ false = grind (arith, nat_tests) in
    rw is_full refl

until_short : (part : List ℕ) (parts : List (List ℕ)) → length part < block_len → bytes_until_short (part ∷ parts) ≡ part
unfolding bytes_until_short
until_short part parts short =
    let is_short : nat_lt (length part) block_len ≡ true = grind (arith, nat_tests) in
    rw is_short refl

until_none : bytes_until_short [] ≡ []
unfolding bytes_until_short
until_none = refl

module _ (old new : List (List ℕ)) (part : List ℕ) (parts : List (List ℕ)) (all : List ℕ)
    (is_grown : IsGrown old part new) (so_far : bytes_in old ++ bytes_until_short (part ∷ parts) ≡ all) where
  pub full_after : AreFull old → length part ≡ block_len → AreFull new
  full_after are full = record {
    each = is_grown.each;
    full = ap length is_grown.bytes ∙ length-append (bytes_in old) part ∙ omega (arith, are.full, is_grown.one_more);
  }

  pub bytes_after_full : length part ≡ block_len → bytes_in new ++ bytes_until_short parts ≡ all
  bytes_after_full full =
      ap (λ bytes. bytes ++ bytes_until_short parts) is_grown.bytes
      ∙ append_assoc (bytes_in old) part (bytes_until_short parts)
      ∙ ap (λ bytes. bytes_in old ++ bytes) (sym (until_full part parts (omega arith)))
      ∙ so_far

  pub bytes_after_short : length part < block_len → bytes_in new ≡ all
  bytes_after_short short = is_grown.bytes ∙ ap (λ bytes. bytes_in old ++ bytes) (sym (until_short part parts short)) ∙ so_far

pub bytes_at_end : (old : List (List ℕ)) (all : List ℕ) → bytes_in old ++ bytes_until_short [] ≡ all → bytes_in old ≡ all
bytes_at_end old all so_far = sym (append-nil (bytes_in old)) ∙ ap (λ bytes. bytes_in old ++ bytes) (sym until_none) ∙ so_far
