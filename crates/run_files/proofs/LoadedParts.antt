-- How the blocks of a file are gathered, and that they are its bytes.
use Rattle.std.proofs.Common.{◌≡◌, ◌<◌, ◌≤◌, ◌+◌, ◌*◌, ◌++◌, ℕ, zero, suc, Bool, true, false, cond, nat_lt, List, [], ◌∷◌, length, length-append, map, take}
use Rattle.std.proofs.Common.{drop, get_or, All, Option, Some, None, Ok, Err, IfSome, refl, sym, ap, ap₂, subst, ◌∙◌, arith, append-nil, append_assoc}
use Rattle.std.proofs.lemmas.Bool.{le-ltb, ltb-true}
use Rattle.std.proofs.lemmas.Bool.Decides.{nat_tests}
use Rattle.std.proofs.lemmas.List.{drop-drop, drop_all, drop_more, length-drop, length-take, take_all, take-append-drop}
use Rattle.std.proofs.lemmas.List.Elements.{All-tail}
use Rattle.std.proofs.lemmas.List.FromFn.{get_or-map-range_with_len, length-map-range_with_len}
use Rattle.run_files.specs.{ForSome, FileContents, file_len, block_len, block_limit, bytes_until_short, capture_limit, BlockView, block_view, blocks_of}
use Rattle.run_files.specs.{part_at, HasBlocks, text_of_file}
use Rattle.run_files.specs.declared.error.RunFault.{RunFault}

module _ {A : Type 0} (bytes_of : A → List ℕ) where
  pub parts_fit : (parts : List A) → All (λ part. length (bytes_of part) ≤ block_len) parts → length (bytes_until_short (map bytes_of parts)) ≤ length parts * block_len
  unfolding bytes_until_short
  parts_fit [] short = omega arith
  parts_fit (part ∷ parts) short =
      by (nat_lt (length (bytes_of part)) block_len) (parts_fit parts (All-tail (λ p. length (bytes_of p) ≤ block_len) part parts short))
    where
      by : (b : Bool) → length (bytes_until_short (map bytes_of parts)) ≤ length parts * block_len
          → length (cond b (bytes_of part) (bytes_of part ++ bytes_until_short (map bytes_of parts))) ≤ suc (length parts) * block_len
      by true rest = omega (arith, short 0 part (omega arith))
      by false rest = omega (arith, short 0 part (omega arith), length-append (bytes_of part) (bytes_until_short (map bytes_of parts)))

-- ---- the blocks of a file

module _ (contents : Option FileContents) (count : ℕ) where
  pub length-blocks : length (blocks_of contents count) ≡ count
  length-blocks = length-map-range_with_len (λ i. block_view contents (i * block_len)) 0 count

  pub block_of_job : (job : ℕ) (d : BlockView) → job < count → block_view contents (job * block_len) ≡ get_or (blocks_of contents count) job d
  block_of_job job d within = sym (get_or-map-range_with_len (λ i. block_view contents (i * block_len)) 0 count job job d within (omega arith))

pub block_within : (contents : Option FileContents) (count job : ℕ) → ForSome contents (HasBlocks count) → job < count → IfSome contents (λ f. job * block_len < file_len f)
block_within None count job has within = tt
block_within (Some f) count job has within = let counted : HasBlocks count f = has f refl in omega (arith, counted.0, within)

-- ---- the parts that are loaded

-- These parts are the first of a file, and none of their bytes is lost. With the bytes that are left of it behind them they are all of it.
pub record AreFirst (f : FileContents) (parts : List (List ℕ)) : Type 0 where
  pub whole : 0 < f.lost → length parts * block_len ≤ length f.bytes
  pub same : (others : List (List ℕ)) → bytes_until_short others ≡ drop (length parts * block_len) f.bytes → bytes_until_short (parts ++ others) ≡ f.bytes

none_lost : (f : FileContents) (at : ℕ) (part : List ℕ) → part_at f at ≡ Ok part → 0 < f.lost → at + block_len ≤ length f.bytes
none_lost f at part is lost = grind (arith, nat_tests)

part_is : (f : FileContents) (at : ℕ) (part : List ℕ) → part_at f at ≡ Ok part → part ≡ take block_len (drop at f.bytes)
part_is f at part is = grind (arith, nat_tests)

part_refused : (f : FileContents) (count at : ℕ) (refused : RunFault) → HasBlocks count f → count ≤ block_limit → part_at f at ≡ Err refused → text_of_file (Some f) ≡ Err refused
part_refused f count at refused has few is = grind (arith, nat_tests)

with_part : (bytes : List ℕ) (at : ℕ) (part : List ℕ) (others : List (List ℕ)) → part ≡ take block_len (drop at bytes)
    → bytes_until_short others ≡ drop (at + block_len) bytes → bytes_until_short (part ∷ others) ≡ drop at bytes
unfolding bytes_until_short
with_part bytes at part others is rest = by (nat_lt (length part) block_len) refl
  where
    by : (b : Bool) → nat_lt (length part) block_len ≡ b → cond b part (part ++ bytes_until_short others) ≡ drop at bytes
    by true short =
        is ∙ take_all block_len (drop at bytes) (omega (arith, ltb-true (length part) block_len short, ap length is, length-take block_len (drop at bytes)))
    by false full = ap₂ (λ (xs ys : List ℕ). xs ++ ys) is (rest ∙ sym (drop-drop block_len at bytes)) ∙ take-append-drop block_len (drop at bytes)

-- of `count` blocks these parts were gathered, and these blocks are left
pub record Gathers (contents : Option FileContents) (count : ℕ) (left : List BlockView) (parts : List (List ℕ)) : Type 0 where
  pub few : length parts ≤ count
  pub left_are : left ≡ drop (length parts) (blocks_of contents count)
  pub parts_are : IfSome contents (λ f. AreFirst f parts)

pub gathers_none : (contents : Option FileContents) (count : ℕ) (left : List BlockView) → left ≡ blocks_of contents count → Gathers contents count left []
gathers_none contents count left is = record { few = omega arith; left_are = is; parts_are = none_first contents }
  where
    none_first : (t : Option FileContents) → IfSome t (λ f. AreFirst f [])
    none_first None = tt
    none_first (Some f) = record { whole = λ lost. omega arith; same = λ others rest. rest }

module _ (contents : Option FileContents) (count : ℕ) (b : BlockView) (left : List BlockView) (parts : List (List ℕ)) (was : Gathers contents count (b ∷ left) parts) where
  abbrev at : ℕ
  at = length parts * block_len

  within : length parts < count
  within = omega (arith, length-blocks contents count, length-drop (length parts) (blocks_of contents count), ap length was.left_are)

  next : b ∷ left ≡ get_or (blocks_of contents count) (length parts) b ∷ drop (length parts + 1) (blocks_of contents count)
  next = was.left_are ∙ drop_more (blocks_of contents count) (length parts) b (omega (arith, within, length-blocks contents count))

  block_is : b ≡ block_view contents at
  block_is = let own = block_of_job contents count (length parts) b within in cc (next, own)

  pub gathers_one : (bytes : List ℕ) → IfSome b.contents (λ f. part_at f b.at ≡ Ok bytes) → Gathers contents count left (parts ++ bytes ∷ [])
  gathers_one bytes part = record {
    few = omega (arith, more, within);
    left_are = let others : left ≡ drop (length parts + 1) (blocks_of contents count) = cc next in others ∙ ap (λ n. drop n (blocks_of contents count)) (sym more);
    parts_are = one_more contents (subst (λ (x : BlockView). IfSome x.contents (λ f. part_at f x.at ≡ Ok bytes)) block_is part) was.parts_are;
  }
    where
      more : length (parts ++ bytes ∷ []) ≡ length parts + 1
      more = length-append parts (bytes ∷ [])

      one_more : (t : Option FileContents) → IfSome t (λ f. part_at f at ≡ Ok bytes) → IfSome t (λ f. AreFirst f parts) → IfSome t (λ f. AreFirst f (parts ++ bytes ∷ []))
      one_more None is first = tt
      one_more (Some f) is first = record {
        whole = λ lost. omega (arith, more, none_lost f at bytes is lost);
        same = λ others rest.
            let place : length (parts ++ bytes ∷ []) * block_len ≡ at + block_len = omega (arith, more) in
            ap bytes_until_short (append_assoc parts (bytes ∷ []) others)
            ∙ first.same (bytes ∷ others) (with_part f.bytes at bytes others (part_is f at bytes is) (rest ∙ ap (λ n. drop n f.bytes) place));
      }

  pub gathers_no_more : (refused : Option RunFault) → IfSome contents (HasBlocks count) → count ≤ block_limit → IfSome b.contents (λ f. IfSome refused (λ r. part_at f b.at ≡ Err r))
      → IfSome contents (λ f. IfSome refused (λ r. text_of_file (Some f) ≡ Err r))
  gathers_no_more refused has few part = by contents refused has (subst (λ (x : BlockView). IfSome x.contents (λ f. IfSome refused (λ r. part_at f x.at ≡ Err r))) block_is part)
    where
      by : (t : Option FileContents) (o : Option RunFault) → IfSome t (HasBlocks count) → IfSome t (λ f. IfSome o (λ r. part_at f at ≡ Err r))
          → IfSome t (λ f. IfSome o (λ r. text_of_file (Some f) ≡ Err r))
      by None o has is = tt
      by (Some f) None has is = tt
      by (Some f) (Some r) has is = part_refused f count at r has few is

none_left : (lost len count many : ℕ) → (0 < lost → many * block_len ≤ len) → len + lost ≤ count * block_len → count ≤ many → lost ≤ 0
none_left zero len count many whole within all = omega arith
none_left (suc lost) len count many whole within all = absurd (omega (arith, whole (omega arith), within, all))

pub gathers_all : (contents : Option FileContents) (count : ℕ) (parts : List (List ℕ)) → IfSome contents (HasBlocks count) → count ≤ block_limit → Gathers contents count [] parts
    → IfSome contents (λ f. text_of_file (Some f) ≡ Ok (bytes_until_short parts))
unfolding bytes_until_short
gathers_all contents count parts has few was =
    by contents has was.parts_are (omega (arith, length-blocks contents count, length-drop (length parts) (blocks_of contents count), ap length was.left_are))
  where
    by : (t : Option FileContents) → IfSome t (HasBlocks count) → IfSome t (λ f. AreFirst f parts) → count ≤ length parts
        → IfSome t (λ f. text_of_file (Some f) ≡ Ok (bytes_until_short parts))
    by None has first all = tt
    by (Some f) has first all =
        let fits : nat_lt capture_limit (length f.bytes) ≡ false = le-ltb capture_limit (length f.bytes) (omega (arith, has.1, few)) in
        let whole : nat_lt 0 f.lost ≡ false = le-ltb 0 f.lost (none_left f.lost (length f.bytes) count (length parts) first.whole has.1 all) in
        let rest : [] ≡ drop (length parts * block_len) f.bytes = sym (drop_all (length parts * block_len) f.bytes (omega (arith, has.1, all))) in
        let bytes : f.bytes ≡ bytes_until_short parts = sym (first.same [] rest) ∙ ap bytes_until_short (append-nil parts) in
        rw (fits, whole) (ap (λ (xs : List ℕ). Ok xs) bytes)
