-- Names of drafts and outputs, how files come to stand one after another, what a run leaves, and a first part of texts that are written.
use Rattle.std.proofs.Common.{◌≡◌, ◌<◌, ◌^◌, ℕ, Bool, true, false, ◌==◌, List, [], ◌∷◌, ◌++◌, length, decimal, codes, refl, subst, arith, ◌≤◌, zero, suc, ◌+◌}
use Rattle.std.proofs.Common.{◌-◌, ◌||◌, nat_lt, replicate, sym, ap, ◌∙◌, length-append, ◌⊎◌, inl, inr, Option, Some, None, IfSome, take, drop, get_or}
use Rattle.std.proofs.Common.{take-add, Result, Ok, Err, append-nil, append_assoc, map}
use Rattle.std.proofs.lemmas.Bool.{eqb-true}
use Rattle.std.proofs.lemmas.Fmt.{decimal_injective, decimal_is_IsNumeral, decimal_nonempty, length-decimal-le}
use Rattle.std.proofs.lemmas.List.{append_cancel_left, length-replicate, get_or_default, take-append-drop, drop_more, take_at, drop_at, take-append-le}
use Rattle.std.proofs.lemmas.List.{map-append}
use Rattle.std.proofs.lemmas.List.Folds.{list_any-append}
use Rattle.std.proofs.lemmas.Slice.Eq.{bytes_eq-Decides}
use Rattle.std.proofs.lemmas.List.Concat.{flat_map-append}
use Rattle.std.proofs.lemmas.Grind.{common_steps}
use Rattle.run_files.specs.{digit_value, AllDigits, slash, has_slash, path_in, unfinished, IsDraftPath, DraftsAreNamed, is_draft_name, draft_name}
use Rattle.run_files.specs.{DraftPathsDiffer, is_refused, name_limit, four_digits, bytes_eq, flat_map, padded_integral, format_spec, char_count, ChangesAt}
use Rattle.run_files.specs.{HasRead, Standing, History, PublishedFile, FolderView, IsOutside, Leaves, in_folder, CommitsIn, Takes, StoredFile, capture_file}
use Rattle.run_files.specs.{report_file, files_from, stored_before, Stores, PutsAfter}
use Rattle.run_files.specs.declared.outputs.Output.{Output}
use Rattle.run_files.specs.declared.error.StoreFault.{StoreFault}

-- ---- names of drafts, `toxicap.unfinished-` and a number: they have no slash, and each number has its own

pub no_slash : (xs : List ℕ) → AllDigits 10 xs → has_slash xs ≡ false
no_slash [] each = refl
no_slash (c ∷ xs) each = by (c == slash) refl (no_slash xs each.1)
  where
    by : (b : Bool) → (c == slash) ≡ b → has_slash xs ≡ false → has_slash (c ∷ xs) ≡ false
    by true is rest = absurd (omega (arith, subst (λ d. digit_value d < 10) (eqb-true c slash is) each.0))
    by false is rest = rw is rest

pub draft_path_in : DraftsAreNamed → (folder : List ℕ) (n : ℕ) → n < 2 ^ 64 → IsDraftPath (path_in folder (draft_name n))
draft_path_in named folder n within = (named folder (draft_name n) (no_slash (decimal n) (decimal_is_IsNumeral n within).0.1)).0 refl

pub paths_differ : DraftPathsDiffer
paths_differ folder one other some in_one in_other same = by (length folder == 0) refl
  where
    by : (b : Bool) → (length folder == 0) ≡ b → one ≡ other
    by true is = absurd (omega (arith, some, eqb-true (length folder) 0 is))
    by false is =
        let paths : path_in folder (draft_name one) ≡ path_in folder (draft_name other) = rw is at same in
        decimal_injective one other in_one in_other
        (append_cancel_left (slash ∷ unfinished ++ codes "-") (decimal one) (decimal other) (append_cancel_left folder (slash ∷ draft_name one) (slash ∷ draft_name other) paths))

-- ---- names of outputs, four digits or more and an ending

digits_append : (xs ys : List ℕ) → AllDigits 10 xs → AllDigits 10 ys → AllDigits 10 (xs ++ ys)
digits_append [] ys first next = next
digits_append (c ∷ xs) ys first next = (first.0, digits_append xs ys first.1 next)

zeros : (k : ℕ) → AllDigits 10 (replicate k 48)
zeros zero = tt
zeros (suc k) = (omega arith, zeros k)

no_draft : (xs rest : List ℕ) → AllDigits 10 xs → 0 < length xs → is_draft_name (xs ++ rest) ≡ false
no_draft [] rest each some = absurd (omega (arith, some))
no_draft (c ∷ xs) rest each some = by (116 == c) refl
  where
    by : (b : Bool) → (116 == c) ≡ b → is_draft_name (c ∷ xs ++ rest) ≡ false
    by true is = absurd (omega (arith, subst (λ d. digit_value d < 10) (sym (eqb-true 116 c is)) each.0))
    by false is = rw is refl

module _ (n : ℕ) (within : n < 2 ^ 32) where
  all_digits : AllDigits 10 (four_digits n)
  all_digits = digits_append (replicate (4 - length (decimal n)) 48) (decimal n) (zeros (4 - length (decimal n))) (decimal_is_IsNumeral n (omega (arith, within))).0.1

  count : length (four_digits n) ≡ (4 - length (decimal n)) + length (decimal n)
  count = length-append (replicate (4 - length (decimal n)) 48) (decimal n) ∙ ap (λ k. k + length (decimal n)) (length-replicate (4 - length (decimal n)) 48)

  short : length (decimal n) ≤ 10
  short = length-decimal-le 10 n (omega arith) (omega (arith, within)) (omega (arith, within))

  pub name_allowed : (folder ending : List ℕ) → length ending ≤ 4 + 1 → has_slash ending ≡ false → is_refused folder (four_digits n ++ ending) ≡ (length folder == 0)
  name_allowed folder ending brief clear =
      let name : List ℕ = four_digits n ++ ending in
      let len : length name ≤ name_limit = omega (arith, length-append (four_digits n) ending, count, short, brief) in
      let fits : nat_lt name_limit (length name) ≡ false = grind (arith, len) in
      let slashes : has_slash name ≡ false = list_any-append (λ c. c == slash) (four_digits n) ending ∙ rw (no_slash (four_digits n) all_digits, clear) refl in
      let whole : is_draft_name name ≡ false = no_draft (four_digits n) ending all_digits (omega (arith, count, decimal_nonempty n (omega (arith, within)))) in
      by (length folder == 0) name fits slashes whole
    where
      by : (b : Bool) (name : List ℕ) → nat_lt name_limit (length name) ≡ false → has_slash name ≡ false → is_draft_name name ≡ false
          → (b || nat_lt name_limit (length name) || has_slash name || is_draft_name name) ≡ b
      by true name fits slashes whole = refl
      by false name fits slashes whole = rw (fits, slashes, whole) refl

-- ---- what a run leaves as it stands

module _ (folder : FolderView) where
  -- a file is published under a name that the folder takes, where none stood that was read
  pub Leaves-published : (name : List ℕ) (old new : Option Standing) → is_refused folder.path name ≡ false
      → IfSome old (λ stood. HasRead folder.read (stood (path_in folder.path name)) → ⊥) → ChangesAt old new (path_in folder.path name) → Leaves folder old new
  Leaves-published name None new takes unread others = tt
  Leaves-published name (Some old) None takes unread others = absurd others
  Leaves-published name (Some old) (Some new) takes unread others = λ path left. by path left (bytes_eq path (path_in folder.path name)) refl
    where
      by : (path : List ℕ) → HasRead folder.read (old path) ⊎ IsOutside folder.path path → (b : Bool) → bytes_eq path (path_in folder.path name) ≡ b → new path ≡ old path
      by path (inl held) true is = absurd (unread (subst (λ p. HasRead folder.read (old p)) ((bytes_eq-Decides path (path_in folder.path name)).0 is) held))
      by path (inr outside) true is = absurd (outside name takes ((bytes_eq-Decides path (path_in folder.path name)).0 is))
      by path left false is = others path is

-- ---- a first part of texts that are written one after another: some of them whole, and a first part of the next one

module _ {X : Type 0} (text : X → List ℕ) where
  -- the texts, around the one at place i
  around : (xs : List X) (i : ℕ) (x : X) → i < length xs → x ≡ get_or xs i x
      → flat_map text xs ≡ flat_map text (take i xs) ++ (text x ++ flat_map text (drop (i + 1) xs))
  around xs i x within is =
      let later : drop i xs ≡ x ∷ drop (i + 1) xs = drop_more xs i x within ∙ ap (λ y. y ∷ drop (i + 1) xs) (sym is) in
      ap (flat_map text) (sym (take-append-drop i xs)) ∙ (flat_map-append text (take i xs) (drop i xs) ∙ ap (λ ys. flat_map text (take i xs) ++ flat_map text ys) later)

  pub printed_part : (xs : List X) (i w : ℕ) (x : X) → i < length xs → x ≡ get_or xs i x → w < length (text x)
      → (length (flat_map text (take i xs)) + w < length (flat_map text xs))
      × (flat_map text (take i xs) ++ take w (text x) ≡ take (length (flat_map text (take i xs)) + w) (flat_map text xs))
  printed_part xs i w x within is less =
      let first : List ℕ = flat_map text (take i xs) in
      let rest : List ℕ = text x ++ flat_map text (drop (i + 1) xs) in
      let whole : flat_map text xs ≡ first ++ rest = around xs i x within is in (
        rw whole (omega (arith, length-append first rest, length-append (text x) (flat_map text (drop (i + 1) xs)))),
        rw (whole, take-add (length first) w (first ++ rest), take_at first rest (length first) refl, drop_at first rest (length first) refl, take-append-le w (text x) (flat_map text (drop (i + 1) xs)) (omega (arith, less))) refl,
      )

  pub printed_at : (xs : List X) (i w : ℕ) (d : X) → i < length xs → w < length (text (get_or xs i d))
      → (length (flat_map text (take i xs)) + w < length (flat_map text xs))
      × (flat_map text (take i xs) ++ take w (text (get_or xs i d)) ≡ take (length (flat_map text (take i xs)) + w) (flat_map text xs))
  printed_at xs i w d within less = printed_part xs i w (get_or xs i d) within (get_or_default xs i d (get_or xs i d) within) less

-- ---- files on a shelf

pub padded_is_four_digits : (n : ℕ) → padded_integral (format_spec 32 0 4 4 (2 ^ 64 - 1)) false [] (decimal n) ≡ four_digits n
unfolding padded_integral char_count
padded_is_four_digits n = grind (arith, common_steps)

pub Takes-append : (a b c : Option (List StoredFile)) (xs ys : List StoredFile) → Takes a b xs → Takes b c ys → Takes a c (xs ++ ys)
Takes-append None b c xs ys p q = tt
Takes-append (Some a) None c xs ys p q = absurd p
Takes-append (Some a) (Some b) None xs ys p q = absurd q
Takes-append (Some a) (Some b) (Some c) xs ys p q = q ∙ (ap (λ l. l ++ ys) p ∙ append_assoc {A = StoredFile} a xs ys)

pub Takes-none : (a : Option (List StoredFile)) → Takes a a []
Takes-none None = tt
Takes-none (Some a) = sym (append-nil a)

pub CommitsIn-append : (folder : List ℕ) (a b c : Option History) (xs ys : List StoredFile) → CommitsIn folder a b xs → CommitsIn folder b c ys → CommitsIn folder a c (xs ++ ys)
CommitsIn-append folder None b c xs ys p q = tt
CommitsIn-append folder (Some a) b c xs ys p q =
    subst (λ o. CommitsIn folder o c ys) p q
    ∙ ap (λ (published : List PublishedFile). Some (record { first = a.first; published = published }))
    (append_assoc {A = PublishedFile} a.published (map (in_folder folder) xs) (map (in_folder folder) ys) ∙ ap (λ (zs : List PublishedFile). a.published ++ zs) (sym (map-append (in_folder folder) xs ys)))

pub CommitsIn-none : (folder : List ℕ) (a : Option History) → CommitsIn folder a a []
CommitsIn-none folder None = tt
CommitsIn-none folder (Some a) = ap (λ (published : List PublishedFile). Some (record { first = a.first; published = published })) (sym (append-nil a.published))

pub next_files : (outputs : List Output) (n : ℕ) (o : Output) → n < length outputs → o ≡ get_or outputs n o
    → files_from n (drop n outputs) ≡ capture_file n o ∷ report_file n o ∷ files_from (n + 1) (drop (n + 1) outputs)
next_files outputs n o within is = ap (files_from n) (drop_more outputs n o within ∙ ap (λ x. x ∷ drop (n + 1) outputs) (sym is))

-- where files are taken, as on a shelf or in a folder
module _ {T : Type 0} (Took : T → T → List StoredFile → Type 0) where
  -- what is taken in two steps is taken: here one file, and then others or not
  pub put_first : ((a b c : T) (xs ys : List StoredFile) → Took a b xs → Took b c ys → Took a c (xs ++ ys))
      → (before next : ℕ) (files : List StoredFile) (x : StoredFile) (rest : List StoredFile) (a b c : T) (result : Result (Unit {0}) StoreFault)
      → next ≡ before + 1 → files ≡ x ∷ rest → Took a b (x ∷ []) → Stores next rest (Took b c) result → Stores before files (Took a c) result
  put_first in_steps before next files x rest a b c (Ok u) place is one more = rw is (in_steps a b c (x ∷ []) rest one more)
  put_first in_steps before next files x rest a b c (Err fault) place is one (stored, told, fewer, took) =
      rw is (suc stored, omega (arith, told, place), omega (arith, fewer), in_steps a b c (x ∷ []) (take stored rest) one took)

  -- the file that comes next is not taken
  pub not_put : ((a : T) → Took a a []) → (before : ℕ) (files : List StoredFile) (a b : T) (fault : StoreFault)
      → 0 < length files → (stored_before fault ≡ before) × (b ≡ a) → Stores before files (Took a b) (Err fault)
  not_put none before files a b fault some puts = rw puts.1 (0, omega (arith, puts.0), some, none a)

  pub put_last : ((a : T) → Took a a []) → (before : ℕ) (x : StoredFile) (a b : T) (result : Result (Unit {0}) StoreFault)
      → PutsAfter before (Took a b (x ∷ [])) (b ≡ a) result → Stores before (x ∷ []) (Took a b) result
  put_last none before x a b (Ok u) puts = puts
  put_last none before x a b (Err fault) puts = not_put none before (x ∷ []) a b fault (omega arith) puts
