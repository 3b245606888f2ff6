-- The last name of the path of a file in a folder.
use Rattle.std.proofs.Common.{◌≡◌, inl, inr, ℕ, Bool, true, false, ◌||◌, List, [], ◌∷◌, ◌==◌, length, length-append, refl, sym, ap, subst, ◌∙◌, arith}
use Rattle.std.proofs.lemmas.List.Folds.{list_any-append}
use Rattle.disks.specs.DraftPaths.{slash, has_slash, path_in, last_name, is_draft_name, IsDraftPath, DraftsAreNamed}

or_true : (a : Bool) → (a || true) ≡ true
or_true true = refl
or_true false = refl

folder_has : (folder name : List ℕ) → has_slash (path_in folder name) ≡ true
folder_has folder name = list_any-append (λ c. c == slash) folder (slash ∷ name) ∙ or_true (has_slash folder)

last_is : (folder name : List ℕ) → has_slash name ≡ false → last_name (path_in folder name) ≡ name
last_is [] name none = rw none refl
last_is (c ∷ folder) name none = rw (folder_has folder name) (last_is folder name none)

pub drafts_are_named : DraftsAreNamed
drafts_are_named folder name none = (
  λ is. inr (subst (λ n. is_draft_name n ≡ true) (sym (last_is folder name none)) is),
  λ path. by path,
)
  where
    by : IsDraftPath (path_in folder name) → is_draft_name name ≡ true
    by (inl is) = absurd (omega (arith, ap length is, length-append folder (slash ∷ name)))
    by (inr is) = subst (λ n. is_draft_name n ≡ true) (last_is folder name none) is
