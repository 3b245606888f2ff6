-- What paths hold while files are published one after another.
use Rattle.std.proofs.Common.{◌≡◌, ◌≤◌, ◌⊎◌, inl, inr, ℕ, zero, suc, ◌+◌, ◌-◌, Bool, true, false, List, [], ◌∷◌, ◌++◌, length, take, if◌then◌else◌, Option, Some, None, refl, sym, ap, subst, ◌∙◌, arith}
use Rattle.std.specs.Str.{bytes_eq}
use Rattle.std.proofs.Math.Seq.{take-append-add}
use Rattle.std.proofs.lemmas.List.Sums.{fold-append}
use Rattle.std.proofs.lemmas.Slice.Eq.{bytes_eq-Decides}
use Rattle.disks.specs.FileContents.{Held, FileContents, whole_file}
use Rattle.disks.specs.Histories.{PublishedFile, held_with, held_after, History, with_published, held_at, held_now, Publishes, HoldsOneOf, LeavesWhole}

agrees : (one other : Held) (files : List PublishedFile) (path : List ℕ) → one path ≡ other path → held_after one files path ≡ held_after other files path
agrees one other [] path same = same
agrees one other (f ∷ files) path same =
    agrees (held_with one f.path (whole_file f.bytes)) (held_with other f.path (whole_file f.bytes)) files path
    (ap (λ (held : Option FileContents). if bytes_eq path f.path then Some (whole_file f.bytes) else held) same)

module _ (held : Held) (f : PublishedFile) (files : List PublishedFile) (n : ℕ) (path : List ℕ) where
  abbrev once : Held
  once = held_with held f.path (whole_file f.bytes)

  abbrev twice : Held
  twice = held_after once (take n files)

  first_again : (b : Bool) → bytes_eq path f.path ≡ b → held_after twice files path ≡ held_after once files path
      → held_after (held_with twice f.path (whole_file f.bytes)) files path ≡ held_after once files path
  first_again true is rest = agrees (held_with twice f.path (whole_file f.bytes)) once files path (rw is refl)
  first_again false is rest = agrees (held_with twice f.path (whole_file f.bytes)) twice files path (rw is refl) ∙ rest

pub again : (held : Held) (files : List PublishedFile) (n : ℕ) (path : List ℕ) → held_after (held_after held (take n files)) files path ≡ held_after held files path
again held [] zero path = refl
again held [] (suc n) path = refl
again held (f ∷ files) zero path = refl
again held (f ∷ files) (suc n) path =
    first_again held f files n path (bytes_eq path f.path) refl (again (held_with held f.path (whole_file f.bytes)) files n path)

module _ (held : Held) (f : PublishedFile) (files : List PublishedFile) (path : List ℕ) where
  abbrev more : Held
  more = held_with held f.path (whole_file f.bytes)

  held_or_one : (b : Bool) → bytes_eq path f.path ≡ b → (held_after more files path ≡ more path) ⊎ HoldsOneOf files path (held_after more files path)
      → (held_after more files path ≡ held path) ⊎ HoldsOneOf (f ∷ files) path (held_after more files path)
  held_or_one b is (inr one) = inr (inr one)
  held_or_one true is (inl same) = inr (inl (sym ((bytes_eq-Decides path f.path).0 is), same ∙ rw is refl))
  held_or_one false is (inl same) = inl (same ∙ rw is refl)

held_or_published : (held : Held) (files : List PublishedFile) (path : List ℕ) → (held_after held files path ≡ held path) ⊎ HoldsOneOf files path (held_after held files path)
held_or_published held [] path = inl refl
held_or_published held (f ∷ files) path = held_or_one held f files path (bytes_eq path f.path) refl (held_or_published (held_with held f.path (whole_file f.bytes)) files path)

one_of_more : (files : List PublishedFile) (n : ℕ) (path : List ℕ) (held : Option FileContents) → HoldsOneOf (take n files) path held → HoldsOneOf files path held
one_of_more [] zero path held one = one
one_of_more [] (suc n) path held one = one
one_of_more (f ∷ files) zero path held one = absurd one
one_of_more (f ∷ files) (suc n) path held (inl is) = inl is
one_of_more (f ∷ files) (suc n) path held (inr one) = inr (one_of_more files n path held one)

module _ (h : History) (files : List PublishedFile) (n m : ℕ) (path : List ℕ) (after : length h.published ≤ m) where
  abbrev some : List PublishedFile
  some = take (m - length h.published) (take n files)

  held_then : held_at (with_published h (take n files)) m path ≡ held_after (held_now h) some path
  held_then =
      let place : m ≡ length h.published + (m - length h.published) = omega (arith, after) in
      let all : take m (h.published ++ take n files) ≡ h.published ++ some =
      ap (λ k. take k (h.published ++ take n files)) place ∙ take-append-add h.published (take n files) (m - length h.published) in
      ap (λ (fs : List PublishedFile). held_after h.first fs path) all
      ∙ ap (λ (held : Held). held path) (fold-append (λ (had : Held) (f : PublishedFile). held_with had f.path (whole_file f.bytes)) h.first h.published some)

  at_moment : (held_after (held_now h) some path ≡ held_now h path) ⊎ HoldsOneOf some path (held_after (held_now h) some path)
      → (held_at (with_published h (take n files)) m path ≡ held_now h path) ⊎ HoldsOneOf files path (held_at (with_published h (take n files)) m path)
  at_moment (inl same) = inl (held_then ∙ same)
  at_moment (inr one) =
      inr (subst (HoldsOneOf files path) (sym held_then) (one_of_more files n path _ (one_of_more (take n files) (m - length h.published) path _ one)))

abbrev history_in : History → Option History → History
history_in h None = h
history_in h (Some k) = k

pub leave_whole : (old new : Option History) (files : List PublishedFile) (n : ℕ) → Publishes old new (take n files) → LeavesWhole old new files
leave_whole None new files n published = tt
leave_whole (Some h) None files n published = tt
leave_whole (Some h) (Some k) files n published = λ m after within path.
    let is : k ≡ with_published h (take n files) = ap (history_in h) published in
    subst (λ (x : History). (held_at x m path ≡ held_now h path) ⊎ HoldsOneOf files path (held_at x m path)) (sym is)
    (at_moment h files n m path after (held_or_published (held_now h) (take (m - length h.published) (take n files)) path))
