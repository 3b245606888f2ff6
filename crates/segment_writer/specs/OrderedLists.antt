-- Lists of whatever is compared by a test: in order, and put in order.
use Rattle.std.specs.Prelude.{◌≡◌, Bool, false, List, [], ◌∷◌, if◌then◌else◌}
use Rattle.std.specs.List.{AllByRecursion}

module _ {X : Type 0} (lt : X → X → Bool) where
  abbrev pub NoneBelow : X → List X → Type 0
  NoneBelow x ys = AllByRecursion (λ y. lt y x ≡ false) ys

  abbrev pub Ordered : List X → Type 0
  Ordered [] = Unit {0}
  Ordered (x ∷ xs) = NoneBelow x xs × Ordered xs

  -- into a list in order, before the first that is not below it
  abbrev pub insert_by : X → List X → List X
  insert_by x [] = x ∷ []
  insert_by x (y ∷ ys) = if lt y x then y ∷ insert_by x ys else x ∷ y ∷ ys

  abbrev pub sorted_by : List X → List X
  sorted_by [] = []
  sorted_by (x ∷ xs) = insert_by x (sorted_by xs)
