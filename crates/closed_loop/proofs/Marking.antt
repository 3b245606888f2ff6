-- Records that are marked as those of a connection.
use Rattle.std.proofs.Common.{◌≡◌, ◌∙◌, sym, ap, refl, ℕ, zero, suc, ◌<◌, ◌≤◌, ◌+◌, ◌==◌, ◌||◌, ◌⊎◌, inl, inr, Bool, true, false, List, [], ◌∷◌, ◌++◌, length, set, replicate, Option, Some, None, take, get_or, subst, arith}
use Rattle.std.specs.List.{list_any, slice_get}
use Rattle.std.proofs.lemmas.List.{take_more}
use Rattle.closed_loop.specs.declared.packets.Packet.{Packet}
use Rattle.closed_loop.specs.Scripts.{ScriptView}
use Rattle.closed_loop.specs.Settled.{is_of_script}

-- one place more is marked
pub marked_set : (xs : List Bool) (n i : ℕ) → slice_get (set xs n true) i ≡ Some true → (slice_get xs i ≡ Some true) ⊎ (i ≡ n)
marked_set [] n i is = inl is
marked_set (x ∷ xs) zero zero is = inr refl
marked_set (x ∷ xs) zero (suc i) is = inl is
marked_set (x ∷ xs) (suc n) zero is = inl is
marked_set (x ∷ xs) (suc n) (suc i) is = by_case (marked_set xs n i is)
  where
    by_case : (slice_get xs i ≡ Some true) ⊎ (i ≡ n) → (slice_get xs i ≡ Some true) ⊎ (suc i ≡ suc n)
    by_case (inl old) = inl old
    by_case (inr same) = inr (ap suc same)

pub none_marked : (n i : ℕ) → slice_get (replicate n false) i ≡ Some true → ⊥
none_marked zero i is = absurd cc
none_marked (suc n) zero is = absurd cc
none_marked (suc n) (suc i) is = none_marked n i is

any_more : {X : Type 0} (p : X → Bool) (xs : List X) (k : ℕ) (x : X) → k < length xs → x ≡ get_or xs k x
    → (list_any p (take k xs) ≡ true) ⊎ (p x ≡ true) → list_any p (take (k + 1) xs) ≡ true
any_more p [] k x inside at some = absurd (omega arith)
any_more p (y ∷ ys) zero x inside at (inl old) = absurd cc
any_more p (y ∷ ys) zero x inside at (inr new) =
    let passes : p y ≡ true = subst (λ (z : _). p z ≡ true) at new in
    rw passes refl
any_more p (y ∷ ys) (suc k) x inside at some =
    let e : suc k + 1 ≡ suc (k + 1) = omega arith in
    rw e (by_test (p y) some (λ s. any_more p ys k x (omega arith) at s))
  where
    by_test : (b : Bool) → ((b || list_any p (take k ys)) ≡ true) ⊎ (p x ≡ true)
        → ((list_any p (take k ys) ≡ true) ⊎ (p x ≡ true) → list_any p (take (k + 1) ys) ≡ true) → (b || list_any p (take (k + 1) ys)) ≡ true
    by_test true some rest = refl
    by_test false some rest = rest some

-- of the first packets of a script, one more
pub packet_more : (i : ℕ) (ps : List Packet) (k : ℕ) (p : Packet) → k < length ps → p ≡ get_or ps k p
    → (list_any (λ (q : Packet). q.number == i) (take k ps) ≡ true) ⊎ (i ≡ p.number) → list_any (λ (q : Packet). q.number == i) (take (k + 1) ps) ≡ true
packet_more i ps k p inside at (inl old) = any_more (λ (q : Packet). q.number == i) ps k p inside at (inl old)
packet_more i ps k p inside at (inr new) = any_more (λ (q : Packet). q.number == i) ps k p inside at (inr (grind (arith, new)))

pub script_more : (i : ℕ) (ps : List ScriptView) (k : ℕ) (p : ScriptView) → k < length ps → p ≡ get_or ps k p
    → (list_any (is_of_script i) (take k ps) ≡ true) ⊎ (is_of_script i p ≡ true) → list_any (is_of_script i) (take (k + 1) ps) ≡ true
script_more i ps k p inside at some = any_more (is_of_script i) ps k p inside at some
