-- The last packets and the first reset of members, one member more.
use Rattle.std.proofs.Common.{◌≡◌, Bool, true, false, cond, List, [], ◌∷◌, ◌++◌, refl, Option, Some, None}
use Rattle.std.specs.List.{last_or, filter, find}
use Rattle.std.specs.Option.{option_or}
use Rattle.std.proofs.lemmas.List.Folds.{find-append}
use Rattle.conn_table.specs.declared.conns.Member.{Member}
use Rattle.reassembly.specs.MemberSpans.{is_of, is_reset_member}
use Rattle.closed_loop.specs.Packets.{last_of_side}

last_or_push : {X : Type 0} (before : Option X) (P : X → Bool) (xs : List X) (y : X)
    → last_or before (filter P (xs ++ y ∷ [])) ≡ cond (P y) (Some y) (last_or before (filter P xs))
last_or_push {X = X} before P [] y = by_test (P y)
  where
    by_test : (b : Bool) → last_or before (cond b (y ∷ []) []) ≡ cond b (Some y) before
    by_test true = refl
    by_test false = refl
last_or_push {X = X} before P (x ∷ xs) y = by_test (P x) (λ o. last_or_push o P xs y)
  where
    by_test : (b : Bool) → ((o : Option X) → last_or o (filter P (xs ++ y ∷ [])) ≡ cond (P y) (Some y) (last_or o (filter P xs)))
        → last_or before (cond b (x ∷ filter P (xs ++ y ∷ [])) (filter P (xs ++ y ∷ []))) ≡ cond (P y) (Some y) (last_or before (cond b (x ∷ filter P xs) (filter P xs)))
    by_test true rest = rest (Some x)
    by_test false rest = rest before

pub last_pushed : (client : Bool) (xs : List Member) (m : Member)
    → last_of_side client (xs ++ m ∷ []) ≡ cond (is_of client m) (Some m) (last_of_side client xs)
last_pushed client xs m = last_or_push None (is_of client) xs m

pub reset_pushed : (xs : List Member) (m : Member)
    → find is_reset_member (xs ++ m ∷ []) ≡ option_or (find is_reset_member xs) (cond (is_reset_member m) (Some m) None)
reset_pushed xs m = find-append is_reset_member xs (m ∷ [])
