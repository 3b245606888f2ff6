-- What steps passed, if they gave a value.
use Rattle.std.proofs.Common.{◌≡◌, Bool, true, false, Option, Some, None, option_and_then, Result, Ok, Err, refl, ap}
use Rattle.std.proofs.lemmas.Option.{none-some}
use Rattle.scenarios.specs.Refusals.{with, and_then, unless, at_place}
use Rattle.scenarios.specs.declared.error.Cause.{Cause}
use Rattle.scenarios.specs.declared.error.Refusal.{Refusal}

err_is_not_ok : {A E P : Type 0} (e : E) (x : A) → ◌≡◌ {A = Result A E} (Err e) (Ok x) → P
err_is_not_ok e x is = cc

pub same_ok : {A E : Type 0} (x y : A) → ◌≡◌ {A = Result A E} (Ok x) (Ok y) → x ≡ y
same_ok x y is = cc

pub of_with : {A B E P : Type 0} (o : Option A) (e : E) (next : A → Result B E) (y : B) → with o e next ≡ Ok y → ((x : A) → o ≡ Some x → next x ≡ Ok y → P) → P
of_with None e next y is k = err_is_not_ok _ _ is
of_with (Some x) e next y is k = k x refl is

pub of_after : {A B E P : Type 0} (r : Result A E) (next : A → Result B E) (y : B) → and_then r next ≡ Ok y → ((x : A) → r ≡ Ok x → next x ≡ Ok y → P) → P
of_after (Ok x) next y is k = k x refl is
of_after (Err e) next y is k = err_is_not_ok _ _ is

pub of_unless : {B E P : Type 0} (b : Bool) (e : E) (next : Result B E) (y : B) → unless b e next ≡ Ok y → (b ≡ false → next ≡ Ok y → P) → P
of_unless true e next y is k = err_is_not_ok _ _ is
of_unless false e next y is k = k refl is

pub of_place : {A : Type 0} (place : Cause → Refusal) (r : Result A Cause) (x : A) → at_place place r ≡ Ok x → r ≡ Ok x
of_place place (Ok z) x is = ap Ok (same_ok _ _ is)
of_place place (Err cause) x is = err_is_not_ok _ _ is

pub of_chain : {A B P : Type 0} (f : A → Option B) (o : Option A) (y : B) → option_and_then f o ≡ Some y → ((x : A) → f x ≡ Some y → P) → P
of_chain f None y is k = absurd (none-some y is)
of_chain f (Some x) y is k = k x is
