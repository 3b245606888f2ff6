use Rattle.std.proofs.Common.{◌≡◌, ℕ, ◌<◌, ◌^◌, ◌&&◌, List, length, Bool, Err, Some, None, true, nat_lt, if◌then◌else◌, arith, sym, ◌∙◌}
use Rattle.std.proofs.lemmas.Bool.Decides.{nat_tests}
use Rattle.std.proofs.lemmas.Str.Parse.{numerals_by_value, tells_all_ascii_digits, parse_digits}
use Rattle.std.specs.Str.{all_ascii_digits}
use Rattle.std.specs.Str.Parse.{ParsesUnsigned, digits_value}
use Rattle.scenarios.specs.Upstreams.{port}
use Rattle.scenarios.proofs.MappedNames.{digits_are_all}
use Rattle.scenarios.proofs.upstreams.port.Goals as goal

none_outside : (len value : ℕ) (a b : Bool) → ¬ ((0 < len) × (value < 2 ^ 16)) → (if nat_lt 0 len && a && b && (nat_lt 0 value && nat_lt value (2 ^ 16)) then Some value else None) ≡ None
none_outside len value a b outside = grind (arith, nat_tests)

no_port : {E : Type 0} (text : List ℕ) (e : E) → ParsesUnsigned 16 10 text (Err e) → all_ascii_digits text ≡ true → port text ≡ None
no_port text e parsed digits =
    none_outside (length text) (digits_value 10 text) _ _ (parse_digits (numerals_by_value _ tells_all_ascii_digits) 16 text (Err e) parsed digits)

pub returns-in_default : goal.returns-in_default
returns-in_default c = sym (no_port c.args.text.now c.in_default.field-0 c.in_default.ensures.value.0 (sym (digits_are_all c.args.text.now) ∙ rw c.as_bytes.ensures.value at (sym c.if-not-all_digits.ensures)))
