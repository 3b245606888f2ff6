-- As many forerunners as scripts so far, each by its script.
use Rattle.std.proofs.Common.{◌≡◌, ℕ, length, Some}
use Rattle.std.specs.List.{slice_get}
use Rattle.closed_loop.specs.declared.forerunners.Forerunners.{Forerunners}
use Rattle.closed_loop.specs.Scripts.{ScriptView}
use Rattle.closed_loop.specs.Openings.{AreForerunners}
use Rattle.closed_loop.proofs.forerunners.forerunners_of.Given as goal

abbrev pub invariant-loop-script : goal.invariant-loop-script
invariant-loop-script l = record {
  len : length l.forerunners.items ≡ l.script-index;
  followed : (i : ℕ) (p : ScriptView) (y : Forerunners) → slice_get l.scripts i ≡ Some p → slice_get l.forerunners.items i ≡ Some y → AreForerunners l.scripts p y;
}
