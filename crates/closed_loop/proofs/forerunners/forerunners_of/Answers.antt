use Rattle.std.proofs.Common.{◌≡◌, ◌∙◌, ◌⊎◌, inl, inr, ◌++◌, [], ◌∷◌, ◌+◌, ◌<◌, ℕ, List, length, map, Option, Some, refl, sym, ap, subst, arith}
use Rattle.std.specs.List.{slice_get}
use Rattle.std.proofs.lemmas.List.{length-append}
use Rattle.std.proofs.lemmas.Option.{slice_get_read}
use Rattle.closed_loop.specs.declared.forerunners.Forerunners.{Forerunners}
use Rattle.closed_loop.specs.Scripts.{ScriptView}
use Rattle.closed_loop.specs.Openings.{AreForerunners}
use Rattle.closed_loop.proofs.MappedReads.{pushed_at, some_is}
use Rattle.closed_loop.proofs.forerunners.forerunners_of.Goals as goal

more : (all : List ScriptView) (old : List Forerunners) (new : Forerunners) (script : ScriptView) → slice_get all (length old) ≡ Some script → AreForerunners all script new
    → ((i : ℕ) (p : ScriptView) (y : Forerunners) → slice_get all i ≡ Some p → slice_get old i ≡ Some y → AreForerunners all p y)
    → (i : ℕ) (p : ScriptView) (y : Forerunners) → slice_get all i ≡ Some p → slice_get (old ++ new ∷ []) i ≡ Some y → AreForerunners all p y
more all old new script at here earlier i p y p_at y_at = by_case (pushed_at old new i y y_at)
  where
    by_case : (slice_get old i ≡ Some y) ⊎ ((i ≡ length old) × (new ≡ y)) → AreForerunners all p y
    by_case (inl before) = earlier i p y p_at before
    by_case (inr last) =
        let same : script ≡ p = some_is script p (sym at ∙ ap (slice_get all) (sym last.0) ∙ p_at) in
        subst (λ (q : ScriptView). AreForerunners all q y) same (subst (λ (z : Forerunners). AreForerunners all script z) last.1 here)

pub loop-script-preserved : goal.loop-script-preserved
loop-script-preserved c =
    let all : List ScriptView = c.args.scripts.now in
    let old : List Forerunners = c.loop-script.forerunners.items in
    let new : Forerunners = c.forerunners_in.result in
    let script : ScriptView = c.script-item.result in
    let pushed : c.push.new.self.items ≡ old ++ new ∷ [] = c.in_ok-push.ensures.items in
    let here : AreForerunners all script new = c.forerunners_in.ensures all c.in_ok-marked.ensures.ended c.in_ok-marked.ensures.opened in
    let len : length old ≡ c.loop-script.script-index = c.loop-script.invariant.len in
    let at : slice_get all (length old) ≡ Some script = rw len (slice_get_read all (length all) c.loop-script.script-index script refl c.loop-script-test.true c.script-item.is) in
    record {
      len = ap length pushed ∙ grind (arith, length-append, len);
      followed = λ i p y p_at y_at. more all old new script at here c.loop-script.invariant.followed i p y p_at (rw pushed at y_at);
    }
