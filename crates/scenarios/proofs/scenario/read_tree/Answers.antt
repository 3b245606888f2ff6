use Rattle.std.proofs.Common.{◌≡◌, ℕ, List, None, refl}
use Rattle.std.proofs.lemmas.Bool.{cond_both}
use Rattle.std.proofs.lemmas.Str.{IsUtf8-from_is_utf8, is_utf8-from_IsUtf8}
use Rattle.std.specs.Str.{IsUtf8, is_utf8}
use Rattle.serde_json.specs.Read.{read}
use Rattle.scenarios.specs.Populate.{tree}
use Rattle.scenarios.proofs.scenario.read_tree.Goals as goal

no_tree : (text : List ℕ) → (IsUtf8 text → read text ≡ None) → tree text ≡ None
no_tree text none = cond_both (is_utf8 text) (read text) None (λ r. r ≡ None) (λ e. none (IsUtf8-from_is_utf8 text e)) (λ _. refl)

pub returns-in-Ok : goal.returns-in-Ok
returns-in-Ok c = rw (is_utf8-from_IsUtf8 c.args.text.now c.in-Ok.ensures.ok.0) c.in-Ok.ensures.ok.1

pub returns-in-Err-2 : goal.returns-in-Err-2
returns-in-Err-2 c = (c.of_text.ensures, no_tree c.args.text.now (c.in-Err.ensures.err (λ memory. let told = c.if-is_memory.ensures.1 memory in cc)))
