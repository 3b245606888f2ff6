use Rattle.std.proofs.Common.{◌<◌, ◌^◌, ℕ, List, length, arith}
use Rattle.std.proofs.lemmas.Result.{IfOk-weaker}
use Rattle.toxicap.specs.{Output, outputs_of_sources}
use Rattle.toxicap.proofs.OutputSteps.{as_many_outputs}
use Rattle.toxicap.proofs.StoringEnds.{apart}
use Rattle.toxicap.proofs.storing.drafting.drafts_from.Goals as goal

pub returns-then-not-is_empty-clause-apart : goal.returns-then-not-is_empty-clause-apart
returns-then-not-is_empty-clause-apart g c = λ some.
    let own = c.args.sources.now in
    let all : List Output = outputs_of_sources own in
    let few : length all < 2 ^ 32 = omega (arith, as_many_outputs own, own.few) in
    apart c.draft_paths_differ.ensures c.args.folder.now.path some all c.args.number c.in_ok-drafts.drafts.items few c.in_ok-drafts.ensures.next

pub returns-clause-apart : goal.returns-clause-apart
returns-clause-apart g c =
    let own = c.args.sources.now in
    let folder : List ℕ = c.args.folder.now.path in
    let all : List Output = outputs_of_sources own in
    let few : length all < 2 ^ 32 = omega (arith, as_many_outputs own, own.few) in
    IfOk-weaker c.draft_by_workers.result _ _ (λ v next some. apart c.draft_paths_differ.ensures folder some all c.args.number v.items few next) c.draft_by_workers.ensures.next
