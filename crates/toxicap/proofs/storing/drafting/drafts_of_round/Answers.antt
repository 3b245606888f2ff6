use Rattle.std.proofs.Common.{◌≡◌, ◌≤◌, ◌+◌, ◌∙◌, ℕ, List, length, take, drop, sym, ap, subst, arith}
use Rattle.toxicap.specs.{Output, outputs_of_sources, PlacedOutput, placed_from}
use Rattle.toxicap.proofs.OutputSteps.{as_many_outputs}
use Rattle.toxicap.proofs.StoringEnds.{first_placed, length-placed, length-some}
use Rattle.toxicap.proofs.storing.drafting.drafts_of_round.Goals as goal

pub work_all-requires-clause-jobs : goal.work_all-requires-clause-jobs
work_all-requires-clause-jobs g c κs inside =
    let own = c.args.sources.now in
    let all : List Output = outputs_of_sources own in
    let within : c.args.number + c.args.count ≤ length all = omega (arith, c.requires, as_many_outputs own) in
    sym (length-placed c.args.folder.now.path 0 (take c.args.count (drop c.args.number all)) ∙ length-some all c.args.number c.args.count within)

pub returns : goal.returns
returns g c =
    let own = c.args.sources.now in
    let folder : List ℕ = c.args.folder.now.path in
    let all : List Output = outputs_of_sources own in
    let within : c.args.number + c.args.count ≤ length all = omega (arith, c.requires, as_many_outputs own) in
    let is = c.into_vec-drafts.ensures ∙ c.in_ok-drafts.ensures in
    let many = ap length is ∙ length-placed folder 0 (take c.args.count (drop c.args.number all)) ∙ length-some all c.args.number c.args.count within in
    let made = is ∙ ap (λ n. placed_from folder 0 (take n (drop c.args.number all))) (sym many) in
    record {
      next = subst (λ (ps : List PlacedOutput). ps ≡ placed_from folder 0 (take (length ps) (drop c.args.number all))) (sym c.truncate.ensures.items)
          (first_placed folder 0 c.unwrap_or.result (drop c.args.number all) c.into_vec-drafts.result.items made);
    }
