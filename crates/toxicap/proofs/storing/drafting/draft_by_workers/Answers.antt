use Rattle.std.proofs.Common.{◌≡◌, ◌<◌, ◌++◌, ◌∙◌, ℕ, List, [], ◌∷◌, length, take, drop, get_or, sym, ap, subst, arith}
use Rattle.toxicap.specs.{Output, no_output, outputs_of_sources, PlacedOutput, placed_from}
use Rattle.toxicap.proofs.OutputSteps.{as_many_outputs}
use Rattle.toxicap.proofs.StoringEnds.{alone, at_place}
use Rattle.toxicap.proofs.storing.drafting.draft_by_workers.Goals as goal

pub returns-clause-next : goal.returns-clause-next
returns-clause-next g c =
    let own = c.args.sources.now in
    let folder : List ℕ = c.args.folder.now.path in
    let all : List Output = outputs_of_sources own in
    let this : Output = get_or all c.args.number no_output in
    let within : c.args.number < length all = omega (arith, c.requires, as_many_outputs own) in
    let places = c.in_ok-drafted.ensures.places in
    let draft : PlacedOutput = record { output = this; capture_path = g.D.Disk.path_of c.in_ok-drafted.drafted.0; report_path = g.D.Disk.path_of c.in_ok-drafted.drafted.1 } in
    let is = c.in_ok-push.ensures.items ∙ ap (λ (xs : List PlacedOutput). xs ++ draft ∷ []) c.in_ok-drafts.ensures.items
    ∙ ap (λ (p : PlacedOutput). p ∷ []) (at_place folder 0 this _ _ places.0 places.1) in
    subst (λ (xs : List PlacedOutput). xs ≡ placed_from folder 0 (take (length xs) (drop c.args.number all))) (sym is)
    (ap (placed_from folder 0) (alone all c.args.number within))
