use Rattle.std.proofs.Common.{◌≡◌, ◌≤◌, ◌*◌, ℕ, List, length, take, Option, refl, sym, ap, subst, arith, rules}
use Rattle.std.proofs.lemmas.List.{take_all}
use Rattle.std.proofs.lemmas.Result.{err_from_is_err_and}
use Rattle.toxicap.specs.{into_iter_items, History, Output, CommitsIn, files_from, outputs_of_sources}
use Rattle.toxicap.proofs.RunSteps.{Leaves-same, Leaves-then}
use Rattle.toxicap.proofs.OutputSteps.{as_many_outputs}
use Rattle.toxicap.proofs.StoringEnds.{outputs_in, ready_outputs, takes_first, nothing_committed, replaced, length-files_from, committed_more, stops_at}
use Rattle.toxicap.proofs.storing.store_each.Goals as goal

pub loop-number-init : goal.loop-number-init
loop-number-init g c = record { committed = nothing_committed c.args.folder.now.path _; leaves = Leaves-same c.args.folder.now _ _ refl; swept = λ held. held; no_fault = refl }

pub loop-draft-init : goal.loop-draft-init
loop-draft-init g c =
    let loop = c.loop-number.invariant in
    let drafts = c.in_ok-drafts.drafts.items in
    let items : into_iter_items c.into_iter-draft-iterator.result ≡ drafts = search rules in
    let ready = ready_outputs c.args.folder.now.path (outputs_of_sources c.args.sources.now) c.loop-number.number drafts c.in_ok-drafts.ensures.next in
    record {
      can_next = tt;
      is_finite = tt;
      committed = loop.committed;
      leaves = loop.leaves;
      swept = loop.swept;
      no_fault = loop.no_fault;
      left = rw items ready;
      rises = rw items (omega (arith, c.in_ok-drafts.ensures.some));
    }

pub returns-in_err-drafts-clause-stored : goal.returns-in_err-drafts-clause-stored
returns-in_err-drafts-clause-stored g c =
    let fault = err_from_is_err_and c.from_residual.result c.from_residual.ensures.1 in
    rw (fault.1, fault.2) (
      2 * c.loop-number.number,
      omega (arith, c.loop-number-test.true, as_many_outputs c.args.sources.now, length-files_from 0 (outputs_of_sources c.args.sources.now)),
      c.loop-number.invariant.committed,
    )

pub store_draft-requires-clause-number : goal.store_draft-requires-clause-number
store_draft-requires-clause-number g c =
    let first = takes_first (outputs_of_sources c.args.sources.now) _ _ c.loop-draft.number c.in-Some.draft.output c.loop-draft.invariant.left (ap outputs_in c.in-Some.ensures.steps.0) in
    omega (arith, first.below, as_many_outputs c.args.sources.now, c.args.sources.now.few)

pub overflow_add-number : goal.overflow_add-number
overflow_add-number g c =
    let first = takes_first (outputs_of_sources c.args.sources.now) _ _ c.loop-draft.number c.in-Some.draft.output c.loop-draft.invariant.left (ap outputs_in c.in-Some.ensures.steps.0) in
    omega (arith, first.below, as_many_outputs c.args.sources.now, c.args.sources.now.few)

pub returns-in_err-drafts-clause-faults : goal.returns-in_err-drafts-clause-faults
returns-in_err-drafts-clause-faults g c =
    let fault = err_from_is_err_and c.from_residual.result c.from_residual.ensures.1 in
    rw (fault.1, fault.2) (omega (arith, c.loop-number.invariant.no_fault))

pub returns-in_err-store_draft-clause-stored : goal.returns-in_err-store_draft-clause-stored
returns-in_err-store_draft-clause-stored g c =
    let all : List Output = outputs_of_sources c.args.sources.now in
    let loop = c.loop-draft.invariant in
    let first = takes_first all _ _ c.loop-draft.number c.in-Some.draft.output loop.left (ap outputs_in c.in-Some.ensures.steps.0) in
    let fault = err_from_is_err_and c.from_residual-in_err-store_draft.result c.from_residual-in_err-store_draft.ensures.1 in
    rw (fault.1, fault.2) (stops_at c.args.folder.now.path all c.loop-draft.number c.in-Some.draft.output first.below first.is _ _ _ loop.committed c.in_err-store_draft.field-0.0
    (c.in_err-store_draft.ensures.stores c.in-Some.draft.output c.into_drafts.ensures.drafts))

pub returns-in_err-store_draft-clause-faults : goal.returns-in_err-store_draft-clause-faults
returns-in_err-store_draft-clause-faults g c =
    let fault = err_from_is_err_and c.from_residual-in_err-store_draft.result c.from_residual-in_err-store_draft.ensures.1 in
    rw (fault.1, fault.2) (omega (arith, c.in_err-store_draft.ensures.faults, c.loop-draft.invariant.no_fault))

pub loop-draft-preserved : goal.loop-draft-preserved
loop-draft-preserved g c =
    let all : List Output = outputs_of_sources c.args.sources.now in
    let loop = c.loop-draft.invariant in
    let first = takes_first all _ _ c.loop-draft.number c.in-Some.draft.output loop.left (ap outputs_in c.in-Some.ensures.steps.0) in
    record {
      can_next = tt;
      is_finite = tt;
      committed = committed_more c.args.folder.now.path all c.loop-draft.number c.in-Some.draft.output first.below first.is _ _ _ loop.committed
          (c.in_ok-store_draft.ensures.stores c.in-Some.draft.output c.into_drafts.ensures.drafts);
      leaves = Leaves-then c.args.folder.now _ _ _ loop.leaves c.in_ok-store_draft.ensures.leaves;
      swept = λ held. c.in_ok-store_draft.ensures.swept (loop.swept held);
      no_fault = omega (arith, c.in_ok-store_draft.ensures.faults, loop.no_fault);
      left = first.left;
      rises = omega (arith, loop.rises, ap length c.in-Some.ensures.steps.0);
    }

pub returns-in_err-see_committed-clause-stored : goal.returns-in_err-see_committed-clause-stored
returns-in_err-see_committed-clause-stored g c =
    let all : List Output = outputs_of_sources c.args.sources.now in
    let folder : List ℕ = c.args.folder.now.path in
    let files = take (2 * c.loop-number.number) (files_from 0 all) in
    let seen = c.in_err-see_committed.ensures in
    let fault = err_from_is_err_and c.from_residual-in_err-see_committed.result c.from_residual-in_err-see_committed.ensures.1 in
    let committed = subst (λ (h : Option History). CommitsIn folder (g.D.Disk.history c.args.disk.now) h files) (sym seen.as_before) c.loop-number.invariant.committed in
    rw (fault.1, fault.2) (replaced folder (files_from 0 all) files c.in_err-see_committed.field-0.0 _ _ committed
    (omega (arith, seen.replaced.0, as_many_outputs c.args.sources.now, length-files_from 0 all), seen.replaced.1))

pub returns-clause-stored : goal.returns-clause-stored
returns-clause-stored g c =
    let all : List Output = outputs_of_sources c.args.sources.now in
    let over : length (files_from 0 all) ≤ 2 * c.loop-number.number =
    omega (arith, c.loop-number-test.false, as_many_outputs c.args.sources.now, length-files_from 0 all) in
    subst (λ (h : Option History). CommitsIn c.args.folder.now.path (g.D.Disk.history c.args.disk.now) h (files_from 0 all)) (sym c.in_ok-see_committed.ensures.as_before)
    (rw (take_all (2 * c.loop-number.number) (files_from 0 all) over) at c.loop-number.invariant.committed)
