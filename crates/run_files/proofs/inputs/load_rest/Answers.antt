use Rattle.std.proofs.Common.{◌++◌, ◌∙◌, ℕ, List, [], ap, length, take, subst, sym, arith, append-nil, append_assoc, length-append}
use Rattle.std.proofs.lemmas.List.{length-take-le}
use Rattle.std.proofs.lemmas.Result.{err_from_is_err_and}
use Rattle.run_files.proofs.inputs.load_rest.Goals as goal

pub reads-init : goal.reads-init
reads-init g c = record { can = c.requires.can; came = λ before is. is; within = c.requires.short; first = ([], sym (append-nil c.args.came.items)) }

pub reads-preserved : goal.reads-preserved
reads-preserved g c =
    let was = c.reads.invariant in
    let last = take c.in_ok-len.len c.read_next.new.room in
    let all = c.in_ok-extend_from_slice.ensures.items in
    let reads = c.in_ok-len.ensures in record {
      can = reads.again;
      came = λ before is. subst (g.I.Input.gives before c.read_next.new.input) (sym all) (reads.came c.reads.bytes.items before (was.came before is));
      within = omega (arith, ap length all, length-append c.reads.bytes.items last, length-take-le c.in_ok-len.len c.read_next.new.room reads.within.0, reads.within.1, c.len.ensures);
      first = (was.first.0 ++ last, all ∙ ap (λ (xs : List ℕ). xs ++ last) was.first.1 ∙ append_assoc c.args.came.items was.first.0 last);
    }

pub returns-in_err-len-clause-loads : goal.returns-in_err-len-clause-loads
returns-in_err-len-clause-loads g c =
    let fault = err_from_is_err_and c.from_residual.result c.from_residual.ensures.1 in
    rw (fault.1, fault.2) (λ before is. c.in_err-len.ensures.stops before c.reads.bytes.items (omega (arith, c.len.ensures)) (c.reads.invariant.came before is))

pub returns-then-len-eq0-clause-loads : goal.returns-then-len-eq0-clause-loads
returns-then-len-eq0-clause-loads g c = λ before is.
    let came = c.in_ok-len.ensures.came c.reads.bytes.items before (c.reads.invariant.came before is) in (
      subst (g.I.Input.gives before c.read_next.new.input) (ap (λ k. c.reads.bytes.items ++ take k c.read_next.new.room) c.if-len-eq0.true ∙ append-nil c.reads.bytes.items) came,
      c.in_ok-len.ensures.at_end c.if-len-eq0.true (omega (arith, c.read_next.auto.room, c.reads.auto.buffer, c.requires.room)),
    )

pub returns-in_err-extend_from_slice-clause-loads : goal.returns-in_err-extend_from_slice-clause-loads
returns-in_err-extend_from_slice-clause-loads g c =
    let last = take c.in_ok-len.len c.read_next.new.room in
    let reads = c.in_ok-len.ensures in
    let fault = err_from_is_err_and c.from_residual-in_err-extend_from_slice.result c.from_residual-in_err-extend_from_slice.ensures.1 in
    rw (fault.1, fault.2) (λ before is. (
      c.reads.bytes.items ++ last,
      reads.came c.reads.bytes.items before (c.reads.invariant.came before is),
      omega (arith, length-append c.reads.bytes.items last, length-take-le c.in_ok-len.len c.read_next.new.room reads.within.0, reads.within.1, c.len.ensures),
    ))
