use Rattle.std.proofs.Common.{◌-◌, ◌<◌, ◌≤◌, ◌++◌, ◌∙◌, Ok, Err, ap, length, take, refl, subst, arith, append-nil}
use Rattle.std.proofs.lemmas.Result.{err_from_is_err_and}
use Rattle.std.proofs.lemmas.Slice.{take-put_mid_below}
use Rattle.run_files.specs.{AgreesUnlessMemory, read_on, capture_refusal, capture_limit}
use Rattle.run_files.proofs.SeenParts.{fits_taken, room_left, seen_first, seen_read, seen_taken, seen_whole}
use Rattle.run_files.proofs.head_loading.see_rest.Goals as goal

pub reads-init : goal.reads-init
reads-init g c = record {
  can = c.requires.can;
  within = omega (arith, c.new-reader.ensures.taken, c.requires.came, c.requires.short);
  text = (
    take c.args.len c.args.buffer.now,
    λ before is. is,
    seen_first c.new-reader.result c.args.buffer.now c.args.len c.new-reader.ensures.taken c.new-reader.ensures.found c.requires.some c.requires.came c.requires.no_dump,
  );
}

pub take_front-requires-clause-held : goal.take_front-requires-clause-held
take_front-requires-clause-held g c = c.reads.invariant.text.2.held_within

pub returns-in_err-held : goal.returns-in_err-held
returns-in_err-held g c =
    let text = c.reads.invariant.text in
    let fault = err_from_is_err_and c.from_residual.result c.from_residual.ensures.1 in
    rw (fault.1, fault.2) (λ before is. (Err _, refl, tt, (text.0, text.1 before is, omega (arith, text.2.counted, c.reads.invariant.within))))

pub returns-in_err-more : goal.returns-in_err-more
returns-in_err-more g c =
    let text = c.reads.invariant.text in
    let fault = err_from_is_err_and c.from_residual-in_err-more.result c.from_residual-in_err-more.ensures.1 in
    rw (fault.1, fault.2)
    (λ before is. (Err _, refl, tt, c.in_err-more.ensures.stops before text.0 (omega (arith, text.2.counted, c.in_ok-held.ensures.counted, c.taken.ensures)) (text.1 before is)))

pub finish-requires : goal.finish-requires
finish-requires g c = fits_taken c.take_front.new.reader.taken c.in_ok-held.held _ (omega (arith, c.reads.invariant.within, c.in_ok-held.ensures.counted))

pub returns-then-more-eq0 : goal.returns-then-more-eq0
returns-then-more-eq0 g c = λ before is.
    let text = c.reads.invariant.text in
    let reader = c.take_front.new.reader in
    let left = c.in_ok-held.held in
    let after = c.take_front.new.buffer in
    let room = c.read_next.new.room in
    let within : length text.0 ≤ capture_limit = omega (arith, text.2.counted, c.reads.invariant.within) in
    let fits : left < length after = omega (arith, c.in_ok-held.ensures.few, c.in_ok-held.ensures.len, c.requires.room, c.reads.auto.buffer) in
    let seen = seen_taken c.reads.reader reader c.reads.buffer after c.reads.held left text.0 text.2 c.in_ok-held.ensures.len c.in_ok-held.ensures.counted (omega (arith, fits))
    c.in_ok-held.ensures.same in
    let finds = subst (λ xs. AgreesUnlessMemory capture_refusal (λ h. h) c.finish.result (read_on reader.found xs))
    (take-put_mid_below left (length after - left) after room left (omega arith) (omega (arith, fits))) c.finish.ensures in
    let came = subst (g.I.Input.gives before c.read_next.new.input) (ap (λ k. text.0 ++ take k room) c.if-more-eq0.true ∙ append-nil text.0)
    (c.in_ok-more.ensures.came text.0 before (text.1 before is)) in (
      Ok text.0,
      (seen.no_dump, seen_whole reader after left text.0 c.finish.result seen within finds),
      within,
      (came, c.in_ok-more.ensures.at_end c.if-more-eq0.true (room_left after room left fits c.read_next.auto.room)),
    )

pub reads-preserved : goal.reads-preserved
reads-preserved g c =
    let text = c.reads.invariant.text in
    let room = c.read_next.new.room in
    let n = c.in_ok-more.more in
    let left = c.in_ok-held.held in
    let after = c.take_front.new.buffer in
    let fits : left ≤ length after = omega (arith, c.in_ok-held.ensures.few, c.in_ok-held.ensures.len, c.requires.room, c.reads.auto.buffer) in
    let seen = seen_taken c.reads.reader c.take_front.new.reader c.reads.buffer after c.reads.held left text.0 text.2 c.in_ok-held.ensures.len c.in_ok-held.ensures.counted fits
    c.in_ok-held.ensures.same in record {
      can = c.in_ok-more.ensures.again;
      within = omega (arith, c.taken.ensures, c.in_ok-more.ensures.within.1);
      text = (
        text.0 ++ take n room,
        λ before is. c.in_ok-more.ensures.came text.0 before (text.1 before is),
        seen_read c.take_front.new.reader after room _ _ left n text.0 seen refl c.in_ok-more.ensures.within.0,
      );
    }
