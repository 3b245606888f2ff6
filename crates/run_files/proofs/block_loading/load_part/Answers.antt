use Rattle.std.proofs.Common.{◌≡◌, ◌<◌, ◌≤◌, ◌+◌, length, ap, take, subst, IfSome, arith, length-append}
use Rattle.std.proofs.lemmas.List.{length-take-le}
use Rattle.run_files.specs.{Gives}
use Rattle.run_files.proofs.LoadedTexts.{full_part, last_part, part_step}
use Rattle.run_files.proofs.block_loading.load_part.Goals as goal

pub reads-preserved : goal.reads-preserved
reads-preserved g c =
    let own = c.min-own.result in
    let fewer : own ≤ c.in-Ok.len = omega (arith, c.min-own.ensures) in
    let here : c.len-in-reads.result ≡ length c.reads.part.items = omega (arith, c.len-in-reads.ensures, c.reads.part.ok.0) in
    let all = c.in_ok-extend_from_slice.ensures.items in record {
      next = part_step (g.F.DiskFile.contents c.args.file.now) c.args.start c.reads.part.items c.read_at.new.room c.extend_from_slice.new.self.items c.in-Ok.len own
          fewer c.reads.invariant.next
          (subst (λ n. IfSome (g.F.DiskFile.contents c.args.file.now) (λ f. Gives f (c.args.start + n) c.read_at.new.room c.in-Ok.len)) here c.in-Ok.ensures.contents) all;
      within = omega (
        arith,
        ap length all,
        length-append c.reads.part.items (take own c.read_at.new.room),
        length-take-le own c.read_at.new.room (omega (arith, fewer, c.in-Ok.ensures.within)),
        c.min-own.ensures,
        c.len-in-reads-2.ensures,
        c.reads.part.ok.0,
        c.reads.invariant.within,
      );
    }

pub returns-then-len-eq-BLOCK_LEN-clause-contents : goal.returns-then-len-eq-BLOCK_LEN-clause-contents
returns-then-len-eq-BLOCK_LEN-clause-contents g c =
    full_part (g.F.DiskFile.contents c.args.file.now) c.args.start c.reads.part.items
    (omega (arith, c.if-len-eq-BLOCK_LEN.true, c.len.ensures, c.reads.part.ok.0)) c.reads.invariant.next

pub returns-then-len-eq0-clause-contents : goal.returns-then-len-eq0-clause-contents
returns-then-len-eq0-clause-contents g c =
    let here : c.len-in-reads.result ≡ length c.reads.part.items = omega (arith, c.len-in-reads.ensures, c.reads.part.ok.0) in
    let some : 0 < length c.read_at.new.room = omega (arith, c.in-Ok.ensures.len, c.reads.auto.buffer, ap length c.as_mut_slice-buffer.ensures.value, c.in_ok-room.ensures) in
    let gives = subst (λ n. IfSome (g.F.DiskFile.contents c.args.file.now) (λ f. Gives f (c.args.start + n) c.read_at.new.room c.in-Ok.len)) here c.in-Ok.ensures.contents in
    last_part (g.F.DiskFile.contents c.args.file.now) c.args.start c.reads.part.items c.read_at.new.room c.reads.invariant.within some c.requires.within c.reads.invariant.next
    (subst (λ n. IfSome (g.F.DiskFile.contents c.args.file.now) (λ f. Gives f (c.args.start + length c.reads.part.items) c.read_at.new.room n)) c.if-len-eq0.true gives)
