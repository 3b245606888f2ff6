use Rattle.std.proofs.Common.{length, ap, arith}
use Rattle.run_files.proofs.LoadedParts.{length-blocks, parts_fit}
use Rattle.run_files.proofs.block_loading.blocks_by_workers.Goals as goal

pub work_all-requires-clause-jobs : goal.work_all-requires-clause-jobs
work_all-requires-clause-jobs g c = omega (arith, length-blocks (g.F.DiskFile.contents c.args.file.now) c.args.count)

pub returns-clause-within : goal.returns-clause-within
returns-clause-within g c =
    let fit = parts_fit (λ part. part.items) c.in_ok-parts.parts.items c.in_ok-parts.ensures.short in
    omega (arith, fit, c.in_ok-parts.ensures.count, ap length c.in_ok-blocks-2.ensures, c.requires.few)
