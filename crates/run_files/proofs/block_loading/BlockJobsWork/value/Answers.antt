use Rattle.std.proofs.Common.{◌<◌, arith}
use Rattle.run_files.proofs.LoadedParts.{block_of_job, block_within, length-blocks}
use Rattle.run_files.proofs.block_loading.BlockJobsWork.value.Goals as goal

pub overflow_mul-at : goal.overflow_mul-at
overflow_mul-at g c = omega (arith, c.requires, length-blocks (g.F.DiskFile.contents c.args.self.now.file.now) c.args.self.now.count, c.args.self.now.few)

pub load_part-bytes-requires-clause-start : goal.load_part-bytes-requires-clause-start
load_part-bytes-requires-clause-start g c = omega (arith, c.requires, length-blocks (g.F.DiskFile.contents c.args.self.now.file.now) c.args.self.now.count, c.args.self.now.few)

pub load_part-bytes-requires-clause-within : goal.load_part-bytes-requires-clause-within
load_part-bytes-requires-clause-within g c =
    let contents = g.F.DiskFile.contents c.args.self.now.file.now in
    let within : c.args.job < c.args.self.now.count = omega (arith, c.requires, length-blocks contents c.args.self.now.count) in
    block_within contents c.args.self.now.count c.args.job c.args.self.now.counted within

pub returns : goal.returns
returns g c = λ other.
    let contents = g.F.DiskFile.contents c.args.self.now.file.now in
    let within : c.args.job < c.args.self.now.count = omega (arith, c.requires, length-blocks contents c.args.self.now.count) in
    block_of_job contents c.args.self.now.count c.args.job other within
