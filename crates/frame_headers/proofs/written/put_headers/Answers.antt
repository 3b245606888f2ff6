-- What holds of the bytes of the definition holds of what was written.
use Rattle.std.proofs.Common.{arith, length-drop}
use Rattle.frame_headers.proofs.ReadBack.{read_back, sums_filled}
use Rattle.frame_headers.proofs.written.put_headers.Goals as goal
use Rattle.frame_headers.specs.Layout.{headers_len}

pub returns-clause-sums : goal.returns-clause-sums
returns-clause-sums c =
    rw c.write_headers.ensures (sums_filled c.args.header.now _ c.header_fits.ensures (omega (arith, length-drop (headers_len c.args.header.now.vlan) c.args.frame.now)))

pub returns-clause-read : goal.returns-clause-read
returns-clause-read c vlan =
    rw c.write_headers.ensures (read_back c.args.header.now _ c.header_fits.ensures (omega (arith, length-drop (headers_len c.args.header.now.vlan) c.args.frame.now)) vlan)
