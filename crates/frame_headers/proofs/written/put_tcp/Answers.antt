-- The header without its checksum, and then the checksum in its place.
use Rattle.frame_headers.proofs.PartWrites.{tcp_put}
use Rattle.frame_headers.proofs.written.put_tcp.Goals as goal

pub returns : goal.returns
returns c =
    tcp_put c.args.header.now c.args.head.now c.fill_tcp.new.head c.write_u16.new.buf c.tcp_checksum-sum.result c.fill_tcp.ensures c.tcp_checksum-sum.ensures c.write_u16.ensures
