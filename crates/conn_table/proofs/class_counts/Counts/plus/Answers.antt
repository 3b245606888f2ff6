use Rattle.std.proofs.Common.{arith}
use Rattle.frame_headers.specs.Frame.{short, not_ipv4, bad_ipv4, fragment, not_tcp, cut, bad_tcp, same_ends, segment}
use Rattle.conn_table.proofs.class_counts.Counts.plus.Goals as goal

pub overflow_add-result : goal.overflow_add-result
overflow_add-result c = omega (arith, c.requires segment)

pub overflow_add-result-2 : goal.overflow_add-result-2
overflow_add-result-2 c = omega (arith, c.requires short)

pub overflow_add-result-3 : goal.overflow_add-result-3
overflow_add-result-3 c = omega (arith, c.requires not_ipv4)

pub overflow_add-result-4 : goal.overflow_add-result-4
overflow_add-result-4 c = omega (arith, c.requires bad_ipv4)

pub overflow_add-result-5 : goal.overflow_add-result-5
overflow_add-result-5 c = omega (arith, c.requires fragment)

pub overflow_add-result-6 : goal.overflow_add-result-6
overflow_add-result-6 c = omega (arith, c.requires not_tcp)

pub overflow_add-result-7 : goal.overflow_add-result-7
overflow_add-result-7 c = omega (arith, c.requires cut)

pub overflow_add-result-8 : goal.overflow_add-result-8
overflow_add-result-8 c = omega (arith, c.requires bad_tcp)

pub overflow_add-result-9 : goal.overflow_add-result-9
overflow_add-result-9 c = omega (arith, c.requires same_ends)
