-- How many packets of a capture are of each class.
use Rattle.std.specs.Prelude.{ℕ, ◌+◌, ◌==◌, List, count_by}
use Rattle.frame_headers.specs.Frame.{FrameClass, short, not_ipv4, bad_ipv4, fragment, not_tcp, cut, bad_tcp, same_ends, segment}
use Rattle.conn_table.specs.SeenCapture.{SeenPacket}
use Rattle.conn_table.specs.declared.class_counts.Counts.{Counts}

-- a class by its number, so that classes can be compared
abbrev pub class_number : FrameClass → ℕ
class_number segment = 0
class_number short = 1
class_number not_ipv4 = 2
class_number bad_ipv4 = 3
class_number fragment = 4
class_number not_tcp = 5
class_number cut = 6
class_number bad_tcp = 7
class_number same_ends = 8

abbrev pub count_of : FrameClass → List SeenPacket → ℕ
count_of k packets = count_by (λ p. class_number p.frame.class == class_number k) packets

unfoldable pub counts_of : List SeenPacket → Counts
counts_of packets = record {
  segment = count_of segment packets;
  short = count_of short packets;
  not_ipv4 = count_of not_ipv4 packets;
  bad_ipv4 = count_of bad_ipv4 packets;
  fragment = count_of fragment packets;
  not_tcp = count_of not_tcp packets;
  cut = count_of cut packets;
  bad_tcp = count_of bad_tcp packets;
  same_ends = count_of same_ends packets;
}

abbrev pub counts_with : FrameClass → Counts → Counts
counts_with segment n = record n { segment = n.segment + 1 }
counts_with short n = record n { short = n.short + 1 }
counts_with not_ipv4 n = record n { not_ipv4 = n.not_ipv4 + 1 }
counts_with bad_ipv4 n = record n { bad_ipv4 = n.bad_ipv4 + 1 }
counts_with fragment n = record n { fragment = n.fragment + 1 }
counts_with not_tcp n = record n { not_tcp = n.not_tcp + 1 }
counts_with cut n = record n { cut = n.cut + 1 }
counts_with bad_tcp n = record n { bad_tcp = n.bad_tcp + 1 }
counts_with same_ends n = record n { same_ends = n.same_ends + 1 }

abbrev pub count_at : FrameClass → Counts → ℕ
count_at segment n = n.segment
count_at short n = n.short
count_at not_ipv4 n = n.not_ipv4
count_at bad_ipv4 n = n.bad_ipv4
count_at fragment n = n.fragment
count_at not_tcp n = n.not_tcp
count_at cut n = n.cut
count_at bad_tcp n = n.bad_tcp
count_at same_ends n = n.same_ends
