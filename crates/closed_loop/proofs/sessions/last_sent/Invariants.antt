use Rattle.std.proofs.Common.{◌≡◌, map, drop, max}
use Rattle.pcap_records.specs.Instants.{greatest}
use Rattle.closed_loop.specs.declared.packets.Packet.{Packet}
use Rattle.closed_loop.specs.Times.{instant_in}
use Rattle.closed_loop.proofs.sessions.last_sent.Given as goal

abbrev pub invariant-loop-packet : goal.invariant-loop-packet
invariant-loop-packet l =
    max l.last (greatest (map (λ (p : Packet). instant_in l.times p.number) (drop l.packet-index l.packets)))
    ≡ greatest (map (λ (p : Packet). instant_in l.times p.number) l.packets)
