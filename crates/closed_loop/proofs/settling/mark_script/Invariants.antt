-- What is marked was marked before, or is of the script as far as it goes.
use Rattle.std.proofs.Common.{◌≡◌, ◌⊎◌, ◌==◌, ◌||◌, ℕ, length, take, Some, true}
use Rattle.std.specs.List.{list_any, slice_get}
use Rattle.closed_loop.specs.declared.packets.Packet.{Packet}
use Rattle.closed_loop.proofs.settling.mark_script.Given as goal

abbrev pub invariant-loop-packet : goal.invariant-loop-packet
invariant-loop-packet l = record {
  len : length l.taken.items ≡ length l.fn.taken.items;
  marked : (i : ℕ) → slice_get l.taken.items i ≡ Some true
      → (slice_get l.fn.taken.items i ≡ Some true) ⊎ ((l.script.opening == i || list_any (λ (q : Packet). q.number == i) (take l.packet-index l.packet-items)) ≡ true);
}
