use Rattle.toxicap_c.proofs.LaidParts.{IsLaid}
use Rattle.toxicap_c.proofs.hand_outs.put_pieces.Given as goal

abbrev pub invariant-loop-number : goal.invariant-loop-number
invariant-loop-number l = IsLaid (λ p. p.now) l.pieces l.number l.at l.buffer l.initial.buffer
