use Rattle.std.proofs.Common.{◌≡◌, ◌<◌, ℕ, ◌+◌, ◌*◌, min, max, List, ◌++◌, length, take, get_or, arith, length-append, sym, ap, ap₂, ◌∙◌}
use Rattle.std.proofs.Math.Nat.{mul_comm}
use Rattle.std.proofs.lemmas.List.Elements.{All-set}
use Rattle.pcap_records.specs.Instants.{horizon, millisecond, ticks_of}
use Rattle.reassembly.specs.RecordedLines.{LineByte}
use Rattle.reassembly.specs.LineView.{bytes_of_part, bytes_of_parts}
use Rattle.reassembly.specs.declared.line_parts.LinePart.{LinePart}
use Rattle.toxic_defs.specs.Bandwidth.{ceiling, bandwidth_leaves, part_at}
use Rattle.toxic_defs.specs.Slices.{IsFilled}
use Rattle.toxic_defs.proofs.Parts.{length_marked, rest_there, front_there}
use Rattle.toxic_defs.proofs.ChargedParts.{owed_of, owed_part, fronts, charged_there, milliseconds_small, own_small, leaves_there}
use Rattle.toxic_defs.proofs.bandwidth.charge_parts.Goals as goal

pub milliseconds-requires : goal.milliseconds-requires
milliseconds-requires c =
    let there = fronts c.loop-part.parts c.args.parts.now c.loop-part.part-index c.part-item.result (omega arith) c.loop-part.invariant.rest in
    let short = c.requires.short in
    omega (arith, there, short)

pub overflow_add-busy : goal.overflow_add-busy
overflow_add-busy c =
    let p : LinePart = get_or c.loop-part.parts c.loop-part.part-index c.part-item.result in
    let there = fronts c.loop-part.parts c.args.parts.now c.loop-part.part-index c.part-item.result (omega arith) c.loop-part.invariant.rest in
    let own = own_small c.from-rate.result c.from.result (omega arith) (omega arith) in
    let wire = milliseconds_small c.args.unit (length p.bytes.now) in
    omega (arith, own, wire, there)

pub done_at-part-requires-clause-fits : goal.done_at-part-requires-clause-fits
done_at-part-requires-clause-fits c =
    let p : LinePart = get_or c.loop-part.parts c.loop-part.part-index c.part-item.result in
    let there = fronts c.loop-part.parts c.args.parts.now c.loop-part.part-index c.part-item.result (omega arith) c.loop-part.invariant.rest in
    let own = own_small c.from-rate.result c.from.result (omega arith) (omega arith) in
    let wire = milliseconds_small c.args.unit (length p.bytes.now) in
    omega (arith, own, wire, there)

pub loop-part-preserved : goal.loop-part-preserved
loop-part-preserved c =
    let i : ℕ = c.loop-part.part-index in
    let ps : List LinePart = c.loop-part.parts in
    let initial : List LinePart = c.args.parts.now in
    let p : LinePart = get_or ps i c.part-item.result in
    let front : List LineByte = bytes_of_parts (take i initial) in
    let inv = c.loop-part.invariant in
    let rate : ℕ = c.args.rate in
    let limit : ℕ = horizon (ticks_of c.args.unit) in
    let lt : i < length ps = omega arith in
    let lt' : i < length initial = omega arith in
    let filled : 0 < length p.bytes.now = inv.filled i c.part-item.result lt in
    let there : bytes_of_parts (take (i + 1) initial) ≡ front ++ bytes_of_part p = front_there ps initial i c.part-item.result lt' inv.rest in
    let more : length (bytes_of_parts (take (i + 1) initial)) ≡ length front + length p.bytes.now = ap length there ∙ length-append front (bytes_of_part p) ∙ ap (λ n. length front + n) (length_marked p.at p.starts p.bytes.now) in
    let small = own_small c.from-rate.result c.from.result (omega arith) (omega arith) in
    let few = milliseconds_small c.args.unit (length p.bytes.now) in
    let milli : ℕ = millisecond (ticks_of c.args.unit) in
    let own : c.max.result ≡ max (rate * p.at) (owed_of rate milli front) =
    c.max.ensures ∙ ap (λ r. max (r * c.from.result) c.loop-part.busy) c.from-rate.ensures ∙ ap (λ f. max (rate * f) c.loop-part.busy) (c.from.ensures ∙ c.count.ensures)
    ∙ ap (λ b. max (rate * p.at) b) inv.busy in
    let wire : c.from-in-loop-part.result ≡ milli * length p.bytes.now = c.from-in-loop-part.ensures ∙ c.milliseconds.ensures in
    let at : c.done_at-part.result ≡ bandwidth_leaves limit milli rate (front ++ bytes_of_part p) =
    c.done_at-part.ensures ∙ ap (λ r. min (ceiling (c.max.result + c.from-in-loop-part.result) r) limit) c.from-rate.ensures
    ∙ ap₂ (λ m n. min (ceiling (m + n) rate) limit) own wire
    ∙ sym (leaves_there limit milli rate p.at p.starts front p.bytes.now c.requires.some filled) in
    let owing : ℕ = owed_of rate milli front in
    let turned = mul_comm milli (length p.bytes.now) in
    let sums : max (rate * p.at) owing + milli * length p.bytes.now ≡ max owing (rate * p.at) + length p.bytes.now * milli = omega (arith, turned) in
    record {
      filled = All-set IsFilled ps i (part_at c.done_at-part.result p) filled inv.filled;
      rest = rest_there ps initial i (part_at c.done_at-part.result p) inv.rest;
      charged = charged_there (bandwidth_leaves limit milli rate) ps initial i c.done_at-part.result c.part-item.result lt lt' inv.rest inv.charged at;
      busy = ap₂ (λ m n. m + n) own wire ∙ sums ∙ sym (owed_part rate milli p.at p.starts front p.bytes.now filled) ∙ ap (owed_of rate milli) (sym there);
      small = omega (arith, small, few, more);
    }
