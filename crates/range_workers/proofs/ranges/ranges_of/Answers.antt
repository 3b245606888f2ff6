use Rattle.std.proofs.Common.{◌≡◌, ◌<◌, ◌+◌, length, max, sym, ap, ap₂, ◌∙◌, arith}
use Rattle.range_workers.specs.Ranges.{range_in}
use Rattle.range_workers.specs.declared.ranges.Range.{Range}
use Rattle.conn_table.proofs.RangeSteps.{carried-append}
use Rattle.range_workers.proofs.Chains.{one_more}
use Rattle.range_workers.proofs.ranges.ranges_of.Goals as goal

pub cuts-preserved : goal.cuts-preserved
cuts-preserved c =
    let capture = c.args.capture.now in
    let from = c.cuts.from in
    let to = from + c.min.result in
    let within : to < length capture.records = omega (arith, c.min.ensures, c.cuts.invariant.0, c.cuts.invariant.1, c.if-to-count.false) in
    let at : to ≡ from + c.args.cut = omega (arith, c.min.ensures, c.cuts.invariant.0, c.cuts.invariant.1, c.if-to-count.false) in
    let r : Range = record { from = from; to = to; carry = c.cuts.carry } in
    let is : r ≡ range_in capture from to = ap (λ n. let x : Range = record { from = from; to = to; carry = n } in x) c.cuts.invariant.2 in (
      c.cuts.invariant.0,
      omega (arith, within, c.cuts.invariant.0),
      c.greater-carry.ensures ∙ ap₂ max c.cuts.invariant.2 c.peak.ensures ∙ sym (carried-append capture 0 from to 0 (omega arith) (omega arith)),
      one_more capture c.args.cut from to c.cuts.ranges.items c.push.new.self.items r c.cuts.invariant.3 is at within c.in_ok-push.ensures.items,
    )
