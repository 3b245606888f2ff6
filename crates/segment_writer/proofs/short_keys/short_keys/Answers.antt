use Rattle.std.proofs.Common.{◌≡◌, ℕ, ◌+◌, List, map, subst}
use Rattle.std.specs.Option.{IfSome}
use Rattle.segment_writer.specs.SegmentRows.{segment_key}
use Rattle.segment_writer.specs.ShortKeys.{key_at, ComesBefore, IsShortKey}
use Rattle.segment_writer.specs.declared.framed.SegKey.{SegKey}
use Rattle.segment_writer.proofs.ShortKeySteps.{one_more}
use Rattle.segment_writer.proofs.short_keys.short_keys.Goals as goal

pub loop-number-preserved : goal.loop-number-preserved
loop-number-preserved c =
    let keys : List SegKey = map segment_key c.args.segments.now in
    let number : ℕ = c.loop-number.number in
    one_more keys number c.loop-number.short.items _ c.in-Some.next c.loop-number.invariant (subst (λ r. IfSome r (IsShortKey keys number)) c.in-Some.is c.short_key.ensures.short)
    (subst (λ r. IfSome r (λ _. (i : ℕ) → i + 1 ≡ number → ComesBefore (key_at keys i) (key_at keys number))) c.in-Some.is c.short_key.ensures.in_turn) c.in_ok-push.ensures.items
