use Rattle.std.proofs.Common.{◌≡◌, ℕ, ◌+◌, ◌-◌, ◌*◌, ◌<◌, min, max, List, ◌++◌, length, take, get_or, arith, subst, sym, ap, ap₂, ◌∙◌}
use Rattle.std.proofs.lemmas.List.{length_push}
use Rattle.pcap_records.specs.Instants.{horizon, millisecond, ticks_of}
use Rattle.reassembly.specs.RecordedLines.{LineByte}
use Rattle.reassembly.specs.LineView.{bytes_of_part, bytes_of_parts, bytes_with_mark}
use Rattle.reassembly.specs.declared.line_parts.LinePart.{LinePart}
use Rattle.toxic_defs.specs.RandomWords.{word_of}
use Rattle.toxic_defs.specs.DelayedBytes.{begins, latest}
use Rattle.toxic_defs.specs.Latency.{latency_leaves, drawn_delay}
use Rattle.toxic_defs.specs.DrawnNumbers.{GivesNext}
use Rattle.toxic_defs.proofs.Parts.{rest_there, front_there}
use Rattle.toxic_defs.proofs.Latest.{latest-push}
use Rattle.toxic_defs.proofs.MovedParts.{written_there, along_part, begins_one_more, begins_no_more}
use Rattle.toxic_defs.proofs.latency.delay_chunks.Goals.{then-begins_chunk, else-begins_chunk}
use Rattle.toxic_defs.proofs.latency.delay_chunks.Goals as goal

pub loop-part-preserved : goal.loop-part-preserved
loop-part-preserved c =
    let i : ℕ = c.loop-part.part-index in
    let ps : List LinePart = c.loop-part.parts in
    let initial : List LinePart = c.args.parts.now in
    let p : LinePart = get_or ps i c.part-item.result in
    let front : List LineByte = bytes_of_parts (take i initial) in
    let inv = c.loop-part.invariant in
    let k : ℕ = length (begins front) in
    let delay : ℕ → ℕ = drawn_delay (ticks_of c.args.unit) (word_of c.args.key) c.args.latency c.args.jitter in
    let leaves : List LineByte → ℕ = latency_leaves (horizon (ticks_of c.args.unit)) delay in
    let lt : i < length ps = omega arith in
    let lt' : i < length initial = omega arith in
    let there : bytes_of_parts (take (i + 1) initial) ≡ front ++ bytes_of_part p = front_there ps initial i c.part-item.result lt' inv.rest in
    let ours : List LineByte = front ++ bytes_of_part p in
    let f : ℕ → ℕ → ℕ = λ j at. min (at + delay j) (horizon (ticks_of c.args.unit)) in
    let steps : (c.if-begins_chunk.last ≡ leaves ours) × GivesNext c.if-begins_chunk.numbers c.args.key c.args.jitter (1 + length (begins ours)) =
    elim c.if-begins_chunk.branch [
      | then-begins_chunk w ↦
          let more = begins_one_more front p.at p.starts p.bytes.now (sym c.begins_chunk.ensures ∙ w.if-begins_chunk.true) in
          let number = w.next.ensures.number c.args.key c.args.jitter (1 + k) inv.numbers in
          let e : w.milliseconds-delay.result ≡ delay k = w.milliseconds-delay.ensures ∙ ap (λ n. millisecond (ticks_of c.args.unit) * n) (w.saturating_sub.ensures ∙ ap (λ n. c.args.latency + n - c.args.jitter) number) in
          let count : 1 + (k + 1) ≡ 1 + k + 1 = omega arith in
          rw (w.last-is, w.numbers-is, more, length_push (begins front) p.at, count) (
            w.greater-last.ensures ∙ ap₂ (λ a b. max a b) inv.last (w.later.ensures ∙ ap (λ d. min (p.at + d) (horizon (ticks_of c.args.unit))) e) ∙ sym (latest-push f (begins front) p.at),
            w.next.ensures.next c.args.key c.args.jitter (1 + k) inv.numbers,
          )
      | else-begins_chunk w ↦
          let same = begins_no_more front p.at p.starts p.bytes.now (sym c.begins_chunk.ensures ∙ w.if-begins_chunk.false) in
          rw (w.last-is, w.numbers-is, same) (inv.last, inv.numbers)
    ] in
    record {
      rest = rest_there ps initial i (record { at = c.if-begins_chunk.last; starts = p.starts; bytes = p.bytes }) inv.rest;
      bytes = written_there ps initial i c.part-item.result (record { at = c.if-begins_chunk.last; starts = p.starts; bytes = p.bytes }) leaves lt lt' inv.rest inv.bytes
          (ap (λ at. bytes_with_mark at p.starts p.bytes.now) steps.0 ∙ sym (along_part (latest f) front p.at p.starts p.bytes.now));
      last = steps.0 ∙ ap leaves (sym there);
      numbers = subst (λ (bs : List LineByte). GivesNext c.if-begins_chunk.numbers c.args.key c.args.jitter (1 + length (begins bs))) (sym there) steps.1;
    }
