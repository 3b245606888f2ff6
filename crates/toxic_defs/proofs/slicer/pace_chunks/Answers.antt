use Rattle.std.proofs.Common.{◌≡◌, ℕ, ◌+◌, ◌-◌, ◌<◌, min, max, true, false, ◌&&◌, Bool, nat_lt, List, ◌++◌, length, take, get_or, arith, refl, sym, ap, ap₂, ◌∙◌}
use Rattle.std.proofs.lemmas.Bool.{lt-ltb}
use Rattle.std.proofs.lemmas.List.Elements.{All-set}
use Rattle.pcap_records.specs.Instants.{horizon, ticks_of}
use Rattle.reassembly.specs.RecordedLines.{LineByte}
use Rattle.reassembly.specs.LineView.{bytes_of_part, bytes_of_parts, bytes_with_mark}
use Rattle.reassembly.specs.declared.line_parts.LinePart.{LinePart}
use Rattle.toxic_defs.specs.DelayedBytes.{begins}
use Rattle.toxic_defs.specs.Slicer.{paced, slicer_leaves}
use Rattle.toxic_defs.specs.Slices.{IsFilled}
use Rattle.toxic_defs.proofs.Parts.{rest_there, front_there}
use Rattle.toxic_defs.proofs.Latest.{owed}
use Rattle.toxic_defs.proofs.MovedParts.{written_there, along_part, begins_one_more, begins_no_more, paced_last, paced_next}
use Rattle.toxic_defs.proofs.slicer.pace_chunks.Goals.{then-part, else-part}
use Rattle.toxic_defs.proofs.slicer.pace_chunks.Goals as goal

-- a filled part begins a chunk exactly if it is marked
by_mark : (s : Bool) (bytes : List ℕ) → 0 < length bytes → (s && nat_lt 0 (length bytes)) ≡ s
by_mark true bytes h = lt-ltb 0 (length bytes) h
by_mark false bytes h = refl

pub loop-part-preserved : goal.loop-part-preserved
loop-part-preserved c =
    let i : ℕ = c.loop-part.part-index in
    let ps : List LinePart = c.loop-part.parts in
    let initial : List LinePart = c.args.parts.now in
    let p : LinePart = get_or ps i c.part-item.result in
    let front : List LineByte = bytes_of_parts (take i initial) in
    let inv = c.loop-part.invariant in
    let limit : ℕ = horizon (ticks_of c.args.unit) in
    let gap : ℕ = c.args.gap in
    let leaves : List LineByte → ℕ = slicer_leaves limit gap in
    let lt : i < length ps = omega arith in
    let lt' : i < length initial = omega arith in
    let filled : 0 < length p.bytes.now = inv.filled i c.part-item.result lt in
    let mark : (p.starts && nat_lt 0 (length p.bytes.now)) ≡ p.starts = by_mark p.starts p.bytes.now filled in
    let there : bytes_of_parts (take (i + 1) initial) ≡ front ++ bytes_of_part p = front_there ps initial i c.part-item.result lt' inv.rest in
    let q : LinePart = record { at = c.if-part.last; starts = p.starts; bytes = p.bytes } in
    let ours : List LineByte = front ++ bytes_of_part p in
    let steps : (c.if-part.last ≡ leaves ours) × (c.if-part.next ≡ min (owed 1 gap 0 (begins ours)) limit) =
    elim c.if-part.branch [
      | then-part w ↦
          let more = begins_one_more front p.at p.starts p.bytes.now (mark ∙ w.if-part.true) in
          let own : w.later.result ≡ min p.at limit = w.later.ensures ∙ ap (λ x. min x limit) (omega arith) in
          let last : w.greater-last.result ≡ max (min (owed 1 gap 0 (begins front)) limit) (min p.at limit) = w.greater-last.ensures ∙ ap₂ (λ a b. max a b) inv.next own in (
            w.last-is ∙ last ∙ sym (ap (λ ats. paced limit gap (length ats - 1) ats) more ∙ paced_last limit gap (begins front) p.at),
            w.next-is ∙ w.later-next.ensures ∙ ap (λ x. min (x + gap) limit) last ∙ sym (ap (λ ats. min (owed 1 gap 0 ats) limit) more ∙ paced_next limit gap (begins front) p.at),
          )
      | else-part w ↦
          let same = begins_no_more front p.at p.starts p.bytes.now (mark ∙ w.if-part.false) in
          (w.last-is ∙ inv.last ∙ sym (ap (λ ats. paced limit gap (length ats - 1) ats) same), w.next-is ∙ inv.next ∙ sym (ap (λ ats. min (owed 1 gap 0 ats) limit) same))
    ] in
    record {
      filled = All-set IsFilled ps i q filled inv.filled;
      rest = rest_there ps initial i q inv.rest;
      bytes = written_there ps initial i c.part-item.result q leaves lt lt' inv.rest inv.bytes
          (ap (λ at. bytes_with_mark at p.starts p.bytes.now) steps.0 ∙ sym (along_part (λ ats. paced limit gap (length ats - 1) ats) front p.at p.starts p.bytes.now));
      last = steps.0 ∙ ap leaves (sym there);
      next = steps.1 ∙ ap (λ (bs : List LineByte). min (owed 1 gap 0 (begins bs)) limit) (sym there);
    }
