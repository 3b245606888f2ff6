use Rattle.std.proofs.Common.{ℕ, List, [], ◌∷◌, ◌++◌, length, ap, ap₂, sym, ◌∙◌, arith}
use Rattle.std.proofs.lemmas.List.FromFn.{map-range_with_len_more}
use Rattle.toxicap.specs.{contents_of, seen_capture, TableView, connections_text, counts_text, head_of}
use Rattle.toxicap.proofs.OutputSteps.{counts_are}
use Rattle.toxicap.proofs.reports.report_heads.Goals as goal

pub report_head-requires : goal.report_head-requires
report_head-requires c = record { counts = ap (λ t. t.counts) c.requires.table ∙ counts_are c.args.capture.now }

pub loop-number-preserved : goal.loop-number-preserved
loop-number-preserved c =
    let number : ℕ = c.loop-number.number in
    let head = c.in_ok-head.ensures
    ∙ ap (λ (t : TableView). counts_text number (seen_capture (contents_of c.args.capture.now)) ++ connections_text (length t.conns) t.unopened) c.requires.table in
    c.in_ok-push.ensures.items ∙ ap₂ (λ (xs : List (List ℕ)) (x : List ℕ). xs ++ x ∷ []) c.loop-number.invariant head
    ∙ sym (map-range_with_len_more (head_of c.args.capture.now) 0 number number (omega arith))
