use Rattle.std.proofs.Common.{◌∷◌, ◌+◌, ap, drop, map, sym, ◌∙◌, arith}
use Rattle.std.specs.List.{enumerate_from}
use Rattle.std.proofs.lemmas.List.{drop_all, drop_more}
use Rattle.conn_workers.specs.Recordings.{rows}
use Rattle.laid_lines.specs.FlatLines.{FlatLines, together}
use Rattle.laid_lines.specs.RecordedLines.{after, flat_view, lines_by}
use Rattle.laid_lines.proofs.LaidRows.{after_none, laid_some, recorded_lines_are}
use Rattle.laid_lines.proofs.captures.delivered_lines.Goals as goal

pub loop-number-preserved : goal.loop-number-preserved
loop-number-preserved c =
    let n = c.loop-number.number in
    let all = c.args.scenarios.now in
    let recordings = c.as_slice-recordings.result.now in
    let laid : FlatLines = flat_view c.loop-number.laid in
    let s = c.index-scenarios-number.result in
    let rest = rows (lines_by c.args.seed) (enumerate_from (n + 1) (drop (n + 1) all)) recordings in
    let here = drop_more all n s c.loop-number-test.true ∙ ap (λ x. x ∷ drop (n + 1) all) (sym c.index-scenarios-number.is) in
    let is = rw (c.of-under.ensures.number, c.of-under.ensures.scenario, c.of-under.ensures.seed) at c.in_ok-add_row.ensures in
    laid_some laid (flat_view c.add_row.new.self) (map (lines_by c.args.seed (n, s)) recordings) rest is
    ∙ ap (λ ss. after laid (together (rows (lines_by c.args.seed) (enumerate_from n ss) recordings))) (sym here) ∙ c.loop-number.invariant

pub returns : goal.returns
returns c =
    let n = c.loop-number.number in
    let recordings = c.as_slice-recordings.result.now in
    let laid : FlatLines = flat_view c.loop-number.laid in
    let none = drop_all n c.args.scenarios.now (omega (arith, c.loop-number-test.false)) in
    sym (after_none laid) ∙ ap (λ ss. after laid (together (rows (lines_by c.args.seed) (enumerate_from n ss) recordings))) (sym none) ∙ c.loop-number.invariant
    ∙ ap (λ rs. together (rows (lines_by c.args.seed) (enumerate_from 0 c.args.scenarios.now) rs)) (c.as_slice-recordings.ensures ∙ c.in_ok-recorded.ensures)
    ∙ recorded_lines_are c.tables_are_whole.ensures c.args.capture.now c.args.scenarios.now c.args.seed
