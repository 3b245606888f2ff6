use Rattle.std.proofs.Common.{◌≡◌, ℕ, ◌<◌, List, [], ◌∷◌, ◌++◌, length, drop, sym, ap, ap₂, ◌∙◌, subst, arith}
use Rattle.std.proofs.lemmas.List.{length-drop, take_all}
use Rattle.std.proofs.lemmas.List.Elements.{All-same}
use Rattle.std.proofs.lemmas.List.FromFn.{length-enumerate_from}
use Rattle.toxicap.specs.{enumerate_from, into_iter_items, contents_of, Connection, SeenCapture, seen_capture, Framed, HasNoKeyTwice, sorted_by_key}
use Rattle.toxicap.specs.{all_segments, Proxy, connections_of, delivery_of, deliveries, segments_in, lines_in, gathered_output, scenario_output, outputs_of}
use Rattle.toxicap.proofs.OutputSteps.{as_many, unopened_is}
use Rattle.toxicap.proofs.GatheredRows.{mapped_more, row_fits, row_left, next_scenario, next_row, next_number, row_is_sorted, row_stands_once, gathered_is}
use Rattle.toxicap.proofs.rehearsal.list_outputs.Goals as goal

pub loop-number-init : goal.loop-number-init
unfolding deliveries
loop-number-init g c = record {
  made = c.in_ok-outputs.ensures.items;
  left = c.into_iter-rest.ensures.rest ∙ c.into_vec.ensures ∙ c.in_ok-deliveries.ensures;
  fewer = c.into_iter-rest.ensures.len ∙ c.into_vec.result.ok.0 ∙ ap length (sym c.into_iter-rest.ensures.rest);
  wide = ap length (c.conns-count.ensures ∙ ap (λ t. t.conns) c.in_ok-table.ensures) ∙ as_many c.indexed_connections_agree.ensures c.args.capture.now;
}

pub take_row-requires : goal.take_row-requires
take_row-requires g c =
    let scenarios : List (List Proxy) = c.args.scenarios.now in
    let cs : List Connection = connections_of (seen_capture (contents_of c.args.capture.now)) in
    let within : c.loop-number.number < length (enumerate_from 0 scenarios) = omega (arith, c.loop-number-test.true, length-enumerate_from 0 scenarios) in
    omega (
      arith,
      c.loop-number.invariant.wide,
      c.loop-number.invariant.fewer,
      ap length c.loop-number.invariant.left,
      row_fits (delivery_of c.args.capture.now.ticks c.args.seed) (enumerate_from 0 scenarios) cs c.loop-number.number (0, []) within,
    )

pub gathered_output-requires-clause-sorted : goal.gathered_output-requires-clause-sorted
gathered_output-requires-clause-sorted g c =
    let seen : SeenCapture = seen_capture (contents_of c.args.capture.now) in
    let s = next_scenario c.args.scenarios.now c.loop-number.number in
    let row = next_row c.args.seed seen c.args.scenarios.now c.loop-number.number c.loop-number-test.true _ _ c.loop-number.invariant.wide c.loop-number.invariant.left in
    All-same (λ (list : List Framed). sorted_by_key list ≡ list) _ _ (c.in_ok-row.ensures.segments ∙ ap segments_in row)
    (row_is_sorted seen.ticks c.args.seed s c.keys_rise.ensures c.rising_is_sorted.ensures (connections_of seen))

pub gathered_output-requires-clause-once : goal.gathered_output-requires-clause-once
gathered_output-requires-clause-once g c =
    let seen : SeenCapture = seen_capture (contents_of c.args.capture.now) in
    let s = next_scenario c.args.scenarios.now c.loop-number.number in
    let row = next_row c.args.seed seen c.args.scenarios.now c.loop-number.number c.loop-number-test.true _ _ c.loop-number.invariant.wide c.loop-number.invariant.left in
    subst (λ (xs : List Framed). HasNoKeyTwice xs) (sym (ap all_segments (c.in_ok-row.ensures.segments ∙ ap segments_in row))) (row_stands_once seen.ticks c.args.seed s c.keys_stand_once.ensures seen)

pub loop-number-preserved : goal.loop-number-preserved
loop-number-preserved g c =
    let seed : ℕ = c.args.seed in
    let scenarios : List (List Proxy) = c.args.scenarios.now in
    let number : ℕ = c.loop-number.number in
    let seen : SeenCapture = seen_capture (contents_of c.args.capture.now) in
    let before = into_iter_items c.loop-number.rest in
    let count : ℕ = length c.conns-count.result.now in
    let s = next_scenario scenarios number in
    let within : number < length (enumerate_from 0 scenarios) = omega (arith, c.loop-number-test.true, length-enumerate_from 0 scenarios) in
    let row = next_row seed seen scenarios number c.loop-number-test.true _ _ c.loop-number.invariant.wide c.loop-number.invariant.left in
    let unopened = ap (λ t. t.unopened) c.in_ok-table.ensures ∙ unopened_is c.args.capture.now in
    let gathered = c.in_ok-output.ensures
    ∙ ap₂ (gathered_output seen number c.in_ok-table.table.unopened) (c.in_ok-row.ensures.segments ∙ ap segments_in row) (c.in_ok-row.ensures.lines ∙ ap lines_in row)
    ∙ gathered_is seen seed s number c.in_ok-table.table.unopened (sym (next_number scenarios number c.loop-number-test.true)) unopened in
    record {
      made = c.in_ok-push.ensures.items ∙ ap₂ (λ xs o. xs ++ o ∷ []) c.loop-number.invariant.made gathered ∙ mapped_more (scenario_output seen seed) (enumerate_from 0 scenarios) number (0, []) within;
      left = c.in_ok-row.ensures.left ∙ ap₂ drop c.loop-number.invariant.wide c.loop-number.invariant.left
          ∙ row_left (delivery_of seen.ticks seed) (enumerate_from 0 scenarios) (connections_of seen) number (0, []) within;
      fewer = omega (arith, c.loop-number.invariant.fewer, c.in_ok-row.ensures.fewer, ap length c.in_ok-row.ensures.left, length-drop count before);
      wide = c.loop-number.invariant.wide;
    }

pub returns : goal.returns
unfolding outputs_of
returns g c =
    let all = take_all c.loop-number.number (enumerate_from 0 c.args.scenarios.now) (omega (arith, c.loop-number-test.false, length-enumerate_from 0 c.args.scenarios.now)) in
    rw all at c.loop-number.invariant.made
