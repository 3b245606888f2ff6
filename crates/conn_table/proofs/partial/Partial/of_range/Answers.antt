use Rattle.std.proofs.Common.{◌+◌, ◌≡◌, ◌≤◌, ◌<◌, ◌^◌, length, refl, sym, ◌∙◌, ap, arith, false, max, ◌∷◌, ◌++◌, [], ap₂}
use Rattle.std.proofs.lemmas.List.{length_push, map_push}
use Rattle.frame_headers.specs.Frame.{frame_class, segment}
use Rattle.frame_headers.specs.Class.{frame_class_of}
use Rattle.conn_table.specs.IndexedSegments.{is_segment}
use Rattle.conn_table.specs.KeptSegments.{kept_at, segment_read}
use Rattle.conn_table.specs.Partials.{partial_in, carried}
use Rattle.conn_table.specs.Entries.{kept_by}
use Rattle.conn_table.proofs.Growths.{all_of-one}
use Rattle.conn_table.proofs.PartialSteps.{IsRecordOf, ends_within, at-none, counts-none, kept-none, at-more, counts-more, counts-few, kept-segment, kept-other, is_segment-other}
use Rattle.conn_table.proofs.partial.Partial.of_range.Goals.{in-Segment+in_ok-push, in_default}
use Rattle.conn_table.proofs.partial.Partial.of_range.Goals as goal

pub loop-index-init : goal.loop-index-init
loop-index-init c =
    let empty = c.in_ok-entries.ensures.items in
    record {
      segments = rw empty (omega arith);
      at = at-none c.args.capture.now c.args.from c.args.carry;
      counts = c.none-counts.ensures ∙ counts-none c.args.capture.now c.args.from c.args.carry;
      kept = rw empty (kept-none c.args.capture.now c.args.from c.args.carry);
    }

pub add-requires : goal.add-requires
add-requires c =
    let capture = c.args.capture.now in
    let few = c.records-records.ensures.sound.few in
    let count = c.records-records.ensures.records in
    let total : length capture.records < 2 ^ 26 = rw count at few in
    rw c.loop-index.invariant.counts
    (omega (arith, total, counts-few capture c.args.from c.loop-index.index c.args.carry (frame_class_of c.classify-class.result) c.loop-index.auto.index (omega arith)))

pub of_segment-requires-clause-short : goal.of_segment-requires-clause-short
of_segment-requires-clause-short c = (rw c.in-Segment.is at c.classify-class.ensures.payload).short

pub of_segment-requires-clause-within : goal.of_segment-requires-clause-within
of_segment-requires-clause-within c =
    let capture = c.args.capture.now in
    let r = c.index-records-index.result in
    let sound = rw c.records-records.ensures.records at c.records-records.ensures.sound in
    let here : IsRecordOf capture c.loop-index.index r c.packet.result.now = record {
      within = omega arith;
      is = rw c.records-records.ensures.records at c.index-records-index.is;
      packet = c.packet.ensures;
    } in
    let payload = rw c.in-Segment.is at c.classify-class.ensures.payload in
    omega (arith, ends_within capture c.loop-index.index r c.packet.result.now sound here, payload.within)

pub loop-index-preserved : goal.loop-index-preserved
loop-index-preserved c =
    let capture = c.args.capture.now in
    let i = c.loop-index.index in
    let from = c.args.from in
    let carry = c.args.carry in
    let r = c.index-records-index.result in
    let bytes = c.packet.result.now in
    let was = c.loop-index.invariant in
    let ordered : from ≤ i = c.loop-index.auto.index in
    let here : IsRecordOf capture i r bytes = record {
      within = omega arith;
      is = rw c.records-records.ensures.records at c.index-records-index.is;
      packet = c.packet.ensures;
    } in
    let now = rw was.at at c.greater-at.ensures in
    let at = now ∙ at-more capture from i carry r bytes ordered here in
    let counts = rw (c.classify-class.ensures.class, was.counts) at c.add.ensures in
    let counted = counts ∙ counts-more capture from i carry r bytes ordered here in
    elim c.match-class.branch [
      | in-Segment+in_ok-push w ↦
          let told = w.in_ok-push.ensures.items in
          let is : frame_class bytes ≡ segment = sym c.classify-class.ensures.class ∙ ap frame_class_of w.in-Segment.is in
          let fields = rw w.in-Segment.is at c.classify-class.ensures.segment in
          let payload = rw w.in-Segment.is at c.classify-class.ensures.payload in
          let same = (rw now at w.of_segment.ensures) ∙ ap₂ (λ n f. kept_at (r.start + n) (segment_read i (max (carried capture from i carry) r.stamp) f)) payload.offset fields in
          record {
            segments = rw (w.entries-is, told) (omega (arith, length_push c.loop-index.entries.items w.of_segment.result, was.segments, ordered));
            at = at;
            counts = counted;
            kept = rw (w.entries-is, told) (map_push kept_by c.loop-index.entries.items w.of_segment.result ∙ ap₂ (λ ks k. ks ++ k ∷ []) was.kept same ∙ kept-segment capture from i carry r bytes ordered here is);
          }
      | in_default w ↦
          let other : is_segment (frame_class bytes) ≡ false = ap is_segment (sym c.classify-class.ensures.class) ∙ is_segment-other c.classify-class.result (λ s e. w.in_default.not-Segment s e) in
          record {
            segments = rw w.entries-is (omega (arith, was.segments));
            at = at;
            counts = counted;
            kept = rw w.entries-is (was.kept ∙ kept-other capture from i carry r bytes ordered here other);
          }
    ]

pub invariant_of-result : goal.invariant_of-result
invariant_of-result c =
    let capture = c.args.capture.now in
    let total : length capture.records < 2 ^ 26 = rw c.records-records.ensures.records at c.records-records.ensures.sound.few in
    let was = c.loop-index.invariant in
    let over : c.loop-index.index ≡ c.args.to = omega arith in
    record {
      ordered = c.requires.ordered;
      few = omega arith;
      segments = rw (c.in_ok-vec.ensures.items, all_of-one c.loop-index.entries) (omega (arith, was.segments));
      counted = λ k. rw was.counts (omega (arith, over, counts-few capture c.args.from c.loop-index.index c.args.carry k (omega arith) (omega arith)));
    }

pub returns-clause-exact : goal.returns-clause-exact
unfolding partial_in
returns-clause-exact c =
    let was = c.loop-index.invariant in
    let over : c.loop-index.index ≡ c.args.to = omega arith in
    rw (c.in_ok-vec.ensures.items, all_of-one c.loop-index.entries, was.counts, was.kept, over) refl
