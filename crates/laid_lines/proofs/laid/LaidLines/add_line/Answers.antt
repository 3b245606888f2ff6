use Rattle.std.proofs.Common.{◌≡◌, ◌+◌, ◌-◌, ◌++◌, ◌∷◌, [], ap, drop, length, ◌∙◌, arith, append-nil, length-append}
use Rattle.std.specs.List.{flat_map}
use Rattle.std.proofs.lemmas.Grind.{flat_map-append}
use Rattle.std.proofs.lemmas.List.{drop_all}
use Rattle.pcap_records.specs.Instants.{ticks_of}
use Rattle.reassembly.specs.LineView.{bytes_of_parts}
use Rattle.laid_lines.specs.FlatLines.{chunk, chunks_of, end_code, end_time, nanoseconds_since}
use Rattle.laid_lines.proofs.LineParts.{chunks_from, chunks_laid, chunks_left, count_left, values_left}
use Rattle.laid_lines.proofs.laid.LaidLines.add_line.Goals as goal

pub loop-part-preserved : goal.loop-part-preserved
loop-part-preserved c =
    let was = c.loop-part.invariant in
    let parts = c.parts-parts.result.now in
    let i = c.loop-part.part-index in
    let part = c.part-item.result in
    let now = c.loop-part.self in
    let begun = c.loop-part.begun in
    let time = nanoseconds_since (ticks_of c.args.opening.now.unit) c.args.opening.now.at in
    let pushed = rw c.close.ensures.pieces at c.in_ok-push.ensures.items in
    let pieces = ap (flat_map (λ p. p.now)) pushed ∙ flat_map-append (λ p. p.now) now.pieces.items (part.bytes ∷ []) ∙ ap (λ xs. flat_map (λ p. p.now) now.pieces.items ++ xs) (append-nil part.bytes.now) in
    let rest = bytes_of_parts (drop (i + 1) parts) in
    record {
      bytes = values_left parts i part c.loop-part-test.true c.part-item.is _ _ _ was.bytes pieces;
      chunks = ap (λ t. c.close.new.self.chunks.items ++ chunks_from time (chunk (begun.end + length part.bytes.now) t) rest) c.nanoseconds_since.ensures
          ∙ chunks_left parts i part c.loop-part-test.true c.part-item.is time begun _ _ _ c.if-is_empty.ensures was.chunks c.in_ok-close.ensures.chunks;
      count = omega (arith, was.count, count_left parts i part c.loop-part-test.true c.part-item.is);
      connections = c.close.ensures.connections ∙ was.connections;
    }

pub overflow_sub-result : goal.overflow_sub-result
overflow_sub-result c =
    let old = c.args.self.now in
    let new = c.close-2.new.self in
    let line = c.args.line.now.line in
    let time = nanoseconds_since (ticks_of c.args.opening.now.unit) c.args.opening.now.at in
    let laid = chunks_laid time c.parts-parts.result.now c.loop-part.part-index c.loop-part.begun _ _ _ line.bytes (omega (arith, c.loop-part-test.false))
    c.parts-parts.ensures c.loop-part.invariant.chunks c.in_ok-close-2.ensures.chunks in
    omega (arith, ap length laid, length-append old.chunks.items (chunks_of (ticks_of c.args.opening.now.unit) c.args.opening.now.at line), old.chunks.ok.0, new.chunks.ok.0, c.len-chunks.ensures, c.len.ensures)

pub returns-clause-chunks : goal.returns-clause-chunks
returns-clause-chunks c =
    chunks_laid (nanoseconds_since (ticks_of c.args.opening.now.unit) c.args.opening.now.at) c.parts-parts.result.now c.loop-part.part-index c.loop-part.begun _ _ _ c.args.line.now.line.bytes
    (omega (arith, c.loop-part-test.false)) c.parts-parts.ensures c.loop-part.invariant.chunks c.in_ok-close-2.ensures.chunks

pub returns-clause-direction : goal.returns-clause-direction
returns-clause-direction c =
    let old = c.args.self.now in
    let new = c.close-2.new.self in
    let line = c.args.line.now.line in
    let ticks = ticks_of c.args.opening.now.unit in
    let opened = c.args.opening.now.at in
    let none = drop_all c.loop-part.part-index c.parts-parts.result.now (omega (arith, c.loop-part-test.false)) in
    let bytes : c.loop-part.begun.end ≡ length line.bytes =
    omega (arith, c.loop-part.invariant.count, ap (λ ps. length (bytes_of_parts ps)) none, ap length c.parts-parts.ensures) in
    let chunks : c.len.result - c.len-chunks.result ≡ length (chunks_of ticks opened line) =
    omega (arith, ap length (returns-clause-chunks c), length-append old.chunks.items (chunks_of ticks opened line), old.chunks.ok.0, new.chunks.ok.0, c.len-chunks.ensures, c.len.ensures) in
    λ i. record {
      bytes = bytes i;
      chunks = chunks i;
      end_time = (c.end_time.ensures ∙ ap (end_time ticks opened) c.end.ensures) i;
      end = (c.end_code.ensures ∙ ap (end_code c.args.refused) c.end-2.ensures) i;
    }
