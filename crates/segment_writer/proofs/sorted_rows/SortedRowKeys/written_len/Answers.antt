use Rattle.std.proofs.Common.{◌≡◌, List, ℕ, length, min, ap, ◌∙◌, sym}
use Rattle.std.specs.List.{flat_map}
use Rattle.std.below.core.specs.declared.int.usize.TheConstants.{MAX}
use Rattle.std.proofs.lemmas.List.Concat.{length-flat_map}
use Rattle.std.proofs.lemmas.List.Sorted.{sum_by-IsPermutation}
use Rattle.segment_writer.specs.OpenRows.{written_in}
use Rattle.segment_writer.specs.WrittenSegments.{sorted_by_key}
use Rattle.segment_writer.specs.declared.framed.Framed.{Framed}
use Rattle.segment_writer.proofs.InOrder.{sorted_keeps_all}
use Rattle.segment_writer.proofs.sorted_rows.SortedRowKeys.written_len.Goals as goal

pub returns : goal.returns
returns c =
    let bytes_of : Framed → List ℕ = λ x. x.bytes in
    let stand : List Framed = written_in c.self.inside.row in
    let same : length (flat_map bytes_of stand) ≡ length (flat_map bytes_of (sorted_by_key stand)) =
    length-flat_map bytes_of stand ∙ sym (sum_by-IsPermutation (λ x. length (bytes_of x)) stand (sorted_by_key stand) (sorted_keeps_all stand)) ∙ sym (length-flat_map bytes_of (sorted_by_key stand)) in
    c.written_len.ensures ∙ ap (λ n. min n MAX) (same ∙ ap (λ (xs : List Framed). length (flat_map bytes_of xs)) c.self.view_is)
