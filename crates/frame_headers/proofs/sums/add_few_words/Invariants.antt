-- What is added, times 2^8, and what is still to add make the whole sum, and there is room for it.
use Rattle.std.proofs.Common.{◌≡◌, ◌+◌, ◌*◌, ◌^◌, ◌≤◌, length}
use Rattle.frame_headers.specs.Sum.{words_sum, folded_sum}
use Rattle.frame_headers.proofs.sums.add_few_words.Given as goal

abbrev pub invariant-wide : goal.invariant-wide
invariant-wide l = record {
  same : folded_sum (l.start + 256 * l.swapped + words_sum l.rest) ≡ folded_sum (l.start + words_sum l.bytes);
  room : l.swapped + 2 ^ 32 * length l.rest ≤ 2 ^ 32 * length l.bytes;
}

abbrev pub decreases-wide : goal.decreases-wide
decreases-wide l = length l.rest
