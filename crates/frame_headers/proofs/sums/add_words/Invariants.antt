-- What is added and what is still to add makes the whole sum, and there is room for it.
use Rattle.std.proofs.Common.{◌≡◌, ◌+◌, ◌*◌, ◌^◌, ◌≤◌, length}
use Rattle.frame_headers.specs.Sum.{words_sum, folded_sum}
use Rattle.frame_headers.proofs.sums.add_words.Given as goal

abbrev pub invariant-wide : goal.invariant-wide
invariant-wide l = record {
  same : folded_sum (l.sum + words_sum l.rest) ≡ folded_sum (l.start + words_sum l.bytes);
  room : l.sum + 2 ^ 64 * length l.rest ≤ l.start + 2 ^ 64 * length l.bytes;
}

abbrev pub decreases-wide : goal.decreases-wide
decreases-wide l = length l.rest

abbrev pub invariant-words : goal.invariant-words
invariant-words l = record {
  same : folded_sum (l.sum + words_sum l.rest) ≡ folded_sum (l.start + words_sum l.bytes);
  room : l.sum + 2 ^ 64 * length l.rest ≤ l.start + 2 ^ 64 * length l.bytes;
}

abbrev pub decreases-words : goal.decreases-words
decreases-words l = length l.rest
