-- The counts of packets one after another.
use Rattle.std.proofs.Common.{◌≡◌, ℕ, ◌+◌, ◌≤◌, List, [], ◌∷◌, ◌++◌, length, refl, ◌∙◌, cond, add-zero}
use Rattle.std.specs.Prelude.{◌==◌}
use Rattle.std.proofs.lemmas.List.Sums.{sum_by-append, count_by-le-length}
use Rattle.frame_headers.specs.Frame.{FrameClass, SegmentFields, short, not_ipv4, bad_ipv4, fragment, not_tcp, cut, bad_tcp, same_ends, segment}
use Rattle.conn_table.specs.SeenCapture.{SeenPacket}
use Rattle.conn_table.specs.ClassCounts.{class_number, counts_of, counts_with, count_at}
use Rattle.conn_table.specs.Partials.{counts_sum}
use Rattle.conn_table.specs.declared.class_counts.Counts.{Counts}

-- the packets of two lists
pub counts_of-append : (xs ys : List SeenPacket) → counts_of (xs ++ ys) ≡ counts_sum (counts_of xs) (counts_of ys)
unfolding counts_of
counts_of-append xs ys =
    let both = λ (k : FrameClass). sum_by-append (λ (p : SeenPacket). cond (class_number p.frame.class == class_number k) 1 0) xs ys in
    rw (both segment, both short, both not_ipv4, both bad_ipv4, both fragment, both not_tcp, both cut, both bad_tcp, both same_ends) refl

-- a packet of a class
counted-one : (at : ℕ) (k : FrameClass) (fields : SegmentFields) (n : Counts) → counts_sum n (counts_of (record { at = at; frame = record { class = k; fields = fields } } ∷ [])) ≡ counts_with k n
unfolding counts_of
counted-one at segment fields n = simp add-zero
counted-one at short fields n = simp add-zero
counted-one at not_ipv4 fields n = simp add-zero
counted-one at bad_ipv4 fields n = simp add-zero
counted-one at fragment fields n = simp add-zero
counted-one at not_tcp fields n = simp add-zero
counted-one at cut fields n = simp add-zero
counted-one at bad_tcp fields n = simp add-zero
counted-one at same_ends fields n = simp add-zero

-- one packet more
pub counts_of-push : (packets : List SeenPacket) (p : SeenPacket) → counts_of (packets ++ p ∷ []) ≡ counts_with p.frame.class (counts_of packets)
counts_of-push packets p = counts_of-append packets (p ∷ []) ∙ counted-one p.at p.frame.class p.frame.fields (counts_of packets)

-- a class has no more packets than there are
pub count_at-le-length : (k : FrameClass) (packets : List SeenPacket) → count_at k (counts_of packets) ≤ length packets
unfolding counts_of
count_at-le-length segment packets = count_by-le-length _ packets
count_at-le-length short packets = count_by-le-length _ packets
count_at-le-length not_ipv4 packets = count_by-le-length _ packets
count_at-le-length bad_ipv4 packets = count_by-le-length _ packets
count_at-le-length fragment packets = count_by-le-length _ packets
count_at-le-length not_tcp packets = count_by-le-length _ packets
count_at-le-length cut packets = count_by-le-length _ packets
count_at-le-length bad_tcp packets = count_by-le-length _ packets
count_at-le-length same_ends packets = count_by-le-length _ packets

pub count_at-sum : (k : FrameClass) (a b : Counts) → count_at k (counts_sum a b) ≡ count_at k a + count_at k b
count_at-sum segment a b = refl
count_at-sum short a b = refl
count_at-sum not_ipv4 a b = refl
count_at-sum bad_ipv4 a b = refl
count_at-sum fragment a b = refl
count_at-sum not_tcp a b = refl
count_at-sum cut a b = refl
count_at-sum bad_tcp a b = refl
count_at-sum same_ends a b = refl
