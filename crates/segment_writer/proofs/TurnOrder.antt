-- Each turn of a connection is written in order of key.
use Rattle.std.proofs.Common.{◌≡◌, ◌≤◌, ◌<◌, ℕ, ◌+◌, Bool, true, false, cond, List, [], ◌∷◌, filter, map, refl, ap, arith}
use Rattle.std.specs.List.{enumerate_from}
use Rattle.std.proofs.lemmas.Bool.Decides.{nat_tests}
use Rattle.lists.proofs.Lists.{all_filter}
use Rattle.frame_headers.specs.Layout.{payload_limit}
use Rattle.reassembly.specs.RecordedLines.{Line}
use Rattle.segment_writer.specs.OrderedLists.{NoneBelow, Ordered}
use Rattle.segment_writer.specs.Senders.{framed_by, line_written, opening_by, opening_written, own_side, peer_in, peer_side, turn_number}
use Rattle.segment_writer.specs.TimelyLines.{IsTimely}
use Rattle.segment_writer.specs.WrittenSegments.{SentSegment, below, is_key_below, segments_sent_by, sorted_by_key}
use Rattle.segment_writer.specs.declared.framed.SegKey.{SegKey}
use Rattle.segment_writer.specs.declared.senders.Sender.{Sender}
use Rattle.segment_writer.specs.declared.senders.Turn.TheVariants.{Opening}
use Rattle.segment_writer.proofs.InOrder.{ordered_is_sorted}
use Rattle.segment_writer.proofs.SentClimb.{line_climbs, SentClimbs}

later : (a b : SegKey) → a.moment ≤ b.moment → b.conn ≡ a.conn → b.turn ≡ a.turn → a.place < b.place → is_key_below b a ≡ false
later a b moment conn turn place = grind (arith, nat_tests)

ordered_filter : {X : Type 0} (lt : X → X → Bool) (p : X → Bool) (xs : List X) → Ordered lt xs → Ordered lt (filter p xs)
ordered_filter lt p [] ordered = tt
ordered_filter lt p (x ∷ xs) ordered = by (p x) (ordered_filter lt p xs ordered.1)
  where
    by : (b : Bool) → Ordered lt (filter p xs) → Ordered lt (cond b (x ∷ filter p xs) (filter p xs))
    by true rest = (all_filter (λ w. lt w x ≡ false) p xs ordered.0, rest)
    by false rest = rest

-- ---- a line

module _ (s : Sender) where
  none_below : (place n : ℕ) (x : SentSegment) (last : ℕ) (sent : List SentSegment) → place < n → x.at ≤ last → SentClimbs last sent → NoneBelow below (framed_by s (place, x)) (map (framed_by s) (enumerate_from n sent))
  none_below place n x last [] low up climb = tt
  none_below place n x last (y ∷ sent) low up climb =
      let next : last ≤ y.at = climb.0 in (
        later (framed_by s (place, x)).key (framed_by s (n, y)).key (omega arith) refl refl low,
        none_below place (n + 1) x y.at sent (omega arith) (omega arith) climb.1,
      )

  climb_ordered : (n last : ℕ) (sent : List SentSegment) → SentClimbs last sent → Ordered below (map (framed_by s) (enumerate_from n sent))
  climb_ordered n last [] climb = tt
  climb_ordered n last (x ∷ sent) climb = (none_below n (n + 1) x x.at sent (omega arith) (omega arith) climb.1, climb_ordered (n + 1) x.at sent climb.1)

pub line_in_order : (s : Sender) (own peer : Line) → IsTimely own → sorted_by_key (line_written s own peer) ≡ line_written s own peer
unfolding line_written
line_in_order s own peer timely =
    let sent : List SentSegment = segments_sent_by (own_side s own) (peer_side s peer) in
    ordered_is_sorted _ (ordered_filter below _ _
    (climb_ordered s 0 0 sent (line_climbs payload_limit payload_limit 0 (own_side s own) (peer_side s peer) 0 own.bytes timely.climbs)))

-- ---- the opening

pub opening_in_order : (refused : Bool) (client : Sender) (at : ℕ) → client.turn ≡ Opening
    → sorted_by_key (opening_written refused client (peer_in client Opening) at) ≡ opening_written refused client (peer_in client Opening) at
opening_in_order refused client at first = ordered_is_sorted _ (ordered_filter below _ _ (by refused))
  where
    zero : turn_number client.turn ≡ 0
    zero = ap turn_number first

    by : (b : Bool) → Ordered below (opening_by b client (peer_in client Opening) at)
    by true = ((grind (arith, nat_tests), tt), ((tt, tt)))
    by false = ((grind (arith, nat_tests), (grind (arith, nat_tests), tt)), ((grind (arith, nat_tests), tt), (tt, tt)))
