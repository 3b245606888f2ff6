-- The instants of a line's segments never fall, and none of them is written from the horizon on.
use Rattle.std.proofs.Common.{◌≡◌, ◌≤◌, ◌<◌, ℕ, ◌+◌, ◌-◌, ◌==◌, Bool, true, false, ◌||◌, List, [], ◌∷◌, length, map, refl, arith, if◌then◌else◌}
use Rattle.std.specs.List.{enumerate_from}
use Rattle.std.proofs.lemmas.Bool.{lt-ltb, le-ltb}
use Rattle.pcap_records.specs.Instants.{horizon, ticks_of}
use Rattle.reassembly.specs.RecordedLines.{LineByte, End, live, fin, close, reset}
use Rattle.reassembly.specs.LineLaws.{IsNotBefore}
use Rattle.reassembly.proofs.LineBytes.{IsNotBefore-weaker}
use Rattle.segment_writer.specs.WrittenSegments.{Piece, WrittenSide, SentSegment, pieces, pieces_led_by, is_chunk_border, end_segments, segments_sent_from, segments_before_horizon}
use Rattle.segment_writer.specs.TimelyLines.{Climbs}
use Rattle.segment_writer.specs.Senders.{framed_by}
use Rattle.segment_writer.specs.declared.framed.Framed.{Framed}
use Rattle.segment_writer.specs.declared.senders.Sender.{Sender}

-- ---- bytes

pub climbs_from : (low up : ℕ) (bytes : List LineByte) (end : End) → low ≤ up → Climbs up bytes end → Climbs low bytes end
climbs_from low up [] end h climbs = IsNotBefore-weaker low up end h climbs
climbs_from low up (b ∷ bytes) end h climbs = let up' : up ≤ b.at = climbs.0 in (omega arith, climbs.1)

pub climbs_live : (low : ℕ) (bytes : List LineByte) (end : End) → Climbs low bytes end → Climbs low bytes live
climbs_live low [] end climbs = tt
climbs_live low (b ∷ bytes) end climbs = (climbs.0, climbs_live b.at bytes end climbs.1)

-- ---- pieces

abbrev PiecesClimb : ℕ → List Piece → End → Type 0
PiecesClimb low [] end = IsNotBefore low end
PiecesClimb low (p ∷ ps) end = (low ≤ p.at) × PiecesClimb p.at ps end

pieces_from : (low up : ℕ) (ps : List Piece) (end : End) → low ≤ up → PiecesClimb up ps end → PiecesClimb low ps end
pieces_from low up [] end h climb = IsNotBefore-weaker low up end h climb
pieces_from low up (p ∷ ps) end h climb = let up' : up ≤ p.at = climb.0 in (omega arith, climb.1)

led_climb : (low : ℕ) (b : LineByte) (ps : List Piece) (end : End) → low ≤ b.at → PiecesClimb b.at ps end → PiecesClimb low (pieces_led_by b ps) end
led_climb low b [] end h climb = IsNotBefore-weaker low b.at end h climb
led_climb low b (p ∷ ps) end h climb = (h, pieces_from b.at p.at ps end climb.0 climb.1)

pieces_climb : (limit room low : ℕ) (bytes : List LineByte) (end : End) → Climbs low bytes end → PiecesClimb low (pieces limit room bytes) end
unfolding pieces
pieces_climb limit room low [] end climbs = climbs
pieces_climb limit room low (b ∷ bytes) end climbs =
    by (is_chunk_border bytes || room == 1) (pieces_climb limit limit b.at bytes end climbs.1) (led_climb low b (pieces limit (room - 1) bytes) end climbs.0 (pieces_climb limit (room - 1) b.at bytes end climbs.1))
  where
    by : (t : Bool) → PiecesClimb b.at (pieces limit limit bytes) end → PiecesClimb low (pieces_led_by b (pieces limit (room - 1) bytes)) end
        → PiecesClimb low (if t then record { at = b.at; bytes = b.value ∷ []; ends = is_chunk_border bytes } ∷ pieces limit limit bytes else pieces_led_by b (pieces limit (room - 1) bytes)) end
    by true rest led = (climbs.0, rest)
    by false rest led = led

-- ---- segments

abbrev pub SentClimbs : ℕ → List SentSegment → Type 0
SentClimbs low [] = Unit {0}
SentClimbs low (s ∷ sent) = (low ≤ s.at) × SentClimbs s.at sent

pub end_climbs : (low : ℕ) (own peer : WrittenSide) (n : ℕ) (end : End) → IsNotBefore low end → SentClimbs low (end_segments own peer n end)
end_climbs low own peer n live is = tt
end_climbs low own peer n (fin at) is = (is, tt)
end_climbs low own peer n (close at) is = (is, tt)
end_climbs low own peer n (reset at) is = (is, tt)

sent_climb : (low : ℕ) (own peer : WrittenSide) (n : ℕ) (ps : List Piece) → PiecesClimb low ps own.line.end → SentClimbs low (segments_sent_from own peer n ps)
unfolding segments_sent_from
sent_climb low own peer n [] climb = end_climbs low own peer n own.line.end climb
sent_climb low own peer n (p ∷ ps) climb = (climb.0, sent_climb p.at own peer (n + length p.bytes) ps climb.1)

pub line_climbs : (limit room low : ℕ) (own peer : WrittenSide) (n : ℕ) (bytes : List LineByte) → Climbs low bytes own.line.end → SentClimbs low (segments_sent_from own peer n (pieces limit room bytes))
line_climbs limit room low own peer n bytes climbs = sent_climb low own peer n (pieces limit room bytes) (pieces_climb limit room low bytes own.line.end climbs)

-- ---- what is written of them

abbrev pub written_from : Sender → ℕ → List SentSegment → List Framed
written_from s place sent = segments_before_horizon (ticks_of s.unit) (map (framed_by s) (enumerate_from place sent))

pub written_next : (s : Sender) (place : ℕ) (sent : SentSegment) (more : List SentSegment) → sent.at < horizon (ticks_of s.unit) → written_from s place (sent ∷ more) ≡ framed_by s (place, sent) ∷ written_from s (place + 1) more
written_next s place sent more early = rw (lt-ltb sent.at (horizon (ticks_of s.unit)) early) refl

pub written_late : (s : Sender) (place low : ℕ) (sent : List SentSegment) → horizon (ticks_of s.unit) ≤ low → SentClimbs low sent → written_from s place sent ≡ []
written_late s place low [] late climb = refl
written_late s place low (x ∷ sent) late climb =
    let up : low ≤ x.at = climb.0 in
    let late' : horizon (ticks_of s.unit) ≤ x.at = omega arith in
    rw (le-ltb x.at (horizon (ticks_of s.unit)) late') (written_late s (place + 1) x.at sent late' climb.1)
