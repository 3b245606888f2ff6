-- The session cut: the first close or reset of either direction ends both, and nothing is delivered at the horizon.
use Rattle.std.specs.Prelude.{ℕ, ◌+◌, min, filter, Option, Some, None, Bool, true, nat_lt, nat_le, if◌then◌else◌}
use Rattle.pcap_records.specs.Instants.{horizon}
use Rattle.reassembly.specs.RecordedLines.{Line, End, live, fin, close, reset}
use Rattle.reassembly.specs.LineView.{end_view}
use Rattle.toxic_defs.specs.EndRule.{is_before}
use Rattle.toxic_defs.specs.declared.session_cut.Closing.{Closing}

-- a closing: a close or a reset, with its instant
abbrev pub closing_end : End → Option (ℕ × End)
closing_end live = None
closing_end (fin at) = None
closing_end (close at) = Some (at, close at)
closing_end (reset at) = Some (at, reset at)

-- the earlier closing, or the first of two at one instant
abbrev pub first_closing : Option (ℕ × End) → Option (ℕ × End) → Option (ℕ × End)
first_closing None d = d
first_closing (Some u) None = Some u
first_closing (Some u) (Some d) = if nat_le u.0 d.0 then Some u else Some d

-- whether an end comes after an instant; this holds of an end that never comes
abbrev pub is_after : ℕ → End → Bool
is_after c live = true
is_after c (fin at) = nat_lt c at
is_after c (close at) = nat_lt c at
is_after c (reset at) = nat_lt c at

-- ---- the cut

-- the bytes up to the closing's instant stay, and an end after it becomes the closing
abbrev pub line_up_to : Option (ℕ × End) → Line → Line
line_up_to None f = f
line_up_to (Some c) f = record {
  bytes = filter (λ b. nat_le b.at c.0) f.bytes;
  end = if is_after c.0 f.end then c.1 else f.end;
}

-- bytes at the limit or after it are dropped, and an end there never comes
abbrev pub line_before : ℕ → Line → Line
line_before limit f = record {
  bytes = filter (λ b. nat_lt b.at limit) f.bytes;
  end = if is_before limit f.end then f.end else live;
}

-- one direction, cut at the first closing of either; if both close at one instant before the horizon, each keeps its end
unfoldable pub cut_line : ℕ → Line → Line → Line → Line
cut_line ticks up down f = line_before (horizon ticks) (line_up_to (first_closing (closing_end up.end) (closing_end down.end)) f)

-- ---- what contracts see

abbrev pub closing_view : Closing → ℕ × End
closing_view c = (c.at, end_view c.end)

-- the first instant whose bytes are dropped: the one after the closing, or the limit
abbrev pub cut_instant : ℕ → Option (ℕ × End) → ℕ
cut_instant limit None = limit
cut_instant limit (Some c) = min (c.0 + 1) limit
