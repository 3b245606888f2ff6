-- When connections open: in the recorded order, and after what they wait for.
use Rattle.std.specs.Prelude.{◌≡◌, ◌≤◌, ◌<◌, ℕ, ◌+◌, ◌-◌, min, max, Bool, if◌then◌else◌, List, [], ◌∷◌, map, Option, Some, None, option_map, option_and_then, unwrap_or, slice_get}
use Rattle.std.specs.List.{filter_map}
use Rattle.std.specs.Option.{IsSome, option_map_or, option_flatten}
use Rattle.std.specs.declared.cmp.Ordering.{Ordering}
use Rattle.std.specs.Ordering.{nat_cmp, ordering_then}
use Rattle.std.specs.BTreeMap.{BTreeMap, get}
use Rattle.pcap_records.specs.Instants.{greatest}
use Rattle.closed_loop.specs.declared.packets.Packet.{Packet}
use Rattle.closed_loop.specs.declared.forerunners.Forerunners.{Forerunners}
use Rattle.closed_loop.specs.Times.{time_at, instant_in, later, earlier, after}
use Rattle.closed_loop.specs.Scripts.{ScriptView, HearingView}

-- a connection: its script, the connections that it opens after, and what is delivered of it
pub record SessionView : Type 0 where
  pub script : ScriptView
  pub forerunners : Forerunners
  pub hearing : HearingView

-- ---- the connections that one opens after

-- under a key, the record at which a connection counts
abbrev pub ended_mark : ScriptView → Option (ℕ × ℕ)
ended_mark p = option_map (λ end. (p.client, end)) p.ended

abbrev pub opened_mark : ScriptView → Option (ℕ × ℕ)
opened_mark p = Some (p.ports, p.opening)

abbrev pub mark_at : List (Option (ℕ × ℕ)) → ℕ → Option (ℕ × ℕ)
mark_at marks i = option_flatten (slice_get marks i)

-- of the marks with a key that stand before a record, that at place `found` is the last one
abbrev pub IsLastBefore : List (Option (ℕ × ℕ)) → ℕ → ℕ → Option ℕ → Type 0
IsLastBefore marks key bound None = (i r : ℕ) → mark_at marks i ≡ Some (key, r) → bound ≤ r
IsLastBefore marks key bound (Some found) =
    (r : ℕ) × (mark_at marks found ≡ Some (key, r)) × (r < bound)
    × ((i s : ℕ) → mark_at marks i ≡ Some (key, s) → s < bound → s ≤ r)

abbrev pub mark_cmp : ℕ × ℕ → ℕ × ℕ → Ordering
mark_cmp a b = ordering_then (nat_cmp a.0 b.0) (nat_cmp a.1 b.1)

-- a map has each mark, and a place of it
pub record HasMarks (marks : List (Option (ℕ × ℕ))) (places : BTreeMap (ℕ × ℕ) ℕ) : Type 0 where
  pub each : (i : ℕ) (mark : ℕ × ℕ) → mark_at marks i ≡ Some mark → IsSome (get mark_cmp places mark)
  pub only : (i : ℕ) (mark : ℕ × ℕ) → get mark_cmp places mark ≡ Some i → mark_at marks i ≡ Some mark

-- of the connections of its client that had ended before its opening, the last one; and the last one before it of its peers and VLAN
pub record AreForerunners (scripts : List ScriptView) (p : ScriptView) (forerunners : Forerunners) : Type 0 where
  pub ended : IsLastBefore (map ended_mark scripts) p.client p.opening forerunners.ended
  pub ports : IsLastBefore (map opened_mark scripts) p.ports p.opening forerunners.ports

-- ---- ends

-- when a close or a reset came, or a disabled proxy refused the connection
abbrev pub cut_time : List (Option ℕ) → SessionView → Option ℕ
cut_time times x = if x.hearing.refused then time_at times x.script.opening else x.hearing.closed

-- when its client knows that it has ended
abbrev pub end_time : List (Option ℕ) → SessionView → Option ℕ
end_time times x =
    earlier (option_and_then (time_at times) x.script.farewell) (if x.hearing.refused then time_at times x.script.opening else x.hearing.told)

-- the last time at which it sends, or the cut that comes after it
abbrev pub last_time : List (Option ℕ) → SessionView → ℕ
last_time times x =
    max (max (instant_in times x.script.opening) (greatest (map (λ p. instant_in times p.number) x.script.packets)))
    (unwrap_or (cut_time times x) 0)

-- ---- openings

-- as long after the end of connection `number` as in the recording
abbrev pub turn_after : List (Option ℕ) → List (Option ℕ) → List SessionView → ℕ → ℕ → Option ℕ
turn_after recorded times all begin number =
    after (begin - option_map_or (λ y. instant_in recorded (unwrap_or y.script.ended 0)) (slice_get all number) 0)
    (option_and_then (end_time times) (slice_get all number))

-- in turn only if connections wait for one another
abbrev pub turn_time : List (Option ℕ) → List (Option ℕ) → Bool → List SessionView → SessionView → Option ℕ
turn_time recorded times in_turn all x =
    option_map_or (turn_after recorded times all (instant_in recorded x.script.opening))
    (if in_turn then x.forerunners.ended else None) (Some (instant_in recorded x.script.opening))

-- as long after all of connection `number` as in the recording
abbrev pub free_after : List (Option ℕ) → List (Option ℕ) → List SessionView → ℕ → ℕ → ℕ
free_after recorded times all begin number =
    option_map_or (last_time times) (slice_get all number) 0
    + (begin - option_map_or (λ y. instant_in recorded y.script.last) (slice_get all number) 0)

-- a port that is used again is free by then
abbrev pub free_time : List (Option ℕ) → List (Option ℕ) → List SessionView → SessionView → ℕ
free_time recorded times all x = option_map_or (free_after recorded times all (instant_in recorded x.script.opening)) x.forerunners.ports 0

-- in the recorded order, at the limit at the latest: so each connection opens, and keeps its number
abbrev pub opening_time : ℕ → ℕ → Option ℕ → ℕ → ℕ
opening_time limit before turn free = min limit (max before (max free (unwrap_or turn limit)))

abbrev pub AreOpened : List (Option ℕ) → List (Option ℕ) → Bool → ℕ → List SessionView → ℕ → List SessionView → Type 0
AreOpened recorded times in_turn limit all before [] = Unit {0}
AreOpened recorded times in_turn limit all before (x ∷ xs) =
    (time_at times x.script.opening ≡ Some (opening_time limit before (turn_time recorded times in_turn all x) (free_time recorded times all x)))
    × AreOpened recorded times in_turn limit all (instant_in times x.script.opening) xs
