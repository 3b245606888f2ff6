-- What toxics make of lines, and what is delivered of a connection.
use Rattle.std.proofs.Common.{◌≡◌, ◌≤◌, ◌<◌, ℕ, zero, suc, ◌+◌, ◌*◌, ◌^◌, Bool, true, false, List, [], ◌∷◌, ◌++◌, length, take, drop, map, nat_lt, get_or, Some, None, refl, sym, ap, ◌∙◌, subst, arith, Option}
use Rattle.std.proofs.lemmas.Bool.{ltb-true, cond_both}
use Rattle.std.proofs.lemmas.List.{drop_more, take_more, drop_all, take_all}
use Rattle.std.proofs.lemmas.Bool.Decides.{nat_tests}
use Rattle.lists.proofs.Lists.{all_push}
use Rattle.pcap_records.specs.Instants.{horizon, millisecond}
use Rattle.reassembly.specs.RecordedLines.{LineByte, Line, End, live, fin, close, reset, RecordedConnection, empty_line}
use Rattle.reassembly.specs.LineLaws.{IsInChunks, last_instant, IsNotBefore, IsLine, LiesBetween}
use Rattle.toxic_defs.specs.RandomWords.{word_of}
use Rattle.toxic_defs.specs.EndRule.{not_before, ended, is_before}
use Rattle.toxic_defs.specs.LimitData.{limited_end}
use Rattle.toxic_defs.specs.SlowClose.{slow_end}
use Rattle.toxic_defs.specs.Toxics.{RatedKind, IsInRange, applies, after, effect, run, chain_from, chain, AreInRange}
use Rattle.toxic_defs.specs.Laws.{ToxicsKeepLines, ChainsKeepLines, NoneApplies, IdleChainsChangeNothing, AreFrom, Delays, ToxicsDelay, ChainsDelay, DelaysRecorded, DeliveredIsRecorded}
use Rattle.toxic_defs.specs.declared.words.Key.{Key}
use Rattle.toxic_defs.specs.declared.kinds.Kind.{Kind}
use Rattle.toxic_defs.specs.declared.kinds.Kind.TheVariants.{Latency, Bandwidth, SlowClose, Timeout, ResetPeer, Slicer, LimitData}
use Rattle.toxic_defs.specs.DeliveredLines.{connection_by_cut, connection_by_proxy, delivered_connection}
use Rattle.toxic_defs.proofs.KeptBytes.{in_turn, from_recorded, instant_from, KeepsBytes, same_keeps, take_keeps, before_keeps}
use Rattle.toxic_defs.proofs.DelayingLaws.{late_keeps, rated_keeps, paced_keeps}
use Rattle.toxic_defs.proofs.CutLines.{recorded_lines_delay, cut_lines_delay}

end_stays_behind : (at : ℕ) (e : End) → IsNotBefore at (not_before at e)
end_stays_behind at live = tt
end_stays_behind at (fin m) = omega arith
end_stays_behind at (close m) = omega arith
end_stays_behind at (reset m) = omega arith

end_moves_on : (opened at : ℕ) (e : End) → IsNotBefore opened e → IsNotBefore opened (not_before at e)
end_moves_on opened at live h = tt
end_moves_on opened at (fin m) h = omega arith
end_moves_on opened at (close m) h = omega arith
end_moves_on opened at (reset m) h = omega arith

ended_line : (f : Line) → IsInChunks f.bytes → length f.bytes < 2 ^ 32 → IsLine (ended f)
ended_line f g short = record { chunks = g; ends = end_stays_behind (last_instant 0 f.bytes) f.end; short = short }

-- ---- one toxic

some_rate : (rate ppm : ℕ) → IsInRange (record { kind = Bandwidth rate; ppm = ppm }) → 0 < rate
some_rate rate ppm h = grind (arith, nat_tests)

effect_keeps : (ticks : ℕ) (random : ℕ → ℕ) (opened ppm : ℕ) (kind : Kind) (f : Line) → IsInRange (record { kind = kind; ppm = ppm }) → IsInChunks f.bytes
    → KeepsBytes (horizon ticks) f.bytes (effect ticks random opened kind f).bytes
effect_keeps ticks random opened ppm (Latency latency jitter) f r g = late_keeps ticks random latency jitter f.bytes g
effect_keeps ticks random opened ppm (Bandwidth rate) f r g = rated_keeps ticks rate f.bytes (some_rate rate ppm r) g
effect_keeps ticks random opened ppm (SlowClose delay) f r g = same_keeps (horizon ticks) f.bytes g
effect_keeps ticks random opened ppm (Timeout time) f r g = take_keeps (horizon ticks) 0 f.bytes g
effect_keeps ticks random opened ppm (ResetPeer time) f r g = before_keeps (horizon ticks) (after ticks opened time) f.bytes g
effect_keeps ticks random opened ppm (Slicer average variation delay) f r g = paced_keeps ticks random average variation delay f.bytes g
effect_keeps ticks random opened ppm (LimitData n) f r g = take_keeps (horizon ticks) n f.bytes g

after_opened : (ticks opened time : ℕ) → opened ≤ horizon ticks → opened ≤ after ticks opened time
after_opened ticks opened time h =
    let late : opened ≤ opened + millisecond ticks * time = omega arith in
    omega arith

effect_ends : (ticks : ℕ) (random : ℕ → ℕ) (opened : ℕ) (kind : Kind) (f : Line) → opened ≤ horizon ticks → AreFrom opened f.bytes → IsNotBefore opened f.end
    → IsNotBefore opened (effect ticks random opened kind f).end
effect_ends ticks random opened (Latency latency jitter) f h from e = e
effect_ends ticks random opened (Bandwidth rate) f h from e = e
effect_ends ticks random opened (SlowClose delay) f h from e = slow f.end e
  where
    slow : (end : End) → IsNotBefore opened end → IsNotBefore opened (slow_end (horizon ticks) (millisecond ticks * delay) end)
    slow live g = tt
    slow (fin at) g = let later : opened ≤ at + millisecond ticks * delay = omega arith in omega arith
    slow (close at) g = let later : opened ≤ at + millisecond ticks * delay = omega arith in omega arith
    slow (reset at) g = g
effect_ends ticks random opened (Timeout zero) f h from e = tt
effect_ends ticks random opened (Timeout (suc time)) f h from e = after_opened ticks opened (suc time) h
effect_ends ticks random opened (ResetPeer time) f h from e =
    cond_both (is_before (after ticks opened time) f.end) f.end (reset (after ticks opened time)) (IsNotBefore opened) (λ _. e) (λ _. after_opened ticks opened time h)
effect_ends ticks random opened (Slicer average variation delay) f h from e = e
effect_ends ticks random opened (LimitData n) f h from e =
    cond_both (nat_lt n (length f.bytes)) (Some (get_or (map (λ b. b.at) f.bytes) n 0)) None (λ next. IsNotBefore opened (limited_end next f.end))
    (λ more. instant_from opened n f.bytes (ltb-true n (length f.bytes) more) from) (λ _. e)

pub toxics_keep_lines : ToxicsKeepLines
unfolding run
toxics_keep_lines ticks toxic key opened f r h =
    let g : Line = effect ticks (word_of key) opened toxic.kind f in
    let keeps = effect_keeps ticks (word_of key) opened toxic.ppm toxic.kind f r h.chunks in
    let n = keeps.later.short in
    let m = h.short in
    cond_both (applies toxic key) (ended g) f IsLine (λ _. ended_line g keeps.chunks (omega (arith, n, m))) (λ _. h)

pub toxics_delay : ToxicsDelay
unfolding run
toxics_delay ticks toxic key opened recorded f r h from d =
    let g : Line = effect ticks (word_of key) opened toxic.kind f in
    let keeps = effect_keeps ticks (word_of key) opened toxic.ppm toxic.kind f r d.line.chunks in
    let n = keeps.later.short in
    let m = d.line.short in
    let ends = effect_ends ticks (word_of key) opened toxic.kind f h (from_recorded opened f.bytes recorded d.bytes from) d.ends in
    cond_both (applies toxic key) (ended g) f (Delays ticks opened recorded) (λ _. record {
      line = ended_line g keeps.chunks (omega (arith, n, m));
      in_time = keeps.later.in_time d.in_time;
      bytes = in_turn g.bytes f.bytes recorded (keeps.later.delays d.in_time) d.bytes;
      ends = end_moves_on opened (last_instant 0 g.bytes) g.end ends;
    }) (λ _. d)

-- ---- chains

chain_from_keeps : (ticks opened seed s c d t : ℕ) (toxics : List RatedKind) (f : Line) → AreInRange toxics → IsLine f → IsLine (chain_from ticks opened seed s c d t toxics f)
chain_from_keeps ticks opened seed s c d t [] f r h = h
chain_from_keeps ticks opened seed s c d t (toxic ∷ toxics) f r h =
    let key : Key = record { seed = seed; s = s; c = c; d = d; t = t } in
    chain_from_keeps ticks opened seed s c d (t + 1) toxics (run ticks toxic key opened f) r.1 (toxics_keep_lines ticks toxic key opened f r.0 h)

pub chains_keep_lines : ChainsKeepLines
unfolding chain
chains_keep_lines ticks toxics opened seed s c d f r h = chain_from_keeps ticks opened seed s c d 0 toxics f r h

chain_from_delays : (ticks opened seed s c d t : ℕ) (toxics : List RatedKind) (recorded : List LineByte) (f : Line) → AreInRange toxics → opened ≤ horizon ticks → AreFrom opened recorded
    → Delays ticks opened recorded f → Delays ticks opened recorded (chain_from ticks opened seed s c d t toxics f)
chain_from_delays ticks opened seed s c d t [] recorded f r h from g = g
chain_from_delays ticks opened seed s c d t (toxic ∷ toxics) recorded f r h from g =
    let key : Key = record { seed = seed; s = s; c = c; d = d; t = t } in
    chain_from_delays ticks opened seed s c d (t + 1) toxics recorded (run ticks toxic key opened f) r.1 h from (toxics_delay ticks toxic key opened recorded f r.0 h from g)

pub chains_delay : ChainsDelay
unfolding chain
chains_delay ticks toxics opened seed s c d recorded f r h from g = chain_from_delays ticks opened seed s c d 0 toxics recorded f r h from g

pub applied_run : (ticks : ℕ) (toxic : RatedKind) (key : Key) (opened : ℕ) (f : Line) → applies toxic key ≡ true → run ticks toxic key opened f ≡ ended (effect ticks (word_of key) opened toxic.kind f)
unfolding run
applied_run ticks toxic key opened f does = rw does refl

pub idle_run : (ticks : ℕ) (toxic : RatedKind) (key : Key) (opened : ℕ) (f : Line) → applies toxic key ≡ false → run ticks toxic key opened f ≡ f
unfolding run
idle_run ticks toxic key opened f idle = rw idle refl

idle_chain : (ticks opened seed s c d t : ℕ) (toxics : List RatedKind) (f : Line) → NoneApplies seed s c d t toxics → chain_from ticks opened seed s c d t toxics f ≡ f
idle_chain ticks opened seed s c d t [] f idle = refl
idle_chain ticks opened seed s c d t (toxic ∷ toxics) f idle =
    ap (chain_from ticks opened seed s c d (t + 1) toxics) (idle_run ticks toxic (record { seed = seed; s = s; c = c; d = d; t = t }) opened f idle.0)
    ∙ idle_chain ticks opened seed s c d (t + 1) toxics f idle.1

pub idle_chains_change_nothing : IdleChainsChangeNothing
unfolding chain
idle_chains_change_nothing ticks toxics opened seed s c d f idle = idle_chain ticks opened seed s c d 0 toxics f idle

-- ---- a step of a chain

pub chain_step : (ticks opened seed s c d t : ℕ) (toxics : List RatedKind) (toxic : RatedKind) (f g whole : Line) → t < length toxics → toxic ≡ get_or toxics t toxic
    → g ≡ run ticks toxic (record { seed = seed; s = s; c = c; d = d; t = t }) opened f
    → chain_from ticks opened seed s c d t (drop t toxics) f ≡ whole → chain_from ticks opened seed s c d (t + 1) (drop (t + 1) toxics) g ≡ whole
chain_step ticks opened seed s c d t toxics toxic f g whole lt is step done =
    let next : drop t toxics ≡ toxic ∷ drop (t + 1) toxics = drop_more toxics t toxic lt ∙ ap (λ (x : RatedKind). x ∷ drop (t + 1) toxics) (sym is) in
    ap (chain_from ticks opened seed s c d (t + 1) (drop (t + 1) toxics)) step ∙ ap (λ ts. chain_from ticks opened seed s c d t ts f) (sym next) ∙ done

pub range_step : (t : ℕ) (toxics : List RatedKind) (toxic : RatedKind) → t < length toxics → toxic ≡ get_or toxics t toxic → IsInRange toxic → AreInRange (take t toxics) → AreInRange (take (t + 1) toxics)
range_step t toxics toxic lt is r rs =
    let more : take (t + 1) toxics ≡ take t toxics ++ toxic ∷ [] = take_more toxics t toxic lt ∙ ap (λ (x : RatedKind). take t toxics ++ x ∷ []) (sym is) in
    subst AreInRange (sym more) (all_push IsInRange (take t toxics) toxic rs r)

pub chain_end : (ticks opened seed s c d t : ℕ) (toxics : List RatedKind) (f whole : Line) → length toxics ≤ t → chain_from ticks opened seed s c d t (drop t toxics) f ≡ whole → f ≡ whole
chain_end ticks opened seed s c d t toxics f whole le done = sym (ap (λ ts. chain_from ticks opened seed s c d t ts f) (drop_all t toxics le)) ∙ done

pub range_end : (t : ℕ) (toxics : List RatedKind) → length toxics ≤ t → AreInRange (take t toxics) → AreInRange toxics
range_end t toxics le h = subst AreInRange (take_all t toxics le) h

-- ---- what is delivered of a connection

as_recorded : (ticks opened : ℕ) (f : Line) → IsLine f → LiesBetween opened (horizon ticks) f → Delays ticks opened f.bytes f
as_recorded ticks opened f line between = recorded_lines_delay ticks opened f line between.to between.ends

through : (ticks seed s c d opened : ℕ) (toxics : List RatedKind) (f : Line) → AreInRange toxics → opened ≤ horizon ticks → IsLine f → LiesBetween opened (horizon ticks) f
    → Delays ticks opened f.bytes (chain ticks toxics opened seed s c d f)
through ticks seed s c d opened toxics f ranges early line between =
    chains_delay ticks toxics opened seed s c d f.bytes f ranges early between.from (as_recorded ticks opened f line between)

cut : (ticks opened : ℕ) (proxy : Option ℕ) (r : RecordedConnection) (up down : Line) → Delays ticks r.opened r.up.line.bytes up → Delays ticks r.opened r.down.line.bytes down
    → DelaysRecorded ticks r (connection_by_cut ticks proxy up down)
cut ticks opened proxy r up down is_up is_down = record {
  up = cut_lines_delay ticks r.opened r.up.line.bytes up down up is_up.ends is_down.ends is_up;
  down = cut_lines_delay ticks r.opened r.down.line.bytes up down down is_up.ends is_down.ends is_down;
}

nothing : (ticks opened : ℕ) (recorded : List LineByte) → Delays ticks opened recorded empty_line
nothing ticks opened recorded = record { line = record { chunks = tt; ends = tt; short = omega arith }; in_time = tt; bytes = tt; ends = tt }

pub delivered_is_recorded : DeliveredIsRecorded
unfolding delivered_connection
delivered_is_recorded ticks seed s c None r ranges is =
    cut ticks r.opened None r r.up.line r.down.line (as_recorded ticks r.opened r.up.line is.up is.up_between) (as_recorded ticks r.opened r.down.line is.down is.down_between)
delivered_is_recorded ticks seed s c (Some met) r ranges is = by met.enabled
  where
    by : (b : Bool) → DelaysRecorded ticks r (connection_by_proxy b ticks seed s c met r)
    by true =
        cut ticks r.opened (Some met.number) r (chain ticks met.up r.opened seed s c 0 r.up.line) (chain ticks met.down r.opened seed s c 1 r.down.line)
        (through ticks seed s c 0 r.opened met.up r.up.line ranges.0 is.opened is.up is.up_between)
        (through ticks seed s c 1 r.opened met.down r.down.line ranges.1 is.opened is.down is.down_between)
    by false = record { up = nothing ticks r.opened r.up.line.bytes; down = nothing ticks r.opened r.down.line.bytes }
