-- What the toxics that delay bytes keep of a line's bytes: slices, chunks that leave as one, and the toxics.
use Rattle.std.proofs.Common.{◌≡◌, ◌≤◌, ℕ, suc, ◌+◌, ◌-◌, arith, ◌==◌, ◌||◌, Bool, true, false, cond, List, [], ◌∷◌, length, refl, sym, ap, subst, ◌<◌, ◌*◌, min}
use Rattle.std.proofs.Math.Nat.{le_trans, le_refl}
use Rattle.std.proofs.lemmas.Bool.{cond_both}
use Rattle.reassembly.specs.RecordedLines.{LineByte}
use Rattle.reassembly.specs.LineLaws.{GoesOn, IsInChunks}
use Rattle.pcap_records.specs.Instants.{horizon, millisecond, microsecond}
use Rattle.toxic_defs.specs.DelayedBytes.{at_instant, begins, latest, along, moved}
use Rattle.toxic_defs.specs.Slices.{sliced}
use Rattle.toxic_defs.specs.Bandwidth.{joined, settled, ceiling, bandwidth_leaves, rated_size, rated_bytes}
use Rattle.toxic_defs.specs.Laws.{DelaysFirst, AreUpTo}
use Rattle.toxic_defs.specs.Slicer.{slice_size, slicer_leaves, paced_bytes}
use Rattle.toxic_defs.specs.Latency.{drawn_delay, late_bytes}
use Rattle.toxic_defs.proofs.KeptBytes.{KeepsBytes, both_delay, same_keeps}
use Rattle.toxic_defs.proofs.MovedLaws.{LeavesInTurn, by_chunks, by_bytes, begins_same, NeverFalls, moved_delays, chunks_move, never_falls}
use Rattle.toxic_defs.proofs.Latest.{GivesInTurn, late_gives, paced_gives, rate_gives}

-- ---- slices

-- bytes that get more marks, after an instant
record GetsMarks (limit last : ℕ) (bytes cut : List LineByte) : Type 0 where
  pub goes : GoesOn last cut
  pub same : length cut ≡ length bytes
  pub in_time : AreUpTo limit bytes → AreUpTo limit cut
  pub front : DelaysFirst cut bytes

sliced_marks : (limit last : ℕ) (size : ℕ → ℕ) (k left : ℕ) (bytes : List LineByte) → GoesOn last bytes → GetsMarks limit last bytes (sliced size k left bytes)
sliced_marks limit last size k left [] go = record { goes = tt; same = refl; in_time = λ up. tt; front = tt }
sliced_marks limit last size k left (b ∷ bytes) go =
    cond_both (b.starts || left == 0) (record { value = b.value; at = b.at; starts = true } ∷ sliced size (k + 1) (size k - 1) bytes) (b ∷ sliced size k (left - 1) bytes) (GetsMarks limit last (b ∷ bytes))
    (λ _. one true (λ h. absurd (cc h)) (sliced size (k + 1) (size k - 1) bytes) (sliced_marks limit b.at size (k + 1) (size k - 1) bytes go.2))
    (λ _. one b.starts (λ h. h) (sliced size k (left - 1) bytes) (sliced_marks limit b.at size k (left - 1) bytes go.2))
  where
    one : (s : Bool) → (s ≡ false → b.starts ≡ false) → (cut : List LineByte) → GetsMarks limit b.at bytes cut → GetsMarks limit last (b ∷ bytes) (record { value = b.value; at = b.at; starts = s } ∷ cut)
    one s only cut rest = record {
      goes = (go.0, (λ h. go.1 (only h)), rest.goes);
      same = ap suc rest.same;
      in_time = λ up. (up.0, rest.in_time up.1);
      front = (refl, le_refl b.at, rest.front);
    }

pub sliced_keeps : (limit : ℕ) (size : ℕ → ℕ) (bytes : List LineByte) → IsInChunks bytes → KeepsBytes limit bytes (sliced size 0 0 bytes)
sliced_keeps limit size [] go = same_keeps limit [] go
sliced_keeps limit size (b ∷ bytes) go =
    let rest = sliced_marks limit b.at size (0 + 1) (size 0 - 1) bytes go.1 in
    let n = rest.same in
    rw go.0 (record {
      chunks = (refl, rest.goes);
      later = record { short = omega arith; in_time = λ up. (up.0, rest.in_time up.1); delays = λ up. (refl, le_refl b.at, rest.front) };
    })

-- when a byte at `at` leaves, with those after it
abbrev pub leaving : ℕ → List LineByte → ℕ
leaving at [] = at
leaving at (b ∷ bytes) = cond b.starts at b.at

pub joined_is : (b : LineByte) (bytes : List LineByte) → joined b bytes ≡ at_instant (leaving b.at bytes) b
joined_is b [] = refl
joined_is b (x ∷ bytes) = cond_both x.starts b (at_instant x.at b) (λ c. c ≡ at_instant (cond x.starts b.at x.at) b) (λ s. rw s refl) (λ s. rw s refl)

-- a byte before settled ones is not early, they go on after it, and it is not past a limit
record GoesAfter (limit : ℕ) (b : LineByte) (bytes : List LineByte) : Type 0 where
  pub later : b.at ≤ leaving b.at bytes
  pub goes : GoesOn (leaving b.at bytes) bytes
  pub low : b.at ≤ limit → AreUpTo limit bytes → leaving b.at bytes ≤ limit

before_one : (limit : ℕ) (b c : LineByte) (bytes : List LineByte) → b.at ≤ c.at → GoesOn c.at bytes → GoesAfter limit b (c ∷ bytes)
before_one limit b c bytes later goes = by c.starts refl
  where
    by : (s : Bool) → c.starts ≡ s → GoesAfter limit b (c ∷ bytes)
    by true s = record { later = rw s (le_refl b.at); goes = rw s (later, (λ h. absurd (cc h)), goes); low = λ h up. rw s h }
    by false s = record { later = rw s later; goes = rw s (le_refl c.at, (λ h. refl), goes); low = λ h up. rw s up.0 }

record Settles (limit : ℕ) (b : LineByte) (bytes : List LineByte) : Type 0 where
  pub after : GoesAfter limit b (settled bytes)
  pub same : length (settled bytes) ≡ length bytes
  pub in_time : AreUpTo limit bytes → AreUpTo limit (settled bytes)
  pub front : DelaysFirst (settled bytes) bytes

settles : (limit : ℕ) (b : LineByte) (bytes : List LineByte) → NeverFalls b.at bytes → Settles limit b bytes
settles limit b [] never = record { after = record { later = le_refl b.at; goes = tt; low = λ h up. h }; same = refl; in_time = λ up. tt; front = tt }
settles limit b (next ∷ bytes) never =
    let rest = settles limit next bytes never.1 in
    let x : LineByte = at_instant (leaving next.at (settled bytes)) next in
    let is : settled (next ∷ bytes) ≡ x ∷ settled bytes = ap (λ c. c ∷ settled bytes) (joined_is next (settled bytes)) in
    record {
      after = subst (GoesAfter limit b) (sym is) (before_one limit b x (settled bytes) (le_trans never.0 rest.after.later) rest.after.goes);
      same = ap suc rest.same;
      in_time = λ up. subst (AreUpTo limit) (sym is) (rest.after.low up.0 (rest.in_time up.1), rest.in_time up.1);
      front = subst (λ bs. DelaysFirst bs (next ∷ bytes)) (sym is) (refl, rest.after.later, rest.front);
    }

settled_keeps : (limit : ℕ) (b : LineByte) (bytes : List LineByte) → b.starts ≡ true → NeverFalls b.at bytes → KeepsBytes limit (b ∷ bytes) (settled (b ∷ bytes))
settled_keeps limit b bytes s never =
    let rest = settles limit b bytes never in
    let n = rest.same in
    subst (λ c. KeepsBytes limit (b ∷ bytes) (c ∷ settled bytes)) (sym (joined_is b (settled bytes))) (record {
      chunks = (s, rest.after.goes);
      later = record { short = omega arith; in_time = λ up. (rest.after.low up.0 (rest.in_time up.1), rest.in_time up.1); delays = λ up. (refl, rest.after.later, rest.front) };
    })

-- ---- the toxics

chunks_keep : (limit : ℕ) (f : ℕ → ℕ → ℕ → ℕ) → GivesInTurn limit f → (bytes : List LineByte) → IsInChunks bytes → KeepsBytes limit bytes (moved (λ bs. latest (f (length (begins bs))) (begins bs)) bytes)
chunks_keep limit f gives bytes go =
    let leaves : List LineByte → ℕ = λ bs. latest (f (length (begins bs))) (begins bs) in
    let turn : LeavesInTurn limit leaves = by_chunks limit f gives in
    record {
      chunks = chunks_move limit leaves turn (λ front b s. ap (λ ats. latest (f (length ats)) ats) (begins_same front b s)) bytes go;
      later = moved_delays limit leaves turn bytes go;
    }

pub late_keeps : (ticks : ℕ) (random : ℕ → ℕ) (latency jitter : ℕ) (bytes : List LineByte) → IsInChunks bytes → KeepsBytes (horizon ticks) bytes (late_bytes ticks random latency jitter bytes)
late_keeps ticks random latency jitter bytes go =
    let delay : ℕ → ℕ = drawn_delay ticks random latency jitter in
    chunks_keep (horizon ticks) (λ n j at. min (at + delay j) (horizon ticks)) (late_gives (horizon ticks) delay) bytes go

pub paced_keeps : (ticks : ℕ) (random : ℕ → ℕ) (average variation delay : ℕ) (bytes : List LineByte) → IsInChunks bytes
    → KeepsBytes (horizon ticks) bytes (paced_bytes ticks random average variation delay bytes)
paced_keeps ticks random average variation delay bytes go =
    let limit : ℕ = horizon ticks in
    let gap : ℕ = microsecond ticks * delay in
    let slices : List LineByte = sliced (slice_size random average variation) 0 0 bytes in
    let cut : KeepsBytes limit bytes slices = sliced_keeps limit (slice_size random average variation) bytes go in
    let kept = chunks_keep limit (λ n j at. min (at + (n - 1 - j) * gap) limit) (paced_gives limit gap) slices cut.chunks in
    record { chunks = kept.chunks; later = both_delay limit bytes slices (moved (slicer_leaves limit gap) slices) cut.later kept.later }

rate_keeps : (limit ticks rate : ℕ) → 0 < rate → (bytes : List LineByte) → IsInChunks bytes → KeepsBytes limit bytes (settled (moved (bandwidth_leaves limit ticks rate) bytes))
rate_keeps limit ticks rate some [] go = same_keeps limit [] go
rate_keeps limit ticks rate some (b ∷ bytes) go =
    let leaves : List LineByte → ℕ = bandwidth_leaves limit ticks rate in
    let turn : LeavesInTurn limit leaves = by_bytes limit (λ n y at. min (at + ceiling ((n - y) * ticks) rate) limit) (rate_gives limit ticks rate some) in
    let later : List LineByte = along leaves (b ∷ []) bytes in
    let kept = settled_keeps limit (at_instant (leaves (b ∷ [])) b) later go.0 (never_falls limit leaves turn (b ∷ []) bytes) in
    record { chunks = kept.chunks; later = both_delay limit (b ∷ bytes) (moved leaves (b ∷ bytes)) (settled (moved leaves (b ∷ bytes))) (moved_delays limit leaves turn (b ∷ bytes) go) kept.later }

pub rated_keeps : (ticks rate : ℕ) (bytes : List LineByte) → 0 < rate → IsInChunks bytes → KeepsBytes (horizon ticks) bytes (rated_bytes ticks rate bytes)
rated_keeps ticks rate bytes some go =
    let limit : ℕ = horizon ticks in
    let slices : List LineByte = sliced (rated_size rate) 0 0 bytes in
    let cut : KeepsBytes limit bytes slices = sliced_keeps limit (rated_size rate) bytes go in
    let kept = rate_keeps limit (millisecond ticks) rate some slices cut.chunks in
    record { chunks = kept.chunks; later = both_delay limit bytes slices (rated_bytes ticks rate bytes) cut.later kept.later }
