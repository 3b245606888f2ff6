-- Bytes that leave later, one after another: chunks stay chunks, and none leaves before it came.
use Rattle.std.proofs.Common.{◌≡◌, ◌≤◌, ℕ, suc, Bool, true, false, cond, List, [], ◌∷◌, ◌++◌, length, refl, ap, ◌∙◌, arith}
use Rattle.std.proofs.Math.Nat.{le_refl}
use Rattle.std.proofs.lemmas.List.{append-nil, length_push, map-append}
use Rattle.reassembly.specs.RecordedLines.{LineByte}
use Rattle.reassembly.specs.LineLaws.{GoesOn, IsInChunks}
use Rattle.toxic_defs.specs.DelayedBytes.{begins, instants_of, latest, along, moved}
use Rattle.toxic_defs.specs.Laws.{DelaysFirst, AreUpTo}
use Rattle.toxic_defs.proofs.FirstBytes.{chunks_go_on}
use Rattle.toxic_defs.proofs.KeptBytes.{DelaysBytes}
use Rattle.toxic_defs.proofs.MovedParts.{begins-append}
use Rattle.toxic_defs.proofs.Latest.{GivesInTurn, latest_rises, latest_own, latest_low}

-- no byte leaves before the one before it or past the limit, and no first byte of a chunk before its own instant
pub record LeavesInTurn (limit : ℕ) (leaves : List LineByte → ℕ) : Type 0 where
  pub rises : (front : List LineByte) (b : LineByte) → leaves front ≤ leaves (front ++ b ∷ [])
  pub own : (front : List LineByte) (b : LineByte) → b.starts ≡ true → b.at ≤ limit → b.at ≤ leaves (front ++ b ∷ [])
  pub low : (bytes : List LineByte) → leaves bytes ≤ limit

-- ---- by the instants at which chunks begin

begins_with : (front : List LineByte) (b : LineByte) → b.starts ≡ true → begins (front ++ b ∷ []) ≡ begins front ++ b.at ∷ []
begins_with front b s = begins-append front (b ∷ []) ∙ ap (λ t. begins front ++ cond t (b.at ∷ []) []) s

pub begins_same : (front : List LineByte) (b : LineByte) → b.starts ≡ false → begins (front ++ b ∷ []) ≡ begins front
begins_same front b s = begins-append front (b ∷ []) ∙ ap (λ t. begins front ++ cond t (b.at ∷ []) []) s ∙ append-nil (begins front)

pub by_chunks : (limit : ℕ) (f : ℕ → ℕ → ℕ → ℕ) → GivesInTurn limit f → LeavesInTurn limit (λ bs. latest (f (length (begins bs))) (begins bs))
by_chunks limit f gives = record {
  rises = λ front b. rises front b b.starts refl;
  own = λ front b s h. rw (begins_with front b s) (latest_own limit f gives _ (begins front) b.at h);
  low = λ bs. latest_low limit (f (length (begins bs))) 0 (begins bs) (gives.low (length (begins bs)));
}
  where
    rises : (front : List LineByte) (b : LineByte) (s : Bool) → b.starts ≡ s
        → latest (f (length (begins front))) (begins front) ≤ latest (f (length (begins (front ++ b ∷ [])))) (begins (front ++ b ∷ []))
    rises front b true s = rw (begins_with front b s, length_push (begins front) b.at) (latest_rises limit f gives (length (begins front)) (begins front) b.at)
    rises front b false s = rw (begins_same front b s) (le_refl (latest (f (length (begins front))) (begins front)))

-- ---- by the instants of all bytes

pushed_instants : (front : List LineByte) (b : LineByte) → instants_of (front ++ b ∷ []) ≡ instants_of front ++ b.at ∷ []
pushed_instants front b = map-append (λ x. x.at) front (b ∷ [])

pub by_bytes : (limit : ℕ) (f : ℕ → ℕ → ℕ → ℕ) → GivesInTurn limit f → LeavesInTurn limit (λ bs. latest (f (length bs)) (instants_of bs))
by_bytes limit f gives = record {
  rises = λ front b. rw (pushed_instants front b, length_push front b) (latest_rises limit f gives (length front) (instants_of front) b.at);
  own = λ front b _ h. rw (pushed_instants front b) (latest_own limit f gives _ (instants_of front) b.at h);
  low = λ bs. latest_low limit (f (length bs)) 0 (instants_of bs) (gives.low (length bs));
}

-- ---- bytes that leave in turn

length-along : (leaves : List LineByte → ℕ) (before bytes : List LineByte) → length (along leaves before bytes) ≡ length bytes
length-along leaves before [] = refl
length-along leaves before (b ∷ bytes) = ap suc (length-along leaves (before ++ b ∷ []) bytes)

abbrev pub NeverFalls : ℕ → List LineByte → Type 0
NeverFalls last [] = Unit {0}
NeverFalls last (b ∷ bytes) = (last ≤ b.at) × NeverFalls b.at bytes

module _ (limit : ℕ) (leaves : List LineByte → ℕ) (turn : LeavesInTurn limit leaves) where
  along_low : (before bytes : List LineByte) → AreUpTo limit (along leaves before bytes)
  along_low before [] = tt
  along_low before (b ∷ bytes) = (turn.low (before ++ b ∷ []), along_low (before ++ b ∷ []) bytes)

  not_early : (before bytes : List LineByte) (last : ℕ) → GoesOn last bytes → last ≤ leaves before → AreUpTo limit bytes → DelaysFirst (along leaves before bytes) bytes
  not_early before [] last go le up = tt
  not_early before (b ∷ bytes) last go le up =
      let own : b.at ≤ leaves (before ++ b ∷ []) = by b.starts refl in
      (refl, own, not_early (before ++ b ∷ []) bytes b.at go.2 own up.1)
    where
      by : (s : Bool) → b.starts ≡ s → b.at ≤ leaves (before ++ b ∷ [])
      by true s = turn.own before b s up.0
      by false s = let rises = turn.rises before b in let same = go.1 s in omega arith

  pub moved_delays : (bytes : List LineByte) → IsInChunks bytes → DelaysBytes limit bytes (moved leaves bytes)
  moved_delays bytes go = record {
    short = let n = length-along leaves [] bytes in omega arith;
    in_time = λ up. along_low [] bytes;
    delays = not_early [] bytes 0 (chunks_go_on bytes go) (omega arith);
  }

  -- if bytes that start no chunk leave with those before, chunks stay chunks
  pub chunks_move : ((front : List LineByte) (b : LineByte) → b.starts ≡ false → leaves (front ++ b ∷ []) ≡ leaves front) → (bytes : List LineByte) → IsInChunks bytes → IsInChunks (moved leaves bytes)
  chunks_move stays [] go = tt
  chunks_move stays (b ∷ bytes) go = (go.0, go_on (b ∷ []) bytes)
    where
      go_on : (before bytes : List LineByte) → GoesOn (leaves before) (along leaves before bytes)
      go_on before [] = tt
      go_on before (c ∷ bytes) = (turn.rises before c, stays before c, go_on (before ++ c ∷ []) bytes)

  pub never_falls : (before bytes : List LineByte) → NeverFalls (leaves before) (along leaves before bytes)
  never_falls before [] = tt
  never_falls before (b ∷ bytes) = (turn.rises before b, never_falls (before ++ b ∷ []) bytes)
