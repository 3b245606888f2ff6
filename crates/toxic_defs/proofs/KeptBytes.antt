-- Bytes that are the first of others, none earlier than there; and what a toxic keeps of a line's bytes.
use Rattle.std.proofs.Common.{◌≤◌, ◌<◌, ℕ, zero, suc, List, [], ◌∷◌, length, take, map, get_or, refl, sym, ap, ◌∙◌, subst, arith}
use Rattle.std.proofs.Math.Nat.{le_trans, le_refl}
use Rattle.std.proofs.lemmas.List.{length-take}
use Rattle.reassembly.specs.RecordedLines.{LineByte}
use Rattle.reassembly.specs.LineLaws.{IsInChunks}
use Rattle.lists.proofs.Lists.{all_take}
use Rattle.toxic_defs.specs.Laws.{DelaysFirst, AreFrom, values_of, DelayedBytesAreTheFirst, AreUpTo}
use Rattle.toxic_defs.proofs.FirstBytes.{bytes_before, first_stay, chunks_go_on, taken_in_chunks}

pub itself : (bytes : List LineByte) → DelaysFirst bytes bytes
itself [] = tt
itself (b ∷ bytes) = (refl, le_refl b.at, itself bytes)

pub in_turn : (xs ys zs : List LineByte) → DelaysFirst xs ys → DelaysFirst ys zs → DelaysFirst xs zs
in_turn [] ys zs f g = tt
in_turn (x ∷ xs) [] zs f g = absurd f
in_turn (x ∷ xs) (y ∷ ys) [] f g = absurd g
in_turn (x ∷ xs) (y ∷ ys) (z ∷ zs) f g = (f.0 ∙ g.0, le_trans g.1 f.1, in_turn xs ys zs f.2 g.2)

-- ---- the first n bytes

pub taken : (n : ℕ) (xs ys : List LineByte) → DelaysFirst xs ys → DelaysFirst (take n xs) ys
taken zero xs ys f = tt
taken (suc n) [] ys f = tt
taken (suc n) (x ∷ xs) [] f = absurd f
taken (suc n) (x ∷ xs) (y ∷ ys) f = (f.0, f.1, taken n xs ys f.2)

pub from_recorded : (opened : ℕ) (xs ys : List LineByte) → DelaysFirst xs ys → AreFrom opened ys → AreFrom opened xs
from_recorded opened [] ys f h = tt
from_recorded opened (x ∷ xs) [] f h = absurd f
from_recorded opened (x ∷ xs) (y ∷ ys) f h = (le_trans h.0 f.1, from_recorded opened xs ys f.2 h.1)

pub instant_from : (opened n : ℕ) (bytes : List LineByte) → n < length bytes → AreFrom opened bytes → opened ≤ get_or (map (λ b. b.at) bytes) n 0
instant_from opened n [] lt h = absurd (omega arith)
instant_from opened zero (b ∷ bytes) lt h = h.0
instant_from opened (suc n) (b ∷ bytes) lt h = instant_from opened n bytes (omega arith) h.1

pub the_first : DelayedBytesAreTheFirst
the_first [] recorded f = refl
the_first (b ∷ bytes) [] f = absurd f
the_first (b ∷ bytes) (was ∷ recorded) f = ap (λ v. v ∷ values_of bytes) f.0 ∙ ap (λ vs. was.value ∷ vs) (the_first bytes recorded f.2)

-- ---- what a toxic does: chunks, of no more bytes, none past a limit or earlier than it was

pub record DelaysBytes (limit : ℕ) (before after : List LineByte) : Type 0 where
  pub short : length after ≤ length before
  pub in_time : AreUpTo limit before → AreUpTo limit after
  pub delays : AreUpTo limit before → DelaysFirst after before

pub record KeepsBytes (limit : ℕ) (before after : List LineByte) : Type 0 where
  pub chunks : IsInChunks after
  pub later : DelaysBytes limit before after

pub both_delay : (limit : ℕ) (xs ys zs : List LineByte) → DelaysBytes limit xs ys → DelaysBytes limit ys zs → DelaysBytes limit xs zs
both_delay limit xs ys zs one two = record {
  short = le_trans two.short one.short;
  in_time = λ up. two.in_time (one.in_time up);
  delays = λ up. in_turn zs ys xs (two.delays (one.in_time up)) (one.delays up);
}

pub same_keeps : (limit : ℕ) (bytes : List LineByte) → IsInChunks bytes → KeepsBytes limit bytes bytes
same_keeps limit bytes g = record { chunks = g; later = record { short = le_refl (length bytes); in_time = λ h. h; delays = λ h. itself bytes } }

pub take_keeps : (limit n : ℕ) (bytes : List LineByte) → IsInChunks bytes → KeepsBytes limit bytes (take n bytes)
take_keeps limit n bytes g = record {
  chunks = taken_in_chunks n bytes g;
  later = record {
    short = let e = length-take n bytes in omega (arith, e);
    in_time = all_take (λ (b : LineByte). b.at ≤ limit) n bytes;
    delays = λ h. taken n bytes bytes (itself bytes);
  };
}

pub before_keeps : (limit at : ℕ) (bytes : List LineByte) → IsInChunks bytes → KeepsBytes limit bytes (bytes_before at bytes)
before_keeps limit at bytes g = subst (KeepsBytes limit bytes) (sym (first_stay at 0 bytes (chunks_go_on bytes g))) (take_keeps limit (length (bytes_before at bytes)) bytes g)
