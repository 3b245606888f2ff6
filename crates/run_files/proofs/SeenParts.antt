-- A text whose heads are taken as it is read.
use Rattle.std.proofs.Common.{◌≡◌, ◌<◌, ◌≤◌, ℕ, ◌+◌, false, List, [], ◌∷◌, ◌++◌, length, take, drop, Result, refl, sym, ap, subst, ◌∙◌, ◌-◌, arith}
use Rattle.std.proofs.Common.{length-append, length-drop, length-take, append-nil, append_assoc}
use Rattle.std.proofs.lemmas.List.{length-take-le, take-append-le}
use Rattle.std.proofs.Math.Seq.{take-append-add}
use Rattle.run_files.specs.{AgreesUnlessMemory, Heads, HeadReaderView, no_header, heads_in, read_on, CaptureFault, capture_refusal, capture_limit, reading}
use Rattle.run_files.specs.{is_dump}

-- These bytes came of a text that is no dump; a reader took all of them but those that are held at the front of a buffer, and whatever
-- follows them, it will find the heads of the text.
pub record IsSeenSoFar (reader : HeadReaderView) (buffer : List ℕ) (held : ℕ) (given : List ℕ) : Type 0 where
  pub held_within : held ≤ length buffer
  pub counted : length given ≡ reader.taken + held
  pub some : 0 < length given
  pub no_dump : is_dump given ≡ false
  pub same : (more : List ℕ) → length given + length more ≤ capture_limit → heads_in (reading (given ++ more)) ≡ read_on reader.found (take held buffer ++ more)

-- what follows some bytes does not make them a dump
pub same_first : (xs ys : List ℕ) → 0 < length xs → is_dump (xs ++ ys) ≡ is_dump xs
same_first [] ys some = absurd (omega (arith, some))
same_first (x ∷ xs) ys some = refl

pub fits_taken : (taken held : ℕ) (buffer : List ℕ) → taken + held ≤ capture_limit → taken + length (take held buffer) ≤ capture_limit
fits_taken taken held buffer within = omega (arith, within, length-take held buffer)

pub room_left : (buffer room : List ℕ) (held : ℕ) → held < length buffer → length room ≡ length (take (length buffer - held) (drop held buffer)) → 0 < length room
room_left buffer room held less is = omega (arith, less, is, length-take (length buffer - held) (drop held buffer), length-drop held buffer)

pub seen_first : (reader : HeadReaderView) (buffer : List ℕ) (len : ℕ) → reader.taken ≡ 0 → reader.found ≡ no_header → 0 < len → len ≤ length buffer
    → is_dump (take len buffer) ≡ false → IsSeenSoFar reader buffer len (take len buffer)
unfolding read_on
seen_first reader buffer len none nothing some within no_dump =
    let long : length (take len buffer) ≡ len = length-take-le len buffer within in record {
      held_within = within;
      counted = omega (arith, long, none);
      some = omega (arith, long, some);
      no_dump = no_dump;
      same = λ more m. rw nothing refl;
    }

pub seen_taken : (old new : HeadReaderView) (buffer after : List ℕ) (held left : ℕ) (given : List ℕ) → IsSeenSoFar old buffer held given
    → length after ≡ length buffer → new.taken + left ≡ old.taken + held → left ≤ length after
    → ((more : List ℕ) → old.taken + held + length more ≤ capture_limit → read_on old.found (take held buffer ++ more) ≡ read_on new.found (take left after ++ more))
    → IsSeenSoFar new after left given
seen_taken old new buffer after held left given seen len counted fits same = record {
  held_within = fits;
  counted = omega (arith, counted, seen.counted);
  some = seen.some;
  no_dump = seen.no_dump;
  same = λ more m. seen.same more m ∙ same more (omega (arith, m, seen.counted));
}

-- `n` bytes more came, after those that are held
pub seen_read : (reader : HeadReaderView) (buffer part post after : List ℕ) (held n : ℕ) (given : List ℕ) → IsSeenSoFar reader buffer held given
    → after ≡ take held buffer ++ (part ++ post) → n ≤ length part → IsSeenSoFar reader after (held + n) (given ++ take n part)
seen_read reader buffer part post after held n given seen is fits =
    let front : length (take held buffer) ≡ held = length-take-le held buffer seen.held_within in
    let many : length (take n part) ≡ n = length-take-le n part fits in
    let long : length (given ++ take n part) ≡ length given + n = length-append given (take n part) ∙ ap (λ k. length given + k) many in
    let now_held : take (held + n) after ≡ take held buffer ++ take n part =
    ap (take (held + n)) is ∙ ap (λ k. take (k + n) (take held buffer ++ (part ++ post))) (sym front) ∙ take-append-add (take held buffer) (part ++ post) n
    ∙ ap (λ (xs : List ℕ). take held buffer ++ xs) (take-append-le n part post fits) in record {
      held_within = omega (arith, ap length is, length-append (take held buffer) (part ++ post), length-append part post, front, fits);
      counted = omega (arith, long, seen.counted);
      some = omega (arith, long, seen.some);
      no_dump = same_first given (take n part) seen.some ∙ seen.no_dump;
      same = λ more m.
          ap (λ xs. heads_in (reading xs)) (append_assoc given (take n part) more)
          ∙ seen.same (take n part ++ more) (omega (arith, m, long, length-append (take n part) more, many))
          ∙ ap (read_on reader.found) (sym (append_assoc (take held buffer) (take n part) more) ∙ ap (λ (xs : List ℕ). xs ++ more) (sym now_held));
    }

pub seen_whole : (reader : HeadReaderView) (buffer : List ℕ) (held : ℕ) (given : List ℕ) (heads : Result Heads CaptureFault) → IsSeenSoFar reader buffer held given
    → length given ≤ capture_limit → AgreesUnlessMemory capture_refusal (λ h. h) heads (read_on reader.found (take held buffer))
    → AgreesUnlessMemory capture_refusal (λ h. h) heads (heads_in (reading given))
seen_whole reader buffer held given heads seen within finds =
    let same : heads_in (reading given) ≡ read_on reader.found (take held buffer) =
    ap (λ xs. heads_in (reading xs)) (sym (append-nil given)) ∙ seen.same [] (omega (arith, within)) ∙ ap (read_on reader.found) (append-nil (take held buffer)) in
    subst (AgreesUnlessMemory capture_refusal (λ h. h) heads) (sym same) finds

pub seen_nothing : (reader : HeadReaderView) (heads : Result Heads CaptureFault) → reader.found ≡ no_header
    → AgreesUnlessMemory capture_refusal (λ h. h) heads (read_on reader.found []) → AgreesUnlessMemory capture_refusal (λ h. h) heads (heads_in (reading []))
unfolding read_on
seen_nothing reader heads nothing finds = subst (λ found. AgreesUnlessMemory capture_refusal (λ h. h) heads (read_on found [])) nothing finds
