-- A file of the first magic number is read as it was before captures in nanoseconds, and counts microseconds.
use Rattle.std.proofs.Common.{◌≡◌, ℕ, Bool, true, false, ◌||◌, not, nat_lt, ◌==◌, List, length, drop, Option, Some, None, Result, Ok, Err, IfSome, IfOk, inl, inr, ◌⊎◌, refl, ap, sym, subst, ◌∙◌, if◌then◌else◌}
use Rattle.std.specs.Option.{option_or}
use Rattle.pcap_records.specs.declared.fault.CaptureFault.{CaptureFault}
use Rattle.pcap_records.specs.declared.fault.CaptureFault.TheVariants.{CaptureTooLong, ShortHeader, BadVersion, BadLink}
use Rattle.pcap_records.specs.declared.heading.Order.TheVariants.{Big, Little}
use Rattle.pcap_records.specs.Instants.{microseconds, nanoseconds}
use Rattle.pcap_records.specs.Reading.{Heading, Reading, capture_limit, file_header_len, number_in, magic, nanosecond_magic, heading_by, magic_heading, checked_heading, file_heading, reading_with, reading}
use Rattle.pcap_records.specs.Grammar.{ReadingsSplit}
use Rattle.old_answers.specs.ReadingBefore.{microsecond_heading_before, magic_heading_before, file_heading_before, reading_before}
use Rattle.old_answers.specs.OldAnswers.{HasFirstMagic}

-- ---- it is read as before

-- if the first magic number is found, no other is looked for
found : {A : Type 0} (big little : Bool) (x y : A) (other : Option A) → (big ≡ true) ⊎ (little ≡ true)
    → option_or (if big then Some x else (if little then Some y else None)) other ≡ (if big then Some x else (if little then Some y else None))
found true little x y other has = refl
found false true x y other has = refl
found false false x y other (inl has) = absurd cc
found false false x y other (inr has) = absurd cc

passes : (bytes : List ℕ) → HasFirstMagic bytes → ((number_in Big 4 bytes == magic) ≡ true) ⊎ ((number_in Little 4 bytes == magic) ≡ true)
passes bytes (inl has) = inl (ap (λ n. n == magic) has)
passes bytes (inr has) = inr (ap (λ n. n == magic) has)

told_kept : (bytes : List ℕ) → HasFirstMagic bytes → magic_heading bytes ≡ magic_heading_before bytes
told_kept bytes has =
    found (number_in Big 4 bytes == magic) (number_in Little 4 bytes == magic) _ _ (heading_by nanosecond_magic nanoseconds bytes) (passes bytes has)

heading_kept : (bytes : List ℕ) → HasFirstMagic bytes → file_heading bytes ≡ file_heading_before bytes
unfolding file_heading file_heading_before
heading_kept bytes has =
    ap (λ (told : Option Heading). if nat_lt capture_limit (length bytes) then Err CaptureTooLong else
    (if nat_lt (length bytes) file_header_len then Err ShortHeader else checked_heading told bytes))
    (told_kept bytes has)

pub reading_kept : (bytes : List ℕ) → HasFirstMagic bytes → reading bytes ≡ reading_before bytes
unfolding reading reading_before
reading_kept bytes has = ap (λ (heading : Result Heading CaptureFault). reading_with heading bytes) (heading_kept bytes has)

-- ---- it counts microseconds

abbrev CountsMicroseconds : Heading → Type 0
CountsMicroseconds h = h.ticks ≡ microseconds

told_counts : (big little : Bool)
    → IfSome (if big then Some (microsecond_heading_before Big) else (if little then Some (microsecond_heading_before Little) else None)) CountsMicroseconds
told_counts true little = refl
told_counts false true = refl
told_counts false false = tt

checked_counts : (told : Option Heading) (bytes : List ℕ) → IfSome told CountsMicroseconds → IfOk (checked_heading told bytes) CountsMicroseconds
checked_counts None bytes counts = tt
checked_counts (Some h) bytes counts =
    by (not (number_in h.order 2 (drop 4 bytes) == 2) || not (number_in h.order 2 (drop 6 bytes) == 4)) (not (number_in h.order 4 (drop 20 bytes) == 1))
  where
    by : (version link : Bool) → IfOk (if version then Err BadVersion else (if link then Err BadLink else Ok h)) CountsMicroseconds
    by true link = tt
    by false true = tt
    by false false = counts

heading_counts : (bytes : List ℕ) → IfOk (file_heading_before bytes) CountsMicroseconds
unfolding file_heading_before
heading_counts bytes = by (nat_lt capture_limit (length bytes)) (nat_lt (length bytes) file_header_len)
  where
    by : (over short : Bool)
        → IfOk (if over then Err CaptureTooLong else (if short then Err ShortHeader else checked_heading (magic_heading_before bytes) bytes)) CountsMicroseconds
    by true short = tt
    by false true = tt
    by false false = checked_counts (magic_heading_before bytes) bytes (told_counts (number_in Big 4 bytes == magic) (number_in Little 4 bytes == magic))

pub counts_as_before : ReadingsSplit → (bytes : List ℕ) → HasFirstMagic bytes → (r : Reading) → reading bytes ≡ Ok r → r.contents.ticks ≡ microseconds
counts_as_before readings_split bytes has r is =
    let split = readings_split bytes r is in
    let counted : CountsMicroseconds split.0 =
    subst (λ (heading : Result Heading CaptureFault). IfOk heading CountsMicroseconds) (sym (heading_kept bytes has) ∙ split.3.0) (heading_counts bytes) in
    ap (λ (x : Reading). x.contents.ticks) split.3.3 ∙ counted
