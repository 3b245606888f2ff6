-- The records of a file, one after another.
use Rattle.std.proofs.Common.{◌≡◌, ◌∙◌, sym, ap, refl, ℕ, zero, suc, ◌≤◌, ◌+◌, min, List, [], ◌∷◌, ◌++◌, length, map, take, drop, Option, Some, None, option_map, add-one, arith}
use Rattle.std.specs.List.{slice_get}
use Rattle.pcap_records.specs.Reading.{Packet, record_header_len}
use Rattle.closed_loop.specs.Recordings.{raw_records, rest_after, record_len}

some_is : (a b : List ℕ) → Some a ≡ Some b → a ≡ b
some_is a b is = cc

pub raw_step : (ps : List Packet) (i : ℕ) (bytes packet : List ℕ) → option_map (λ (p : Packet). p.bytes) (slice_get ps i) ≡ Some packet
    → raw_records (drop i ps) bytes
    ≡ take (record_header_len + length packet) bytes ∷ raw_records (drop (i + 1) ps) (drop (record_header_len + length packet) bytes)
raw_step [] i bytes packet at = absurd cc
raw_step (p ∷ ps) zero bytes packet at = let e : p.bytes ≡ packet = some_is p.bytes packet at in rw (← e) refl
raw_step (p ∷ ps) (suc i) bytes packet at = let e : suc i + 1 ≡ suc (i + 1) = omega arith in rw e (raw_step ps i bytes packet at)

pub rest_step : (ps : List Packet) (i : ℕ) (bytes packet : List ℕ) → option_map (λ (p : Packet). p.bytes) (slice_get ps i) ≡ Some packet
    → rest_after (drop i ps) bytes ≡ rest_after (drop (i + 1) ps) (drop (record_header_len + length packet) bytes)
rest_step [] i bytes packet at = absurd cc
rest_step (p ∷ ps) zero bytes packet at = let e : p.bytes ≡ packet = some_is p.bytes packet at in rw (← e) refl
rest_step (p ∷ ps) (suc i) bytes packet at = let e : suc i + 1 ≡ suc (i + 1) = omega arith in rw e (rest_step ps i bytes packet at)

-- all records
pub raw_end : (ps : List Packet) (n : ℕ) (bytes : List ℕ) → length ps ≤ n → raw_records (drop n ps) bytes ≡ []
raw_end [] zero bytes all = refl
raw_end [] (suc n) bytes all = refl
raw_end (p ∷ ps) zero bytes all = absurd (omega arith)
raw_end (p ∷ ps) (suc n) bytes all = raw_end ps n bytes (omega arith)

pub rest_end : (ps : List Packet) (n : ℕ) (bytes : List ℕ) → length ps ≤ n → rest_after (drop n ps) bytes ≡ bytes
rest_end [] zero bytes all = refl
rest_end [] (suc n) bytes all = refl
rest_end (p ∷ ps) zero bytes all = absurd (omega arith)
rest_end (p ∷ ps) (suc n) bytes all = rest_end ps n bytes (omega arith)
