-- The greatest stamp so far, one stamp at a time.
use Rattle.std.proofs.Common.{◌≡◌, ◌≤◌, ◌<◌, ℕ, zero, suc, get_or, ◌+◌, ◌-◌, max, List, [], ◌∷◌, ◌++◌, length, map, take, drop, refl, sym, ap, ◌∙◌, arith}
use Rattle.std.specs.List.{slice_range}
use Rattle.std.proofs.lemmas.List.{append-nil, append_assoc, take-map, drop-map, drop_more, drop_all}
use Rattle.pcap_records.specs.declared.capture.Record.{Record}
use Rattle.pcap_records.specs.CaptureView.{packet_of}
use Rattle.pcap_records.specs.Instants.{greatest, greatest_so_far, instants, CarriedIsWhole}
use Rattle.lists.proofs.Lists.{map_next}

next_greatest : (carry s : ℕ) (stamps : List ℕ) (i : ℕ) → greatest_so_far carry (s ∷ stamps) (i + 1) ≡ greatest_so_far (max carry s) stamps i
next_greatest carry s stamps i =
    let next : i + 1 + 1 ≡ suc (i + 1) = omega arith in
    rw next (omega arith)

-- the first instant, and those after it with the greatest stamp so far as their carry
pub instants-cons : (carry s : ℕ) (stamps : List ℕ) → instants carry (s ∷ stamps) ≡ max carry s ∷ instants (max carry s) stamps
unfolding instants
instants-cons carry s stamps =
    let first : greatest_so_far carry (s ∷ stamps) 0 ≡ max carry s = omega arith in
    rw (first, map_next (greatest_so_far carry (s ∷ stamps)) (greatest_so_far (max carry s) stamps) (next_greatest carry s stamps) 0 (length stamps)) refl

pub instants-nil : (carry : ℕ) → instants carry [] ≡ []
unfolding instants
instants-nil carry = refl

-- a loop over records, with the greatest stamp so far in `last`: the instants listed, and those still to be listed
pub running_more : (times : List ℕ) (last : ℕ) (records : List Record) (i : ℕ) (r : Record) (all : List ℕ)
    → i < length records → r ≡ get_or records i r
    → times ++ instants last (map (λ x. x.stamp) (drop i records)) ≡ all
    → (times ++ max last r.stamp ∷ []) ++ instants (max last r.stamp) (map (λ x. x.stamp) (drop (i + 1) records)) ≡ all
running_more times last records i r all within is so_far =
    let rest : drop i records ≡ r ∷ drop (i + 1) records = drop_more records i r within ∙ ap (λ x. x ∷ drop (i + 1) records) (sym is) in
    let whole = rw (rest, instants-cons last r.stamp (map (λ x. x.stamp) (drop (i + 1) records))) at so_far in
    rw (append_assoc times (max last r.stamp ∷ []) (instants (max last r.stamp) (map (λ x. x.stamp) (drop (i + 1) records)))) whole

pub running_all : (times : List ℕ) (last : ℕ) (records : List Record) (i : ℕ) (all : List ℕ)
    → length records ≤ i → times ++ instants last (map (λ x. x.stamp) (drop i records)) ≡ all → times ≡ all
running_all times last records i all done so_far =
    let whole = rw (drop_all i records done, instants-nil last, append-nil times) at so_far in
    whole

-- the greatest stamp of all, one stamp at a time
pub peak_more : (peak : ℕ) (records : List Record) (i : ℕ) (r : Record) (all : ℕ) → i < length records → r ≡ get_or records i r
    → max peak (greatest (map (λ x. x.stamp) (drop i records))) ≡ all → max (max peak r.stamp) (greatest (map (λ x. x.stamp) (drop (i + 1) records))) ≡ all
peak_more peak records i r all within is so_far =
    let rest : drop i records ≡ r ∷ drop (i + 1) records = drop_more records i r within ∙ ap (λ x. x ∷ drop (i + 1) records) (sym is) in
    let whole = rw rest at so_far in
    omega (arith, whole)

pub peak_all : (peak : ℕ) (records : List Record) (i : ℕ) (all : ℕ) → length records ≤ i → max peak (greatest (map (λ x. x.stamp) (drop i records))) ≡ all → peak ≡ all
peak_all peak records i all done so_far =
    let whole = rw (drop_all i records done) at so_far in
    omega (arith, whole)

pub stamps_of_packets : (bytes : List ℕ) (records : List Record) (from to : ℕ)
    → map (λ x. x.stamp) (slice_range records from to) ≡ map (λ p. p.stamp) (slice_range (map (packet_of bytes) records) from to)
stamps_of_packets bytes records from to =
    rw (drop-map (packet_of bytes) from records, take-map (packet_of bytes) (to - from) (drop from records)) (twice (take (to - from) (drop from records)))
  where
    twice : (rs : List Record) → map (λ x. x.stamp) rs ≡ map (λ p. p.stamp) (map (packet_of bytes) rs)
    twice [] = refl
    twice (r ∷ rs) = ap (λ ns. r.stamp ∷ ns) (twice rs)

instants-drop : (carry from : ℕ) (stamps : List ℕ) → drop from (instants carry stamps) ≡ instants (max carry (greatest (take from stamps))) (drop from stamps)
instants-drop carry zero stamps = let none : max carry 0 ≡ carry = omega arith in rw none refl
instants-drop carry (suc from) [] = rw (instants-nil carry, instants-nil (max carry 0)) refl
instants-drop carry (suc from) (s ∷ stamps) =
    let g : ℕ = greatest (take from stamps) in
    let grouped : max (max carry s) g ≡ max carry (max s g) = omega arith in
    rw (instants-cons carry s stamps, ← grouped) (instants-drop (max carry s) from stamps)

instants-take : (carry n : ℕ) (stamps : List ℕ) → take n (instants carry stamps) ≡ instants carry (take n stamps)
instants-take carry zero stamps = sym (instants-nil carry)
instants-take carry (suc n) [] = rw (instants-nil carry) refl
instants-take carry (suc n) (s ∷ stamps) =
    rw (instants-cons carry s stamps, instants-cons carry s (take n stamps), instants-take (max carry s) n stamps) refl

pub carried_is_whole : CarriedIsWhole
carried_is_whole stamps from to ordered within =
    let none : max 0 (greatest (take from stamps)) ≡ greatest (take from stamps) = omega arith in
    rw (instants-drop 0 from stamps, none, instants-take (greatest (take from stamps)) (to - from) (drop from stamps)) refl
