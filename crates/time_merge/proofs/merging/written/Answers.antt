use Rattle.std.proofs.Common.{◌≡◌, ◌<◌, ℕ, ◌+◌, List, [], ◌∷◌, ◌++◌, length, map, take, drop, get_or, inl, inr, refl, sym, ap, ◌∙◌, subst, append-nil, append_assoc, arith, take_at, Result, Ok, Err, OnErr}
use Rattle.std.specs.List.{flat_map}
use Rattle.std.proofs.lemmas.Grind.{flat_map-append}
use Rattle.std.proofs.lemmas.List.{flat_map_more, get_or_default, map-append, take-append-drop, take_more}
use Rattle.pcap_records.specs.Instants.{ticks_of}
use Rattle.pcap_records.specs.Writing.{file_header}
use Rattle.segment_writer.specs.declared.framed.Framed.{Framed}
use Rattle.time_merge.specs.KeyedSegments.{no_place, places_in, segment_at}
use Rattle.time_merge.specs.MergedCapture.{capture_in_turn}
use Rattle.time_merge.specs.Sinks.{HasFirstPart, IsOffered, IsWritten}
use Rattle.time_merge.specs.declared.orders.Place.{Place}
use Rattle.time_merge.proofs.merging.written.Goals as goal

-- the record of one segment more
grown : (ticks : ℕ) (segment : Place → Framed) (order : List Place) (i : ℕ) (x : Place) (front batch after : List ℕ)
    → i < length order → x ≡ get_or order i x → front ++ batch ≡ capture_in_turn ticks (map segment (take i order))
    → after ≡ batch ++ (segment x).bytes → front ++ after ≡ capture_in_turn ticks (map segment (take (i + 1) order))
grown ticks segment order i x front batch after within is so_far put =
    ap (λ (bs : List ℕ). front ++ bs) put ∙ sym (append_assoc front batch (segment x).bytes) ∙ ap (λ (bs : List ℕ). bs ++ (segment x).bytes) so_far
    ∙ flat_map_more (λ (s : Framed). s.bytes) (file_header ticks) (map segment (take i order)) (segment x)
    ∙ ap (capture_in_turn ticks) (sym (map-append segment (take i order) (x ∷ [])))
    ∙ ap (λ (ks : List Place). capture_in_turn ticks (map segment ks)) (ap (λ (k : Place). take i order ++ k ∷ []) is ∙ sym (take_more order i x within))

-- what was offered is written still
offered : (Took : List ℕ → Type 0) (front batch left all : List ℕ) → IsOffered Took front batch left → front ++ batch ≡ all → IsWritten Took left all
offered Took front batch left all (inl (took, none)) is = (front ++ batch, took, ap (λ (bs : List ℕ). (front ++ batch) ++ bs) none ∙ append-nil (front ++ batch) ∙ is)
offered Took front batch left all (inr (took, same)) is = (front, took, ap (λ (bs : List ℕ). front ++ bs) same ∙ is)

on_err : {T E P : Type 0} (r : Result T E) → P → OnErr r P
on_err (Ok v) p = tt
on_err (Err e) p = p

-- what was taken before some segments is a first part of the capture of all
taken_first : (Took : List ℕ → Type 0) (ticks : ℕ) (segment : Place → Framed) (order : List Place) (i : ℕ) (batch : List ℕ)
    → IsWritten Took batch (capture_in_turn ticks (map segment (take i order))) → HasFirstPart Took (capture_in_turn ticks (map segment order))
taken_first Took ticks segment order i batch (front, took, is) =
    let record_of : Framed → List ℕ = λ x. x.bytes in
    let later : List ℕ = flat_map record_of (map segment (drop i order)) in
    let all : capture_in_turn ticks (map segment order) ≡ front ++ (batch ++ later) =
    ap (λ (ks : List Place). capture_in_turn ticks (map segment ks)) (sym (take-append-drop i order))
    ∙ ap (capture_in_turn ticks) (map-append segment (take i order) (drop i order))
    ∙ ap (λ (bs : List ℕ). file_header ticks ++ bs) (flat_map-append record_of (map segment (take i order)) (map segment (drop i order)))
    ∙ sym (append_assoc (file_header ticks) (flat_map record_of (map segment (take i order))) later)
    ∙ ap (λ (bs : List ℕ). bs ++ later) (sym is) ∙ append_assoc front batch later in
    (length front, subst Took (sym (ap (take (length front)) all ∙ take_at front (batch ++ later) (length front) refl)) took)

pub returns-in_err-make_room-clause-first : goal.returns-in_err-make_room-clause-first
returns-in_err-make_room-clause-first g c =
    on_err c.from_residual-in_err-make_room.result (taken_first (g.S.CaptureSink.took c.loop-number.sink) (ticks_of c.args.unit)
    (segment_at g.L.Keys.segments c.args.lists.now) (places_in c.args.order.now) c.loop-number.number c.loop-number.batch.items c.loop-number.invariant.written)

pub returns-in_err-put_segment-clause-first : goal.returns-in_err-put_segment-clause-first
returns-in_err-put_segment-clause-first g c =
    on_err c.from_residual-in_err-put_segment.result (taken_first (g.S.CaptureSink.took c.loop-number.sink) (ticks_of c.args.unit)
    (segment_at g.L.Keys.segments c.args.lists.now) (places_in c.args.order.now) c.loop-number.number c.loop-number.batch.items c.loop-number.invariant.written)

pub loop-number-preserved : goal.loop-number-preserved
loop-number-preserved g c =
    let was = c.loop-number.invariant.written in
    let order : List Place = places_in c.args.order.now in
    let number = c.loop-number.number in
    let place = c.place.result in
    let within : number < length order = omega (arith, c.loop-number-test.true, c.len-number-end.ensures) in
    let more = grown (ticks_of c.args.unit) (segment_at g.L.Keys.segments c.args.lists.now) order number place
    was.0 c.loop-number.batch.items c.put_segment.new.out.items within (c.place.ensures ∙ get_or_default order number no_place place within) was.2
    (c.in_ok-put_segment.ensures.ok ∙ ap (λ (bs : List ℕ). bs ++ (segment_at g.L.Keys.segments c.args.lists.now place).bytes) c.make_room.ensures) in
    record {
      written = offered (g.S.CaptureSink.took c.offer.new.self) was.0 c.put_segment.new.out.items c.offer.new.batch.items _ (c.offer.ensures.taken was.0 was.1) more;
      same = c.offer.ensures.same ∙ c.loop-number.invariant.same;
    }
