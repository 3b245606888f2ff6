-- Parts that are laid over a buffer, one after another.
use Rattle.std.proofs.Common.{◌≡◌, ◌<◌, ◌≤◌, ℕ, ◌+◌, List, [], ◌∷◌, ◌++◌, length, take, drop, get_or, sym, ap, ap₂, ◌∙◌, arith, append-nil, append_assoc, length-append, drop-drop}
use Rattle.std.specs.List.{flat_map}
use Rattle.std.proofs.lemmas.List.{take_more}
use Rattle.std.proofs.lemmas.List.Concat.{flat_map-append}
use Rattle.std.proofs.lemmas.List.Folds.{length-flat_map-take}
use Rattle.std.proofs.Math.Seq.{take-append_seam, drop-append-add}
use Rattle.toxicap_c.specs.Buffers.{laid_over}

laid_more : (done items old : List ℕ) (at : ℕ) → at ≡ length done
    → take at (laid_over done old) ++ (items ++ drop (at + length items) (laid_over done old)) ≡ laid_over (done ++ items) old
laid_more done items old at is =
    let front = ap (λ n. take n (laid_over done old)) is ∙ take-append_seam done (drop (length done) old) in
    let rest = ap (λ n. drop (n + length items) (laid_over done old)) is
    ∙ drop-append-add done (drop (length done) old) (length items) ∙ drop-drop (length items) (length done) old in
    ap₂ (λ (xs ys : List ℕ). xs ++ (items ++ ys)) front rest
    ∙ sym (append_assoc done items (drop (length done + length items) old))
    ∙ ap (λ n. (done ++ items) ++ drop n old) (sym (length-append done items))

part_more : {P : Type 0} (part : P → List ℕ) (outputs : List P) (i : ℕ) (d : P) → i < length outputs
    → flat_map part (take (i + 1) outputs) ≡ flat_map part (take i outputs) ++ part (get_or outputs i d)
part_more part outputs i d within =
    ap (flat_map part) (take_more outputs i d within)
    ∙ flat_map-append part (take i outputs) (get_or outputs i d ∷ [])
    ∙ ap (λ (more : List ℕ). flat_map part (take i outputs) ++ more) (append-nil (part (get_or outputs i d)))

-- a part of each of the first `i` is laid over a buffer, and ends at `at`
abbrev pub IsLaid : {P : Type 0} → (P → List ℕ) → List P → ℕ → ℕ → List ℕ → List ℕ → Type 0
IsLaid part outputs i at now old = (at ≡ length (flat_map part (take i outputs))) × (now ≡ laid_over (flat_map part (take i outputs)) old)

module _ {P : Type 0} (part : P → List ℕ) (outputs : List P) (i at : ℕ) (d : P) (items before old : List ℕ) (within : i < length outputs)
    (own : items ≡ part (get_or outputs i d)) (laid : IsLaid part outputs i at before old) where
  pub part_fits : (room : ℕ) → length (flat_map part outputs) ≤ room → at + length items ≤ room
  part_fits room all = omega (arith, laid.0, ap length own, all, length-flat_map-take part outputs i d within)

  pub part_laid : (now : List ℕ) → now ≡ take at before ++ (items ++ drop (at + length items) before) → IsLaid part outputs (i + 1) (at + length items) now old
  part_laid now made =
      let done : List ℕ = flat_map part (take i outputs) in
      let more : flat_map part (take (i + 1) outputs) ≡ done ++ items = part_more part outputs i d within ∙ ap (λ (xs : List ℕ). done ++ xs) (sym own) in (
        omega (arith, laid.0, ap length more, length-append done items),
        made ∙ ap (λ (b : List ℕ). take at b ++ (items ++ drop (at + length items) b)) laid.1 ∙ laid_more done items old at laid.0
            ∙ ap (λ (all : List ℕ). laid_over all old) (sym more),
      )
