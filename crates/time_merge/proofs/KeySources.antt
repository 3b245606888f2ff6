-- Each list is a source of the merge, and gives its keyed segments in order.
use Rattle.std.proofs.Common.{◌≡◌, ℕ, ◌+◌, true, List, [], ◌∷◌, ◌++◌, Option, map, sym, ap, ◌∙◌, subst, append-nil}
use Rattle.std.specs.List.{All, enumerate_from}
use Rattle.std.specs.List.Sorted.{IsSortedBy, IsPermutation}
use Rattle.std.specs.Iterator.{YieldsFirst, DrainsIf}
use Rattle.std.specs.Iterator.Runs.{Run, WholeRun, YieldsRun}
use Rattle.std.proofs.lemmas.Iterator.{YieldsList, items_from_drains}
use Rattle.std.proofs.lemmas.Iterator.Consumers.{YieldsList-from_first}
use Rattle.std.proofs.lemmas.List.Folds.{flat_map-map}
use Rattle.std.proofs.lemmas.List.Elements.{All-nil, All-cons, All-head, All-tail}
use Rattle.itertools.specs.KMerge.{SourcesGive, joined_lists}
use Rattle.segment_writer.specs.declared.framed.Framed.{Framed}
use Rattle.segment_writer.specs.WrittenSegments.{sorted_by_key}
use Rattle.segment_writer.specs.KeyLaws.{NeverFalls}
use Rattle.segment_writer.proofs.InOrder.{sorted_never_falls}
use Rattle.time_merge.specs.KeyedSegments.{keyed_segments, all_keyed_segments, Keyed}
use Rattle.time_merge.proofs.KeyedOrder.{below, merging, merging_is_below, keys_sorted}

-- sources that give what is left of them
module _ {Source : Type 0} (left : Source → List Keyed) where
  sources_give : (sources : List Source) → SourcesGive (λ (s r : Source). r ≡ s) (YieldsFirst left) sources (map left sources)
  sources_give [] = tt
  sources_give (s ∷ sources) = ((λ j same. (YieldsList-from_first (λ x. x) left (left s) (ap left same)).runs), sources_give sources)

  -- a run that is to give sources of these lists gave them
  run_gives : {S : Type 0} {steps : S → Option Source → S → Type 0} {s : S} {P : Run steps → Type 0} (lists : List (List Keyed)) (run : WholeRun steps s P) → YieldsList steps left s lists
      → SourcesGive (λ (s r : Source). r ≡ s) (YieldsFirst left) run.0.items lists
  unfolding YieldsRun
  run_gives {steps = steps} lists run chain =
      let drained = subst (λ s. DrainsIf steps (run.0.whole ≡ true) s run.0.items) run.1 run.0.gave.0 in
      let read : map left run.0.items ≡ lists = items_from_drains run.0.items (drained.0, drained.1, λ _. drained.2 run.2) chain in
      subst (λ (ls : List (List Keyed)). SourcesGive (λ (s r : Source). r ≡ s) (YieldsFirst left) run.0.items ls) read (sources_give run.0.items)

  -- two runs of the same steps
  pub runs_give : {S : Type 0} {steps : S → Option Source → S → Type 0} {s : S} {P Q : Run steps → Type 0} (lists : List (List Keyed)) (one : WholeRun steps s P) (other : WholeRun steps s Q)
      → YieldsList steps left s lists → SourcesGive (λ (t r : Source). r ≡ t) (YieldsFirst left) one.0.items lists × SourcesGive (λ (t r : Source). r ≡ t) (YieldsFirst left) other.0.items lists
  runs_give lists one other chain = (run_gives lists one chain, run_gives lists other chain)

module _ {L : Type 0} (segments : L → List Framed) where
  -- the keyed segments of each list
  abbrev pub keys_of_list : ℕ × L → List Keyed
  keys_of_list (list, l) = keyed_segments list 0 (segments l)

  abbrev pub keys_of_lists : List L → List (List Keyed)
  keys_of_lists lists = map keys_of_list (enumerate_from 0 lists)

  -- a list in order
  abbrev pub InOrder : L → Type 0
  InOrder l = sorted_by_key (segments l) ≡ segments l

  sorted_from : (n : ℕ) (lists : List L) → All InOrder lists → All (IsSortedBy below) (map keys_of_list (enumerate_from n lists))
  sorted_from n [] all = All-nil (IsSortedBy below)
  sorted_from n (l ∷ lists) all =
      let own : NeverFalls (segments l) = subst (λ (ys : List Framed). NeverFalls ys) (All-head InOrder l lists all) (sorted_never_falls (segments l)) in
      All-cons (IsSortedBy below) (keyed_segments n 0 (segments l)) (map keys_of_list (enumerate_from (n + 1) lists)) (keys_sorted n 0 (segments l) own)
      (sorted_from (n + 1) lists (All-tail InOrder l lists all))

  pub all_sorted : (lists : List L) → All InOrder lists → All (IsSortedBy merging) (keys_of_lists lists)
  all_sorted lists all = subst (λ lt. All (IsSortedBy lt) (keys_of_lists lists)) (sym merging_is_below) (sorted_from 0 lists all)

  -- what a merge gave of all keys, and nothing is left
  pub gave_all : (lists : List L) (xs rest items : List Keyed) → IsPermutation (joined_lists (keys_of_lists lists)) (xs ++ rest) → rest ≡ [] → items ≡ xs → IsPermutation (all_keyed_segments segments lists) items
  gave_all lists xs rest items moved none are =
      let gave : xs ++ rest ≡ items = ap (λ ys. xs ++ ys) none ∙ append-nil xs ∙ sym are in
      subst (λ ks. IsPermutation ks items) (flat_map-map (λ (ks : List Keyed). ks) keys_of_list (enumerate_from 0 lists)) (subst (λ ys. IsPermutation (joined_lists (keys_of_lists lists)) ys) gave moved)

pub gave_in_order : (xs items : List Keyed) → IsSortedBy merging xs → items ≡ xs → IsSortedBy below items
gave_in_order xs items sorted are = subst (λ ys. IsSortedBy below ys) (sym are) (subst (λ lt. IsSortedBy lt xs) merging_is_below sorted)
