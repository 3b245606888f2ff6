-- What ranges of connections contribute, against what all of them do.
use Rattle.std.proofs.Common.{◌≡◌, ◌<◌, ◌≤◌, ℕ, zero, suc, ◌+◌, ◌*◌, List, [], ◌∷◌, ◌++◌, length, map, take, drop, get_or, refl, sym, ap, ◌∙◌, arith}
use Rattle.std.specs.List.{enumerate_from, flat_map}
use Rattle.std.specs.List.Sorted.{IsPermutation}
use Rattle.std.proofs.Math.Nat.{suc-mul}
use Rattle.std.proofs.Math.Path.{fun_ext}
use Rattle.std.proofs.Math.Seq.{drop-drop}
use Rattle.std.proofs.lemmas.Grind.{flat_map-append}
use Rattle.std.proofs.lemmas.List.{flat_map_more, length-map, length-drop, get_or-map, take-append-drop, take_more}
use Rattle.std.proofs.lemmas.List.Elements.{All-from_get_or, All-map}
use Rattle.std.proofs.lemmas.List.Concat.{flat_map_single}
use Rattle.std.proofs.lemmas.List.Folds.{flat_map-map}
use Rattle.std.proofs.lemmas.List.FromFn.{length-enumerate_from}
use Rattle.std.proofs.lemmas.List.Sorted.{IsPermutation-append, IsPermutation-refl}
use Rattle.segment_writer.specs.WrittenSegments.{WrittenConnection, sorted_by_key, written_segments, written_turns}
use Rattle.segment_writer.specs.declared.framed.Framed.{Framed}
use Rattle.segment_writer.proofs.InOrder.{sorted_append, sorted_keeps_all, sorted_twice}
use Rattle.scenarios.specs.declared.proxies.Proxy.{Proxy}
use Rattle.conn_workers.specs.Recordings.{RecordingView, recorded_delivery}
use Rattle.conn_workers.specs.RowShares.{HoldLines, share_of, text_shares, texts_under, seen_of_recording, HoldRow, row_segments, row_text, row_share, ranges_of, row_shares}
use Rattle.conn_workers.proofs.RowLemmas.{get_or-numbered}

-- ---- ranges

module _ {X : Type 0} where
  length-ranges : (size count : ℕ) (xs : List X) → length (ranges_of size count xs) ≡ count
  length-ranges size zero xs = refl
  length-ranges size (suc count) xs = ap suc (length-ranges size count (drop size xs))

  range_at : (size count : ℕ) (xs : List X) (j : ℕ) (other : List X) → j < count
      → get_or (ranges_of size count xs) j other ≡ take size (drop (j * size) xs)
  range_at size zero xs j other below = absurd (omega (arith, below))
  range_at size (suc count) xs zero other below = let none : zero * size ≡ zero = omega arith in rw none refl
  range_at size (suc count) xs (suc j) other below =
      let place : suc j * size ≡ size + j * size = omega (arith, suc-mul j size) in
      rw place (range_at size count (drop size xs) j other (omega (arith, below)) ∙ ap (take size) (drop-drop (j * size) size xs))

  -- if the ranges reach to the end, what is made of each element stands in them as in the list
  together : {Y : Type 0} (f : X → List Y) (size count : ℕ) (xs : List X) → length xs ≤ count * size
      → flat_map (λ r. flat_map f r) (ranges_of size count xs) ≡ flat_map f xs
  together f size zero [] whole = refl
  together f size zero (x ∷ xs) whole = let none : zero * size ≡ zero = omega arith in absurd (omega (arith, whole, none))
  together f size (suc count) xs whole =
      let left : length (drop size xs) ≤ count * size = omega (arith, whole, suc-mul count size, length-drop size xs) in
      ap (λ ys. flat_map f (take size xs) ++ ys) (together f size count (drop size xs) left)
      ∙ sym (flat_map-append f (take size xs) (drop size xs)) ∙ ap (flat_map f) (take-append-drop size xs)

-- ---- the value of a job

module _ {X V : Type 0} (f : List X → V) (size count : ℕ) (xs : List X) where
  pub length-by_range : length (map f (ranges_of size count xs)) ≡ count
  length-by_range = length-map (ranges_of size count xs) f ∙ length-ranges size count xs

  pub by_range : (j : ℕ) (other : V) → j < length (map f (ranges_of size count xs))
      → f (take size (drop (j * size) xs)) ≡ get_or (map f (ranges_of size count xs)) j other
  by_range j other within =
      let below : j < count = omega (arith, within, length-by_range) in
      let inside : j < length (ranges_of size count xs) = omega (arith, below, length-ranges size count xs) in
      sym (get_or-map f (ranges_of size count xs) j [] other inside ∙ ap f (range_at size count xs j [] below))

-- ---- all shares together

-- If what is read of what is made of a range is what each element makes, it is all together what all elements make.
module _ {X D V Y : Type 0} (make : List X → V) (read : V → List Y) (f : X → D) (own : D → List Y) (same : (xs : List X) → read (make xs) ≡ flat_map (λ x. own (f x)) xs) where
  read_together : (size count : ℕ) (xs : List X) → length xs ≤ count * size → flat_map read (map make (ranges_of size count xs)) ≡ flat_map own (map f xs)
  read_together size count xs whole =
      flat_map-map read make (ranges_of size count xs) ∙ ap (λ (g : List X → List Y). flat_map g (ranges_of size count xs)) (fun_ext same)
      ∙ together (λ x. own (f x)) size count xs whole ∙ sym (flat_map-map own f xs)

-- what is moved in each part is moved in all
all_moved : {X Y : Type 0} (f g : X → List Y) → ((x : X) → IsPermutation (f x) (g x)) → (xs : List X) → IsPermutation (flat_map f xs) (flat_map g xs)
all_moved f g moved [] = IsPermutation-refl []
all_moved f g moved (x ∷ xs) = IsPermutation-append (f x) (g x) (flat_map f xs) (flat_map g xs) (moved x) (all_moved f g moved xs)

-- what is made of one element more
pub taken_more : {X Y : Type 0} (f : X → List Y) (xs : List X) (i : ℕ) (x : X) → i < length xs → x ≡ get_or xs i x → flat_map f (take i xs) ++ f x ≡ flat_map f (take (i + 1) xs)
taken_more f xs i x within is = flat_map_more f [] (take i xs) x ∙ ap (flat_map f) (ap (λ y. take i xs ++ y ∷ []) is ∙ sym (take_more xs i x within))

-- the segments of one connection more, once all are put in order
pub segments_more : (ticks : ℕ) (c : WrittenConnection) (made more had all : List Framed) → more ≡ made ++ written_turns ticks c → sorted_by_key made ≡ sorted_by_key had → had ++ written_segments ticks c ≡ all
    → sorted_by_key more ≡ sorted_by_key all
unfolding written_segments
segments_more ticks c made more had all added same is =
    ap sorted_by_key added ∙ sorted_append made (written_turns ticks c) had (sorted_by_key (written_turns ticks c)) same (sym (sorted_twice (written_turns ticks c))) ∙ ap sorted_by_key is

pub row_together : (seed : ℕ) (s : ℕ × List Proxy) (recordings : List RecordingView) (size count : ℕ) → length recordings ≤ count * size
    → HoldRow seed s recordings (row_shares size count seed s recordings)
row_together seed s recordings size count whole =
    let parts = ranges_of size count recordings in record {
      sorted = All-map (λ x. sorted_by_key x.segments ≡ x.segments) (row_share seed s) parts (All-from_get_or (λ rs. sorted_by_key (row_share seed s rs).segments ≡ (row_share seed s rs).segments) parts [] (λ i within. sorted_twice _));
      segments = rw (flat_map-map (λ x. x.segments) (row_share seed s) parts, flat_map-map (λ d. d.segments) (recorded_delivery seed s) recordings, ← together (λ r. (recorded_delivery seed s r).segments) size count recordings whole)
          (all_moved (row_segments seed s) (λ rs. sorted_by_key (row_segments seed s rs)) (λ rs. sorted_keeps_all (row_segments seed s rs)) parts);
      lines = read_together (row_share seed s) (λ x. x.lines) (recorded_delivery seed s) (λ d. d.line) (λ rs. refl) size count recordings whole;
    }

module _ (seed : ℕ) (scenarios : List (List Proxy)) where
  -- a text for each
  pub length-texts_under : (recordings : List RecordingView) → length (texts_under seed scenarios recordings) ≡ length scenarios
  unfolding texts_under
  length-texts_under recordings = length-map (enumerate_from 0 scenarios) (λ s. row_text seed s recordings) ∙ length-enumerate_from 0 scenarios

  -- that of the scenario with a number
  pub text_at : (recordings : List RecordingView) (number : ℕ) (other : List Proxy) → number < length scenarios
      → get_or (texts_under seed scenarios recordings) number [] ≡ row_text seed (number, get_or scenarios number other) recordings
  unfolding texts_under
  text_at recordings number other within =
      let text : ℕ × List Proxy → List ℕ = λ s. row_text seed s recordings in
      get_or-map text (enumerate_from 0 scenarios) number (0, other) [] (omega (arith, within, length-enumerate_from 0 scenarios))
      ∙ ap text (get_or-numbered scenarios number other within)

  pub texts_together : (size count : ℕ) (recordings : List RecordingView) → length recordings ≤ count * size
      → HoldLines seed scenarios recordings (text_shares size count seed scenarios recordings)
  texts_together size count recordings whole = record {
    each = All-map (λ share. length share.texts ≡ length scenarios) (share_of seed scenarios) (ranges_of size count recordings)
        (All-from_get_or (λ rs. length (texts_under seed scenarios rs) ≡ length scenarios) (ranges_of size count recordings) [] (λ i within. length-texts_under _));
    connections = read_together (share_of seed scenarios) (λ share. share.connections) seen_of_recording (λ x. x ∷ []) (λ rs. sym (flat_map_single seen_of_recording rs)) size count recordings whole
        ∙ flat_map-map (λ x. x ∷ []) seen_of_recording recordings ∙ flat_map_single seen_of_recording recordings;
    lines = λ number within.
        let s : ℕ × List Proxy = (number, get_or scenarios number []) in
        read_together (share_of seed scenarios) (λ share. get_or share.texts number []) (λ r. (recorded_delivery seed s r).line) (λ line. line)
        (λ rs. text_at rs number [] within) size count recordings whole;
  }
