-- Toxics that are written as JSON are read back.
use Rattle.std.proofs.Common.{◌≡◌, ℕ, ◌+◌, ◌<◌, ◌≤◌, ◌^◌, Bool, true, false, nat_le, bytes_eq, List, [], ◌∷◌, ◌++◌, length, decimal, Some, Ok, refl, sym, ap, subst, ◌∙◌, arith, append-nil, append_assoc, length-append}
use Rattle.std.proofs.lemmas.Bool.{and_parts, lt-leb}
use Rattle.std.proofs.lemmas.Fmt.{decimal_injective, decimal_nonempty}
use Rattle.std.proofs.lemmas.List.Folds.{list_any-append}
use Rattle.std.proofs.lemmas.Slice.Eq.{bytes_eq-Decides}
use Rattle.std.specs.List.{AllByRecursion}
use Rattle.serde_json.specs.Data.{Data}
use Rattle.serde_json.specs.View.{items_of}
use Rattle.toxic_defs.specs.declared.kinds.Kind.{Kind}
use Rattle.toxic_defs.specs.declared.kinds.Kind.TheVariants.{Latency, Bandwidth, SlowClose, Timeout, ResetPeer, Slicer, LimitData}
use Rattle.toxic_defs.specs.Limits.{million, most_toxics}
use Rattle.toxic_defs.specs.Toxics.{RatedKind, fits, IsInRange, made_toxic}
use Rattle.scenarios.specs.ToxicTypes.{type_name, toxic_type, stream_name, stream_named, name_of, kind_of, type_of, toxic_data, toxics_data}
use Rattle.scenarios.specs.ToxicsInFiles.{ToxicsRead, no_toxics, direction, is_name_taken, checked_toxic, toxic_in, with_toxic, toxics_from}
use Rattle.scenarios.specs.ProxyLaws.{AreSoundToxics}
use Rattle.scenarios.specs.declared.toxic_types.ToxicType.{ToxicType}
use Rattle.scenarios.specs.declared.toxic_types.Stream.{Stream}
use Rattle.scenarios.specs.declared.toxic_types.Stream.TheVariants.{Upstream, Downstream}

-- ---- words and numbers of one toxic

type_is_read : (type_is : ToxicType) → toxic_type (type_name type_is) ≡ Some type_is
type_is_read ToxicType.Latency = refl
type_is_read ToxicType.Bandwidth = refl
type_is_read ToxicType.SlowClose = refl
type_is_read ToxicType.Timeout = refl
type_is_read ToxicType.ResetPeer = refl
type_is_read ToxicType.Slicer = refl
type_is_read ToxicType.LimitData = refl

stream_is_read : (way : Stream) → stream_named (stream_name way) ≡ Some way
stream_is_read Upstream = refl
stream_is_read Downstream = refl

kind_is_read : (way : Stream) (n ppm : ℕ) (kind : Kind) → kind_of (type_of kind) (toxic_data way n (record { kind = kind; ppm = ppm })) ≡ Some kind
kind_is_read way n ppm (Latency latency jitter) = refl
kind_is_read way n ppm (Bandwidth rate) = refl
kind_is_read way n ppm (SlowClose delay) = refl
kind_is_read way n ppm (Timeout timeout) = refl
kind_is_read way n ppm (ResetPeer timeout) = refl
kind_is_read way n ppm (Slicer average_size size_variation delay) = refl
kind_is_read way n ppm (LimitData bytes) = refl

own_name : (text : List ℕ) (type_is : ToxicType) (way : Stream) → 0 < length text → name_of text type_is way ≡ text
own_name [] type_is way some = absurd (omega arith)
own_name (x ∷ text) type_is way some = refl

made_is_made : (t : RatedKind) → IsInRange t → made_toxic t.kind t.ppm ≡ Some t
made_is_made t in_range = rw in_range refl

-- ---- names

-- a number that is not below the count of some names is none of them
AreFree : List (List ℕ) → Type 0
AreFree names = (k : ℕ) → length names ≤ k → k < 2 ^ 64 → is_name_taken names (decimal k) ≡ false

differ : (m n : ℕ) → m < n → n < 2 ^ 64 → bytes_eq (decimal m) (decimal n) ≡ false
differ m n less small = by_test (bytes_eq (decimal m) (decimal n)) refl
  where
    by_test : (b : Bool) → bytes_eq (decimal m) (decimal n) ≡ b → bytes_eq (decimal m) (decimal n) ≡ false
    by_test false is = is
    by_test true is = let same : m ≡ n = decimal_injective m n (omega arith) small ((bytes_eq-Decides (decimal m) (decimal n)).0 is) in absurd (omega arith)

still_free : (names : List (List ℕ)) (n : ℕ) → n ≡ length names → AreFree names → AreFree (names ++ decimal n ∷ [])
unfolding AreFree
still_free names n n_is free k behind small =
    let more : n + 1 ≤ k = omega (arith, length-append names (decimal n ∷ [])) in
    list_any-append (λ name. bytes_eq name (decimal k)) names (decimal n ∷ [])
    ∙ rw (free k (omega arith) small, differ n k (omega arith) small) refl

-- ---- one toxic

toxic_is_read : (read : ToxicsRead) (way : Stream) (n : ℕ) (t : RatedKind) → n ≡ length read.names → n < 2 ^ 64 → AreFree read.names → length (direction way read) < most_toxics → IsInRange t → toxic_in read (toxic_data way n t) ≡ Ok (record { name = decimal n; stream = way; toxic = t })
unfolding toxic_in checked_toxic AreFree
toxic_is_read read way n t n_is small free room in_range =
    let ranges = and_parts (fits t.kind) (nat_le t.ppm million) in_range in
    rw (
      type_is_read (type_of t.kind),
      stream_is_read way,
      own_name (decimal n) (type_of t.kind) way (decimal_nonempty n small),
      free n (omega arith) small,
      kind_is_read way n t.ppm t.kind,
      ranges.0,
      ranges.1,
      made_is_made t in_range,
      lt-leb most_toxics (length (direction way read)) room,
    ) refl

-- ---- the toxics of a direction

with_all : Stream → List (List ℕ) → List RatedKind → ToxicsRead → ToxicsRead
with_all Upstream names toxics read = record { names = names; up = read.up ++ toxics; down = read.down }
with_all Downstream names toxics read = record { names = names; up = read.up; down = read.down ++ toxics }

with_none : (way : Stream) (read : ToxicsRead) → with_all way read.names [] read ≡ read
unfolding with_all
with_none Upstream read = rw (append-nil read.up) refl
with_none Downstream read = rw (append-nil read.down) refl

with_next : (way : Stream) (names : List (List ℕ)) (name : List ℕ) (t : RatedKind) (toxics : List RatedKind) (read : ToxicsRead) → with_all way names toxics (with_toxic read name way t) ≡ with_all way names (t ∷ toxics) read
unfolding with_all
with_next Upstream names name t toxics read = rw (append_assoc read.up (t ∷ []) toxics) refl
with_next Downstream names name t toxics read = rw (append_assoc read.down (t ∷ []) toxics) refl

names_behind : (read : ToxicsRead) (name : List ℕ) (way : Stream) (t : RatedKind) → (with_toxic read name way t).names ≡ read.names ++ name ∷ []
names_behind read name Upstream t = refl
names_behind read name Downstream t = refl

count_behind : (read : ToxicsRead) (name : List ℕ) (way : Stream) (t : RatedKind) → length (direction way (with_toxic read name way t)) ≡ length (direction way read) + 1
count_behind read name Upstream t = omega (arith, length-append read.up (t ∷ []))
count_behind read name Downstream t = omega (arith, length-append read.down (t ∷ []))

-- the result of reading the toxics of a direction, and then the rest
record AreReadBack (proxy : ℕ) (read : ToxicsRead) (way : Stream) (n : ℕ) (toxics : List RatedKind) (rest : List Data) : Type 0 where
  pub names : List (List ℕ)
  pub count : length names ≡ n + length toxics
  pub free : AreFree names
  pub steps : toxics_from proxy read (items_of (toxics_data way n toxics ++ rest)) ≡ toxics_from proxy (with_all way names toxics read) (items_of rest)

direction_is_read : (proxy : ℕ) (read : ToxicsRead) (way : Stream) (n : ℕ) (toxics : List RatedKind) (rest : List Data) → n ≡ length read.names → n + length toxics < 2 ^ 64 → AreFree read.names → length (direction way read) + length toxics ≤ most_toxics → AllByRecursion IsInRange toxics → AreReadBack proxy read way n toxics rest
unfolding toxics_from
direction_is_read proxy read way n [] rest n_is small free room in_range = record {
  names = read.names;
  count = omega arith;
  free = free;
  steps = rw (with_none way read) refl;
}
direction_is_read proxy read way n (t ∷ toxics) rest n_is small free room in_range =
    let next = with_toxic read (decimal n) way t in
    let names_are : next.names ≡ read.names ++ decimal n ∷ [] = names_behind read (decimal n) way t in
    let next_number : n + 1 ≡ length next.names = ap (λ i. i + 1) n_is ∙ sym (length-append read.names (decimal n ∷ [])) ∙ sym (ap length names_are) in
    let next_free : AreFree next.names = subst AreFree (sym names_are) (still_free read.names n n_is free) in
    let next_room : length (direction way next) + length toxics ≤ most_toxics = omega (arith, count_behind read (decimal n) way t) in
    let later = direction_is_read proxy next way (n + 1) toxics rest next_number (omega arith) next_free next_room in_range.1 in
    record {
      names = later.names;
      count = later.count ∙ omega arith;
      free = later.free;
      steps = rw (toxic_is_read read way n t n_is (omega arith) free (omega arith) in_range.0) (later.steps ∙ ap (λ r. toxics_from proxy r (items_of rest)) (with_next way later.names (decimal n) t toxics read));
    }

none_are_taken : AreFree []
unfolding AreFree
none_are_taken k behind small = refl

-- ---- the toxics of both directions

BothRead : ℕ → List RatedKind → List RatedKind → Type 0
BothRead proxy up down = (names : List (List ℕ)) × (toxics_from proxy no_toxics (items_of (toxics_data Upstream 0 up ++ toxics_data Downstream (length up) down)) ≡ Ok (record { names = names; up = up; down = down }))

both_by_each : (proxy : ℕ) (up down : List RatedKind) (ups : AreReadBack proxy no_toxics Upstream 0 up (toxics_data Downstream (length up) down)) → AreReadBack proxy (with_all Upstream ups.names up no_toxics) Downstream (length up) down [] → BothRead proxy up down
unfolding toxics_from with_all BothRead
both_by_each proxy up down ups downs =
    let only = ap (λ ds. toxics_from proxy (with_all Upstream ups.names up no_toxics) (items_of ds)) (sym (append-nil (toxics_data Downstream (length up) down))) in
    (downs.names, ups.steps ∙ only ∙ downs.steps)

both_by_ups : (proxy : ℕ) (up down : List RatedKind) → AreSoundToxics up → AreSoundToxics down → AreReadBack proxy no_toxics Upstream 0 up (toxics_data Downstream (length up) down) → BothRead proxy up down
unfolding with_all
both_by_ups proxy up down up_sound down_sound ups =
    let few : length up ≤ 8 = up_sound.few in
    let few_down : length down ≤ 8 = down_sound.few in
    both_by_each proxy up down ups (direction_is_read proxy (with_all Upstream ups.names up no_toxics) Downstream (length up) down [] (omega (arith, ups.count)) (omega arith) ups.free (omega arith) down_sound.in_range)

pub toxics_are_read : (proxy : ℕ) (up down : List RatedKind) → AreSoundToxics up → AreSoundToxics down → (names : List (List ℕ)) × (toxics_from proxy no_toxics (items_of (toxics_data Upstream 0 up ++ toxics_data Downstream (length up) down)) ≡ Ok (record { names = names; up = up; down = down }))
unfolding BothRead
toxics_are_read proxy up down up_sound down_sound =
    let few : length up ≤ 8 = up_sound.few in
    both_by_ups proxy up down up_sound down_sound (direction_is_read proxy no_toxics Upstream 0 up (toxics_data Downstream (length up) down) refl (omega arith) none_are_taken (omega arith) up_sound.in_range)
