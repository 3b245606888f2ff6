-- The toxics of a proxy in a file are in range, and there are not too many.
use Rattle.std.proofs.Common.{◌≡◌, ℕ, ◌<◌, nat_le, List, [], ◌∷◌, ◌++◌, length, Some, option_and_then, Ok, subst, arith, length-append}
use Rattle.std.proofs.lemmas.Bool.{leb-false}
use Rattle.std.proofs.lemmas.Option.{cond_some}
use Rattle.lists.proofs.Lists.{all_push}
use Rattle.serde_json.specs.Data.{Data, Items, no_items, item}
use Rattle.toxic_defs.specs.declared.kinds.Kind.{Kind}
use Rattle.toxic_defs.specs.Limits.{most_toxics}
use Rattle.toxic_defs.specs.Toxics.{RatedKind, is_in_range, IsInRange, made_toxic}
use Rattle.scenarios.specs.Refusals.{at_place, of_toxic}
use Rattle.scenarios.specs.ToxicTypes.{toxic_type, stream_named, name_of, kind_in_range, ppm_of}
use Rattle.scenarios.specs.ToxicsInFiles.{toxic_fields, ToxicsRead, no_toxics, direction, is_name_taken, NamedToxic, checked_toxic, toxic_in, with_toxic, toxics_from}
use Rattle.scenarios.specs.ProxyLaws.{AreSoundToxics}
use Rattle.scenarios.specs.declared.toxic_types.ToxicType.{ToxicType}
use Rattle.scenarios.specs.declared.toxic_types.Stream.{Stream}
use Rattle.scenarios.specs.declared.toxic_types.Stream.TheVariants.{Upstream, Downstream}
use Rattle.scenarios.proofs.PassedSteps.{same_ok, of_with, of_after, of_unless, of_place, of_chain}

-- ---- one toxic

made_is_in_range : (kind : Kind) (ppm : ℕ) (toxic : RatedKind) → made_toxic kind ppm ≡ Some toxic → IsInRange toxic
made_is_in_range kind ppm toxic is =
    let made : RatedKind = record { kind = kind; ppm = ppm } in
    let passed = cond_some (is_in_range made) made toxic is in
    subst IsInRange passed.1 passed.0

-- a toxic is in range, and its direction has room for it
Fits : ToxicsRead → NamedToxic → Type 0
Fits read t = (length (direction t.stream read) < most_toxics) × IsInRange t.toxic

checked_fits : (read : ToxicsRead) (name : List ℕ) (stream : Stream) (type_is : ToxicType) (d : Data) (t : NamedToxic) → checked_toxic read name stream type_is d ≡ Ok t → Fits read t
unfolding checked_toxic Fits
checked_fits read name way type_is d t is =
    of_unless (is_name_taken read.names name) _ _ t is λ _ is₁.
    of_with (kind_in_range type_is d) _ _ t is₁ λ kind _ is₂.
    of_with (option_and_then (made_toxic kind) (ppm_of d)) _ _ t is₂ λ toxic toxic_is is₃.
    of_unless (nat_le most_toxics (length (direction way read))) _ _ t is₃ λ few is₄.
    let in_range : IsInRange toxic = of_chain (made_toxic kind) (ppm_of d) toxic toxic_is (λ ppm made. made_is_in_range kind ppm toxic made) in
    rw (← same_ok _ _ is₄) (leb-false most_toxics (length (direction way read)) few, in_range)

toxic_fits : (read : ToxicsRead) (d : Data) (t : NamedToxic) → toxic_in read d ≡ Ok t → Fits read t
unfolding toxic_in
toxic_fits read d t is =
    of_with (toxic_fields d) _ _ t is λ m _ is₁.
    of_with (toxic_type m.type_text) _ _ t is₁ λ type_is _ is₂.
    of_with (stream_named m.stream) _ _ t is₂ λ stream _ is₃.
    checked_fits read (name_of m.name type_is stream) stream type_is d t is₃

-- ---- the toxics of both directions

one_more : (toxics : List RatedKind) (toxic : RatedKind) → AreSoundToxics toxics → length toxics < most_toxics → IsInRange toxic → AreSoundToxics (toxics ++ toxic ∷ [])
one_more toxics toxic are room is = record { few = omega (arith, length-append toxics (toxic ∷ [])); in_range = all_push IsInRange toxics toxic are.in_range is }

BothSound : ToxicsRead → Type 0
BothSound read = AreSoundToxics read.up × AreSoundToxics read.down

with_one_more : (read : ToxicsRead) (name : List ℕ) (stream : Stream) (toxic : RatedKind) → BothSound read → length (direction stream read) < most_toxics → IsInRange toxic → BothSound (with_toxic read name stream toxic)
unfolding BothSound
with_one_more read name Upstream toxic both room is = (one_more read.up toxic both.0 room is, both.1)
with_one_more read name Downstream toxic both room is = (both.0, one_more read.down toxic both.1 room is)

all_are_sound : (proxy : ℕ) (read : ToxicsRead) (ds : Items) (t : ToxicsRead) → BothSound read → toxics_from proxy read ds ≡ Ok t → BothSound t
unfolding toxics_from Fits
all_are_sound proxy read no_items t both is = subst BothSound (same_ok _ _ is) both
all_are_sound proxy read (item d ds) t both is =
    of_after (at_place (of_toxic proxy (length read.names)) (toxic_in read d)) _ t is λ x x_is is₁.
    let fits = toxic_fits read d x (of_place _ (toxic_in read d) x x_is) in
    all_are_sound proxy (with_toxic read x.name x.stream x.toxic) ds t (with_one_more read x.name x.stream x.toxic both fits.0 fits.1) is₁

none_are_sound : AreSoundToxics []
none_are_sound = record { few = omega arith; in_range = tt }

pub toxics_are_sound : (proxy : ℕ) (ds : Items) (t : ToxicsRead) → toxics_from proxy no_toxics ds ≡ Ok t → AreSoundToxics t.up × AreSoundToxics t.down
unfolding BothSound
toxics_are_sound proxy ds t is = all_are_sound proxy no_toxics ds t (none_are_sound, none_are_sound) is
