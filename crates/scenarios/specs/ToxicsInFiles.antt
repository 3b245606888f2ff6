-- Toxics of a proxy in its file, one after another.
use Rattle.std.specs.Prelude.{ℕ, List, [], ◌∷◌, ◌++◌, codes, length, bytes_eq, nat_le, Bool, Option, Some, None, option_and_then, if◌then◌else◌, Result, Ok}
use Rattle.std.specs.List.{list_any}
use Rattle.serde_json.specs.Data.{Data, Items, no_items, item}
use Rattle.toxic_defs.specs.Limits.{most_toxics}
use Rattle.toxic_defs.specs.Toxics.{RatedKind, made_toxic}
use Rattle.scenarios.specs.Fields.{◌>>=◌, required_text, optional_text, is_object_or_absent}
use Rattle.scenarios.specs.Refusals.{with, and_then, unless, of_toxic, at_place}
use Rattle.scenarios.specs.ToxicTypes.{toxic_type, stream_named, name_of, kind_in_range, ppm_of}
use Rattle.scenarios.specs.declared.toxic_types.ToxicType.{ToxicType}
use Rattle.scenarios.specs.declared.toxic_types.Stream.{Stream}
use Rattle.scenarios.specs.declared.toxic_types.Stream.TheVariants.{Upstream, Downstream}
use Rattle.scenarios.specs.declared.error.Cause.{Cause}
use Rattle.scenarios.specs.declared.error.Cause.TheVariants.{BadMember, UnknownToxic, BadStream, DuplicateToxic, AttributeRange, BadToxicity, TooMany}
use Rattle.scenarios.specs.declared.error.Refusal.{Refusal}

-- ---- one toxic

pub record ToxicFields : Type 0 where
  pub type_text : List ℕ
  pub name : List ℕ
  pub stream : List ℕ

abbrev pub toxic_fields : Data → Option ToxicFields
toxic_fields d = do
  type_text ← required_text (codes "type") d
  name ← optional_text (codes "name") d
  stream ← optional_text (codes "stream") d
  if is_object_or_absent (codes "attributes") d
      then Some (record { type_text = type_text; name = name; stream = stream }) else None

-- the toxics that were read: all names in the order of the file, and the toxics of each direction
pub record ToxicsRead : Type 0 where
  pub names : List (List ℕ)
  pub up : List RatedKind
  pub down : List RatedKind

abbrev pub no_toxics : ToxicsRead
no_toxics = record { names = []; up = []; down = [] }

abbrev pub direction : Stream → ToxicsRead → List RatedKind
direction Upstream read = read.up
direction Downstream read = read.down

abbrev pub is_name_taken : List (List ℕ) → List ℕ → Bool
is_name_taken names name = list_any (λ n. bytes_eq n name) names

pub record NamedToxic : Type 0 where
  pub name : List ℕ
  pub stream : Stream
  pub toxic : RatedKind

unfoldable pub checked_toxic : ToxicsRead → List ℕ → Stream → ToxicType → Data → Result NamedToxic Cause
checked_toxic read name way type_is d =
    unless (is_name_taken read.names name) DuplicateToxic
    (with (kind_in_range type_is d) AttributeRange (λ kind.
    with (option_and_then (made_toxic kind) (ppm_of d)) BadToxicity (λ toxic.
    unless (nat_le most_toxics (length (direction way read))) TooMany
    (Ok (record { name = name; stream = way; toxic = toxic })))))

unfoldable pub toxic_in : ToxicsRead → Data → Result NamedToxic Cause
toxic_in read d =
    with (toxic_fields d) BadMember (λ m.
    with (toxic_type m.type_text) UnknownToxic (λ type_is.
    with (stream_named m.stream) BadStream (λ stream.
    checked_toxic read (name_of m.name type_is stream) stream type_is d)))

-- ---- the toxics of a proxy

abbrev pub with_toxic : ToxicsRead → List ℕ → Stream → RatedKind → ToxicsRead
with_toxic read name Upstream toxic =
    record { names = read.names ++ name ∷ []; up = read.up ++ toxic ∷ []; down = read.down }
with_toxic read name Downstream toxic =
    record { names = read.names ++ name ∷ []; up = read.up; down = read.down ++ toxic ∷ [] }

unfoldable pub toxics_from : ℕ → ToxicsRead → Items → Result ToxicsRead Refusal
toxics_from proxy read no_items = Ok read
toxics_from proxy read (item d ds) =
    and_then (at_place (of_toxic proxy (length read.names)) (toxic_in read d)) (λ t.
    toxics_from proxy (with_toxic read t.name t.stream t.toxic) ds)
