-- Worked rows of toxics in scenario files.
use Rattle.std.specs.Prelude.{◌≡◌, ℕ, List, [], ◌∷◌, ◌++◌, codes, true, Ok, Err, Result}
use Rattle.conn_table.specs.RowSegments.{server}
use Rattle.toxic_defs.specs.Toxics.{RatedKind}
use Rattle.toxic_defs.specs.declared.kinds.Kind.{Kind}
use Rattle.toxic_defs.specs.declared.kinds.Kind.TheVariants.{Latency, Bandwidth, SlowClose, Timeout, ResetPeer, Slicer, LimitData}
use Rattle.scenarios.specs.Refusals.{of_toxic}
use Rattle.scenarios.specs.Populate.{scenario}
use Rattle.scenarios.specs.ScenarioRows.{of_one}
use Rattle.scenarios.specs.declared.proxies.Proxy.{Proxy}
use Rattle.scenarios.specs.declared.error.Cause.TheVariants.{BadMember, UnknownToxic, BadStream, DuplicateToxic, AttributeRange, TooMany, BadToxicity}
use Rattle.scenarios.specs.declared.error.Refusal.{Refusal}

-- ---- texts

abbrev pub read_toxics : List ℕ → Result (List Proxy) Refusal
read_toxics toxics = scenario [] (of_one (codes ",\"toxics\":[" ++ toxics ++ codes "]"))

-- the JSON of an upstream toxic: its type, its toxicity, and its attributes
abbrev pub toxic_text : List ℕ → List ℕ → List ℕ → List ℕ
toxic_text type_is toxicity attributes =
    codes "{\"type\":\"" ++ type_is ++ codes "\",\"stream\":\"upstream\"" ++ toxicity
    ++ codes ",\"attributes\":{" ++ attributes ++ codes "}}"

-- a latency of `text` milliseconds, and one of 100 with a toxicity
abbrev pub latency : List ℕ → List ℕ
latency text =
    toxic_text (codes "latency") (codes ",\"toxicity\":1") (codes "\"latency\":" ++ text ++ codes ",\"jitter\":0")

abbrev pub toxicity : List ℕ → List ℕ
toxicity more = toxic_text (codes "latency") more (codes "\"latency\":100")

abbrev pub named_toxic : List ℕ → List ℕ → List ℕ
named_toxic name more =
    codes "{\"type\":\"timeout\",\"stream\":\"upstream\",\"name\":\"" ++ name ++ codes "\"" ++ more ++ codes "}"

abbrev pub eight : List ℕ
eight =
    named_toxic (codes "a") [] ++ codes "," ++ named_toxic (codes "b") [] ++ codes "," ++ named_toxic (codes "c") [] ++ codes ","
    ++ named_toxic (codes "d") [] ++ codes "," ++ named_toxic (codes "e") [] ++ codes "," ++ named_toxic (codes "f") [] ++ codes ","
    ++ named_toxic (codes "g") [] ++ codes "," ++ named_toxic (codes "h") []

-- ---- what they are read as

abbrev pub applied : Kind → ℕ → RatedKind
applied kind ppm = record { kind = kind; ppm = ppm }

abbrev pub web_with : List RatedKind → List RatedKind → Result (List Proxy) Refusal
web_with up down = Ok (record { name = codes "web"; upstream = server; enabled = true; up = up; down = down } ∷ [])

-- a type with these attributes is this kind, for every connection
abbrev pub IsReadAs : List ℕ → List ℕ → Kind → Type 0
IsReadAs type_is attributes kind = read_toxics (toxic_text type_is [] attributes) ≡ web_with (applied kind 1000000 ∷ []) []

-- each type with its own attributes; null is 0, and attributes of other types are not looked at
pub record KindsRead : Type 0 where
  pub latency_kind : IsReadAs (codes "latency") (codes "\"latency\":100,\"jitter\":50") (Latency 100 50)
  pub bandwidth : IsReadAs (codes "bandwidth") (codes "\"rate\":1") (Bandwidth 1)
  pub slow_close : IsReadAs (codes "slow_close") (codes "\"delay\":7") (SlowClose 7)
  pub timeout : IsReadAs (codes "timeout") (codes "\"timeout\":8") (Timeout 8)
  pub reset_peer : IsReadAs (codes "reset_peer") (codes "\"timeout\":9") (ResetPeer 9)
  pub slicer : IsReadAs (codes "slicer") (codes "\"average_size\":5,\"size_variation\":4,\"delay\":3") (Slicer 5 4 3)
  pub limit_data : IsReadAs (codes "limit_data") (codes "\"bytes\":1000000000000") (LimitData 1000000000000)
  pub null : read_toxics (latency (codes "null")) ≡ web_with (applied (Latency 0 0) 1000000 ∷ []) []
  pub unknown : IsReadAs (codes "timeout") (codes "\"latency\":\"1\"") (Timeout 0)

pub record ToxicitiesRead : Type 0 where
  pub never : read_toxics (toxicity (codes ",\"toxicity\":0")) ≡ web_with (applied (Latency 100 0) 0 ∷ []) []
  pub always : read_toxics (toxicity (codes ",\"toxicity\":0,\"toxicity_ppm\":1000000"))
      ≡ web_with (applied (Latency 100 0) 1000000 ∷ []) []
  pub part : read_toxics (toxicity (codes ",\"toxicity_ppm\":250000"))
      ≡ web_with (applied (Latency 100 0) 250000 ∷ []) []

-- without a stream, or with an empty one or null, a toxic is downstream; each direction keeps the order of the file
pub record StreamsRead : Type 0 where
  pub absent : read_toxics (codes "{\"type\":\"timeout\"}") ≡ web_with [] (applied (Timeout 0) 1000000 ∷ [])
  pub empty : read_toxics (codes "{\"type\":\"timeout\",\"stream\":\"\",\"name\":\"\"}")
      ≡ web_with [] (applied (Timeout 0) 1000000 ∷ [])
  pub null : read_toxics (codes "{\"type\":\"timeout\",\"stream\":null,\"name\":null,\"attributes\":null}")
      ≡ web_with [] (applied (Timeout 0) 1000000 ∷ [])
  pub both : read_toxics (latency (codes "1") ++ codes ",{\"type\":\"timeout\"},"
      ++ named_toxic (codes "b") [] ++ codes ",{\"type\":\"slow_close\"}")
      ≡ web_with (applied (Latency 1 0) 1000000 ∷ applied (Timeout 0) 1000000 ∷ [])
      (applied (Timeout 0) 1000000 ∷ applied (SlowClose 0) 1000000 ∷ [])

-- ---- what is refused

pub record WordsRefused : Type 0 where
  pub type_is : read_toxics (toxic_text (codes "explode") [] []) ≡ Err (of_toxic 0 0 UnknownToxic)
  pub typeless : read_toxics (toxic_text [] [] []) ≡ Err (of_toxic 0 0 UnknownToxic)
  pub null : read_toxics (codes "{\"type\":null}") ≡ Err (of_toxic 0 0 BadMember)
  pub stream : read_toxics (codes "{\"type\":\"latency\",\"stream\":\"sideways\"}") ≡ Err (of_toxic 0 0 BadStream)
  pub name : read_toxics (codes "{\"type\":\"latency\",\"name\":1}") ≡ Err (of_toxic 0 0 BadMember)
  pub attributes : read_toxics (codes "{\"type\":\"latency\",\"attributes\":[]}") ≡ Err (of_toxic 0 0 BadMember)

pub record NamesRefused : Type 0 where
  pub twice : read_toxics (latency (codes "1") ++ codes "," ++ latency (codes "1")) ≡ Err (of_toxic 0 1 DuplicateToxic)
  pub default : read_toxics (codes "{\"type\":\"timeout\",\"name\":\"latency_downstream\"},{\"type\":\"latency\"}")
      ≡ Err (of_toxic 0 1 DuplicateToxic)
  pub across : read_toxics (named_toxic (codes "latency_downstream") [] ++ codes ",{\"type\":\"latency\"}")
      ≡ Err (of_toxic 0 1 DuplicateToxic)

-- whole numbers that the tree does not hold as such are refused too
pub record AttributesRefused : Type 0 where
  pub past : read_toxics (latency (codes "1000000001")) ≡ Err (of_toxic 0 0 AttributeRange)
  pub below : read_toxics (latency (codes "-1")) ≡ Err (of_toxic 0 0 AttributeRange)
  pub half : read_toxics (latency (codes "1.5")) ≡ Err (of_toxic 0 0 AttributeRange)
  pub text : read_toxics (latency (codes "\"1\"")) ≡ Err (of_toxic 0 0 AttributeRange)
  pub minus_zero : read_toxics (latency (codes "-0")) ≡ Err (of_toxic 0 0 AttributeRange)
  pub exponent : read_toxics (latency (codes "1e3")) ≡ Err (of_toxic 0 0 AttributeRange)
  pub past_64_bits : read_toxics (latency (codes "18446744073709551616")) ≡ Err (of_toxic 0 0 AttributeRange)
  pub rate : read_toxics (toxic_text (codes "bandwidth") [] []) ≡ Err (of_toxic 0 0 AttributeRange)
  pub rate_null : read_toxics (toxic_text (codes "bandwidth") [] (codes "\"rate\":null"))
      ≡ Err (of_toxic 0 0 AttributeRange)
  pub variation : read_toxics (toxic_text (codes "slicer") [] (codes "\"average_size\":5,\"size_variation\":5"))
      ≡ Err (of_toxic 0 0 AttributeRange)

-- an attribute out of range is refused before a toxicity
pub record ToxicitiesRefused : Type 0 where
  pub two : read_toxics (toxicity (codes ",\"toxicity\":2")) ≡ Err (of_toxic 0 0 BadToxicity)
  pub half : read_toxics (toxicity (codes ",\"toxicity\":0.5")) ≡ Err (of_toxic 0 0 BadToxicity)
  pub one : read_toxics (toxicity (codes ",\"toxicity\":1.0")) ≡ Err (of_toxic 0 0 BadToxicity)
  pub parts : read_toxics (toxicity (codes ",\"toxicity\":0,\"toxicity_ppm\":1000001")) ≡ Err (of_toxic 0 0 BadToxicity)
  pub both : read_toxics (toxicity (codes ",\"toxicity\":2,\"toxicity_ppm\":5")) ≡ Err (of_toxic 0 0 BadToxicity)
  pub attribute : read_toxics (toxic_text (codes "bandwidth") (codes ",\"toxicity\":2") [])
      ≡ Err (of_toxic 0 0 AttributeRange)

-- a ninth toxic upstream; a toxicity that is not valid is refused first; a place counts the toxics of both directions
pub record CountsRefused : Type 0 where
  pub ninth : read_toxics (eight ++ codes "," ++ named_toxic (codes "i") []) ≡ Err (of_toxic 0 8 TooMany)
  pub toxicity_first : read_toxics (eight ++ codes "," ++ named_toxic (codes "i") (codes ",\"toxicity\":2"))
      ≡ Err (of_toxic 0 8 BadToxicity)
  pub other_direction : read_toxics (eight ++ codes ",{\"type\":\"timeout\"},{\"type\":\"bandwidth\"}")
      ≡ Err (of_toxic 0 9 AttributeRange)
