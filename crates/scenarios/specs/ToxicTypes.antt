-- Types, streams and attributes of toxics, as a file gives them, and toxics written as JSON.
use Rattle.std.specs.Prelude.{ℕ, ◌+◌, ◌*◌, ◌&&◌, List, [], ◌∷◌, ◌++◌, codes, bytes_eq, decimal, nat_le, if◌then◌else◌, Option, Some, None}
use Rattle.serde_json.specs.Data.{unsigned, Data, number, string, object, Members, member, no_members}
use Rattle.toxic_defs.specs.declared.kinds.Kind.{Kind}
use Rattle.toxic_defs.specs.declared.kinds.Kind.TheVariants.{Latency, Bandwidth, SlowClose, Timeout, ResetPeer, Slicer, LimitData}
use Rattle.toxic_defs.specs.Limits.{million}
use Rattle.toxic_defs.specs.Toxics.{RatedKind, fits}
use Rattle.scenarios.specs.Fields.{◌>>=◌, field, absent_as, optional_whole}
use Rattle.scenarios.specs.declared.toxic_types.ToxicType.{ToxicType}
use Rattle.scenarios.specs.declared.toxic_types.Stream.{Stream}
use Rattle.scenarios.specs.declared.toxic_types.Stream.TheVariants.{Upstream, Downstream}

-- ---- words

abbrev pub type_name : ToxicType → List ℕ
type_name ToxicType.Latency = codes "latency"
type_name ToxicType.Bandwidth = codes "bandwidth"
type_name ToxicType.SlowClose = codes "slow_close"
type_name ToxicType.Timeout = codes "timeout"
type_name ToxicType.ResetPeer = codes "reset_peer"
type_name ToxicType.Slicer = codes "slicer"
type_name ToxicType.LimitData = codes "limit_data"

abbrev pub toxic_type : List ℕ → Option ToxicType
toxic_type text =
    if bytes_eq text (type_name ToxicType.Latency) then Some ToxicType.Latency else
    (if bytes_eq text (type_name ToxicType.Bandwidth) then Some ToxicType.Bandwidth else
    (if bytes_eq text (type_name ToxicType.SlowClose) then Some ToxicType.SlowClose else
    (if bytes_eq text (type_name ToxicType.Timeout) then Some ToxicType.Timeout else
    (if bytes_eq text (type_name ToxicType.ResetPeer) then Some ToxicType.ResetPeer else
    (if bytes_eq text (type_name ToxicType.Slicer) then Some ToxicType.Slicer else
    (if bytes_eq text (type_name ToxicType.LimitData) then Some ToxicType.LimitData else None))))))

abbrev pub stream_name : Stream → List ℕ
stream_name Upstream = codes "upstream"
stream_name Downstream = codes "downstream"

-- the stream that a text names; the empty text means downstream
abbrev pub stream_named : List ℕ → Option Stream
stream_named text =
    if bytes_eq text (stream_name Upstream) then Some Upstream else
    (if bytes_eq text (stream_name Downstream) then Some Downstream else
    (if bytes_eq text [] then Some Downstream else None))

abbrev pub default_name : ToxicType → Stream → List ℕ
default_name type_is way = type_name type_is ++ codes "_" ++ stream_name way

-- the text in the file, or the default name if it is empty
abbrev pub name_of : List ℕ → ToxicType → Stream → List ℕ
name_of text type_is way = if bytes_eq text [] then default_name type_is way else text

-- ---- attributes

-- an attribute of a toxic: a whole number, 0 if it is absent, None if it is anything else
abbrev pub attribute : List ℕ → Data → Option ℕ
attribute name d = absent_as (Some 0) (optional_whole 0 name) (field (codes "attributes") d)

-- the kind that a type and the attributes of this type make, if each is a whole number
abbrev pub kind_of : ToxicType → Data → Option Kind
kind_of ToxicType.Latency d = do
  latency ← attribute (codes "latency") d
  jitter ← attribute (codes "jitter") d
  Some (Latency latency jitter)
kind_of ToxicType.Bandwidth d = do
  rate ← attribute (codes "rate") d
  Some (Bandwidth rate)
kind_of ToxicType.SlowClose d = do
  delay ← attribute (codes "delay") d
  Some (SlowClose delay)
kind_of ToxicType.Timeout d = do
  timeout ← attribute (codes "timeout") d
  Some (Timeout timeout)
kind_of ToxicType.ResetPeer d = do
  timeout ← attribute (codes "timeout") d
  Some (ResetPeer timeout)
kind_of ToxicType.Slicer d = do
  average_size ← attribute (codes "average_size") d
  size_variation ← attribute (codes "size_variation") d
  delay ← attribute (codes "delay") d
  Some (Slicer average_size size_variation delay)
kind_of ToxicType.LimitData d = do
  bytes ← attribute (codes "bytes") d
  Some (LimitData bytes)

abbrev pub kind_in_range : ToxicType → Data → Option Kind
kind_in_range type_is d = do
  kind ← kind_of type_is d
  if fits kind then Some kind else None

-- A toxicity of 1, the default, means all connections, and 0 none, unless `toxicity_ppm` gives a number. Both have to be whole numbers in range.
abbrev pub ppm_of : Data → Option ℕ
ppm_of d = do
  toxicity ← optional_whole 1 (codes "toxicity") d
  ppm ← optional_whole (toxicity * million) (codes "toxicity_ppm") d
  if nat_le toxicity 1 && nat_le ppm million then Some ppm else None

-- ---- toxics that are written as JSON

abbrev pub type_of : Kind → ToxicType
type_of (Latency latency jitter) = ToxicType.Latency
type_of (Bandwidth rate) = ToxicType.Bandwidth
type_of (SlowClose delay) = ToxicType.SlowClose
type_of (Timeout timeout) = ToxicType.Timeout
type_of (ResetPeer timeout) = ToxicType.ResetPeer
type_of (Slicer average_size size_variation delay) = ToxicType.Slicer
type_of (LimitData bytes) = ToxicType.LimitData

abbrev pub whole_data : ℕ → Data
whole_data n = number (unsigned n)

-- sorted by name
abbrev pub attributes_data : Kind → Members
attributes_data (Latency latency jitter) =
    member (codes "jitter") (whole_data jitter)
    (member (codes "latency") (whole_data latency) no_members)
attributes_data (Bandwidth rate) = member (codes "rate") (whole_data rate) no_members
attributes_data (SlowClose delay) = member (codes "delay") (whole_data delay) no_members
attributes_data (Timeout timeout) = member (codes "timeout") (whole_data timeout) no_members
attributes_data (ResetPeer timeout) = member (codes "timeout") (whole_data timeout) no_members
attributes_data (Slicer average_size size_variation delay) =
    member (codes "average_size") (whole_data average_size)
    (member (codes "delay") (whole_data delay)
    (member (codes "size_variation") (whole_data size_variation) no_members))
attributes_data (LimitData bytes) = member (codes "bytes") (whole_data bytes) no_members

-- a toxic, named by its number
abbrev pub toxic_data : Stream → ℕ → RatedKind → Data
toxic_data way n t =
    object
    (member (codes "attributes") (object (attributes_data t.kind))
    (member (codes "name") (string (decimal n))
    (member (codes "stream") (string (stream_name way))
    (member (codes "toxicity_ppm") (whole_data t.ppm)
    (member (codes "type") (string (type_name (type_of t.kind))) no_members)))))

-- the toxics of a direction; the first has number n
abbrev pub toxics_data : Stream → ℕ → List RatedKind → List Data
toxics_data way n [] = []
toxics_data way n (t ∷ toxics) = toxic_data way n t ∷ toxics_data way (n + 1) toxics
