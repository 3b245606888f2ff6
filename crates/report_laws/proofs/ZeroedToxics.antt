-- Toxics make of lines with zeroed bytes what they make of the lines, with zeroed bytes.
use Rattle.std.proofs.Common.{◌≡◌, ℕ, ◌+◌, ◌-◌, ◌*◌, ◌==◌, min, Bool, true, false, ◌||◌, nat_le, nat_lt, if◌then◌else◌, List, [], ◌∷◌, ◌++◌, length, map, slice_index, Option, Some, None, refl, sym, ap, ap₂, ◌∙◌}
use Rattle.std.proofs.lemmas.List.{length-map, map-append, take-map}
use Rattle.std.proofs.lemmas.Simd.{map-map}
use Rattle.pcap_records.specs.Instants.{horizon, millisecond, microsecond}
use Rattle.reassembly.specs.RecordedLines.{LineByte, End, Line, RecordedConnection}
use Rattle.reassembly.specs.LineLaws.{last_instant}
use Rattle.toxic_defs.specs.DelayedBytes.{latest, begins, instants_of, at_instant, along, moved}
use Rattle.toxic_defs.specs.Latency.{latency_leaves, drawn_delay}
use Rattle.toxic_defs.specs.Bandwidth.{bandwidth_leaves, joined, settled, rated_size, ceiling}
use Rattle.toxic_defs.specs.Slices.{sliced}
use Rattle.toxic_defs.specs.Slicer.{slice_size, paced, slicer_leaves}
use Rattle.toxic_defs.specs.LimitData.{next_instant, limited_end}
use Rattle.toxic_defs.specs.ResetPeer.{reset_at}
use Rattle.toxic_defs.specs.RandomWords.{word_of}
use Rattle.toxic_defs.specs.EndRule.{not_before, ended}
use Rattle.toxic_defs.specs.SessionCut.{closing_end, first_closing, line_up_to, line_before, cut_line}
use Rattle.toxic_defs.specs.Toxics.{RatedKind, applies, after, effect, run, chain_from, chain}
use Rattle.toxic_defs.specs.DeliveredLines.{MetProxy, DeliveredConnection, delivered_connection, connection_by_cut, connection_by_proxy}
use Rattle.toxic_defs.specs.declared.kinds.Kind.{Kind}
use Rattle.toxic_defs.specs.declared.kinds.Kind.TheVariants.{Latency, Bandwidth, SlowClose, Timeout, ResetPeer, Slicer, LimitData}
use Rattle.toxic_defs.specs.declared.words.Key.{Key}
use Rattle.reassembly.proofs.MappedLists.{filter-map}
use Rattle.report_laws.proofs.ZeroedLines.{zeroed_byte, zeroed_line, zeroed_recorded}

abbrev zeros : List LineByte → List LineByte
zeros bytes = map zeroed_byte bytes

abbrev pub zeroed_delivered : DeliveredConnection → DeliveredConnection
zeroed_delivered d = record d { up = zeroed_line d.up; down = zeroed_line d.down }

-- ---- instants stay

instants_zeroed : (bytes : List LineByte) → instants_of (zeros bytes) ≡ instants_of bytes
instants_zeroed bytes = map-map (λ b. b.at) zeroed_byte bytes

begins_zeroed : (bytes : List LineByte) → begins (zeros bytes) ≡ begins bytes
begins_zeroed [] = refl
begins_zeroed (b ∷ bytes) = ap (λ ats. if b.starts then b.at ∷ ats else ats) (begins_zeroed bytes)

last_zeroed : (before : ℕ) (bytes : List LineByte) → last_instant before (zeros bytes) ≡ last_instant before bytes
last_zeroed before [] = refl
last_zeroed before (b ∷ bytes) = last_zeroed b.at bytes

-- ---- bytes that move

module _ (leaves : List LineByte → ℕ) (blind : (bytes : List LineByte) → leaves (zeros bytes) ≡ leaves bytes) where
  along_zeroed : (before bytes : List LineByte) → along leaves (zeros before) (zeros bytes) ≡ zeros (along leaves before bytes)
  along_zeroed before [] = refl
  along_zeroed before (b ∷ bytes) =
      let more : zeros before ++ zeroed_byte b ∷ [] ≡ zeros (before ++ b ∷ []) = sym (map-append zeroed_byte before (b ∷ [])) in
      ap₂ (λ (at : ℕ) (rest : List LineByte). at_instant at (zeroed_byte b) ∷ rest) (ap leaves more ∙ blind (before ++ b ∷ []))
      (ap (λ earlier. along leaves earlier (zeros bytes)) more ∙ along_zeroed (before ++ b ∷ []) bytes)

  moved_zeroed : (bytes : List LineByte) → moved leaves (zeros bytes) ≡ zeros (moved leaves bytes)
  moved_zeroed bytes = along_zeroed [] bytes

sliced_zeroed : (size : ℕ → ℕ) (k left : ℕ) (bytes : List LineByte) → sliced size k left (zeros bytes) ≡ zeros (sliced size k left bytes)
sliced_zeroed size k left [] = refl
sliced_zeroed size k left (b ∷ bytes) =
    let first : LineByte → LineByte = λ x. record { value = x.value; at = x.at; starts = true } in
    elim (b.starts || left == 0) as (λ t. (if t then first (zeroed_byte b) ∷ sliced size (k + 1) (size k - 1) (zeros bytes) else zeroed_byte b ∷ sliced size k (left - 1) (zeros bytes))
    ≡ zeros (if t then first b ∷ sliced size (k + 1) (size k - 1) bytes else b ∷ sliced size k (left - 1) bytes))
    [ true ↦ ap (λ rest. first (zeroed_byte b) ∷ rest) (sliced_zeroed size (k + 1) (size k - 1) bytes) | false ↦ ap (λ rest. zeroed_byte b ∷ rest) (sliced_zeroed size k (left - 1) bytes) ]

joined_zeroed : (b : LineByte) (bytes : List LineByte) → joined (zeroed_byte b) (zeros bytes) ≡ zeroed_byte (joined b bytes)
joined_zeroed b [] = refl
joined_zeroed b (next ∷ bytes) =
    elim next.starts as (λ t. (if t then zeroed_byte b else at_instant next.at (zeroed_byte b)) ≡ zeroed_byte (if t then b else at_instant next.at b)) [ true ↦ refl | false ↦ refl ]

settled_zeroed : (bytes : List LineByte) → settled (zeros bytes) ≡ zeros (settled bytes)
settled_zeroed [] = refl
settled_zeroed (b ∷ bytes) = ap (λ rest. joined (zeroed_byte b) rest ∷ rest) (settled_zeroed bytes) ∙ ap (λ first. first ∷ zeros (settled bytes)) (joined_zeroed b (settled bytes))

-- ---- toxics

next_zeroed : (n : ℕ) (bytes : List LineByte) → next_instant n (zeros bytes) ≡ next_instant n bytes
next_zeroed n bytes = ap₂ (λ many ats. if nat_lt n many then Some (slice_index ats n) else None) (length-map bytes zeroed_byte) (instants_zeroed bytes)

effect_zeroed : (ticks : ℕ) (random : ℕ → ℕ) (opened : ℕ) (kind : Kind) (f : Line) → effect ticks random opened kind (zeroed_line f) ≡ zeroed_line (effect ticks random opened kind f)
effect_zeroed ticks random opened (Latency latency jitter) f =
    let delay = drawn_delay ticks random latency jitter in
    let bytes = moved_zeroed (latency_leaves (horizon ticks) delay) (λ bytes. ap (latest (λ j at. min (at + delay j) (horizon ticks))) (begins_zeroed bytes)) f.bytes in
    λ i. record { bytes = bytes i; end = f.end }
effect_zeroed ticks random opened (Bandwidth rate) f =
    let limit = horizon ticks in
    let leaves = bandwidth_leaves limit (millisecond ticks) rate in
    let blind : (bytes : List LineByte) → leaves (zeros bytes) ≡ leaves bytes = λ bytes.
    ap₂ (λ many ats. latest (λ y at. min (at + ceiling ((many - y) * millisecond ticks) rate) limit) ats) (length-map bytes zeroed_byte) (instants_zeroed bytes) in
    let slices = sliced (rated_size rate) 0 0 f.bytes in
    let bytes = ap (λ bs. settled (moved leaves bs)) (sliced_zeroed (rated_size rate) 0 0 f.bytes) ∙ ap settled (moved_zeroed leaves blind slices) ∙ settled_zeroed (moved leaves slices) in
    λ i. record { bytes = bytes i; end = f.end }
effect_zeroed ticks random opened (Slicer average variation delay) f =
    let limit = horizon ticks in
    let gap = microsecond ticks * delay in
    let size = slice_size random average variation in
    let blind : (bytes : List LineByte) → slicer_leaves limit gap (zeros bytes) ≡ slicer_leaves limit gap bytes = λ bytes. ap (λ ats. paced limit gap (length ats - 1) ats) (begins_zeroed bytes) in
    let bytes = ap (moved (slicer_leaves limit gap)) (sliced_zeroed size 0 0 f.bytes) ∙ moved_zeroed (slicer_leaves limit gap) blind (sliced size 0 0 f.bytes) in
    λ i. record { bytes = bytes i; end = f.end }
effect_zeroed ticks random opened (LimitData n) f =
    let bytes = take-map zeroed_byte n f.bytes in
    let end = ap (λ next. limited_end next f.end) (next_zeroed n f.bytes) in
    λ i. record { bytes = bytes i; end = end i }
effect_zeroed ticks random opened (Timeout time) f = refl
effect_zeroed ticks random opened (ResetPeer time) f =
    let bytes = filter-map (λ b. nat_lt b.at (after ticks opened time)) zeroed_byte f.bytes in
    λ i. record { bytes = bytes i; end = (reset_at (after ticks opened time) f).end }
effect_zeroed ticks random opened (SlowClose delay) f = refl

ended_zeroed : (f : Line) → ended (zeroed_line f) ≡ zeroed_line (ended f)
ended_zeroed f = λ i. record { bytes = zeros f.bytes; end = not_before (last_zeroed 0 f.bytes i) f.end }

run_zeroed : (ticks : ℕ) (toxic : RatedKind) (key : Key) (opened : ℕ) (f : Line) → run ticks toxic key opened (zeroed_line f) ≡ zeroed_line (run ticks toxic key opened f)
unfolding run
run_zeroed ticks toxic key opened f =
    let run_by : Bool → Line → Line = λ b g. if b then ended (effect ticks (word_of key) opened toxic.kind g) else g in
    elim (applies toxic key) as (λ b. run_by b (zeroed_line f) ≡ zeroed_line (run_by b f))
    [ true ↦ ap ended (effect_zeroed ticks (word_of key) opened toxic.kind f) ∙ ended_zeroed (effect ticks (word_of key) opened toxic.kind f) | false ↦ refl ]

chained_zeroed : (ticks opened seed s c d t : ℕ) (toxics : List RatedKind) (f : Line) → chain_from ticks opened seed s c d t toxics (zeroed_line f) ≡ zeroed_line (chain_from ticks opened seed s c d t toxics f)
chained_zeroed ticks opened seed s c d t [] f = refl
chained_zeroed ticks opened seed s c d t (toxic ∷ toxics) f =
    let key : Key = record { seed = seed; s = s; c = c; d = d; t = t } in
    ap (chain_from ticks opened seed s c d (t + 1) toxics) (run_zeroed ticks toxic key opened f)
    ∙ chained_zeroed ticks opened seed s c d (t + 1) toxics (run ticks toxic key opened f)

-- ---- the cut

cut_zeroed : (ticks : ℕ) (up down f : Line) → cut_line ticks (zeroed_line up) (zeroed_line down) (zeroed_line f) ≡ zeroed_line (cut_line ticks up down f)
unfolding cut_line
cut_zeroed ticks up down f = ap (line_before (horizon ticks)) (until (first_closing (closing_end up.end) (closing_end down.end))) ∙ before (horizon ticks) (line_up_to (first_closing (closing_end up.end) (closing_end down.end)) f)
  where
    until : (closing : Option (ℕ × End)) → line_up_to closing (zeroed_line f) ≡ zeroed_line (line_up_to closing f)
    until None = refl
    until (Some c) = let bytes = filter-map (λ b. nat_le b.at c.0) zeroed_byte f.bytes in λ i. record { bytes = bytes i; end = (line_up_to (Some c) f).end }

    before : (limit : ℕ) (g : Line) → line_before limit (zeroed_line g) ≡ zeroed_line (line_before limit g)
    before limit g = let bytes = filter-map (λ b. nat_lt b.at limit) zeroed_byte g.bytes in λ i. record { bytes = bytes i; end = (line_before limit g).end }

by_cut_zeroed : (ticks : ℕ) (proxy : Option ℕ) (up down : Line) → connection_by_cut ticks proxy (zeroed_line up) (zeroed_line down) ≡ zeroed_delivered (connection_by_cut ticks proxy up down)
by_cut_zeroed ticks proxy up down = λ i. record { proxy = proxy; refused = false; up = cut_zeroed ticks up down up i; down = cut_zeroed ticks up down down i }

pub delivered_zeroed : (ticks seed s c : ℕ) (met : Option MetProxy) (r : RecordedConnection)
    → delivered_connection ticks seed s c met (zeroed_recorded r) ≡ zeroed_delivered (delivered_connection ticks seed s c met r)
unfolding delivered_connection chain
delivered_zeroed ticks seed s c None r = by_cut_zeroed ticks None r.up.line r.down.line
delivered_zeroed ticks seed s c (Some met) r =
    elim met.enabled as (λ enabled. connection_by_proxy enabled ticks seed s c met (zeroed_recorded r) ≡ zeroed_delivered (connection_by_proxy enabled ticks seed s c met r)) [
      | true ↦
          ap₂ (connection_by_cut ticks (Some met.number)) (chained_zeroed ticks r.opened seed s c 0 0 met.up r.up.line) (chained_zeroed ticks r.opened seed s c 1 0 met.down r.down.line)
          ∙ by_cut_zeroed ticks (Some met.number) (chain ticks met.up r.opened seed s c 0 r.up.line) (chain ticks met.down r.opened seed s c 1 r.down.line)
      | false ↦ refl
    ]
