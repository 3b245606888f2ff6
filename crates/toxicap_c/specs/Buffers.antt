-- The three buffers of a caller, what is put into them, and how much of each that takes.
use Rattle.std.specs.Prelude.{◌≡◌, ℕ, ◌<◌, ◌≤◌, ◌⊎◌, Bool, true, false, List, [], ◌∷◌, ◌++◌, length, drop}
use Rattle.std.specs.List.{flat_map}
use Rattle.run_files.specs.declared.outputs.Output.{Output}
use Rattle.run_files.specs.WrittenOutputs.{reports_of}
use Rattle.laid_lines.specs.declared.laid.ToxicapChunk.{ToxicapChunk}
use Rattle.laid_lines.specs.declared.laid.ToxicapConnection.{ToxicapConnection}
use Rattle.laid_lines.specs.FlatLines.{FlatLines}
use Rattle.toxicap_c.specs.declared.sizes.ToxicapSizes.{ToxicapSizes}
use Rattle.toxicap_c.specs.declared.sizes.ToxicapEffectSizes.{ToxicapEffectSizes}
use Rattle.toxicap_c.specs.declared.sizes.ToxicapLinesSizes.{ToxicapLinesSizes}

-- A text, and entries of a buffer beside it on each side: captures, reports and lengths, or chunks, bytes and connections.
pub record Buffers (A C : Type 0) : Type 0 where
  pub first : List A
  pub text : List ℕ
  pub last : List C

abbrev pub buffers : {A C : Type 0} → List A → List ℕ → List C → Buffers A C
buffers first text last = record { first = first; text = text; last = last }

abbrev pub captures_of : List Output → List ℕ
captures_of outputs = flat_map (λ o. o.capture) outputs

-- for each output the length of its capture, then of its report
abbrev pub lens_of : List Output → List ℕ
lens_of outputs = flat_map (λ o. length o.capture ∷ length o.report ∷ []) outputs

abbrev pub put_of : List Output → Buffers ℕ ℕ
put_of outputs = buffers (captures_of outputs) (reports_of outputs) (lens_of outputs)

abbrev pub put_of_text : {A C : Type 0} → List ℕ → Buffers A C
put_of_text text = buffers [] text []

abbrev pub put_of_reports : List ℕ → Buffers ℕ ℕ
put_of_reports reports = put_of_text reports

abbrev pub put_of_lines : FlatLines → Buffers ToxicapChunk ToxicapConnection
put_of_lines l = buffers l.chunks l.bytes l.connections

abbrev pub put_of_counts : List ℕ → Buffers ℕ ℕ
put_of_counts counts = buffers counts [] []

-- ---- sizes, by how much of each buffer is put

abbrev pub output_sizes : ℕ → ℕ → ℕ → ToxicapSizes
output_sizes captures reports lens = record { captures = captures; reports = reports; lens = lens }

abbrev pub lines_sizes : ℕ → ℕ → ℕ → ToxicapLinesSizes
lines_sizes chunks bytes connections = record { bytes = bytes; chunks = chunks; connections = connections }

abbrev pub effect_sizes : ℕ → ℕ → ℕ → ToxicapEffectSizes
effect_sizes counts text last = record { counts = counts; text = text }

abbrev pub sizes_by : {A C S : Type 0} → (ℕ → ℕ → ℕ → S) → Buffers A C → S
sizes_by sized put = sized (length put.first) (length put.text) (length put.last)

-- ---- what is put

-- a list over the first elements of another, whose rest stays
abbrev pub laid_over : {A : Type 0} → List A → List A → List A
laid_over front old = front ++ drop (length front) old

abbrev pub all_laid_over : {A C : Type 0} → Buffers A C → Buffers A C → Buffers A C
all_laid_over put old = buffers (laid_over put.first old.first) (laid_over put.text old.text) (laid_over put.last old.last)

-- it is put over the first elements of a buffer, or it does not fit and the buffer is as it was
abbrev pub PutsText : List ℕ → Bool → List ℕ → List ℕ → Type 0
PutsText text true old new = (length text ≤ length old) × (new ≡ laid_over text old)
PutsText text false old new = (length old < length text) × (new ≡ old)

-- it takes more than at least one of them has
abbrev pub IsOver : {A C : Type 0} → Buffers A C → Buffers A C → Type 0
IsOver put old = (length old.first < length put.first) ⊎ ((length old.text < length put.text) ⊎ (length old.last < length put.last))

-- It is put over the first entries of the buffers, or it does not fit and they are as they were. The sizes are its own.
abbrev pub Puts : {A C S : Type 0} → (ℕ → ℕ → ℕ → S) → Buffers A C → Bool → Buffers A C → Buffers A C → S → Type 0
Puts sized put true old new size = (new ≡ all_laid_over put old) × (size ≡ sizes_by sized put)
Puts sized put false old new size = IsOver put old × (new ≡ old) × (size ≡ sizes_by sized put)
