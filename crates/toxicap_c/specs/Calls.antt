-- What the inputs of a call call for.
use Rattle.std.specs.Prelude.{ℕ, List, [], ◌∷◌, take, drop, Result, Ok, Err}
use Rattle.scenarios.specs.Refusals.{and_then}
use Rattle.run_files.specs.declared.error.RunFault.{RunFault}
use Rattle.toxicap.specs.Answering.{inputs_from}
use Rattle.toxicap.specs.HostLines.{host_lines}
use Rattle.toxicap.specs.Inputs.{hosts_from}
use Rattle.toxicap.specs.declared.reading.Inputs.{Inputs}
use Rattle.toxicap_c.specs.declared.inputs.ToxicapInputs.{ToxicapInputs}
use Rattle.toxicap_c.specs.Buffers.{Buffers}

-- texts one after another: each is the next `len` bytes, or those that are left
abbrev pub texts_in : List ℕ → List ℕ → List (List ℕ)
texts_in bytes [] = []
texts_in bytes (len ∷ lens) = take len bytes ∷ texts_in (drop len bytes) lens

abbrev pub texts_of : ToxicapInputs → List (List ℕ)
texts_of i = texts_in i.scenarios.now i.scenario_lens.now

-- what a rehearsal takes, or the first refusal: of the hosts, then of the texts
abbrev pub inputs_asked : ToxicapInputs → Result Inputs RunFault
inputs_asked i = and_then (hosts_from [] (host_lines i.hosts.now)) (λ known. inputs_from known (texts_of i) i.seed i.capture.now)

abbrev pub put_by : {V A C : Type 0} → (V → Buffers A C) → Result V RunFault → Result (Buffers A C) RunFault
put_by put (Ok made) = Ok (put made)
put_by put (Err fault) = Err fault

-- what is put into the buffers if `make` says what is made of the inputs
abbrev pub asked_for : {V A C : Type 0} → (V → Buffers A C) → (Inputs → Result V RunFault) → ToxicapInputs → Result (Buffers A C) RunFault
asked_for put make i = put_by put (and_then (inputs_asked i) make)
