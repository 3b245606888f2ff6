-- When there is no closed loop.
use Rattle.std.specs.Prelude.{◌≡◌, List, [], IfSome, Result, Err, IsOk}
use Rattle.scenarios.specs.declared.proxies.Proxy.{Proxy}
use Rattle.run_files.specs.declared.error.RunFault.{RunFault}
use Rattle.run_files.specs.declared.outputs.Output.{Output}
use Rattle.run_files.specs.RunFault.{run_refusal}
use Rattle.closed_loop.specs.declared.fault.LoopFault.{LoopFault}
use Rattle.closed_loop.specs.declared.fault.LoopFault.TheVariants.{NoScenario, Refused, BadRecording, NotSettled}

-- A capture or scenarios are refused as a rehearsal of them is, which has this answer; lack of memory refuses nothing.
abbrev pub IsFaultOf : LoopFault → List (List Proxy) → Result (List Output) RunFault → Type 0
IsFaultOf NoScenario scenarios answer = scenarios ≡ []
IsFaultOf (Refused fault) scenarios answer = IfSome (run_refusal fault) (λ refused. answer ≡ Err refused)
IsFaultOf (BadRecording fault) scenarios answer = IsOk answer
IsFaultOf NotSettled scenarios answer = IsOk answer
