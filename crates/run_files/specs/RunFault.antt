-- The faults of a run, and the line of each.
use Rattle.std.specs.Prelude.{ℕ, Bool, if◌then◌else◌, List, [], ◌++◌, codes, Option, Some, None, Result, Ok, Err}
use Rattle.run_files.specs.Words.{decimal, CaptureFault, Cause}
use Rattle.run_files.specs.declared.error.RunFault.{RunFault}
use Rattle.run_files.specs.declared.error.StoreFault.{StoreFault}
use Rattle.run_files.specs.declared.fault_lines.FaultPlace.{FaultPlace}
use Rattle.run_files.specs.declared.fault_lines.FaultPlace.TheVariants.{Nowhere, At, Host, After, In}
use Rattle.pcap_records.specs.declared.fault.CaptureFault.TheVariants as of_capture
use Rattle.scenarios.specs.declared.error.Cause.TheVariants as causes
use Rattle.run_files.specs.declared.error.RunFault.TheVariants as of_run
use Rattle.run_files.specs.declared.error.StoreFault.TheVariants as of_storing

abbrev pub run_fault : CaptureFault → RunFault
run_fault of_capture.ShortHeader = of_run.ShortHeader
run_fault of_capture.BadMagic = of_run.BadMagic
run_fault of_capture.BadVersion = of_run.BadVersion
run_fault of_capture.BadLink = of_run.BadLink
run_fault (of_capture.RecordTooLong at) = of_run.RecordTooLong at
run_fault of_capture.CaptureTooLong = of_run.CaptureTooLong
run_fault (of_capture.Memory e) = of_run.Memory

abbrev pub run_fault_of_storing : StoreFault → RunFault
run_fault_of_storing (of_storing.ShelfFailed after) = of_run.ShelfFailed after
run_fault_of_storing (of_storing.Memory after) = of_run.Memory

abbrev pub outcome_of_storing : Result (Unit {0}) StoreFault → Result (Unit {0}) RunFault
outcome_of_storing (Ok stored) = Ok stored
outcome_of_storing (Err fault) = Err (run_fault_of_storing fault)

-- How many calls of the disk failed if storing ended so: one if a file could not be stored. If `refused`, no call was made: the folder refuses the
-- file's name, or the folder's path is empty.
abbrev pub failed_puts : Bool → Result (Unit {0}) RunFault → ℕ
failed_puts refused (Err (of_run.ShelfFailed after)) = if refused then 0 else 1
failed_puts refused _ = 0

-- the refusal of a run that ends by a fault: out of memory refuses nothing
abbrev pub run_refusal : RunFault → Option RunFault
run_refusal of_run.Memory = None
run_refusal fault = Some fault

-- ---- the line of a fault

abbrev pub cause_entry : Cause → ℕ × List ℕ
cause_entry causes.NotJson = (10, codes "NotJson")
cause_entry causes.NotArray = (11, codes "NotArray")
cause_entry causes.BadMember = (12, codes "BadMember")
cause_entry causes.DuplicateProxy = (13, codes "DuplicateProxy")
cause_entry causes.BadUpstream = (14, codes "BadUpstream")
cause_entry causes.UnknownHost = (15, codes "UnknownHost")
cause_entry causes.UnknownToxic = (16, codes "UnknownToxic")
cause_entry causes.BadStream = (17, codes "BadStream")
cause_entry causes.DuplicateToxic = (18, codes "DuplicateToxic")
cause_entry causes.AttributeRange = (19, codes "AttributeRange")
cause_entry causes.TooMany = (20, codes "TooMany")
cause_entry causes.BadToxicity = (21, codes "BadToxicity")

abbrev pub fault_entry : RunFault → ℕ × List ℕ × FaultPlace
fault_entry of_run.ShortHeader = (1, codes "ShortHeader", Nowhere)
fault_entry of_run.BadMagic = (2, codes "BadMagic", Nowhere)
fault_entry of_run.BadVersion = (3, codes "BadVersion", Nowhere)
fault_entry of_run.BadLink = (4, codes "BadLink", Nowhere)
fault_entry (of_run.RecordTooLong at) = (5, codes "RecordTooLong", At at)
fault_entry of_run.CaptureTooLong = (6, codes "CaptureTooLong", Nowhere)
fault_entry (of_run.BadScenario number refusal) =
    ((cause_entry refusal.cause).0, (cause_entry refusal.cause).1, In number refusal.proxy refusal.toxic)
fault_entry of_run.TooManyScenarios = (22, codes "TooManyScenarios", Nowhere)
fault_entry (of_run.BadHost at) = (23, codes "BadHost", Host at)
fault_entry of_run.Memory = (40, codes "Memory", Nowhere)
fault_entry (of_run.BadDump at) = (55, codes "BadDump", At at)
fault_entry (of_run.ShelfFailed after) = (60, codes "ShelfFailed", After after)
fault_entry of_run.ReadFailed = (61, codes "ReadFailed", Nowhere)
fault_entry of_run.WriteFailed = (62, codes "WriteFailed", Nowhere)

-- a name and its number, if the number is known
abbrev pub known_text : List ℕ → Option ℕ → List ℕ
known_text name None = []
known_text name (Some n) = name ++ decimal n

abbrev pub place_text : FaultPlace → List ℕ
place_text Nowhere = []
place_text (At n) = codes " at " ++ decimal n
place_text (Host n) = codes " host " ++ decimal n
place_text (After n) = codes " after " ++ decimal n
place_text (In scenario proxy toxic) =
    (known_text (codes " scenario ") (Some scenario) ++ known_text (codes " proxy ") proxy) ++ known_text (codes " toxic ") toxic

-- refused NUMBER NAME, and its place
unfoldable pub fault_text : RunFault → List ℕ
fault_text fault =
    let entry = fault_entry fault in
    (codes "refused " ++ (decimal entry.0 ++ (codes " " ++ entry.1))) ++ place_text entry.2
