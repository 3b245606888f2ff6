-- How the program ends on a command line.
--
-- Refusals come in this order, and only the first is told:
--   1. a fault of the command line, status 2: nothing is read, and only the fault's text is written (`ProgramEnds`);
--   2. a host (`hosts_asked`, in Inputs);
--   3. a scenario file that cannot be opened or read, or is too long: the first in order (`LoadsFiles`, in Inputs);
--   4. the capture, from a named file or standard input: it cannot be opened or read, or is too long (`LoadsCapture`, in Inputs);
--   5. its dump is broken (`capture_bytes_of`, in Answering);
--   6. a scenario is refused, the first in order (`scenarios_from`, in Answering);
--   7. there are too many scenarios (`answer`, in Rehearsal);
--   8. the capture's own faults, in the order of `reading` (pcap_records, Reading);
--   9. writing the reports fails (`WritesText`, in RunEnds), or a file cannot be stored (`StoresFiles`, in RunEnds).
-- Out of memory may come at any step. Then no byte of a report is printed; some files may be stored.
use Rattle.std.specs.Prelude.{◌≡◌, ℕ, List, Option, Some, None, Result, Ok, Err, IfOk}
use Rattle.toxicap.specs.Words.{Bor, string_bytes, Asked, Stop, RunSummary, RunFault, Memory, Output, failed_stores, CountedView}
use Rattle.toxicap.specs.Answering.{answer_of_texts, summary_of_texts}
use Rattle.toxicap.specs.Inputs.{LoadedBy, LoadsCapture, LoadsFiles, hosts_asked, texts_or_no_proxies}
use Rattle.toxicap.specs.PrintedReports.{PrintsOf}
use Rattle.toxicap.specs.RunEnds.{Step, Tells, UnlessMemory, WritesText, Written, WrittenSoFar, status_of, usage_status, without_value, written, StoresIn}
use Rattle.toxicap.specs.RunEnds.{DiskHistories}
use Rattle.command_line.specs.declared.error.Stop.TheVariants as stop

-- Statements about the reader and the writer that a run has for standard input and output. `InputUnread`: the reader is as it was. `Loaded`: loading
-- from it gave this text, or this fault. `output`: what was written. Nothing is said of a path of the disk that leads to standard input, such as
-- `/dev/stdin`.
pub record Streams : Type 1 where
  pub InputUnread : Type 0
  pub Loaded : Result (List ℕ) RunFault → Type 0
  pub output : Written

-- The streams of a run: `remaining` gives the bytes that a reader has left, and `contents` those that a writer holds.
abbrev pub streams : {R W : Type 0} → (R → Option (List ℕ)) → CountedView R → CountedView R → (W → Option (List ℕ)) → CountedView W → CountedView W → Streams
streams remaining reader_before reader_after contents writer_before writer_after = record {
  InputUnread = reader_after ≡ reader_before;
  Loaded = LoadedBy remaining reader_before reader_after;
  output = written contents writer_before writer_after;
}

-- nothing was written, and as far as the disk tells no file was published
abbrev pub NoOutput : DiskHistories → Streams → Type 0
NoOutput disk s = s.output.NothingWritten × (disk.after ≡ disk.before)

-- and standard input was not read; scenario files may have been
abbrev pub NoInputNoOutput : DiskHistories → Streams → Type 0
NoInputNoOutput disk s = s.InputUnread × NoOutput disk s

-- Without a folder the reports are printed. With one the outputs are stored, and nothing is printed.
abbrev pub PrintsOrStores : Option (Bor (List ℕ)) → Result (Unit {0}) RunFault → Result (List Output) RunFault → DiskHistories → Streams → Type 0
PrintsOrStores None outcome expected disk s = PrintsOf outcome expected s.output × (disk.after ≡ disk.before)
PrintsOrStores (Some folder) outcome expected disk s = StoresIn folder.now outcome expected disk × s.output.NothingWritten

-- The steps of a run, and how it ends: it reads the hosts, loads the scenario files and then the capture, and answers what the capture's text
-- calls for. The fault of a step is the outcome. A run that ends well gives the summary of the same texts.
abbrev pub RunsBy : Asked → Result RunSummary RunFault → DiskHistories → Streams → Type 0
RunsBy asked outcome disk s =
    Step (UnlessMemory (hosts_asked asked)) outcome (NoInputNoOutput disk s) (λ hosts.
    Step (LoadsFiles disk.before asked.scenarios.items) outcome (NoInputNoOutput disk s) (λ files.
    Step (LoadsCapture disk.before asked.capture s.InputUnread s.Loaded) outcome (NoOutput disk s) (λ text.
    PrintsOrStores asked.out (without_value outcome) (answer_of_texts hosts (texts_or_no_proxies files) asked.seed text) disk s
    × IfOk outcome (λ summary. summary_of_texts hosts (texts_or_no_proxies files) text ≡ Ok summary))))

-- the outcome of a command, from that of its run
abbrev pub of_run : Result RunSummary RunFault → Result (Option RunSummary) RunFault
of_run (Ok summary) = Ok (Some summary)
of_run (Err fault) = Err fault

-- it ended so, with this outcome, which is told and has this status
abbrev pub EndsWith : Type 0 → ℕ → Result (Option RunSummary) RunFault → Written → Type 0
EndsWith Ended status outcome faults = Ended × (status ≡ status_of outcome) × Tells outcome faults

-- The exit status of the program, and the outcome that it stands for; `Shown` is help or the version. A usage fault has the outcome Ok None, since
-- no run was begun: its status, 2, and its text tell it. Nothing is read, and only that text is written.
abbrev pub ProgramEnds : Result Asked Stop → ℕ → Result (Option RunSummary) RunFault → DiskHistories → Streams → Written → Type 0
ProgramEnds (Ok asked) status outcome disk s faults =
    EndsWith ((run : Result RunSummary RunFault) × (outcome ≡ of_run run) × RunsBy asked run disk s) status outcome faults
ProgramEnds (Err (stop.Shown text)) status outcome disk s faults =
    EndsWith (WritesText (without_value outcome) (string_bytes text) s.output × IfOk outcome (λ summary. summary ≡ None)
    × s.InputUnread × (disk.after ≡ disk.before)) status outcome faults
ProgramEnds (Err stop.Memory) status outcome disk s faults = EndsWith ((outcome ≡ Err Memory) × NoInputNoOutput disk s) status outcome faults
ProgramEnds (Err (stop.Usage text)) status outcome disk s faults =
    (status ≡ usage_status) × (outcome ≡ Ok None) × WrittenSoFar (string_bytes text) faults × NoInputNoOutput disk s

-- ---- calls of the disk

-- the folder that a command line names
abbrev pub folder_of : Result Asked Stop → Option (Bor (List ℕ))
folder_of (Ok asked) = asked.out
folder_of (Err _) = None

-- How many of the disk's calls that hold a folder, check a path or publish a draft failed in a run with this outcome: 0 or 1.
abbrev pub failed_calls : Option (Bor (List ℕ)) → Result (Unit {0}) RunFault → ℕ
failed_calls None outcome = 0
failed_calls (Some folder) outcome = failed_stores folder.now outcome
