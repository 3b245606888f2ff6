-- Runs of the program that are cut off at any moment, and then begun anew.
use Rattle.std.specs.Prelude.{◌≡◌, ◌≤◌, ℕ, List, [], length, map, Option, Some, Result, Ok}
use Rattle.toxicap.specs.Words.{and_then, Held, History, held_at, held_now, ReadsAs, Asked, RunSummary, RunFault, Output, CountedView}
use Rattle.toxicap.specs.Answering.{answer_of_texts}
use Rattle.toxicap.specs.Commands.{RunsBy, Streams, streams}
use Rattle.toxicap.specs.Inputs.{LoadsCapture, hosts_asked, texts_from, texts_or_no_proxies}
use Rattle.toxicap.specs.RunEnds.{disk_histories}

-- what a command line calls for, by what paths hold, and with the text of its capture
abbrev pub answer_of_asked : Held → Asked → List ℕ → Result (List Output) RunFault
answer_of_asked held asked text = and_then (hosts_asked asked) (λ hosts.
    and_then (texts_from held [] (map (λ path. path.now) asked.scenarios.items)) (λ files. answer_of_texts hosts (texts_or_no_proxies files) asked.seed text))

-- two runs call for the same outputs, whatever text each may have loaded as its capture
abbrev pub CallForTheSame : History → Asked → Streams → History → Asked → Streams → Type 0
CallForTheSame old asked s cut again t =
    (one two : List ℕ) → LoadsCapture (Some old) asked.capture s.InputUnread s.Loaded (Ok one) → LoadsCapture (Some cut) again.capture t.InputUnread t.Loaded (Ok two)
    → answer_of_asked (held_now cut) again two ≡ answer_of_asked (held_now old) asked one

-- A run ends well over a disk with the history `old`, and leaves `new`. At a moment of that run n files had been published; the same words are run
-- over a disk whose paths hold what they held then. If this run calls for the same outputs and ends well, each path holds what it holds after
-- the one whole run.
abbrev pub KilledRunsAreMended : {R W : Type 0} → (R → Option (List ℕ)) → (W → Option (List ℕ)) → Type 0
KilledRunsAreMended remaining contents =
    (words : List (List ℕ)) (asked again : Asked) (old new cut mended : History) (n : ℕ) (path : List ℕ)
    (r r2 s s2 : CountedView _) (w w2 x x2 : CountedView _) (one other : RunSummary)
    → ReadsAs words (Ok asked) → RunsBy asked (Ok one) (disk_histories (Some old) (Some new)) (streams remaining r r2 contents w w2)
    → length old.published ≤ n → ((p : List ℕ) → held_now cut p ≡ held_at new n p)
    → ReadsAs words (Ok again) → RunsBy again (Ok other) (disk_histories (Some cut) (Some mended)) (streams remaining s s2 contents x x2)
    → CallForTheSame old asked (streams remaining r r2 contents w w2) cut again (streams remaining s s2 contents x x2)
    → held_now mended path ≡ held_now new path
