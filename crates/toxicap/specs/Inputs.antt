-- What a command line names: hosts, scenario files, and a capture.
use Rattle.std.specs.Prelude.{◌≡◌, ℕ, ◌+◌, ◌<◌, ◌≤◌, ◌==◌, List, [], ◌∷◌, ◌++◌, length, map, take, drop, position, codes, Option, Some, None, option_map}
use Rattle.std.specs.Prelude.{option_and_then, IfErr, IfNone, IfOk, IfSome, Result, Ok, Err}
use Rattle.toxicap.specs.Words.{Bor, Consumes, IsAtEnd, capture_limit, host_for, and_then, with, KnownHost, Asked, Held, History, held_now, RunFault, BadHost}
use Rattle.toxicap.specs.Words.{CaptureTooLong, Memory, ReadFailed, IsOfFile, text_at, LoadsInput, CountedView}
use Rattle.toxicap.specs.RunEnds.{UnlessMemory}

-- ---- hosts

-- the text before the first such byte, and the text after it, if there is one
abbrev pub cut_at_first : ℕ → List ℕ → Option (List ℕ × List ℕ)
cut_at_first byte text = option_map (λ at. (take at text, drop (at + 1) text)) (position (λ b. b == byte) text)

abbrev pub equals_sign : ℕ
equals_sign = 61

-- the host that NAME=ADDR adds to those that are known, unless it is not valid or its name is known
abbrev pub host_written : List KnownHost → List ℕ → Option KnownHost
host_written hosts written = option_and_then (λ parts. host_for hosts parts.0 parts.1) (cut_at_first equals_sign written)

-- the hosts of a command line, after those that are known; the first that is not valid is refused with its place
unfoldable pub hosts_from : List KnownHost → List (List ℕ) → Result (List KnownHost) RunFault
hosts_from hosts [] = Ok hosts
hosts_from hosts (written ∷ rest) =
    with (host_written hosts written) (BadHost (length hosts)) (λ host. hosts_from (hosts ++ host ∷ []) rest)

abbrev pub hosts_asked : Asked → Result (List KnownHost) RunFault
hosts_asked asked = hosts_from [] (map (λ host. host.now) asked.hosts.items)

-- a host was added, and stands last then; or it was refused with this place, or memory ran out, and the list is as it was
abbrev pub AddsHost : Result (Unit {0}) RunFault → ℕ → Option KnownHost → List KnownHost → List KnownHost → Type 0
AddsHost (Ok _) at expected old new = (host : KnownHost) × (expected ≡ Some host) × (new ≡ old ++ host ∷ [])
AddsHost (Err (BadHost place)) at expected old new = (expected ≡ None) × (place ≡ at) × (new ≡ old)
AddsHost (Err Memory) at expected old new = new ≡ old
AddsHost (Err _) at expected old new = ⊥

abbrev pub IsOfHost : RunFault → Type 0
IsOfHost (BadHost at) = Unit {0}
IsOfHost Memory = Unit {0}
IsOfHost _ = ⊥

-- ---- scenario files

-- the texts at some paths, after those loaded earlier, or the first refusal
unfoldable pub texts_from : Held → List (List ℕ) → List (List ℕ) → Result (List (List ℕ)) RunFault
texts_from held earlier [] = Ok earlier
texts_from held earlier (path ∷ paths) = and_then (text_at held path) (λ text. texts_from held (earlier ++ text ∷ []) paths)

-- Each file that is loaded is the text at its own path, in order; and of files at fault the first counts.
abbrev pub FilesAreLoadedInOrder : Type 0
FilesAreLoadedInOrder = (held : Held) (paths texts : List (List ℕ)) → map (text_at held) paths ≡ map Ok texts
    → (texts_from held [] paths ≡ Ok texts)
    × ((path : List ℕ) (rest : List (List ℕ)) (fault : RunFault) → text_at held path ≡ Err fault → texts_from held [] (paths ++ path ∷ rest) ≡ Err fault)

-- a fault of some of `count` files
abbrev pub IsOfFiles : ℕ → RunFault → Type 0
IsOfFiles count ReadFailed = 0 < count
IsOfFiles count CaptureTooLong = 0 < count
IsOfFiles count Memory = Unit {0}
IsOfFiles count _ = ⊥

-- How the files at some paths are loaded: each gives one text, or a fault of one is given. If the disk tells what its paths hold, it is by that.
abbrev pub LoadsFiles : Option History → List (Bor (List ℕ)) → Result (List (List ℕ)) RunFault → Type 0
LoadsFiles history paths given =
    IfOk given (λ texts. length texts ≡ length paths) × IfErr given (IsOfFiles (length paths))
    × IfSome history (λ h. UnlessMemory (texts_from (held_now h) [] (map (λ path. path.now) paths)) given)

-- the scenario without proxies, which is used if no scenario is named
abbrev pub no_proxies : List ℕ
no_proxies = codes "[]"

abbrev pub texts_or_no_proxies : List (List ℕ) → List (List ℕ)
texts_or_no_proxies [] = no_proxies ∷ []
texts_or_no_proxies (text ∷ texts) = text ∷ texts

-- ---- the capture

-- how a text is loaded from a reader, by what it has left before and after, and its failed calls
abbrev pub LoadedBy : {R : Type 0} → (R → Option (List ℕ)) → CountedView R → CountedView R → Result (List ℕ) RunFault → Type 0
LoadedBy remaining r s given =
    IfOk given (λ text. length text ≤ capture_limit)
    × LoadsInput (λ text. text) given (Consumes (remaining r.inner) (remaining s.inner)) (IsAtEnd (remaining s.inner)) r.failed s.failed

-- How the capture is loaded. If no path is named, it comes from the reader that the call has for standard input (`Loaded`). Else it comes from the
-- file at the path, within the limit, and that reader is as it was (`InputUnread`). The path may lead to standard input too, as `/dev/stdin` does: what is
-- read there is a file of the disk.
abbrev pub LoadsCapture : Option History → Option (Bor (List ℕ)) → Type 0 → (Result (List ℕ) RunFault → Type 0) → Result (List ℕ) RunFault → Type 0
LoadsCapture history path InputUnread Loaded given =
    IfNone path (Loaded given)
    × IfSome path (λ p. InputUnread × IfOk given (λ text. length text ≤ capture_limit) × IfErr given IsOfFile
    × IfSome history (λ h. UnlessMemory (text_at (held_now h) p.now) given))
