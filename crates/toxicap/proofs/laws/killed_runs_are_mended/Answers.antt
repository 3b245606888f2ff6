use Rattle.std.proofs.Common.{◌≡◌, ◌≤◌, ℕ, ◌+◌, ◌-◌, List, [], length, map, take, Option, Some, None, Result, Ok, option_map, refl, sym, ap, subst, ◌∙◌, arith}
use Rattle.std.proofs.Common.{append-nil}
use Rattle.std.proofs.Math.Path.{fun_ext}
use Rattle.std.proofs.Math.Seq.{take-append-add}
use Rattle.std.proofs.lemmas.List.Sums.{fold-append}
use Rattle.toxicap.specs.{Bor, Held, History, PublishedAgain, PublishedFile, Publishes, held_after, held_at, held_now, with_published, KnownHost, Asked}
use Rattle.toxicap.specs.{RunSummary, RunFault, Output, in_folder, files_from, answer_of_texts, PrintsOrStores, RunsBy, Streams, LoadsCapture, LoadsFiles}
use Rattle.toxicap.specs.{hosts_asked, texts_from, texts_or_no_proxies, answer_of_asked, UnlessMemory, disk_histories}
use Rattle.toxicap.proofs.RunSteps.{went_on}
use Rattle.toxicap.proofs.laws.killed_runs_are_mended.Goals as goal

none_published : (h : History) → Some h ≡ Some (with_published h [])
none_published h = ap (λ (published : List PublishedFile). Some (record { first = h.first; published = published })) (sym (append-nil h.published))

module _ (published_again : PublishedAgain) (old new cut mended : History) (n : ℕ) (path : List ℕ)
    (later : length old.published ≤ n) (begins : (p : List ℕ) → held_now cut p ≡ held_at new n p) where
  published_twice : (files : List PublishedFile) → Publishes (Some old) (Some new) files → Publishes (Some cut) (Some mended) files → held_now mended path ≡ held_now new path
  published_twice files once twice =
      let all : new ≡ with_published old files = cc in
      let rest : mended ≡ with_published cut files = cc in
      let some : List PublishedFile = take (n - length old.published) files in
      let since : n ≡ length old.published + (n - length old.published) = omega arith in
      let begun : held_now cut ≡ held_after (held_now old) some =
      fun_ext begins ∙ ap (λ (h : History). held_at h n) all ∙ ap (held_at (with_published old files)) since
      ∙ ap (held_after old.first) (take-append-add old.published files (n - length old.published)) ∙ fold-append _ old.first old.published some in
      let again : held_now mended ≡ held_after (held_after (held_now old) some) files =
      ap held_now rest ∙ fold-append _ cut.first cut.published files ∙ ap (λ (held : Held). held_after held files) begun in
      let whole : held_now new ≡ held_after (held_now old) files = ap held_now all ∙ fold-append _ old.first old.published files in
      let at : Held → Option _ = λ held. held path in
      ap at again ∙ published_again (held_now old) files (n - length old.published) path ∙ ap at (sym whole)

  answers_same : (out two : Option (Bor (List ℕ))) → option_map (λ f. f.now) out ≡ option_map (λ f. f.now) two → (expected again : Result (List Output) RunFault) → again ≡ expected
      → (s t : Streams) → PrintsOrStores out (Ok tt) expected (disk_histories (Some old) (Some new)) s → PrintsOrStores two (Ok tt) again (disk_histories (Some cut) (Some mended)) t
      → held_now mended path ≡ held_now new path
  answers_same None None into expected again is s t one twice = published_twice [] (one.1 ∙ none_published old) (twice.1 ∙ none_published cut)
  answers_same (Some folder) (Some same) into expected again is s t one twice =
      let into2 : same.now ≡ folder.now = cc in
      let (outputs, are, once) = went_on (UnlessMemory expected) tt _ _ one.0 in
      let (others, are2, again2) = went_on (UnlessMemory again) tt _ _ twice.0 in
      let equal : others ≡ outputs = cc in
      published_twice (map (in_folder folder.now) (files_from 0 outputs)) once.0 (again2.0 ∙ ap (λ (files : List PublishedFile). Some (with_published cut files)) (cc))
  answers_same None (Some folder) into expected again is s t one twice = absurd (cc)
  answers_same (Some folder) None into expected again is s t one twice = absurd (cc)

asked_for : (held : Held) (asked : Asked) (text : List ℕ) (hosts : List KnownHost) (files : List (List ℕ)) → hosts_asked asked ≡ Ok hosts
    → texts_from held [] (map (λ path. path.now) asked.scenarios.items) ≡ Ok files → answer_of_asked held asked text ≡ answer_of_texts hosts (texts_or_no_proxies files) asked.seed text
asked_for held asked text hosts files known read = rw (known, read) refl

-- what a run that ended well called for
called : (old : History) (after : Option History) (asked : Asked) (s : Streams) (summary : RunSummary) → RunsBy asked (Ok summary) (disk_histories (Some old) after) s
    → (text : List ℕ) × LoadsCapture (Some old) asked.capture s.InputUnread s.Loaded (Ok text)
    × PrintsOrStores asked.out (Ok tt) (answer_of_asked (held_now old) asked text) (disk_histories (Some old) after) s
called old after asked s summary run =
    let (hosts, known, from_hosts) = went_on (UnlessMemory (hosts_asked asked)) summary _ _ run in
    let (files, read, from_files) = went_on (LoadsFiles (Some old) asked.scenarios.items) summary _ _ from_hosts in
    let (text, loaded, ends) = went_on (LoadsCapture (Some old) asked.capture s.InputUnread s.Loaded) summary _ _ from_files in
    let calls = asked_for (held_now old) asked text hosts files known read.2 in
    (text, loaded, subst (λ (expected : Result (List Output) RunFault). PrintsOrStores asked.out (Ok tt) expected (disk_histories (Some old) after) s) (sym calls) ends.0)

pub returns : goal.returns
returns g c = λ words asked again old new cut mended n path r r2 s s2 w w2 x x2 first other reads run later begins reads2 run2 calls.
    let (one, loaded, ends) = called old (Some new) asked _ first run in
    let (two, loaded2, ends2) = called cut (Some mended) again _ other run2 in
    answers_same c.published_again.ensures old new cut mended n path later begins asked.out again.out (cc (reads.2.out, reads2.2.out)) _ _ (calls one two loaded loaded2) _ _ ends ends2
