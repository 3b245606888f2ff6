use Rattle.std.proofs.Common.{◌≡◌, ◌∙◌, ℕ, Bool, List, map, Option, Some, option_map, sym, ap, subst}
use Rattle.std.specs.List.{slice_get}
use Rattle.std.proofs.lemmas.Option.{slice_get-map}
use Rattle.pcap_records.specs.CaptureView.{CaptureView}
use Rattle.pcap_records.specs.Instants.{horizon}
use Rattle.closed_loop.specs.declared.rounds.Study.{Study}
use Rattle.closed_loop.specs.declared.forerunners.Forerunners.{Forerunners}
use Rattle.closed_loop.specs.Openings.{SessionView, AreForerunners}
use Rattle.closed_loop.specs.Scripts.{ScriptView}
use Rattle.closed_loop.specs.Recordings.{recorded_times, IsCaptureAt, IsReadAs}
use Rattle.closed_loop.specs.Studies.{AreSettledBy}
use Rattle.closed_loop.specs.Settled.{IsSettled}
use Rattle.closed_loop.proofs.rounds.find_settled.Goals as goal

-- each session has the forerunners of its script
followed : (xs : List SessionView) (scripts wanted : List ScriptView) (fs : List Forerunners) → map (λ (x : SessionView). x.script) xs ≡ scripts → map (λ (x : SessionView). x.forerunners) xs ≡ fs
    → scripts ≡ wanted
    → ((i : ℕ) (p : ScriptView) (f : Forerunners) → slice_get scripts i ≡ Some p → slice_get fs i ≡ Some f → AreForerunners scripts p f)
    → (i : ℕ) (x : SessionView) → slice_get xs i ≡ Some x → AreForerunners wanted x.script x.forerunners
followed xs scripts wanted fs scripts_are fs_are wanted_is all i x at =
    let script : slice_get scripts i ≡ Some x.script
    = ap (λ (ps : List ScriptView). slice_get ps i) (sym scripts_are) ∙ slice_get-map (λ (y : SessionView). y.script) xs i ∙ ap (option_map (λ (y : SessionView). y.script)) at in
    let f : slice_get fs i ≡ Some x.forerunners
    = ap (λ (ps : List Forerunners). slice_get ps i) (sym fs_are) ∙ slice_get-map (λ (y : SessionView). y.forerunners) xs i ∙ ap (option_map (λ (y : SessionView). y.forerunners)) at in
    subst (λ (ps : List ScriptView). AreForerunners ps x.script x.forerunners) wanted_is (all i x.script x.forerunners script f)

pub returns-then-branch-clause-settled : goal.returns-then-branch-clause-settled
returns-then-branch-clause-settled c = λ manners is.
    let study : Study = c.args.study.now in
    let capture : CaptureView = study.source.capture.now in
    let times : List (Option ℕ) = c.rounds.times.items in
    let file : List ℕ = c.in_ok-recording.recording.items in
    let hear = c.in_ok-hearings.ensures in
    let heard : CaptureView = hear.0 in
    let settled_by : AreSettledBy study c.deref-in-rounds-2.result.now c.deref-in-rounds-3.result.now = c.in_ok-are_settled.ensures c.if-branch.true in
    let recorded_is : study.opening.recorded.now ≡ recorded_times capture = is.recorded ∙ is.source.recorded in
    let one : IsSettled (recorded_times capture) c.deref-in-rounds-2.result.now study.opening.in_turn study.opening.limit settled_by.sessions
    = subst (λ (r : List (Option ℕ)). IsSettled r c.deref-in-rounds-2.result.now study.opening.in_turn study.opening.limit settled_by.sessions) recorded_is settled_by.settled in
    let two : IsSettled (recorded_times capture) times study.opening.in_turn study.opening.limit settled_by.sessions
    = subst (λ (t : List (Option ℕ)). IsSettled (recorded_times capture) t study.opening.in_turn study.opening.limit settled_by.sessions) c.deref-in-rounds-2.ensures.value one in
    let three : IsSettled (recorded_times capture) times manners.in_turn study.opening.limit settled_by.sessions
    = subst (λ (b : Bool). IsSettled (recorded_times capture) times b study.opening.limit settled_by.sessions) is.in_turn two in
    let four : IsSettled (recorded_times capture) times manners.in_turn (horizon capture.ticks) settled_by.sessions
    = subst (λ (n : ℕ). IsSettled (recorded_times capture) times manners.in_turn n settled_by.sessions) is.limit three in
    record {
      written = subst (λ (t : List (Option ℕ)). IsCaptureAt capture t file) c.deref.ensures.value c.in_ok-recording.ensures;
      heard = heard;
      read = subst (λ (f : List ℕ). IsReadAs f heard) c.deref-in-rounds.ensures.value hear.1;
      numbered_file = is.scripted.numbered_file;
      numbered = is.scripted.numbered;
      numbers_written = is.scripted.numbers_written;
      numbers_read = is.scripted.numbers_read;
      sessions = settled_by.sessions;
      are_sessions = record {
        each = settled_by.each ∙ is.scripted.conns;
        scripted = settled_by.scripts ∙ is.scripted.scripted;
        followed = followed settled_by.sessions study.scripts.now _ study.forerunners.now settled_by.scripts settled_by.forerunners is.scripted.scripted is.followed;
        delivered = settled_by.heard ∙ c.deref-in-rounds-3.ensures.value ∙ hear.2;
      };
      settled = four;
    }
