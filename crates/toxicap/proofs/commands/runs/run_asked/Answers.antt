use Rattle.std.proofs.Common.{◌≡◌, map, Ok, Err, refl, ◌∙◌}
use Rattle.std.proofs.lemmas.List.{length-map}
use Rattle.std.proofs.lemmas.Result.{err_from_is_err_and}
use Rattle.toxicap.specs.{Memory, texts_or_no_proxies}
use Rattle.toxicap.proofs.RunSteps.{inputs_stand, then_seen, then_unseen}
use Rattle.toxicap.proofs.commands.runs.run_asked.Goals as goal

pub returns-in_err-hosts-clause-runs : goal.returns-in_err-hosts-clause-runs
returns-in_err-hosts-clause-runs g c =
    let fault = err_from_is_err_and c.from_residual.result c.from_residual.ensures.1 in
    let is = rw c.deref.ensures.value at c.in_err-hosts.ensures.exact in
    rw (fault.1, fault.2) (Err _, is, (refl, (refl, (refl, refl))))

pub returns-in_err-files-clause-runs : goal.returns-in_err-files-clause-runs
returns-in_err-files-clause-runs g c =
    let fault = err_from_is_err_and c.from_residual-in_err-files.result c.from_residual-in_err-files.ensures.1 in
    let known = rw c.deref.ensures.value at c.in_ok-hosts.ensures.exact in
    let contents = rw c.deref-2.ensures.value at c.in_err-files.ensures.contents in
    let own = rw c.deref-2.ensures.value at c.in_err-files.ensures.of_file in
    rw (fault.1, fault.2) (Ok c.in_ok-hosts.hosts, known, (Err _, (tt, own, contents), (refl, (refl, (refl, refl)))))

pub returns-in_err-texts-clause-runs : goal.returns-in_err-texts-clause-runs
returns-in_err-texts-clause-runs g c =
    let fault = err_from_is_err_and c.from_residual-in_err-texts.result c.from_residual-in_err-texts.ensures.1 in
    rw (fault.1, fault.2) (Err Memory, tt, (refl, (refl, (refl, refl))))

pub returns-in_err-seen-clause-runs : goal.returns-in_err-seen-clause-runs
returns-in_err-seen-clause-runs g c =
    let fault = err_from_is_err_and c.from_residual-in_err-seen.result c.from_residual-in_err-seen.ensures.1 in
    let known = rw c.deref.ensures.value at c.in_ok-hosts.ensures.exact in
    let each = rw c.deref-2.ensures.value at c.in_ok-files.ensures.one_each in
    let contents = rw c.deref-2.ensures.value at c.in_ok-files.ensures.contents in
    let (loaded, sees, within, loads) = c.in_err-seen.ensures in
    rw (fault.1, fault.2)
    (Ok c.in_ok-hosts.hosts, known, (Ok _, (length-map c.in_ok-files.files.items _ ∙ each, tt, contents), then_unseen _ _ _ _ loaded sees loads (refl, refl)))

pub returns-in_default-clause-runs : goal.returns-in_default-clause-runs
returns-in_default-clause-runs g c =
    let known = rw c.deref.ensures.value at c.in_ok-hosts.ensures.exact in
    let each = rw c.deref-2.ensures.value at c.in_ok-files.ensures.one_each in
    let contents = rw c.deref-2.ensures.value at c.in_ok-files.ensures.contents in
    let are : map (λ t. t.now) c.in_ok-texts.texts.items ≡ texts_or_no_proxies (map (λ f. f.items) c.in_ok-files.files.items) = rw c.deref-3.ensures.value at c.in_ok-texts.ensures.are in
    let (loaded, sees, within, loads) = c.in_ok-seen.ensures in
    let printed = rw (c.deref-in_default.ensures.value, are) at c.print_answers.ensures.prints in
    let summary = rw (c.deref-in_default.ensures.value, are) at c.print_answers.ensures.summary in (
      Ok c.in_ok-hosts.hosts,
      known,
      (
        Ok _,
        (length-map c.in_ok-files.files.items _ ∙ each, tt, contents),
        then_seen _ _ _ _ c.in_ok-seen.seen loaded sees within loads (λ text short is. (rw c.in_default.is (printed text short is, refl), summary text short is)),
      ),
    )

pub returns-in_err-text-clause-runs : goal.returns-in_err-text-clause-runs
returns-in_err-text-clause-runs g c =
    let fault = err_from_is_err_and c.from_residual-in_err-text.result c.from_residual-in_err-text.ensures.1 in
    let known = rw c.deref.ensures.value at c.in_ok-hosts.ensures.exact in
    let each = rw c.deref-2.ensures.value at c.in_ok-files.ensures.one_each in
    let contents = rw c.deref-2.ensures.value at c.in_ok-files.ensures.contents in
    rw (fault.1, fault.2)
    (Ok c.in_ok-hosts.hosts, known, (Ok _, (length-map c.in_ok-files.files.items _ ∙ each, tt, contents), (Err _, c.in_err-text.ensures.loads, (refl, (refl, refl)))))

pub returns-clause-runs : goal.returns-clause-runs
returns-clause-runs g c =
    let known = rw c.deref.ensures.value at c.in_ok-hosts.ensures.exact in
    let each = rw c.deref-2.ensures.value at c.in_ok-files.ensures.one_each in
    let contents = rw c.deref-2.ensures.value at c.in_ok-files.ensures.contents in
    let are : map (λ t. t.now) c.in_ok-texts.texts.items ≡ texts_or_no_proxies (map (λ f. f.items) c.in_ok-files.files.items) = rw c.deref-3.ensures.value at c.in_ok-texts.ensures.are in
    let stored = rw (c.deref-4.ensures.value, are, c.new-folder.ensures) at c.store_answers.ensures.stored in
    let summary = rw (c.deref-4.ensures.value, are) at c.store_answers.ensures.summary in
    (Ok c.in_ok-hosts.hosts, known, (Ok _, (length-map c.in_ok-files.files.items _ ∙ each, tt, contents), (Ok c.in_ok-text.text, c.in_ok-text.ensures.loads, (rw c.in-Some.is (stored, refl), summary))))

pub returns-clause-inputs : goal.returns-clause-inputs
returns-clause-inputs g c =
    let files = rw c.deref-2.ensures.value at c.in_ok-files.ensures.read in
    let leaves = rw c.new-folder.ensures at c.store_answers.ensures.leaves in
    inputs_stand c.args.asked.now (g.D.Disk.input c.args.disk.now) c.in-Some.folder (record { path = c.in-Some.folder.now; read = c.load_capture.new.read })
    (g.D.Disk.standing c.args.disk.now) (g.D.Disk.standing c.store_answers.new.disk) c.new-read.result c.load_files.new.read c.in-Some.is refl files c.in_ok-text.ensures.read leaves
