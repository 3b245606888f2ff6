use Rattle.std.proofs.Common.{map, Ok, Err, refl}
use Rattle.std.proofs.lemmas.Result.{err_from_is_err_and}
use Rattle.toxicap.specs.{Memory, answer_of_texts, written}
use Rattle.toxicap.proofs.RunSteps.{prints_made, prints_none, writes}
use Rattle.toxicap.proofs.commands.runs.print_answers.Goals as goal

pub returns-in_err-reports-clause-prints : goal.returns-in_err-reports-clause-prints
returns-in_err-reports-clause-prints g c = λ text within is.
    let own = c.args.options.now in
    let fault = err_from_is_err_and c.from_residual.result c.from_residual.ensures.1 in
    rw (fault.1, fault.2) (prints_none (answer_of_texts own.hosts (map (λ t. t.now) c.args.texts.now) own.seed text) (written g.W.Write.contents c.args.writer.now c.args.writer.now) _
    (c.in_err-reports.ensures.reports text within is) refl)

pub returns-in_err-texts-clause-prints : goal.returns-in_err-texts-clause-prints
returns-in_err-texts-clause-prints g c = λ text within is.
    let own = c.args.options.now in
    let fault = err_from_is_err_and c.from_residual-in_err-texts.result c.from_residual-in_err-texts.ensures.1 in
    rw (fault.1, fault.2) (prints_none (answer_of_texts own.hosts (map (λ t. t.now) c.args.texts.now) own.seed text) (written g.W.Write.contents c.args.writer.now c.args.writer.now) Memory tt refl)

pub returns-clause-prints : goal.returns-clause-prints
returns-clause-prints g c = λ text within is.
    let own = c.args.options.now in
    let w = c.args.writer.now in
    let x = c.write_texts.new.writer in
    let reports = c.in_ok-reports.reports in
    let wrote = c.in_ok-write_texts.ensures in
    let whole = rw (c.deref.ensures.value, c.in_ok-texts.ensures) at wrote.whole in
    prints_made (answer_of_texts own.hosts (map (λ t. t.now) c.args.texts.now) own.seed text) (written g.W.Write.contents w x) reports
    (c.in_ok-reports.ensures.reports text within is) (Ok tt) (writes g.W.Write.contents w x (Ok tt) reports whole wrote.none_failed tt tt tt)

pub returns-in_err-write_texts-clause-prints : goal.returns-in_err-write_texts-clause-prints
returns-in_err-write_texts-clause-prints g c = λ text within is.
    let own = c.args.options.now in
    let w = c.args.writer.now in
    let x = c.write_texts.new.writer in
    let reports = c.in_ok-reports.reports in
    let fault = err_from_is_err_and c.from_residual-in_err-write_texts.result c.from_residual-in_err-write_texts.ensures.1 in
    let wrote = c.in_err-write_texts.ensures in
    let first = rw (c.deref.ensures.value, c.in_ok-texts.ensures) at wrote.first_part in
    rw (fault.1, fault.2) (prints_made (answer_of_texts own.hosts (map (λ t. t.now) c.args.texts.now) own.seed text) (written g.W.Write.contents w x) reports
    (c.in_ok-reports.ensures.reports text within is) (Err _) (writes g.W.Write.contents w x (Err _) reports tt tt wrote.refused wrote.one_failed first))
