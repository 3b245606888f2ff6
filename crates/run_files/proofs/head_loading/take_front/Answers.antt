use Rattle.std.proofs.Common.{◌≡◌, ◌-◌, ◌++◌, ℕ, List, length, take, drop, ap, sym, ◌∙◌, arith, length-drop, zero-add}
use Rattle.std.proofs.lemmas.List.{length-take-le}
use Rattle.std.proofs.lemmas.List.Edits.{take-paste}
use Rattle.std.proofs.lemmas.Slice.{between_is}
use Rattle.run_files.specs.{copy_within, read_on}
use Rattle.run_files.proofs.head_loading.take_front.Goals as goal

pub returns-clause-same : goal.returns-clause-same
returns-clause-same c = λ more m.
    let held = c.args.held in
    let old = c.args.buffer.now in
    let taken = c.taken.result - c.taken-before.result in
    let takes = c.in_ok-take.ensures.takes in
    let is : taken ≡ c.take.new.self.taken - c.args.reader.now.taken = omega (arith, c.taken.ensures, c.taken-before.ensures) in
    let long : length (take held old) ≡ held = length-take-le held old c.requires.held in
    let moved : take (held - taken) c.copy_within.new.self ≡ drop taken (take held old) =
    ap (take (held - taken)) c.copy_within.ensures.after
    ∙ ap (λ k. take k (copy_within old taken held 0)) (sym (zero-add (held - taken)))
    ∙ take-paste old 0 (drop taken old) (held - taken) (omega arith) (omega (arith, length-drop taken old, c.requires.held)) ∙ between_is old taken held in
    takes.same more (omega (arith, m, long))
    ∙ ap (λ (xs : List ℕ). read_on c.take.new.self.found (xs ++ more)) (ap (λ k. drop k (take held old)) (sym is) ∙ sym moved)
