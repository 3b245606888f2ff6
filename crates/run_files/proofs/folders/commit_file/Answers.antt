use Rattle.std.proofs.Common.{◌≡◌, ℕ, ◌+◌, Bool, List, ap, subst, ◌∙◌}
use Rattle.run_files.specs.{is_refused, failed_puts, outcome_of_storing}
use Rattle.run_files.proofs.StoredFiles.{name_allowed}
use Rattle.run_files.proofs.folders.commit_file.Goals as goal

-- a call of the disk failed if the folder allowed the name
pub returns-clause-faults : goal.returns-clause-faults
returns-clause-faults g c =
    let folder : List ℕ = c.args.folder.now.path in
    let name = c.deref.ensures ∙ c.in-Ok.ensures in
    let allowed = ap (is_refused folder) name ∙ name_allowed c.args.number c.requires.number folder c.args.ending.now c.requires.ending c.requires.slash in
    subst (λ (b : Bool). g.D.Disk.faults c.commit.new.disk ≡ g.D.Disk.faults c.args.disk.now + failed_puts b (outcome_of_storing c.commit.result)) allowed
    c.commit.ensures.faults
