use Rattle.std.proofs.Common.{◌≡◌, ◌∙◌, ◌==◌, false, List, ℕ, length, ap, subst, sym, rules}
use Rattle.run_files.specs.{path_in, IsDraftPath}
use Rattle.run_files.proofs.StoredFiles.{draft_path_in}
use Rattle.run_files.proofs.folders.Folder.draft_path.Goals as goal

pub returns-clause-is : goal.returns-clause-is
returns-clause-is c =
    let folder : List ℕ = c.self.inside.path.now in
    let is = c.in_ok-path.ensures ∙ ap (path_in folder) (c.deref.ensures ∙ c.in_ok-name.ensures.ok) in
    let some : (length folder == 0) ≡ false = search rules in
    rw (← c.self.view_is, some) is

pub returns-clause-unfinished : goal.returns-clause-unfinished
returns-clause-unfinished c =
    let folder : List ℕ = c.self.inside.path.now in
    subst IsDraftPath (sym (c.in_ok-path.ensures ∙ ap (path_in folder) (c.deref.ensures ∙ c.in_ok-name.ensures.ok)))
    (draft_path_in c.drafts_are_named.ensures folder c.args.place c.ranges.place.fits)
