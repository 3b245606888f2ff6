use Rattle.std.proofs.Common.{rules, ◌≡◌, ℕ, List, false, IfSome}
use Rattle.run_files.specs.{path_in, ChangesAt, HasRead, is_refused}
use Rattle.run_files.proofs.StoredFiles.{Leaves-published}
use Rattle.run_files.proofs.folders.Folder.commit.Goals as goal

pub returns-in-Ok-publish-clause-leaves : goal.returns-in-Ok-publish-clause-leaves
returns-in-Ok-publish-clause-leaves g c =
    let folder = c.args.self.now in
    let name : List ℕ = c.args.name.now in
    let takes : is_refused folder.path name ≡ false = search rules in
    let unread : IfSome (g.D.Disk.standing c.args.disk.now) (λ stood. HasRead folder.read (stood (path_in folder.path name)) → ⊥) = search rules in
    let others : ChangesAt (g.D.Disk.standing c.args.disk.now) (g.D.Disk.standing c.publish.new.self) (path_in folder.path name) = search rules in
    Leaves-published folder name (g.D.Disk.standing c.args.disk.now) (g.D.Disk.standing c.publish.new.self) takes unread others
