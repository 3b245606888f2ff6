use Rattle.run_files.proofs.LoadedTexts.{text_of_path}
use Rattle.run_files.proofs.inputs.load_by_workers.Goals as goal

pub returns-clause-contents : goal.returns-clause-contents
returns-clause-contents g c =
    text_of_path (λ text. text) c.load_text.result (g.D.Disk.history c.args.disk.now) c.args.path.now (g.D.File.DiskFile.contents c.in_ok-file.file)
    c.in_ok-file.ensures.contents c.load_text.ensures.contents
