use Rattle.run_files.proofs.LoadedTexts.{text_of_path}
use Rattle.run_files.proofs.inputs.load_file.Goals as goal

pub returns-clause-contents : goal.returns-clause-contents
returns-clause-contents g c =
    text_of_path (λ bytes. bytes.items) c.load_whole.result (g.D.Disk.history c.args.disk.now) c.args.path.now (g.D.File.DiskFile.contents c.in_ok-file.file)
    c.in_ok-file.ensures.contents c.load_whole.ensures.contents
