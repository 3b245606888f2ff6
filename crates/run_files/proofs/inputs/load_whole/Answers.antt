use Rattle.run_files.proofs.LoadedTexts.{file_loaded, none_come}
use Rattle.run_files.proofs.inputs.load_whole.Goals as goal

pub returns-clause-contents : goal.returns-clause-contents
returns-clause-contents g c =
    (file_loaded (λ bytes. bytes.items) _ _ _ c.load_rest.result c.load_rest.ensures.within (c.load_rest.ensures.loads (record { file = c.args.file }) (rw c.new.ensures.items (none_come _ _ c.requires)))).1

pub returns-clause-of_file : goal.returns-clause-of_file
returns-clause-of_file g c =
    (file_loaded (λ bytes. bytes.items) _ _ _ c.load_rest.result c.load_rest.ensures.within (c.load_rest.ensures.loads (record { file = c.args.file }) (rw c.new.ensures.items (none_come _ _ c.requires)))).0
