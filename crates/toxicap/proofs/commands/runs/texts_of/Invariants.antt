use Rattle.std.proofs.Common.{◌≡◌, take, map}
use Rattle.toxicap.proofs.commands.runs.texts_of.Given as goal

abbrev pub invariant-loop-file : goal.invariant-loop-file
invariant-loop-file l = map (λ t. t.now) l.texts.items ≡ map (λ f. f.items) (take l.file-index l.files)
