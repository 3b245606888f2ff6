use Rattle.toxicap.proofs.RunSteps.{files_are_loaded_in_order}
use Rattle.toxicap.proofs.laws.files_are_loaded_in_order.Goals as goal

pub returns : goal.returns
returns c = files_are_loaded_in_order
