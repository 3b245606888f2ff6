use Rattle.scenarios.proofs.SoundScenarios.{scenarios_are_sound}
use Rattle.scenarios.proofs.laws.scenarios_are_sound.Goals as goal

pub returns : goal.returns
returns c = scenarios_are_sound
