use Rattle.scenarios.proofs.AddressSteps.{addresses_are_dotted}
use Rattle.scenarios.proofs.laws.addresses_are_dotted.Goals as goal

pub returns : goal.returns
returns c = addresses_are_dotted
