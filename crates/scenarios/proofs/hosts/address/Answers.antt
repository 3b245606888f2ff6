use Rattle.std.proofs.Common.{sym}
use Rattle.std.specs.Net.Addr.{ipv4_bits}
use Rattle.scenarios.proofs.AddressSteps.{address_of_dotted, address_of_none}
use Rattle.scenarios.proofs.hosts.address.Goals as goal

pub returns-in_default : goal.returns-in_default
returns-in_default c = rw (← c.as_bytes.ensures.value) (sym (address_of_none _ c.in_default.ensures))

pub returns : goal.returns
unfolding ipv4_bits
returns c = rw (c.to_bits.ensures, ← c.as_bytes.ensures.value) (sym (address_of_dotted _ _ c.in-Ok.ensures))
