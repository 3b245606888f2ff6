mod Sums
mod RuleKept
mod FilledTrays
mod Worlds
