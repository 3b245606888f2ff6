use Rattle.std.proofs.Common.{refl}
use Rattle.toxicap.specs.{beginnings, connections, unopened_count, server_base}
use Rattle.toxicap.proofs.rows.grouping_rows.Goals as goal

pub returns-clause-repeated : goal.returns-clause-repeated
unfolding beginnings connections unopened_count server_base
returns-clause-repeated c = (refl, refl)

pub returns-clause-in_turn : goal.returns-clause-in_turn
unfolding beginnings connections unopened_count server_base
returns-clause-in_turn c = refl

pub returns-clause-unopened_first : goal.returns-clause-unopened_first
unfolding beginnings connections unopened_count server_base
returns-clause-unopened_first c = (refl, refl)

pub returns-clause-both_sides : goal.returns-clause-both_sides
unfolding beginnings connections unopened_count server_base
returns-clause-both_sides c = refl

pub returns-clause-late_answers : goal.returns-clause-late_answers
unfolding beginnings connections unopened_count server_base
returns-clause-late_answers c = (refl, refl, refl)
