use Rattle.std.proofs.Common.{refl}
use Rattle.toxic_defs.proofs.rows.delay_rows.Goals as goal

pub returns : goal.returns
returns c = record { latency_delays = refl; none_overtakes = refl; latency_stops_at_horizon = refl; rate_is_exact = refl; rated_slices = refl; slices_in_turn = refl; drawn_sizes = refl }
