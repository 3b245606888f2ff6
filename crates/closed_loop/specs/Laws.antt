-- A law of the closed loop: if nothing is delayed, nothing moves.
use Rattle.std.specs.Prelude.{◌≡◌, ◌≤◌, ℕ, max, List, Option, Some}
use Rattle.conn_table.specs.declared.conns.Member.{Member}
use Rattle.closed_loop.specs.Times.{time_at, instant_in}
use Rattle.closed_loop.specs.Packets.{packet_by}
use Rattle.closed_loop.specs.Settled.{next_time}

-- the packets before m are sent as recorded, and what it waits for comes as recorded, none of it after m
pub record ComesAsRecorded (recorded times : List (Option ℕ)) (coming : Option ℕ) (own reset : Member) (source : ℕ) (m : Member) : Type 0 where
  pub own_sent : time_at times own.index ≡ Some own.at
  pub reset_sent : time_at times reset.index ≡ Some reset.at
  pub came : ℕ
  pub comes : coming ≡ Some came
  pub as_recorded : max (max own.at reset.at) came ≡ max (max own.at reset.at) (instant_in recorded source)
  pub in_time : max (max own.at reset.at) came ≤ m.at

-- then m is sent when it was recorded
abbrev pub PacketsStay : Type 0
PacketsStay =
    (recorded times : List (Option ℕ)) (coming : Option ℕ) (own reset : Member) (heard source limit : ℕ) (m : Member)
    → ComesAsRecorded recorded times coming own reset source m → m.at ≤ limit
    → next_time times coming limit (packet_by recorded own reset heard source m) ≡ Some m.at
