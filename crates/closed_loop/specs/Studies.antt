-- What contracts see of a study.
use Rattle.std.specs.Prelude.{◌≡◌, ℕ, List, length, map, Option, Some, true, slice_get}
use Rattle.std.specs.List.{list_any}
use Rattle.pcap_records.specs.CaptureView.{CaptureView}
use Rattle.pcap_records.specs.Instants.{horizon}
use Rattle.conn_workers.specs.Recordings.{whole_table}
use Rattle.closed_loop.specs.declared.forerunners.Forerunners.{Forerunners}
use Rattle.closed_loop.specs.declared.manners.Manners.{Manners}
use Rattle.closed_loop.specs.declared.rounds.Study.{Study}
use Rattle.closed_loop.specs.Scripts.{ScriptView, HearingView}
use Rattle.closed_loop.specs.Openings.{AreForerunners, SessionView}
use Rattle.closed_loop.specs.Recordings.{IsCaptureAt, IsReadAs, numbers, IsSource}
use Rattle.closed_loop.specs.Settled.{is_of_script, scripts_in, IsSettled}

-- the scripts of a capture's connections, and the number of these
pub record IsScripted (c : CaptureView) (manners : Manners) (scripts : List ScriptView) (count : ℕ) : Type 0 where
  pub numbered_file : List ℕ
  pub numbered : CaptureView
  pub numbers_written : IsCaptureAt c (numbers c) numbered_file
  pub numbers_read : IsReadAs numbered_file numbered
  pub conns : count ≡ length (whole_table c).conns
  pub scripted : scripts ≡ scripts_in c numbered manners

pub record IsStudy (manners : Manners) (s : Study) : Type 0 where
  pub source : IsSource s.source
  pub scripted : IsScripted s.source.capture.now manners s.scripts.now s.conns
  pub forerunners : length s.forerunners.now ≡ length s.scripts.now
  pub followed : (i : ℕ) (p : ScriptView) (forerunners : Forerunners) → slice_get s.scripts.now i ≡ Some p → slice_get s.forerunners.now i ≡ Some forerunners
      → AreForerunners s.scripts.now p forerunners
  pub taken : length s.taken.now ≡ length s.source.recorded.now
  pub marked : (i : ℕ) → slice_get s.taken.now i ≡ Some true → list_any (is_of_script i) s.scripts.now ≡ true
  pub recorded : s.opening.recorded.now ≡ s.source.recorded.now
  pub in_turn : s.opening.in_turn ≡ manners.in_turn
  pub limit : s.opening.limit ≡ horizon s.source.capture.now.ticks

-- with these hearings
pub record AreSettledBy (s : Study) (times : List (Option ℕ)) (hearings : List HearingView) : Type 0 where
  pub sessions : List SessionView
  pub each : length sessions ≡ s.conns
  pub scripts : map (λ x. x.script) sessions ≡ s.scripts.now
  pub forerunners : map (λ x. x.forerunners) sessions ≡ s.forerunners.now
  pub heard : map (λ x. x.hearing) sessions ≡ hearings
  pub settled : IsSettled s.opening.recorded.now times s.opening.in_turn s.opening.limit sessions
