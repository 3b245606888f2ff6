-- The closed loop of a capture: times at which nothing moves, by what the rehearsal of the capture with these times delivers.
use Rattle.std.specs.Prelude.{◌≡◌, ℕ, ◌==◌, min, Bool, true, false, ◌&&◌, ◌||◌, not, if◌then◌else◌, List, length, map, Option, Some, unwrap_or, slice_get}
use Rattle.std.specs.List.{AllByRecursion, list_any}
use Rattle.pcap_records.specs.CaptureView.{CaptureView}
use Rattle.pcap_records.specs.Instants.{horizon}
use Rattle.scenarios.specs.declared.proxies.Proxy.{Proxy}
use Rattle.conn_workers.specs.Recordings.{whole_table, recordings_of, recorded_delivered}
use Rattle.closed_loop.specs.declared.packets.Packet.{Packet}
use Rattle.closed_loop.specs.declared.manners.Manners.{Manners}
use Rattle.closed_loop.specs.Times.{time_at, later, after, up_to, arrival}
use Rattle.closed_loop.specs.Packets.{received}
use Rattle.closed_loop.specs.Scripts.{ScriptView, scripts_of, HearingView, hearing_of}
use Rattle.closed_loop.specs.Recordings.{IsCaptureAt, IsReadAs, recorded_times, numbers}
use Rattle.closed_loop.specs.Openings.{SessionView, cut_time, AreForerunners, AreOpened}

-- ---- a packet

-- a tick, or none
abbrev pub apart_ticks : Packet → ℕ
apart_ticks p = if p.is_apart then 1 else 0

-- When a packet is sent, if these are the times of all, and what it waits for comes at `heard`: its pause after all that it waits for, and apart from its
-- own before it.
unfoldable pub next_time : List (Option ℕ) → Option ℕ → ℕ → Packet → Option ℕ
next_time times heard limit p =
    up_to limit (later (after p.pause (later (later (time_at times p.own) (time_at times p.reset)) heard)) (after (apart_ticks p) (time_at times p.own)))

-- after a cut nothing is sent but the server's first packet, and what follows a reset
abbrev pub is_cut_off : ℕ → Packet → Bool
is_cut_off opening p = p.reset == opening && not (not p.from_client && p.own == opening)

abbrev pub limit_of : ℕ → Option ℕ → ℕ → Packet → ℕ
limit_of limit cut opening p = if is_cut_off opening p then min limit (unwrap_or cut limit) else limit

-- it is sent when it is to be sent
abbrev pub IsSettledPacket : List (Option ℕ) → ℕ → SessionView → Packet → Type 0
IsSettledPacket times limit x p =
    time_at times p.number
    ≡ next_time times (arrival (received p.from_client x.hearing.up x.hearing.down) p.heard) (limit_of limit (cut_time times x) x.script.opening p) p

-- ---- a capture

abbrev pub IsSettledSession : List (Option ℕ) → ℕ → SessionView → Type 0
IsSettledSession times limit x = AllByRecursion (IsSettledPacket times limit x) x.script.packets

-- the record is of a connection
abbrev pub is_of_script : ℕ → ScriptView → Bool
is_of_script i p = p.opening == i || list_any (λ q. q.number == i) p.packets

abbrev pub is_alone : List ScriptView → ℕ → Bool
is_alone scripts i = not (list_any (is_of_script i) scripts)

-- each connection opens and sends as it is to, and records of no connection keep their times
pub record IsSettled (recorded times : List (Option ℕ)) (in_turn : Bool) (limit : ℕ) (sessions : List SessionView) : Type 0 where
  pub all : length times ≡ length recorded
  pub opened : AreOpened recorded times in_turn limit sessions 0 sessions
  pub sent : AllByRecursion (IsSettledSession times limit) sessions
  pub alone : (i : ℕ) → is_alone (map (λ x. x.script) sessions) i ≡ true → time_at times i ≡ time_at recorded i

-- the scripts of a capture's connections, if its records with their numbers for times are read so
abbrev pub scripts_in : CaptureView → CaptureView → Manners → List ScriptView
scripts_in c numbered manners = scripts_of manners (recorded_times c) (whole_table c).conns (map (λ r. r.recorded) (recordings_of numbered))

-- what is delivered of each connection under a scenario
abbrev pub hearings_in : CaptureView → List Proxy → ℕ → List HearingView
hearings_in c proxies seed = map (λ r. hearing_of (recorded_delivered seed (0, proxies) r)) (recordings_of c)

-- Sessions of a capture, of which each connection has one: their scripts are by `numbered`, their hearings by the rehearsal of `heard`.
pub record AreSessions (c numbered heard : CaptureView) (manners : Manners) (proxies : List Proxy) (seed : ℕ) (sessions : List SessionView) : Type 0 where
  pub each : length sessions ≡ length (whole_table c).conns
  pub scripted : map (λ x. x.script) sessions ≡ scripts_in c numbered manners
  pub followed : (i : ℕ) (x : SessionView) → slice_get sessions i ≡ Some x → AreForerunners (scripts_in c numbered manners) x.script x.forerunners
  pub delivered : map (λ x. x.hearing) sessions ≡ hearings_in heard proxies seed

-- a file is the capture with times that are settled by what its rehearsal delivers
pub record IsClosedLoop (c : CaptureView) (manners : Manners) (proxies : List Proxy) (seed : ℕ) (times : List (Option ℕ)) (file : List ℕ) : Type 0 where
  pub written : IsCaptureAt c times file
  pub heard : CaptureView
  pub read : IsReadAs file heard
  pub numbered_file : List ℕ
  pub numbered : CaptureView
  pub numbers_written : IsCaptureAt c (numbers c) numbered_file
  pub numbers_read : IsReadAs numbered_file numbered
  pub sessions : List SessionView
  pub are_sessions : AreSessions c numbered heard manners proxies seed sessions
  pub settled : IsSettled (recorded_times c) times manners.in_turn (horizon c.ticks) sessions
