-- What is delivered of connection number c in scenario number s. Direction 0 is up, from client to server, 1 is down.
use Rattle.std.specs.Prelude.{ℕ, List, Option, Some, None, Bool, true, false}
use Rattle.reassembly.specs.RecordedLines.{Line, empty_line, RecordedConnection}
use Rattle.toxic_defs.specs.SessionCut.{cut_line}
use Rattle.toxic_defs.specs.Toxics.{RatedKind, chain}
use Rattle.toxic_defs.specs.declared.deliveries.Delivered.{Delivered}
use Rattle.toxic_defs.specs.declared.deliveries.MetProxy as code

-- the proxy that a connection meets in a scenario, with its number there, and the toxics of each direction
pub record MetProxy : Type 0 where
  pub number : ℕ
  pub enabled : Bool
  pub up : List RatedKind
  pub down : List RatedKind

-- `proxy` is the number of the proxy that was met
pub record DeliveredConnection : Type 0 where
  pub proxy : Option ℕ
  pub refused : Bool
  pub up : Line
  pub down : Line

-- lines as the session cut leaves them (SessionCut)
abbrev pub connection_by_cut : ℕ → Option ℕ → Line → Line → DeliveredConnection
connection_by_cut ticks proxy up down = record {
  proxy = proxy;
  refused = false;
  up = cut_line ticks up down up;
  down = cut_line ticks up down down;
}

abbrev pub refused_connection : ℕ → DeliveredConnection
refused_connection number = record { proxy = Some number; refused = true; up = empty_line; down = empty_line }

-- each line goes through the toxics of its direction, and is then cut
abbrev pub connection_through : ℕ → ℕ → ℕ → ℕ → MetProxy → RecordedConnection → DeliveredConnection
connection_through ticks seed s c met r =
    connection_by_cut ticks (Some met.number) (chain ticks met.up r.opened seed s c 0 r.up.line) (chain ticks met.down r.opened seed s c 1 r.down.line)

-- a disabled proxy refuses the connection
abbrev pub connection_by_proxy : Bool → ℕ → ℕ → ℕ → ℕ → MetProxy → RecordedConnection → DeliveredConnection
connection_by_proxy true ticks seed s c met r = connection_through ticks seed s c met r
connection_by_proxy false ticks seed s c met r = refused_connection met.number

-- without a proxy the recorded lines are only cut
unfoldable pub delivered_connection : ℕ → ℕ → ℕ → ℕ → Option MetProxy → RecordedConnection → DeliveredConnection
delivered_connection ticks seed s c None r = connection_by_cut ticks None r.up.line r.down.line
delivered_connection ticks seed s c (Some met) r = connection_by_proxy met.enabled ticks seed s c met r

abbrev pub delivered_view : Delivered → DeliveredConnection
delivered_view d = record { proxy = d.proxy; refused = d.refused; up = d.up.line; down = d.down.line }

abbrev pub met_view : code.MetProxy → MetProxy
met_view met = record { number = met.number; enabled = met.enabled; up = met.up.now; down = met.down.now }
