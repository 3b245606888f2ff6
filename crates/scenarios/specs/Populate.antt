-- Scenarios: a JSON array of proxies in Toxiproxy's form; and the one of its proxies that a connection meets.
use Rattle.std.specs.Prelude.{ℕ, ◌&&◌, ◌==◌, List, [], Bool, if◌then◌else◌, Option, None, position, Result}
use Rattle.std.specs.Str.{is_utf8}
use Rattle.serde_json.specs.Data.{Data}
use Rattle.serde_json.specs.Read.{read}
use Rattle.serde_json.specs.Find.{as_array}
use Rattle.frame_headers.specs.declared.peers.Peer.{Peer}
use Rattle.scenarios.specs.Refusals.{with, of_text}
use Rattle.scenarios.specs.Proxies.{proxies_from}
use Rattle.scenarios.specs.declared.hosts.KnownHost.{KnownHost}
use Rattle.scenarios.specs.declared.proxies.Proxy.{Proxy}
use Rattle.scenarios.specs.declared.error.Cause.TheVariants.{NotJson, NotArray}
use Rattle.scenarios.specs.declared.error.Refusal.{Refusal}

abbrev pub tree : List ℕ → Option Data
tree text = if is_utf8 text then read text else None

abbrev pub scenario_of_tree : List KnownHost → Data → Result (List Proxy) Refusal
scenario_of_tree hosts d = with (as_array d) (of_text NotArray) (proxies_from hosts [])

abbrev pub scenario : List KnownHost → List ℕ → Result (List Proxy) Refusal
scenario hosts text = with (tree text) (of_text NotJson) (scenario_of_tree hosts)

abbrev pub leads_to : Peer → Proxy → Bool
leads_to server p = p.upstream.addr == server.addr && p.upstream.port == server.port

-- the first proxy that is for a server, enabled or not; no connection meets a later one for it
abbrev pub met_number : Peer → List Proxy → Option ℕ
met_number server proxies = position (leads_to server) proxies
