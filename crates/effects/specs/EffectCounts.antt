-- How many connections meet each proxy of scenarios; of each of its toxics, how many of these draw it, and on how many of these it has an effect.
use Rattle.std.specs.Prelude.{ℕ, ◌==◌, ◌&&◌, List, [], ◌∷◌, ◌++◌, length, map, filter, zip, count_by, bytes_eq, Bool, false, not, if◌then◌else◌, Option, Some, None}
use Rattle.std.specs.List.{enumerate_from, flat_map, list_all}
use Rattle.frame_headers.specs.declared.peers.Peer.{Peer}
use Rattle.conn_table.specs.Connections.{Connection}
use Rattle.conn_table.specs.SeenCapture.{SeenCapture}
use Rattle.reassembly.specs.Positions.{server_of}
use Rattle.toxic_defs.specs.Toxics.{RatedKind, applies}
use Rattle.toxic_defs.specs.DeliveredLines.{MetProxy}
use Rattle.segment_writer.specs.declared.framed.Framed.{Framed}
use Rattle.scenarios.specs.Populate.{met_number}
use Rattle.scenarios.specs.declared.proxies.Proxy.{Proxy}
use Rattle.conn_workers.specs.Recordings.{Contribution, contribution, connections_of, met_of}

-- A connection: its number, its server, and what it contributes by the seed, the number of the scenario and the proxy that it meets.
pub record Replayed : Type 0 where
  pub number : ℕ
  pub server : Peer
  pub contribution : ℕ → ℕ → MetProxy → Contribution

abbrev pub replayed : ℕ → Connection → Replayed
replayed ticks c = record { number = c.number; server = server_of c; contribution = λ seed s met. contribution ticks c s seed (Some met) }

-- ---- the toxics of a proxy

-- its direction, 0 for what the client sends and 1 for what the server sends, and its place among the toxics of that direction
pub record PlacedToxic : Type 0 where
  pub direction : ℕ
  pub place : ℕ
  pub toxic : RatedKind

abbrev pub placed : ℕ → ℕ × RatedKind → PlacedToxic
placed direction (place, toxic) = record { direction = direction; place = place; toxic = toxic }

abbrev pub toxics_in : ℕ → List RatedKind → List PlacedToxic
toxics_in direction toxics = map (placed direction) (enumerate_from 0 toxics)

-- those of what the client sends first
abbrev pub toxics_of : MetProxy → List PlacedToxic
toxics_of met = toxics_in 0 met.up ++ toxics_in 1 met.down

-- ---- what one connection tells of a toxic

abbrev pub draws : ℕ → ℕ → Replayed → PlacedToxic → Bool
draws seed s c x = applies x.toxic (record { seed = seed; s = s; c = c.number; d = x.direction; t = x.place })

-- a toxic that is switched off applies to no connection
abbrev pub switched_off : RatedKind → RatedKind
switched_off toxic = record { kind = toxic.kind; ppm = 0 }

-- it keeps its place in its direction, and so all other draws stay
abbrev pub all_but : ℕ → List RatedKind → List RatedKind
all_but place toxics = map (λ x. if x.0 == place then switched_off x.1 else x.1) (enumerate_from 0 toxics)

abbrev pub toxics_at : ℕ → MetProxy → List RatedKind
toxics_at direction met = if direction == 0 then met.up else met.down

abbrev pub with_toxics : ℕ → List RatedKind → MetProxy → MetProxy
with_toxics direction toxics met = if direction == 0 then record met { up = toxics } else record met { down = toxics }

abbrev pub without : ℕ → ℕ → MetProxy → MetProxy
without direction place met = with_toxics direction (all_but place (toxics_at direction met)) met

abbrev pub same_record : Framed × Framed → Bool
same_record (x, y) = bytes_eq x.bytes y.bytes

abbrev pub same_records : List Framed → List Framed → Bool
same_records xs ys = length xs == length ys && list_all same_record (zip xs ys)

-- the same line of the report, and the same records
abbrev pub is_same : Contribution → Contribution → Bool
is_same p q = bytes_eq p.line q.line && same_records p.segments q.segments

-- without the toxic of a direction at a place it contributes another line, or other records
abbrev pub has_effect : ℕ → ℕ → MetProxy → Replayed → ℕ → ℕ → Bool
has_effect seed s met c direction place = not (is_same (c.contribution seed s met) (c.contribution seed s (without direction place met)))

-- ---- how many connections tell it

abbrev pub is_number : ℕ → Option ℕ → Bool
is_number number None = false
is_number number (Some n) = n == number

abbrev pub meets : List Proxy → ℕ → Replayed → Bool
meets proxies number c = is_number number (met_number c.server proxies)

abbrev pub toxic_counts : ℕ → ℕ → MetProxy → List Replayed → PlacedToxic → List ℕ
toxic_counts seed s met conns x = count_by (λ c. draws seed s c x) conns ∷ count_by (λ c. has_effect seed s met c x.direction x.place) conns ∷ []

-- of the connections that meet the proxy
abbrev pub proxy_counts : ℕ → ℕ → MetProxy → List Replayed → List ℕ
proxy_counts seed s met conns = length conns ∷ flat_map (toxic_counts seed s met conns) (toxics_of met)

abbrev pub counts_in : ℕ → ℕ → List Proxy → List Replayed → ℕ × Proxy → List ℕ
counts_in seed s proxies conns (number, proxy) = proxy_counts seed s (met_of (number, proxy)) (filter (meets proxies number) conns)

unfoldable pub scenario_counts : ℕ → List Replayed → ℕ × List Proxy → List ℕ
scenario_counts seed conns (s, proxies) = flat_map (counts_in seed s proxies conns) (enumerate_from 0 proxies)

unfoldable pub effect_counts : ℕ → List Replayed → List (List Proxy) → List ℕ
effect_counts seed conns scenarios = flat_map (scenario_counts seed conns) (enumerate_from 0 scenarios)

-- the same of scenarios over a capture
abbrev pub effects_in : SeenCapture → List (List Proxy) → ℕ → List ℕ
effects_in c scenarios seed = effect_counts seed (map (replayed c.ticks) (connections_of c)) scenarios
