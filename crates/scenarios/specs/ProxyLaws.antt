-- What holds of addresses, of the proxy that a server meets, and of proxies written as JSON.
use Rattle.std.specs.Prelude.{◌≡◌, ◌≢◌, ◌↔◌, ℕ, ◌<◌, ◌≤◌, ◌^◌, List, [], ◌∷◌, ◌++◌, codes, map, length, false, Some, Ok, decimal, ⊤}
use Rattle.std.specs.List.{AllByRecursion}
use Rattle.std.specs.Option.{MatchOption}
use Rattle.std.specs.Int.{w32, to_be_bytes, from_be_bytes}
use Rattle.std.specs.Net.Text.{ipv4_text}
use Rattle.std.specs.Net.Grammar.{IsDotted}
use Rattle.serde_json.specs.Data.{Data, boolean, string, array, object, member, no_members}
use Rattle.serde_json.specs.View.{items_of}
use Rattle.frame_headers.specs.declared.peers.Peer.{Peer}
use Rattle.toxic_defs.specs.Limits.{most_toxics}
use Rattle.toxic_defs.specs.Toxics.{RatedKind, IsInRange}
use Rattle.scenarios.specs.Hosts.{address}
use Rattle.scenarios.specs.Upstreams.{colon}
use Rattle.scenarios.specs.ToxicTypes.{toxics_data}
use Rattle.scenarios.specs.declared.toxic_types.Stream.TheVariants.{Upstream, Downstream}
use Rattle.scenarios.specs.Proxies.{proxy_limit, has_name}
use Rattle.scenarios.specs.Populate.{tree, scenario, met_number}
use Rattle.scenarios.specs.declared.hosts.KnownHost.{KnownHost}
use Rattle.scenarios.specs.declared.proxies.Proxy.{Proxy}

-- a text is an address exactly if it is its bytes as decimal numbers below 256 with dots between them
abbrev pub AddressesAreDotted : Type 0
AddressesAreDotted =
    (text : List ℕ) (addr : ℕ)
    → (address text ≡ Some addr) ↔ ((octets : List ℕ) × IsDotted text octets × (from_be_bytes w32 octets ≡ addr))

-- ---- the proxy that a server meets

-- the proxy with this number is for the server, and none before it is
pub record IsFirstFor (server : Peer) (proxies : List Proxy) (number : ℕ) : Type 0 where
  pub before : List Proxy
  pub proxy : Proxy
  pub after : List Proxy
  pub split : proxies ≡ before ++ proxy ∷ after
  pub place : length before ≡ number
  pub leads : proxy.upstream ≡ server
  pub others : AllByRecursion (λ p. p.upstream ≢ server) before

abbrev pub FirstIsMet : Type 0
FirstIsMet =
    (server : Peer) (proxies : List Proxy)
    → MatchOption (met_number server proxies)
    (AllByRecursion (λ p. p.upstream ≢ server) proxies) (IsFirstFor server proxies)

-- no proxy has the name of an earlier one
abbrev pub NamesAreFree : List Proxy → List Proxy → Type 0
NamesAreFree earlier [] = ⊤
NamesAreFree earlier (p ∷ proxies) = (has_name earlier p.name ≡ false) × NamesAreFree (earlier ++ p ∷ []) proxies

pub record AreSoundToxics (toxics : List RatedKind) : Type 0 where
  pub few : length toxics ≤ most_toxics
  pub in_range : AllByRecursion IsInRange toxics

pub record IsSound (p : Proxy) : Type 0 where
  pub named : 0 < length p.name
  pub port : 0 < p.upstream.port
  pub port_fits : p.upstream.port < 2 ^ 16
  pub up_toxics : AreSoundToxics p.up
  pub down_toxics : AreSoundToxics p.down

abbrev pub ScenariosAreSound : Type 0
ScenariosAreSound =
    (hosts : List KnownHost) (text : List ℕ) (proxies : List Proxy)
    → scenario hosts text ≡ Ok proxies
    → AllByRecursion IsSound proxies × NamesAreFree [] proxies × (length proxies ≤ proxy_limit)

-- ---- proxies that are written as JSON

-- an address as four decimal numbers with dots between them, a colon, and a port
abbrev pub upstream_text : Peer → List ℕ
upstream_text peer = ipv4_text (to_be_bytes w32 peer.addr) ++ colon ∷ decimal peer.port

-- the toxics on the way to the server, then those on the way back, named by their numbers
abbrev pub proxy_toxics_data : Proxy → List Data
proxy_toxics_data p = toxics_data Upstream 0 p.up ++ toxics_data Downstream (length p.up) p.down

abbrev pub proxy_data : Proxy → Data
proxy_data p =
    object
    (member (codes "enabled") (boolean p.enabled)
    (member (codes "name") (string p.name)
    (member (codes "toxics") (array (items_of (proxy_toxics_data p)))
    (member (codes "upstream") (string (upstream_text p.upstream)) no_members))))

abbrev pub proxies_data : List Proxy → Data
proxies_data proxies = array (items_of (map proxy_data proxies))

-- a sound proxy whose address has 32 bits
pub record IsProxy (p : Proxy) : Type 0 where
  pub sound : IsSound p
  pub addr : p.upstream.addr < 2 ^ 32

abbrev pub ProxiesAreReadBack : Type 0
ProxiesAreReadBack =
    (hosts : List KnownHost) (text : List ℕ) (proxies : List Proxy)
    → AllByRecursion IsProxy proxies → NamesAreFree [] proxies → length proxies ≤ proxy_limit
    → tree text ≡ Some (proxies_data proxies) → scenario hosts text ≡ Ok proxies
