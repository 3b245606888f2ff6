-- Proxies in a file.
use Rattle.std.specs.Prelude.{ℕ, ◌&&◌, List, [], ◌∷◌, ◌++◌, codes, length, Bool, bytes_eq, nat_lt, nat_le, if◌then◌else◌, Option, Some, None, option_and_then, Result, Ok}
use Rattle.std.specs.List.{list_any}
use Rattle.serde_json.specs.Data.{Data, Items, no_items, item}
use Rattle.scenarios.specs.Fields.{required_text, is_text_or_absent, optional_flag, optional_list}
use Rattle.scenarios.specs.Refusals.{with, and_then, unless, of_proxy, at_place}
use Rattle.scenarios.specs.ToxicsInFiles.{no_toxics, toxics_from}
use Rattle.scenarios.specs.Upstreams.{upstream}
use Rattle.frame_headers.specs.declared.peers.Peer.{Peer}
use Rattle.scenarios.specs.declared.hosts.KnownHost.{KnownHost}
use Rattle.scenarios.specs.declared.proxies.Proxy.{Proxy}
use Rattle.scenarios.specs.declared.error.Cause.TheVariants.{BadMember, DuplicateProxy, TooMany}
use Rattle.scenarios.specs.declared.error.Refusal.{Refusal}

abbrev pub proxy_limit : ℕ
proxy_limit = 64

pub record ProxyFields : Type 0 where
  pub name : List ℕ
  pub upstream : List ℕ
  pub enabled : Bool
  pub toxics : Items

-- each field is of its kind, and the name is not empty
abbrev pub proxy_fields : Data → Option ProxyFields
proxy_fields d =
    option_and_then (λ name.
    option_and_then (λ upstream.
    option_and_then (λ enabled.
    option_and_then (λ toxics.
    if nat_lt 0 (length name) && is_text_or_absent (codes "listen") d
    then Some (record { name = name; upstream = upstream; enabled = enabled; toxics = toxics }) else None)
    (optional_list (codes "toxics") d))
    (optional_flag (codes "enabled") d))
    (required_text (codes "upstream") d))
    (required_text (codes "name") d)

abbrev pub has_name : List Proxy → List ℕ → Bool
has_name proxies name = list_any (λ p. bytes_eq p.name name) proxies

-- a proxy that nothing refuses so far; its toxics are still to be read
pub record AcceptedProxy : Type 0 where
  pub name : List ℕ
  pub upstream : Peer
  pub enabled : Bool
  pub toxics : Items

unfoldable pub accepted_proxy : List KnownHost → List Proxy → ProxyFields → Result AcceptedProxy Refusal
accepted_proxy hosts earlier m =
    unless (has_name earlier m.name) (of_proxy (length earlier) DuplicateProxy)
    (and_then (at_place (of_proxy (length earlier)) (upstream hosts m.upstream)) (λ peer.
    Ok (record { name = m.name; upstream = peer; enabled = m.enabled; toxics = m.toxics })))

-- a proxy before its toxics are read, after the earlier ones
unfoldable pub checked_proxy : List KnownHost → List Proxy → Data → Result AcceptedProxy Refusal
checked_proxy hosts earlier d =
    unless (nat_le proxy_limit (length earlier)) (of_proxy (length earlier) TooMany)
    (with (proxy_fields d) (of_proxy (length earlier) BadMember) (accepted_proxy hosts earlier))

unfoldable pub proxy_in : List KnownHost → List Proxy → Data → Result Proxy Refusal
proxy_in hosts earlier d =
    and_then (checked_proxy hosts earlier d) (λ c.
    and_then (toxics_from (length earlier) no_toxics c.toxics) (λ t.
    Ok (record { name = c.name; upstream = c.upstream; enabled = c.enabled; up = t.up; down = t.down })))

unfoldable pub proxies_from : List KnownHost → List Proxy → Items → Result (List Proxy) Refusal
proxies_from hosts earlier no_items = Ok earlier
proxies_from hosts earlier (item d ds) =
    and_then (proxy_in hosts earlier d) (λ p. proxies_from hosts (earlier ++ p ∷ []) ds)
