-- Worked rows of scenario files, of the server that a proxy is for, and of hosts.
use Rattle.std.specs.Prelude.{◌≡◌, ℕ, List, [], ◌∷◌, ◌++◌, codes, Bool, true, false, Some, None, Ok, Err}
use Rattle.conn_table.specs.RowSegments.{server}
use Rattle.scenarios.specs.Refusals.{of_text, of_proxy, of_toxic}
use Rattle.scenarios.specs.Hosts.{host_for}
use Rattle.scenarios.specs.Upstreams.{upstream}
use Rattle.scenarios.specs.Populate.{scenario, met_number}
use Rattle.scenarios.specs.declared.hosts.KnownHost.{KnownHost}
use Rattle.scenarios.specs.declared.proxies.Proxy.{Proxy}
use Rattle.scenarios.specs.declared.error.Cause.TheVariants.{NotJson, NotArray, BadMember, DuplicateProxy, BadUpstream, UnknownHost, UnknownToxic}

-- ---- texts

pub record TextsRead : Type 0 where
  pub empty : scenario [] (codes "[]") ≡ Ok []
  pub torn : scenario [] (codes "[") ≡ Err (of_text NotJson)
  pub object : scenario [] (codes "{}") ≡ Err (of_text NotArray)
  pub number : scenario [] (codes "[1]") ≡ Err (of_proxy 0 BadMember)

-- ---- upstreams

abbrev pub localhost : KnownHost
localhost = record { name = codes "localhost"; addr = 0x7f000001 }

pub record UpstreamsRead : Type 0 where
  pub address : upstream [] (codes "10.0.0.2:80") ≡ Ok (record { addr = 0x0a000002; port = 80 })
  pub name : upstream (localhost ∷ []) (codes "localhost:6379") ≡ Ok (record { addr = 0x7f000001; port = 6379 })
  pub zeros : upstream [] (codes "10.0.0.2:00080") ≡ Ok (record { addr = 0x0a000002; port = 80 })

pub record UpstreamsRefused : Type 0 where
  pub portless : upstream [] (codes "10.0.0.2") ≡ Err BadUpstream
  pub hostless : upstream [] (codes ":80") ≡ Err BadUpstream
  pub port_zero : upstream [] (codes "10.0.0.2:0") ≡ Err BadUpstream
  pub port_past : upstream [] (codes "10.0.0.2:65536") ≡ Err BadUpstream
  pub bracketed : upstream [] (codes "[::1]:80") ≡ Err BadUpstream
  pub lettered : upstream [] (codes "10.0.0.2:http") ≡ Err BadUpstream
  pub six_digits : upstream [] (codes "10.0.0.2:000080") ≡ Err BadUpstream

pub record HostsUnknown : Type 0 where
  pub name : upstream [] (codes "redis:80") ≡ Err UnknownHost
  pub near : upstream [] (codes "10.0.0.256:80") ≡ Err UnknownHost
  pub padded : upstream [] (codes "010.0.0.2:80") ≡ Err UnknownHost

-- ---- files of proxies

-- the JSON of a proxy for 10.0.0.2:80 with a name and further fields
abbrev pub proxy_json : List ℕ → List ℕ → List ℕ
proxy_json name more = codes "{\"name\":\"" ++ name ++ codes "\",\"upstream\":\"10.0.0.2:80\"" ++ more ++ codes "}"

abbrev pub of_one : List ℕ → List ℕ
of_one more = codes "[" ++ proxy_json (codes "web") more ++ codes "]"

abbrev pub of_two : List ℕ → List ℕ → List ℕ
of_two first second = codes "[" ++ first ++ codes "," ++ second ++ codes "]"

abbrev pub proxy_named : List ℕ → Bool → Proxy
proxy_named name enabled = record { name = name; upstream = server; enabled = enabled; up = []; down = [] }

abbrev pub web : Proxy
web = proxy_named (codes "web") true

-- fields may be absent, null or unknown; of a repeated one the last counts
pub record ProxiesTold : Type 0 where
  pub plain : scenario [] (of_one []) ≡ Ok (web ∷ [])
  pub whole : scenario [] (of_one (codes ",\"listen\":\"127.0.0.1:20080\",\"enabled\":true,\"toxics\":[]"))
      ≡ Ok (web ∷ [])
  pub null : scenario [] (of_one (codes ",\"listen\":null,\"enabled\":null,\"toxics\":null,\"colour\":[1]"))
      ≡ Ok (web ∷ [])
  pub repeated : scenario [] (of_one (codes ",\"enabled\":true,\"enabled\":false"))
      ≡ Ok (proxy_named (codes "web") false ∷ [])

pub record ProxiesRefused : Type 0 where
  pub flag : scenario [] (of_one (codes ",\"enabled\":\"yes\"")) ≡ Err (of_proxy 0 BadMember)
  pub nameless : scenario [] (codes "[" ++ proxy_json [] [] ++ codes "]") ≡ Err (of_proxy 0 BadMember)
  pub twice : scenario [] (of_two (proxy_json (codes "web") []) (proxy_json (codes "web") []))
      ≡ Err (of_proxy 1 DuplicateProxy)
  pub toxic : scenario [] (of_one (codes ",\"toxics\":[{\"type\":\"explode\"}]")) ≡ Err (of_toxic 0 0 UnknownToxic)
  pub typeless : scenario [] (of_one (codes ",\"toxics\":[{}]")) ≡ Err (of_toxic 0 0 BadMember)

-- a disabled proxy and one after it, both for one server: the first is met
abbrev pub two_for_one : List Proxy
two_for_one = proxy_named (codes "a") false ∷ proxy_named (codes "b") true ∷ []

pub record FirstMet : Type 0 where
  pub both : scenario [] (of_two (proxy_json (codes "a") (codes ",\"enabled\":false")) (proxy_json (codes "b") []))
      ≡ Ok two_for_one
  pub first : met_number server two_for_one ≡ Some 0
  pub other_port : met_number (record { addr = 0x0a000002; port = 81 }) (web ∷ []) ≡ None

-- ---- hosts

pub record HostsAdded : Type 0 where
  pub new : host_for [] (codes "a") (codes "10.0.0.9") ≡ Some (record { name = codes "a"; addr = 0x0a000009 })
  pub again : host_for (record { name = codes "a"; addr = 0x0a000009 } ∷ []) (codes "a") (codes "10.0.0.9") ≡ None
  pub addressless : host_for [] (codes "b") (codes "10.0.0.256") ≡ None
  pub nameless : host_for [] (codes "x y") (codes "10.0.0.9") ≡ None
  pub address_as_name : host_for [] (codes "10.0.0.1") (codes "10.0.0.9") ≡ None
  pub near_address : host_for [] (codes "010.0.0.2") (codes "10.0.0.9")
      ≡ Some (record { name = codes "010.0.0.2"; addr = 0x0a000009 })
