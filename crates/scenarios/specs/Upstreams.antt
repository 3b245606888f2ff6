-- Upstreams: HOST:PORT, cut at the last colon.
use Rattle.std.specs.Prelude.{ℕ, ◌^◌, ◌&&◌, ◌==◌, List, [], ◌∷◌, length, Bool, true, false, not, Option, Some, None, nat_lt, nat_le, if◌then◌else◌, Result, Ok}
use Rattle.std.specs.Str.{all_ascii_digits}
use Rattle.std.specs.Str.Parse.{digits_value}
use Rattle.frame_headers.specs.declared.peers.Peer.{Peer}
use Rattle.scenarios.specs.Hosts.{address, is_host_name, look_up}
use Rattle.scenarios.specs.Refusals.{with, and_then, unless}
use Rattle.scenarios.specs.declared.hosts.KnownHost.{KnownHost}
use Rattle.scenarios.specs.declared.error.Cause.{Cause}
use Rattle.scenarios.specs.declared.error.Cause.TheVariants.{BadUpstream, UnknownHost}

abbrev pub colon : ℕ
colon = 58

abbrev pub port_digits : ℕ
port_digits = 5

-- the cut of x ∷ rest by the cut of rest: that one with x before it; without one, the cut at x if x is the byte
abbrev pub cut_after : Bool → ℕ → List ℕ → Option (List ℕ × List ℕ) → Option (List ℕ × List ℕ)
cut_after is_byte x rest (Some parts) = Some (x ∷ parts.0, parts.1)
cut_after true x rest None = Some ([], rest)
cut_after false x rest None = None

-- the parts before and after the last place of a byte
abbrev pub cut_at_last : ℕ → List ℕ → Option (List ℕ × List ℕ)
cut_at_last byte [] = None
cut_at_last byte (x ∷ rest) = cut_after (x == byte) x rest (cut_at_last byte rest)

abbrev pub is_port : ℕ → Bool
is_port n = nat_lt 0 n && nat_lt n (2 ^ 16)

abbrev pub port : List ℕ → Option ℕ
port text =
    if nat_lt 0 (length text) && nat_le (length text) port_digits && all_ascii_digits text
    && is_port (digits_value 10 text)
    then Some (digits_value 10 text) else None

-- the address of a host, which is written as one or is a known name
abbrev pub address_or : Option ℕ → List KnownHost → List ℕ → Result ℕ Cause
address_or (Some a) hosts host = Ok a
address_or None hosts host = unless (not (is_host_name host)) BadUpstream (with (look_up hosts host) UnknownHost Ok)

abbrev pub host_address : List KnownHost → List ℕ → Result ℕ Cause
host_address hosts host = address_or (address host) hosts host

abbrev pub upstream : List KnownHost → List ℕ → Result Peer Cause
upstream hosts text =
    with (cut_at_last colon text) BadUpstream (λ parts.
    with (port parts.1) BadUpstream (λ port.
    and_then (host_address hosts parts.0) (λ addr.
    Ok (record { addr = addr; port = port }))))
