-- Hosts: their names and addresses as texts, and lists of known ones.
use Rattle.std.specs.Prelude.{◌≡◌, ℕ, ◌||◌, ◌&&◌, ◌==◌, Bool, List, [], ◌∷◌, ◌++◌, length, find, Option, Some, None, IsSome, is_none, nat_lt, nat_le, option_map, Result, Ok, Err, ⊤, bytes_eq, String, if◌then◌else◌}
use Rattle.std.specs.List.{list_all}
use Rattle.std.specs.Int.{w32, from_be_bytes}
use Rattle.std.specs.Net.Reader.{read_ipv4, whole_value}
use Rattle.std.specs.BTreeMap.{BTreeMap, get_by_text}
use Rattle.scenarios.specs.declared.hosts.KnownHost.{KnownHost}
use Rattle.scenarios.specs.declared.error.HostFault.{HostFault}
use Rattle.scenarios.specs.declared.error.HostFault.TheVariants.{BadHost, Memory}

-- the address in a text of four decimal numbers below 256, without leading zeros and with dots between them
abbrev pub address : List ℕ → Option ℕ
address text = option_map (from_be_bytes w32) (whole_value (read_ipv4 text))

-- a letter, a digit, `-`, `_` or `.`
abbrev pub is_name_byte : ℕ → Bool
is_name_byte b =
    (nat_le 97 b && nat_le b 122) || (nat_le 65 b && nat_le b 90) || (nat_le 48 b && nat_le b 57)
    || b == 45 || b == 95 || b == 46

-- a name is not empty, and is no address
abbrev pub is_host_name : List ℕ → Bool
is_host_name text = nat_lt 0 (length text) && list_all is_name_byte text && is_none (address text)

-- ---- lists of known hosts

abbrev pub look_up : List KnownHost → List ℕ → Option ℕ
look_up hosts name = option_map (λ h. h.addr) (find (λ h. bytes_eq h.name name) hosts)

module _ {Y : Type 0} where
  -- an index has the address of each known name, and nothing for any other text
  abbrev pub IsIndexOf : BTreeMap (String Y) ℕ → List KnownHost → Type 0
  IsIndexOf index hosts = (name : List ℕ) → get_by_text index name ≡ look_up hosts name

-- the host of a name and an address, if they are valid and the name is free
abbrev pub host_for : List KnownHost → List ℕ → List ℕ → Option KnownHost
host_for hosts name addr =
    if is_host_name name && is_none (look_up hosts name)
    then option_map (λ a. record { name = name; addr = a }) (address addr) else None

-- an added host is the last of the list; if none is added, the list is as it was
abbrev pub HostAdded : Result ⊤ HostFault → Option KnownHost → List KnownHost → List KnownHost → Type 0
HostAdded (Ok _) expected old new = (host : KnownHost) × (expected ≡ Some host) × (new ≡ old ++ host ∷ [])
HostAdded (Err BadHost) expected old new = (expected ≡ None) × (new ≡ old)
HostAdded (Err (Memory e)) expected old new = IsSome expected × (new ≡ old)
