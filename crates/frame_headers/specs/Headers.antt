-- The headers of a TCP segment that is written: Ethernet II, IPv4 and TCP without options.
use Rattle.std.specs.Prelude.{ℕ, ◌+◌, List, length, ◌++◌, Option, Some, None}
use Rattle.byteorder.specs.Endian.{big_bytes}
use Rattle.frame_headers.specs.Sum.{sum16, tcp_sum}
pub use Rattle.frame_headers.specs.Layout.{headers_len, payload_limit}
use Rattle.frame_headers.specs.Layout.{tag_type, ipv4_type, ipv4_len, tcp_len}
use Rattle.frame_headers.specs.declared.written.Header.{Header}

-- the type IPv4, after the tag of a VLAN (IEEE 802.1Q) without a priority
abbrev pub link_bytes : Option ℕ → List ℕ
link_bytes None = big_bytes 2 ipv4_type
link_bytes (Some vlan) = (big_bytes 2 tag_type ++ big_bytes 2 vlan) ++ big_bytes 2 ipv4_type

abbrev pub ethernet : Header → List ℕ
ethernet h = (h.mac_to ++ h.mac_from) ++ link_bytes h.vlan

-- RFC 791 section 3.1: version 4 and 5 words of header, the total length, no identification, "don't fragment" and no offset
abbrev pub ipv4_lengths : ℕ → List ℕ
ipv4_lengths n = ((big_bytes 2 0x4500 ++ big_bytes 2 (ipv4_len + n)) ++ big_bytes 2 0) ++ big_bytes 2 0x4000

-- 64 hops and TCP's protocol number, the checksum, source and destination
abbrev pub ipv4_route : ℕ → Header → List ℕ
ipv4_route sum h = ((big_bytes 2 0x4006 ++ big_bytes 2 sum) ++ big_bytes 4 h.from.addr) ++ big_bytes 4 h.to.addr

abbrev pub ipv4_with : ℕ → Header → ℕ → List ℕ
ipv4_with sum h n = ipv4_lengths n ++ ipv4_route sum h

unfoldable pub ipv4 : Header → ℕ → List ℕ
ipv4 h n = ipv4_with (sum16 (ipv4_with 0 h n)) h n

-- RFC 9293 section 3.1: the two ports, sequence and acknowledgment numbers
abbrev pub tcp_numbers : Header → List ℕ
tcp_numbers h = ((big_bytes 2 h.from.port ++ big_bytes 2 h.to.port) ++ big_bytes 4 h.seq) ++ big_bytes 4 h.ack

-- 5 words of header and the flags, the widest window, the checksum, and no urgent bytes
abbrev pub tcp_state : ℕ → ℕ → List ℕ
tcp_state sum flags = ((big_bytes 2 (0x5000 + flags) ++ big_bytes 2 0xffff) ++ big_bytes 2 sum) ++ big_bytes 2 0

abbrev pub tcp_with : ℕ → Header → List ℕ
tcp_with sum h = tcp_numbers h ++ tcp_state sum h.flags

-- the checksum is over the payload too, and is taken with 0 in its place
unfoldable pub tcp : Header → List ℕ → List ℕ
tcp h payload = tcp_with (tcp_sum h.from.addr h.to.addr (tcp_with 0 h ++ payload)) h

unfoldable pub headers : Header → List ℕ → List ℕ
headers h payload = (ethernet h ++ ipv4 h (tcp_len + length payload)) ++ tcp h payload
