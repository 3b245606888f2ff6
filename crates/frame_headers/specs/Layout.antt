-- Where the fields of a frame's headers stand: Ethernet II with at most one tag (IEEE 802.1Q), IPv4 (RFC 791 section 3.1)
-- and TCP (RFC 9293 section 3.1). A place is counted from the first byte of its own header.
use Rattle.std.specs.Prelude.{ℕ, ◌+◌, ◌-◌, Bool, true, false, Option, is_some}

-- ---- Ethernet II: the receiver's address, the sender's, and the type of what follows

abbrev pub mac_len : ℕ
mac_len = 6

abbrev pub ethernet_len : ℕ
ethernet_len = 14

-- a tag stands before that type: a type of its own, and 16 bits, the lower 12 a VLAN's number
abbrev pub tag_len : ℕ
tag_len = 4

abbrev pub vlan_limit : ℕ
vlan_limit = 4096

abbrev pub link_len : Bool → ℕ
link_len true = ethernet_len + tag_len
link_len false = ethernet_len

abbrev pub type_len : ℕ
type_len = 2

abbrev pub ipv4_type : ℕ
ipv4_type = 0x0800

abbrev pub tag_type : ℕ
tag_type = 0x8100

-- ---- IPv4

abbrev pub ipv4_len : ℕ
ipv4_len = 20

abbrev pub total_len_at : ℕ
total_len_at = 2

abbrev pub fragment_at : ℕ
fragment_at = 6

abbrev pub protocol_at : ℕ
protocol_at = 9

abbrev pub source_at : ℕ
source_at = 12

abbrev pub destination_at : ℕ
destination_at = 16

abbrev pub tcp_protocol : ℕ
tcp_protocol = 6

-- ---- TCP: the sender's port begins the header

abbrev pub tcp_len : ℕ
tcp_len = 20

abbrev pub to_port_at : ℕ
to_port_at = 2

abbrev pub seq_at : ℕ
seq_at = 4

abbrev pub ack_at : ℕ
ack_at = 8

abbrev pub data_offset_at : ℕ
data_offset_at = 12

abbrev pub flags_at : ℕ
flags_at = 13

-- the bytes of the headers of a written segment, IPv4's and TCP's without options
abbrev pub headers_len : Option ℕ → ℕ
headers_len vlan = link_len (is_some vlan) + ipv4_len + tcp_len

-- the datagram has at most the 1,500 bytes that an Ethernet frame carries
abbrev pub payload_limit : ℕ
payload_limit = 1500 - ipv4_len - tcp_len
