-- How many bytes a record has.
use Rattle.std.proofs.Common.{◌≡◌, ℕ, ◌+◌, Bool, true, false, List, ◌++◌, length, refl, arith, length-append, Option, Some, None}
use Rattle.pcap_records.specs.Reading.{record_header_len}
use Rattle.pcap_records.specs.Writing.{record_bytes, record_header}
use Rattle.frame_headers.specs.Headers.{ethernet, headers, ipv4, link_bytes, tcp}
use Rattle.frame_headers.specs.Layout.{headers_len, mac_len, tcp_len, ipv4_len}
use Rattle.frame_headers.specs.declared.written.Header.{Header}
use Rattle.segment_writer.specs.Senders.{frame_with, header_with}
use Rattle.segment_writer.specs.SegmentOutlines.{side_sender}
use Rattle.segment_writer.specs.declared.senders.Sender.{Sender}
use Rattle.segment_writer.proofs.RecordSteps.{length-record_header}

length-ipv4 : (h : Header) (n : ℕ) → length (ipv4 h n) ≡ ipv4_len
unfolding ipv4
length-ipv4 h n = refl

length-tcp : (h : Header) (payload : List ℕ) → length (tcp h payload) ≡ tcp_len
unfolding tcp
length-tcp h payload = refl

length-link : (vlan : Option ℕ) → mac_len + mac_len + length (link_bytes vlan) + ipv4_len + tcp_len ≡ headers_len vlan
length-link None = refl
length-link (Some v) = refl

module _ (h : Header) (payload : List ℕ) (from : length h.mac_from ≡ mac_len) (to : length h.mac_to ≡ mac_len) where
  pub length-headers : length (headers h payload) ≡ headers_len h.vlan
  unfolding headers
  length-headers =
      omega (
        arith,
        from,
        to,
        length-append (ethernet h ++ ipv4 h (tcp_len + length payload)) (tcp h payload),
        length-append (ethernet h) (ipv4 h (tcp_len + length payload)),
        length-append (h.mac_to ++ h.mac_from) (link_bytes h.vlan),
        length-append h.mac_to h.mac_from,
        length-ipv4 h (tcp_len + length payload),
        length-tcp h payload,
        length-link h.vlan,
      )

  pub length-framed : (ticks at : ℕ) → length (record_bytes ticks at (frame_with h payload)) ≡ record_header_len + headers_len h.vlan + length payload
  length-framed ticks at =
      let frame : List ℕ = frame_with h payload in
      omega (
        arith,
        length-headers,
        length-append (record_header ticks at (length frame)) frame,
        length-record_header ticks at (length frame),
        length-append (headers h payload) payload,
      )

-- whoever of the two sides sends
pub length-sent : (client : Sender) (is_server : Bool) → length client.mac_from ≡ mac_len → length client.mac_to ≡ mac_len → (ticks at seq ack flags : ℕ) (payload : List ℕ)
    → length (record_bytes ticks at (frame_with (header_with (side_sender client is_server) seq ack flags) payload)) ≡ record_header_len + headers_len client.vlan + length payload
length-sent client true from to ticks at seq ack flags payload = length-framed (header_with (side_sender client true) seq ack flags) payload to from ticks at
length-sent client false from to ticks at seq ack flags payload = length-framed (header_with (side_sender client false) seq ack flags) payload from to ticks at
