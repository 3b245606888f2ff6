use Rattle.std.proofs.Common.{◌≡◌, ◌∙◌, ◌+◌, ◌++◌, ℕ, List, [], ◌∷◌, length, map, drop, sym, ap, ap₂, subst, append_assoc, append-nil, take, ◌≤◌, Bor, Some, arith}
use Rattle.std.proofs.lemmas.List.{map-append, length-map}
use Rattle.pcap_records.specs.CaptureView.{contents_of, packet_of}
use Rattle.pcap_records.specs.Reading.{Packet, record_header_len, file_header_len}
use Rattle.closed_loop.specs.Recordings.{raw_records, rest_after, raws_of}
use Rattle.closed_loop.proofs.Raws.{raw_step, rest_step, raw_end, rest_end}
use Rattle.closed_loop.proofs.stamping.raw_of.Goals as goal

pub loop-i-preserved : goal.loop-i-preserved
loop-i-preserved c =
    let ps : List Packet = (contents_of c.args.capture.now).packets in
    let i : ℕ = c.loop-i.i in
    let left : List ℕ = c.loop-i.rest.now in
    let now_of = λ (r : Bor (List ℕ)). r.now in
    let pushed : map (λ (r : Bor (List ℕ)). r.now) c.push.new.self.items ≡ map (λ (r : Bor (List ℕ)). r.now) c.loop-i.raws.items ++ c.parted-in-loop-i.result.0.now ∷ []
    = ap (map (λ (r : Bor (List ℕ)). r.now)) c.in_ok-push.ensures.items ∙ map-append (λ (r : Bor (List ℕ)). r.now) c.loop-i.raws.items (c.parted-in-loop-i.result.0 ∷ []) in
    let step = raw_step ps i left c.packet.result.now c.packet.ensures in
    record {
      raws =
          ap₂ (λ (a b : List (List ℕ)). a ++ b) pushed (ap (raw_records (drop (i + 1) ps)) c.parted-in-loop-i.ensures.second)
          ∙ append_assoc _ (c.parted-in-loop-i.result.0.now ∷ []) _
          ∙ ap (λ (x : List ℕ). map (λ (r : Bor (List ℕ)). r.now) c.loop-i.raws.items ++ x ∷ raw_records (drop (i + 1) ps) (drop (record_header_len + length c.packet.result.now) left)) c.parted-in-loop-i.ensures.first
          ∙ ap (λ (xs : List (List ℕ)). map (λ (r : Bor (List ℕ)). r.now) c.loop-i.raws.items ++ xs) (sym step)
          ∙ c.loop-i.invariant.raws;
      rest = ap (rest_after (drop (i + 1) ps)) c.parted-in-loop-i.ensures.second ∙ sym (rest_step ps i left c.packet.result.now c.packet.ensures) ∙ c.loop-i.invariant.rest;
    }

pub returns : goal.returns
returns c =
    let ps : List Packet = (contents_of c.args.capture.now).packets in
    let len : length ps ≡ length c.records-count.result.now
    = length-map c.args.capture.now.records (packet_of c.args.capture.now.bytes) ∙ ap length (sym c.records-count.ensures.records) in
    let all : length ps ≤ c.loop-i.i = omega (arith, len, c.loop-i-test.false) in
    record {
      head = c.parted.ensures.first ∙ ap (take file_header_len) (sym c.requires);
      raws = sym (append-nil _) ∙ ap (λ (xs : List (List ℕ)). map (λ (r : Bor (List ℕ)). r.now) c.loop-i.raws.items ++ xs) (sym (raw_end ps c.loop-i.i c.loop-i.rest.now all)) ∙ c.loop-i.invariant.raws;
      rest = sym (rest_end ps c.loop-i.i c.loop-i.rest.now all) ∙ c.loop-i.invariant.rest;
    }
