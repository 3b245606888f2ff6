use Rattle.std.proofs.Common.{ℕ, ◌∙◌, ◌+◌, ◌++◌, List, length, refl, ap, arith, length-append}
use Rattle.std.proofs.lemmas.Bool.{false≢true}
use Rattle.pcap_records.specs.Instants.{ticks_of}
use Rattle.pcap_records.specs.Writing.{record_bytes}
use Rattle.frame_headers.specs.Layout.{headers_len}
use Rattle.segment_writer.specs.Senders.{frame_with}
use Rattle.segment_writer.proofs.RecordSteps.{opened_record, length-opened, few_headers, length-frame, put_is}
use Rattle.segment_writer.proofs.records.put_record.Goals as goal

pub put_headers-requires : goal.put_headers-requires
put_headers-requires c =
    let n : ℕ = headers_len c.args.header.now.vlan in
    let payload : List ℕ = c.args.payload.now in
    let slice = c.deref_mut.ensures.value ∙ c.in_ok-extend_from_slice.ensures.items ∙ ap (λ xs. xs ++ payload) c.in_ok-frame.ensures.bytes in
    let len = length-frame n (ticks_of c.args.unit) c.args.at (n + length payload) c.in_ok-frame.frame c.reserve.new.self.items _ payload slice c.in_ok-frame.ensures.frame in
    record { room = omega (arith, len); small = omega (arith, len, c.requires.small) }

pub returns-clause-ok : goal.returns-clause-ok
returns-clause-ok c =
    let n : ℕ = headers_len c.args.header.now.vlan in
    let ticks : ℕ = ticks_of c.args.unit in
    let payload : List ℕ = c.args.payload.now in
    let slice = c.deref_mut.ensures.value ∙ c.in_ok-extend_from_slice.ensures.items ∙ ap (λ xs. xs ++ payload) c.in_ok-frame.ensures.bytes in
    put_is n ticks c.args.at (n + length payload) c.in_ok-frame.frame c.reserve.new.self.items _ payload slice c.in_ok-frame.ensures.frame
    c.args.header.now c.extend_from_slice.new.self.len _ c.put_headers.new.frame c.deref_mut.ensures.value c.extend_from_slice.new.self.ok.0 refl c.put_headers.ensures.bytes c.put_headers.auto.frame
    ∙ (λ i. c.reserve.ensures.items i ++ record_bytes ticks c.args.at (frame_with c.args.header.now payload))

-- there is room for the payload
pub returns-in_err-extend_from_slice-clause-err : goal.returns-in_err-extend_from_slice-clause-err
returns-in_err-extend_from_slice-clause-err c =
    let n : ℕ = headers_len c.args.header.now.vlan in
    let len : ℕ = length c.args.payload.now in
    let opened : List ℕ = opened_record n (ticks_of c.args.unit) c.args.at (n + len) in
    absurd (false≢true (c.in_err-extend_from_slice.ensures.succeeds (omega (
      arith,
      ap length c.in_ok-frame.ensures.bytes ∙ length-append c.reserve.new.self.items opened,
      length-opened n (ticks_of c.args.unit) c.args.at (n + len),
      few_headers c.args.header.now.vlan,
      c.requires.small,
      c.record_len.ensures,
      c.in_ok-reserve.ensures.ok,
      c.in_ok-frame.ensures.capacity,
      c.reserve.new.self.ok.0,
      c.open_record.new.out.ok.0,
    ))))
