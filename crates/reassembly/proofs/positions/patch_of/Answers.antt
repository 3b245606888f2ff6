use Rattle.std.proofs.Common.{ap, arith, length, drop, length-take, length-drop, ◌-◌}
use Rattle.pcap_records.specs.CaptureView.{bytes_of}
use Rattle.reassembly.proofs.positions.patch_of.Goals as goal

pub returns-clause-near : goal.returns-clause-near
returns-clause-near c =
    let payload = c.slice-payload.result.now in
    let hidden = c.min-hidden.result in
    omega (
      arith,
      length-take (length payload - hidden) (drop hidden payload),
      length-drop hidden payload,
      ap length c.slice-payload.ensures,
      length-take c.len_of.result (drop c.args.member.now.start (bytes_of c.args.file)),
    )
