use Rattle.std.proofs.lemmas.Result.{err_from_is_err_and}
use Rattle.pcap_records.specs.CaptureView.{bytes_of, heading_of, capture_refusal}
use Rattle.pcap_records.proofs.Passes.{reading-bad_header, reading-refused, reading-listed}
use Rattle.pcap_records.proofs.reader.read_file.Goals as goal

pub returns-in_err-heading-clause-exact : goal.returns-in_err-heading-clause-exact
returns-in_err-heading-clause-exact c =
    let p = err_from_is_err_and c.from_residual.result c.from_residual.ensures.1 in
    let fault = c.in_err-heading.field-0.0 in
    let told = c.in_err-heading.ensures.exact in
    rw (p.1, p.2) (rw told.0 (reading-bad_header (bytes_of c.args.bytes) fault told.1))

pub returns-in_err-list-clause-exact : goal.returns-in_err-list-clause-exact
returns-in_err-list-clause-exact c =
    let p = err_from_is_err_and c.from_residual-in_err-list.result c.from_residual-in_err-list.ensures.1 in
    let fault = c.in_err-list.field-0.0 in
    rw (p.1, p.2) (reading-refused (capture_refusal fault) (bytes_of c.args.bytes) (heading_of c.in_ok-heading.heading) c.in_ok-heading.ensures.exact c.in_err-list.ensures.exact)

pub returns-clause-exact : goal.returns-clause-exact
returns-clause-exact c =
    let made = c.of_records.ensures in
    rw (made.bytes, made.ticks, made.order, made.records, made.rest)
    (reading-listed (bytes_of c.args.bytes) (heading_of c.in_ok-heading.heading) _ c.in_ok-heading.ensures.exact c.in_ok-list.ensures.exact)
