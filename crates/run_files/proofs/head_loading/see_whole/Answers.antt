use Rattle.std.proofs.Common.{◌≡◌, ◌<◌, ◌≤◌, ◌∙◌, [], Ok, Err, true, length, take, refl, sym, ap, subst, arith}
use Rattle.std.proofs.lemmas.List.{length-take-le}
use Rattle.std.proofs.lemmas.Result.{err_from_is_err_and}
use Rattle.run_files.specs.{capture_limit, is_dump, Loads, Sees}
use Rattle.run_files.specs.declared.head_loading.SeenText.TheVariants.{Dump}
use Rattle.run_files.proofs.SeenParts.{same_first, seen_nothing}
use Rattle.run_files.proofs.head_loading.see_whole.Goals as goal

pub returns-in_err-room : goal.returns-in_err-room
returns-in_err-room g c =
    let fault = err_from_is_err_and c.from_residual.result c.from_residual.ensures.1 in
    rw (fault.1, fault.2) (Err _, refl, tt, ([], c.requires.first, omega arith))

pub returns-in_err-len : goal.returns-in_err-len
returns-in_err-len g c =
    let fault = err_from_is_err_and c.from_residual-in_err-len.result c.from_residual-in_err-len.ensures.1 in
    rw (fault.1, fault.2) (Err _, refl, tt, c.in_err-len.ensures.stops c.args.input.now [] refl c.requires.first)

pub returns-then-len-eq0 : goal.returns-then-len-eq0
returns-then-len-eq0 g c =
    let room = c.read_next.new.room in
    let some : 0 < length room = omega (arith, c.read_next.auto.room, ap length c.as_mut_slice-buffer.ensures.value, c.in_ok-room.ensures.more) in
    let came = subst (g.I.Input.gives c.args.input.now c.read_next.new.input) (ap (λ k. take k room) c.if-len-eq0.true) (c.in_ok-len.ensures.came [] c.args.input.now c.requires.first) in
    (Ok [], (refl, seen_nothing c.new.result c.finish.result c.new.ensures.found c.finish.ensures), omega arith, (came, c.in_ok-len.ensures.at_end c.if-len-eq0.true some))

pub returns-in_err-bytes : goal.returns-in_err-bytes
returns-in_err-bytes g c =
    let fault = err_from_is_err_and c.from_residual-in_err-bytes.result c.from_residual-in_err-bytes.ensures.1 in
    let reads = c.in_ok-len.ensures in
    let within : length (take c.in_ok-len.len c.read_next.new.room) ≤ capture_limit = omega (arith, length-take-le c.in_ok-len.len c.read_next.new.room reads.within.0, reads.within.1) in
    rw (fault.1, fault.2) (Err _, refl, tt, (take c.in_ok-len.len c.read_next.new.room, reads.came [] c.args.input.now c.requires.first, within))

pub returns-in_err-load_rest : goal.returns-in_err-load_rest
returns-in_err-load_rest g c =
    let fault = err_from_is_err_and c.from_residual-in_err-load_rest.result c.from_residual-in_err-load_rest.ensures.1 in
    let came = subst (g.I.Input.gives c.args.input.now c.read_next.new.input) (sym c.in_ok-bytes.ensures.items) (c.in_ok-len.ensures.came [] c.args.input.now c.requires.first) in
    rw (fault.1, fault.2) (Err _, refl, tt, c.in_err-load_rest.ensures.loads c.args.input.now came)

pub returns-then-is_dump : goal.returns-then-is_dump
returns-then-is_dump g c =
    let first = c.in_ok-bytes.bytes.items in
    let same : first ≡ take c.in_ok-len.len c.read_next.new.room = c.in_ok-bytes.ensures.items in
    let loaded = c.in_ok-load_rest.ensures in
    let came = subst (g.I.Input.gives c.args.input.now c.read_next.new.input) (sym same) (c.in_ok-len.ensures.came [] c.args.input.now c.requires.first) in
    let some : 0 < length first = omega (arith, ap length same, length-take-le c.in_ok-len.len c.read_next.new.room c.in_ok-len.ensures.within.0, c.if-len-eq0.false) in
    let dump : is_dump c.in_ok-load_rest.field-0.items ≡ true =
    ap is_dump loaded.first.1 ∙ same_first first loaded.first.0 some ∙ ap is_dump same ∙ sym c.is_dump.ensures ∙ c.if-is_dump.true in
    let now = c.load_rest.new.input in
    subst (λ t. Sees (Ok (Dump t)) (Loads (g.I.Input.gives c.args.input.now now) (g.I.Input.fails c.args.input.now now) (g.I.Input.is_at_end now) (λ text. text))) (sym c.of.ensures)
    (Ok c.in_ok-load_rest.field-0.items, (dump, refl), loaded.within, loaded.loads c.args.input.now came)

pub returns : goal.returns
returns g c = c.see_rest.ensures c.args.input.now (c.in_ok-len.ensures.came [] c.args.input.now c.requires.first)
