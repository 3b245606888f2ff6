use Rattle.std.proofs.Common.{◌≡◌, ◌≤◌, length, All, ◌++◌, ◌∷◌, [], map, ap, subst, sym, rules, ◌∙◌, arith}
use Rattle.std.proofs.lemmas.List.{map_push, nil_from_length}
use Rattle.std.proofs.lemmas.Result.{err_from_is_err_and}
use Rattle.std.proofs.lemmas.List.Elements.{All-append}
use Rattle.run_files.specs.{into_iter_items, block_len, run_refusal, blocks_of}
use Rattle.run_files.proofs.LoadedParts.{Gathers, gathers_none, gathers_one, gathers_no_more, gathers_all}
use Rattle.run_files.proofs.block_loading.parts_of.Goals as goal

pub loop-block-init : goal.loop-block-init
loop-block-init g c =
    let contents = g.F.DiskFile.contents c.args.file.now in
    let left = into_iter_items c.into_iter-block-iterator.result in
    let are : left ≡ blocks_of contents c.args.count = c.into_iter-block-iterator.ensures.into_iter_gives.0 ∙ c.into_vec-blocks.ensures ∙ c.requires.blocks in
    record {
      can_next = tt;
      is_finite = tt;
      gathers = rw c.in_ok-parts.ensures.items (gathers_none contents c.args.count left are);
      short = rw c.in_ok-parts.ensures.items (search rules);
    }

pub loop-block-preserved : goal.loop-block-preserved
loop-block-preserved g c =
    let was = c.loop-block.invariant in
    let contents = g.F.DiskFile.contents c.args.file.now in
    let left = into_iter_items c.next.new.self in
    let parts = map (λ part. part.items) c.loop-block.parts.items in
    let next = c.in-Some.ensures.steps.0 in
    let pushed : c.push.new.self.items ≡ c.loop-block.parts.items ++ c.in_ok-part.part ∷ [] = search rules in
    record {
      can_next = tt;
      is_finite = tt;
      gathers = subst (Gathers contents c.args.count left) (sym (ap (map (λ part. part.items)) pushed ∙ map_push (λ part. part.items) c.loop-block.parts.items c.in_ok-part.part))
          (gathers_one contents c.args.count c.in-Some.block left parts (subst (λ xs. Gathers contents c.args.count xs parts) next was.gathers) c.in_ok-part.part.items c.in_ok-part.ensures.contents);
      short = subst (λ parts. All (λ part. length part.items ≤ block_len) parts) (sym pushed) (All-append (λ part. length part.items ≤ block_len) c.loop-block.parts.items (c.in_ok-part.part ∷ []) was.short (search rules));
    }

pub returns-in_err-part-clause-contents : goal.returns-in_err-part-clause-contents
returns-in_err-part-clause-contents g c =
    let contents = g.F.DiskFile.contents c.args.file.now in
    let parts = map (λ part. part.items) c.loop-block.parts.items in
    let fault = err_from_is_err_and c.from_residual-in_err-part.result c.from_residual-in_err-part.ensures.1 in
    rw (fault.1, fault.2) (gathers_no_more contents c.args.count c.in-Some.block (into_iter_items c.next.new.self) parts
    (subst (λ xs. Gathers contents c.args.count xs parts) c.in-Some.ensures.steps.0 c.loop-block.invariant.gathers) (run_refusal c.in_err-part.field-0.0) c.requires.counted c.requires.few
    c.in_err-part.ensures.contents)

pub returns-clause-contents : goal.returns-clause-contents
returns-clause-contents g c =
    let contents = g.F.DiskFile.contents c.args.file.now in
    let parts = map (λ part. part.items) c.loop-block.parts.items in
    let none : into_iter_items c.loop-block.block-iterator ≡ [] =
    nil_from_length (into_iter_items c.loop-block.block-iterator) (omega (arith, c.in-None.ensures.steps.0, c.loop-block.block-iterator.rest.ok.0)) in
    gathers_all contents c.args.count parts c.requires.counted c.requires.few (subst (λ xs. Gathers contents c.args.count xs parts) none c.loop-block.invariant.gathers)
