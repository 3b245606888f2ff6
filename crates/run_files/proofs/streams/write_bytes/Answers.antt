use Rattle.std.proofs.Common.{◌≡◌, ◌+◌, ◌-◌, ◌≤◌, ℕ, List, ◌++◌, length, take, drop, subst, ap, sym, ◌∙◌, arith, length-drop, take-add}
use Rattle.std.proofs.lemmas.List.{take_rest}
use Rattle.std.proofs.KnownBytes.{Appends-trans}
use Rattle.run_files.specs.{Appends}
use Rattle.run_files.proofs.streams.write_bytes.Goals as goal

-- what a write takes of the rest joins the first part
joined : (bytes : List ℕ) (written len : ℕ) → take written bytes ++ take len (take (length bytes - written) (drop written bytes)) ≡ take (written + len) bytes
joined bytes written len = ap (λ rest. take written bytes ++ take len rest) (take_rest bytes written) ∙ sym (take-add written len bytes)

within_rest : (bytes : List ℕ) (written len : ℕ) → written ≤ length bytes → len ≤ length (take (length bytes - written) (drop written bytes)) → written + len ≤ length bytes
within_rest bytes written len first bound = omega (arith, ap length (take_rest bytes written), length-drop written bytes)

pub loop-written-preserved : goal.loop-written-preserved
loop-written-preserved g c = record {
  within = within_rest c.args.bytes.now c.loop-written.written c.in-Ok.len c.loop-written.invariant.within c.in-Ok.ensures.bound;
  took =
      let P = Appends (g.W.Write.contents c.args.writer.now.inner) (g.W.Write.contents c.write_some.new.self.inner) in
      subst P (joined c.args.bytes.now c.loop-written.written c.in-Ok.len) (Appends-trans _ _ _ _ _ c.loop-written.invariant.took c.in-Ok.ensures.bytes);
  none_failed = c.in-Ok.ensures.failed ∙ c.loop-written.invariant.none_failed;
}
