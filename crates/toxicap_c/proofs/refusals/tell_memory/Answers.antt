use Rattle.std.proofs.Common.{◌∙◌, refl, inl}
use Rattle.run_files.specs.declared.error.RunFault.TheVariants.{Memory}
use Rattle.toxicap_c.proofs.refusals.tell_memory.Goals as goal

pub returns-then-put_text : goal.returns-then-put_text
returns-then-put_text c count fault =
    (Memory, c.as_bytes-line.result.now, inl refl, c.as_bytes-line.ensures.value ∙ c.memory_line.ensures, c.if-put_text.ensures, refl)
