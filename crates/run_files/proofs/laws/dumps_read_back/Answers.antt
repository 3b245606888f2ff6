use Rattle.std.proofs.Common.{inl, inr, ◌∙◌, ap}
use Rattle.hex.proofs.HexLemmas.{decode_of-encode_lower, decode_of-encode_upper}
use Rattle.run_files.specs.{decode_of}
use Rattle.run_files.proofs.DumpLemmas.{dump_reading-decoded}
use Rattle.run_files.proofs.laws.dumps_read_back.Goals as goal

pub returns : goal.returns
returns c = λ bytes text h same. elim same [
  | inl is_lower ↦ dump_reading-decoded text bytes (ap decode_of is_lower ∙ decode_of-encode_lower bytes h)
  | inr is_upper ↦ dump_reading-decoded text bytes (ap decode_of is_upper ∙ decode_of-encode_upper bytes h)
]
