use Rattle.std.proofs.Common.{refl, arith}
use Rattle.std.proofs.lemmas.Map.Text.{text_keys}
use Rattle.et_io.proofs.mem_files.MemFiles.hold.Goals as goal

pub returns-clause-ok : goal.returns-clause-ok
returns-clause-ok c = record {
  there = grind (arith, text_keys);
  others = λ q other. grind (arith, text_keys, other);
  no_call = refl;
  no_read = refl;
}
