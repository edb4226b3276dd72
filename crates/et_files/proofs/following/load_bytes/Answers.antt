use Rattle.std.proofs.Common.{subst, arith}
use Rattle.et_convert.specs.Spellings.{SpellsTrace}
use Rattle.et_files.specs.Loaded.{IsTraceOf}
use Rattle.et_files.proofs.Answered.{one_answered, loads_refused}
use Rattle.et_files.proofs.Followed.{tells_of_by}
use Rattle.et_files.proofs.Found.{trace_not_read}
use Rattle.et_files.proofs.following.load_bytes.Goals as goal

pub returns-clause-loads : goal.returns-clause-loads
returns-clause-loads g c = record {
  tells = λ held told found is.
      tells_of_by _ (λ lines bytes. SpellsTrace lines bytes.items) (λ lines bytes. SpellsTrace lines bytes.items) found c.checked.result (λ lines bytes s. s)
      (c.checked.ensures.tells found (subst (λ file. IsTraceOf file found) (c.in_ok-bytes.ensures.tells (g.S.Files.asked c.args.files.now) held (omega arith) told) is));
  read = one_answered g.S.Files _ _ _ _ c.in_ok-bytes.bytes c.checked.result c.in_ok-bytes.ensures.read c.checked.ensures.bytes c.checked.ensures.names;
}

pub returns-in_err-bytes-clause-loads : goal.returns-in_err-bytes-clause-loads
returns-in_err-bytes-clause-loads g c =
    loads_refused g.S.Files _ _ _ _ _ _ (λ read found r h. h) trace_not_read c.in_err-bytes.field-0.0 c.from_residual.result c.from_residual.ensures.1 c.in_err-bytes.ensures.read (λ held told. c.in_err-bytes.ensures.tells (g.S.Files.asked c.args.files.now) held (omega arith) told)
