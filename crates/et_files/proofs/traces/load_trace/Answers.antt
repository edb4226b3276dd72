use Rattle.std.proofs.Common.{Ok, ap, length, subst, sym, arith}
use Rattle.et_files.specs.Loaded.{IsTraceOf}
use Rattle.et_files.proofs.Answered.{one_answered, loads_refused}
use Rattle.et_files.proofs.Found.{tells_more, trace_not_read}
use Rattle.et_files.proofs.traces.load_trace.Goals as goal

pub returns-clause-loads : goal.returns-clause-loads
returns-clause-loads g c = record {
  tells = λ held told found is.
      tells_more _ _ found c.trace_in.result (c.trace_in.ensures.tells found (subst (λ bytes. IsTraceOf (Ok bytes) found) (sym c.deref.ensures.value) (subst (λ file. IsTraceOf file found) (c.in_ok-bytes.ensures.tells (g.F.Files.asked c.args.files.now) held (omega arith) told) is)));
  read = one_answered g.F.Files _ _ _ _ c.in_ok-bytes.bytes c.trace_in.result c.in_ok-bytes.ensures.read c.trace_in.ensures.bytes c.trace_in.ensures.names;
}

pub returns-clause-short : goal.returns-clause-short
returns-clause-short g c = c.trace_in.ensures.short (let small = c.in_ok-bytes.ensures.within in let same = ap length c.deref.ensures.value in omega (arith, small, same))

pub returns-in_err-bytes-clause-loads : goal.returns-in_err-bytes-clause-loads
returns-in_err-bytes-clause-loads g c =
    loads_refused g.F.Files _ _ _ _ _ _ (λ read found r h. h) trace_not_read c.in_err-bytes.field-0.0 c.from_residual.result c.from_residual.ensures.1 c.in_err-bytes.ensures.read (λ held told. c.in_err-bytes.ensures.tells (g.F.Files.asked c.args.files.now) held (omega arith) told)
