use Rattle.std.proofs.Common.{Ok, subst, sym}
use Rattle.std.proofs.lemmas.Result.{err_from_is_err_and}
use Rattle.et_convert.specs.Spellings.{SpellsTrace}
use Rattle.et_files.specs.Loaded.{IsTraceOf}
use Rattle.et_files.proofs.following.checked.Goals as goal

pub returns-clause-tells : goal.returns-clause-tells
returns-clause-tells c found is =
    let t = c.in_ok-follow_in.ensures.tells found (subst (λ bytes. IsTraceOf (Ok bytes) found) (sym c.deref.ensures.value) is) in
    (t.0, t.1, subst (SpellsTrace t.0) c.deref.ensures.value t.2.spells)

pub returns-clause-trace : goal.returns-clause-trace
returns-clause-trace c =
    let t = c.in_ok-follow_in.ensures.trace in
    let s = subst (SpellsTrace t.0) c.deref.ensures.value t.1.spells in
    (t.0, s, c.conversions_are_traces.ensures.short t.0 c.args.bytes.items s c.requires.small)

pub returns-in_err-follow_in-clause-tells : goal.returns-in_err-follow_in-clause-tells
returns-in_err-follow_in-clause-tells c found is =
    let q = err_from_is_err_and c.from_residual.result c.from_residual.ensures.1 in
    rw (q.1, q.2) (c.in_err-follow_in.ensures.tells found (subst (λ bytes. IsTraceOf (Ok bytes) found) (sym c.deref.ensures.value) is))
