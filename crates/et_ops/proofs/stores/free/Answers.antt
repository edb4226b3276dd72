use Rattle.std.proofs.Common.{rules, ◌≡◌, ◌≤◌, length, sym, ◌∙◌, ap}
use Rattle.et_base.specs.declared.value.Value.{Value}
use Rattle.et_ops.specs.Tops.{half_beside, half_of}
use Rattle.et_ops.proofs.Storing.{unset_none, unset_beyond}
use Rattle.et_ops.proofs.stores.free.Goals as goal

pub returns-in_default-clause-new : goal.returns-in_default-clause-new
returns-in_default-clause-new c =
    let r = c.args.running.now in
    let f = r.frame in
    let e : c.half_beside.result ≡ half_of c.args.i f.locals = c.half_beside.ensures ∙ ap (λ (v : Value). half_beside c.args.i v) c.local.ensures in
    unset_none r (half_of c.args.i f.locals) (sym e ∙ c.in_default.is)

pub returns-else-j-locals-clause-new : goal.returns-else-j-locals-clause-new
returns-else-j-locals-clause-new c =
    let r = c.args.running.now in
    let f = r.frame in
    let e : c.half_beside.result ≡ half_of c.args.i f.locals = c.half_beside.ensures ∙ ap (λ (v : Value). half_beside c.args.i v) c.local.ensures in
    let le : length f.locals ≤ c.in-Some.j = search rules in
    unset_beyond r c.in-Some.j (half_of c.args.i f.locals) (sym e ∙ c.in-Some.is) le
