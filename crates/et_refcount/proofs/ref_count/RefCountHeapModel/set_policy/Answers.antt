use Rattle.std.proofs.Common.{[], sym, subst}
use Rattle.et_refcount.specs.Counts.{View, Accounts}
use Rattle.et_refcount.proofs.Standing.{opened_stands}
use Rattle.et_refcount.proofs.ref_count.RefCountHeapModel.set_policy.Goals as goal

pub returns-clause-ok : goal.returns-clause-ok
returns-clause-ok c = subst (λ (v : View). Accounts c.args.policy c.args.policy v c.args.objects []) (sym c.in_ok-open.ensures) (opened_stands c.args.policy c.args.objects c.requires.few c.requires.kind)
