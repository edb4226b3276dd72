use Rattle.std.proofs.Common.{ℕ, Some, Err, subst, ap, ◌∙◌}
use Rattle.et_pool.specs.Looks.{ChecksPool}
use Rattle.et_class.specs.declared.fault.TheConstants.{POOL}
use Rattle.et_class.proofs.Pooled.{pool_fits, pool_breaks}
use Rattle.et_class.proofs.class.check_pool.Goals as goal

pub returns-in-Ok : goal.returns-in-Ok
returns-in-Ok c = pool_fits c.args.pool.now.slots c.in-Ok.ensures

pub returns-in-Err : goal.returns-in-Err
returns-in-Err c =
    ap (λ (p : ℕ). Some (p, POOL)) c.place_of_fault.ensures ∙ pool_breaks (Unit {0}) c.args.pool.now.slots c.in-Err.f (subst (λ a. ChecksPool {A = Unit {0}} a c.args.pool.now.slots (Err c.in-Err.f)) c.requires c.in-Err.ensures)
