use Rattle.std.proofs.Common.{◌≡◌, Bool, refl, sym, subst}
use Rattle.std.specs.Option.{option_copied}
use Rattle.et_event.specs.declared.rows.Row.TheVariants as rows
use Rattle.et_event.specs.Pools.{pool_slots}
use Rattle.et_event.specs.Sites.{Site, running_method, site_of}
use Rattle.et_event.proofs.Placing.{pool_found}
use Rattle.et_refs.specs.Steps.{StepsOver}
use Rattle.et_run.proofs.Lifting.{plain_steps}
use Rattle.et_run.proofs.lifted.constant_step.Goals as goal

pub returns : goal.returns
returns c = λ heap.
    let p = c.args.program.now in
    let r = c.args.running.now in
    let r' = c.push_constant.new.running in
    let x = c.args.decoded.now in
    let at : Site = site_of p r.frame x in
    let pool : at.pool ≡ pool_slots (option_copied c.pool-pool.result) = sym (pool_found p c.args.class (running_method p r.frame).class (option_copied c.pool-pool.result) c.pool-pool.ensures c.requires.method) in
    let runs = c.push_constant.ensures.ends at refl pool c.in-Some.ensures in
    subst (λ (b : Bool). StepsOver p heap heap b r r') (sym c.is_done.ensures) (plain_steps p heap r r' x rows.PoolConstant c.push_constant.result refl c.requires.there c.requires.at_row runs c.push_constant.ensures.stays)
