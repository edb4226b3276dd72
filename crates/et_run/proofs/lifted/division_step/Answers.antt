use Rattle.std.proofs.Common.{Bool, refl, sym, subst}
use Rattle.et_event.specs.declared.rows.Row.TheVariants as rows
use Rattle.et_event.specs.Sites.{site_of}
use Rattle.et_refs.specs.Steps.{StepsOver}
use Rattle.et_run.proofs.Lifting.{plain_steps}
use Rattle.et_run.proofs.lifted.division_step.Goals as goal

pub returns : goal.returns
returns c = λ heap.
    let p = c.args.program.now in
    let r = c.args.running.now in
    let r' = c.divide.new.running in
    let x = c.args.decoded.now in
    let runs = c.divide.ensures.ends (site_of p r.frame x) refl in
    subst (λ (b : Bool). StepsOver p heap heap b r r') (sym c.is_done.ensures) (plain_steps p heap r r' x (rows.Divide c.args.number c.args.division) c.divide.result refl c.requires.there c.requires.at_row runs c.divide.ensures.stays)
