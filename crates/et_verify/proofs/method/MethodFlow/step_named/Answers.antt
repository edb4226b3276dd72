use Rattle.std.proofs.Common.{◌≡◌, ℕ, List, refl, sym, subst, ap, ◌∙◌, rules}
use Rattle.std.specs.Option.{option_copied}
use Rattle.et_base.specs.Numbers.{AreBytes}
use Rattle.et_code.specs.Bodies.{Body, body_of}
use Rattle.et_code.specs.Decoding.{instruction_at}
use Rattle.et_code.specs.declared.instr.Instr.{Instr}
use Rattle.et_program.specs.Entries.{method_at}
use Rattle.et_program.specs.declared.info.MethodInfo.{MethodInfo}
use Rattle.et_event.specs.Sites.{Site, pool_of_class}
use Rattle.et_event.specs.Sound.{returned_of}
use Rattle.et_event.specs.Pools.{pool_slots}
use Rattle.et_event.proofs.Constants.{index_small}
use Rattle.et_event.proofs.Placing.{pool_found}
use Rattle.et_verify.specs.Effects.{MayName}
use Rattle.et_verify.specs.Leads.{site_in}
use Rattle.et_verify.specs.Steps.{types_after}
use Rattle.et_verify.specs.Methods.{MethodOf, StandsAt, types_after_it}
use Rattle.et_verify.proofs.Methods.{site_here}
use Rattle.et_verify.proofs.method.MethodFlow.step_named.Goals.{After-new-site}
use Rattle.et_verify.proofs.method.MethodFlow.step_named.Goals as goal

-- the site of the instruction
sited : (c : After-new-site) → c.new-site.result ≡ site_in c.self.inside.program.now c.self.inside.method (body_of c.self.inside.code.now) (c.args.at.now.instr, c.args.at.now.next)
sited c =
    let p = c.self.inside.program.now in
    let m : ℕ = c.self.inside.method in
    let body : Body = body_of c.self.inside.code.now in
    let class : c.self.inside.info.now.class ≡ (method_at p m).class = ap (λ (i : MethodInfo). i.class) c.self.invariant.info_is in
    let pool : pool_slots (option_copied c.pool-pool.result) ≡ pool_of_class p (method_at p m).class = pool_found p c.self.inside.info.now.class (method_at p m).class (option_copied c.pool-pool.result) c.pool-pool.ensures class in
    c.new-site.ensures ∙ site_here p m body (c.args.at.now.instr, c.args.at.now.next) c.as_slice-code.result.now (pool_slots (option_copied c.pool-pool.result)) c.self.inside.info.now.class c.as_slice-code.ensures.value pool class

pub step-requires : goal.step-requires
step-requires c =
    let before = (goal.at.step-requires c).After-new-site in
    let p = c.self.inside.program.now in
    let m : ℕ = c.self.inside.method in
    let body : Body = body_of c.self.inside.code.now in
    let x : Instr × ℕ = (c.args.at.now.instr, c.args.at.now.next) in
    let code : c.as_slice-code.result.now ≡ body.code = c.as_slice-code.ensures.value in
    let stands = subst (λ (y : MethodOf). StandsAt y.body.code c.args.pc c.args.at.now) (sym c.self.view_is) c.requires in
    let bytes : AreBytes c.as_slice-code.result.now = search rules in
    let there = ap (λ (bytes : List ℕ). instruction_at bytes c.args.pc) code ∙ stands.decoded in
    let may : MayName p c.args.at.now.row (site_in p m body x) = record {
      index = λ e. index_small c.as_slice-code.result.now c.args.pc x bytes there c.args.at.now.row stands.row e;
      class = c.self.invariant.class;
      pool = refl;
    } in
    subst (λ (at : Site). MayName p c.args.at.now.row at) (sym (sited before)) may

pub returns : goal.returns
returns c =
    let p = c.self.inside.program.now in
    let m : ℕ = c.self.inside.method in
    let body : Body = body_of c.self.inside.code.now in
    let bytes : List ℕ = returned_of (method_at p m) in
    let before = (goal.at.returns c).After-new-site in
    let same : types_after_it c.args.self.now c.args.at.now c.args.types.now ≡ types_after body.max_stack bytes before.new-site.result c.args.at.now.row c.args.types.now =
    ap (λ (y : MethodOf). types_after_it y c.args.at.now c.args.types.now) (sym c.self.view_is)
    ∙ ap (λ (s : Site). types_after body.max_stack bytes s c.args.at.now.row c.args.types.now) (sym (sited before)) in
    record {
      done = λ e. same ∙ c.in_ok-done.ensures.done bytes c.self.invariant.returns e;
      refused = λ e. same ∙ c.in_ok-done.ensures.refused bytes c.self.invariant.returns e;
    }
