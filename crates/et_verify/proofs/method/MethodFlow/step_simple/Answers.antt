use Rattle.std.proofs.Common.{◌≡◌, ℕ, ◌<◌, List, [], length, sym, ap, subst, ◌∙◌}
use Rattle.std.specs.Prelude.{◌^◌}
use Rattle.et_code.specs.Rules.{offsets}
use Rattle.et_verify.specs.declared.decoded.Decoded.{Decoded}
use Rattle.et_verify.specs.Methods.{MethodOf, StandsAt}
use Rattle.et_verify.proofs.Methods.{in_code, refused_there, stepped_there, straight_next}
use Rattle.et_verify.proofs.method.MethodFlow.step_simple.Goals as goal

pub simple_decoded_at-requires-clause-inside : goal.simple_decoded_at-requires-clause-inside
simple_decoded_at-requires-clause-inside c = in_code c.args.self.now c.as_slice-code.result.now c.args.pc (c.as_slice-code.ensures.value ∙ ap (λ (y : MethodOf). y.body.code) c.self.view_is) c.requires

pub simple_decoded_at-requires-clause-few : goal.simple_decoded_at-requires-clause-few
simple_decoded_at-requires-clause-few c = subst (λ (bytes : List ℕ). length bytes < 2 ^ 16) (sym c.as_slice-code.ensures.value) c.self.invariant.few

pub step_other-requires : goal.step_other-requires
step_other-requires c = subst (λ (bytes : List ℕ). StandsAt bytes c.args.pc c.in-Some.at) (c.as_slice-code.ensures.value ∙ ap (λ (y : MethodOf). y.body.code) c.self.view_is) c.in-Some.ensures.stands

pub returns-then-not-branch : goal.returns-then-not-branch
returns-then-not-branch c =
    refused_there c.args.self.now c.args.pc c.as_slice-code.result.now c.in-Some.at c.args.types.now _ c.args.lead.now _ (c.as_slice-code.ensures.value ∙ ap (λ (y : MethodOf). y.body.code) c.self.view_is) c.in-Some.ensures.stands (c.in_ok-step_other.ensures.refused c.if-not-branch.true)

pub returns : goal.returns
returns c =
    let f : MethodOf = c.args.self.now in
    let x : Decoded = c.in-Some.at in
    let same : c.as_slice-code.result.now ≡ f.body.code = c.as_slice-code.ensures.value ∙ ap (λ (y : MethodOf). y.body.code) c.self.view_is in
    let none : offsets f.body.code x.instr ≡ [] = subst (λ (bytes : List ℕ). offsets bytes x.instr ≡ []) same c.in-Some.ensures.straight in
    stepped_there f c.args.pc c.as_slice-code.result.now x c.args.types.now c.step_other.new.types c.args.lead.now c.go_on.new.lead same c.in-Some.ensures.stands c.self.inside.targets.now (ap (λ (y : MethodOf). y.targets) c.self.view_is) (c.in_ok-step_other.ensures.done c.if-not-branch.false)
    (c.in_ok-go_on.ensures.places ∙ sym (straight_next f.program f.method f.body c.args.pc (x.instr, x.next) x.row none)) c.in_ok-go_on.ensures.on (λ q d here. c.in_ok-go_on.ensures.behind q d) c.in_ok-go_on.ensures.handlers c.in_ok-go_on.ensures.caught
