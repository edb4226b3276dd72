use Rattle.std.proofs.Common.{◌≡◌, ℕ, ◌<◌, List, [], length, Some, refl, sym, subst, ap, ◌∙◌, arith}
use Rattle.std.specs.Prelude.{◌^◌}
use Rattle.et_code.specs.Bodies.{body_of}
use Rattle.et_code.specs.Decoding.{Fits}
use Rattle.et_code.specs.Rules.{offsets}
use Rattle.et_code.proofs.Decoded.{decoded_fits}
use Rattle.et_program.specs.Entries.{method_at}
use Rattle.et_event.specs.declared.rows.Row.TheVariants as rows
use Rattle.et_event.specs.Sound.{returned_of}
use Rattle.et_verify.specs.Leads.{site_in}
use Rattle.et_verify.specs.Methods.{MethodOf, StandsAt, types_after_it}
use Rattle.et_verify.specs.declared.decoded.Decoded.{Decoded}
use Rattle.et_event.specs.Sites.{Site}
use Rattle.et_verify.proofs.Methods.{in_code, refused_there, stepped_there, plain_next}
use Rattle.et_verify.proofs.method.MethodFlow.step_at.Goals.{After-step_within}
use Rattle.et_verify.proofs.method.MethodFlow.step_at.Goals as goal

pub simple_at-requires : goal.simple_at-requires
simple_at-requires c = in_code c.args.self.now c.as_slice.result.now c.args.pc (c.as_slice.ensures.value ∙ ap (λ (y : MethodOf). y.body.code) c.self.view_is) c.requires

pub overflow_cast-next : goal.overflow_cast-next
overflow_cast-next c =
    let bytes : List ℕ = c.as_slice.result.now in
    let few : length bytes < 2 ^ 16 = subst (λ (bs : List ℕ). length bs < 2 ^ 16) (sym c.as_slice.ensures.value) c.self.invariant.few in
    let fits : Fits bytes c.args.pc c.in-Some.instr c.in-Some.next = decoded_fits bytes c.args.pc c.in-Some.instr c.in-Some.next c.in-Some.ensures.found in
    omega (arith, fits.within, few)

-- the instruction has a row
stands : (c : After-step_within) → StandsAt c.as_slice.result.now c.args.pc (record { row = rows.Frame c.in-Some-plain_row.row; instr = c.in-Some.instr; next = c.in-Some.next })
stands c = record {
  decoded = c.in-Some.ensures.found;
  row = c.in-Some-plain_row.ensures.row;
  fits = decoded_fits c.as_slice.result.now c.args.pc c.in-Some.instr c.in-Some.next c.in-Some.ensures.found;
}

pub returns-then-not-branch : goal.returns-then-not-branch
returns-then-not-branch c =
    let x : Decoded = record { row = rows.Frame c.in-Some-plain_row.row; instr = c.in-Some.instr; next = c.in-Some.next } in
    let site : Site = site_in c.self.inside.program.now c.self.inside.method (body_of c.self.inside.code.now) (x.instr, x.next) in
    refused_there c.args.self.now c.args.pc c.as_slice.result.now x c.args.types.now _ c.args.lead.now _ (c.as_slice.ensures.value ∙ ap (λ (y : MethodOf). y.body.code) c.self.view_is) (stands (goal.at.returns-then-not-branch c).After-step_within)
    (ap (λ (y : MethodOf). types_after_it y x c.args.types.now) (sym c.self.view_is) ∙ c.in_ok-step_within.ensures.refused site (returned_of (method_at c.self.inside.program.now c.self.inside.method)) refl c.if-not-branch.true)

pub returns : goal.returns
returns c =
    let f : MethodOf = c.args.self.now in
    let x : Decoded = record { row = rows.Frame c.in-Some-plain_row.row; instr = c.in-Some.instr; next = c.in-Some.next } in
    let same : c.as_slice.result.now ≡ f.body.code = c.as_slice.ensures.value ∙ ap (λ (y : MethodOf). y.body.code) c.self.view_is in
    let site : Site = site_in c.self.inside.program.now c.self.inside.method (body_of c.self.inside.code.now) (x.instr, x.next) in
    let after : types_after_it f x c.args.types.now ≡ Some c.step_within.new.types =
    ap (λ (y : MethodOf). types_after_it y x c.args.types.now) (sym c.self.view_is) ∙ c.in_ok-step_within.ensures.done site (returned_of (method_at c.self.inside.program.now c.self.inside.method)) refl c.if-not-branch.false in
    let none : offsets f.body.code x.instr ≡ [] = subst (λ (bytes : List ℕ). offsets bytes x.instr ≡ []) same c.in-Some.ensures.straight in
    stepped_there f c.args.pc c.as_slice.result.now x c.args.types.now c.step_within.new.types c.args.lead.now c.go_past.new.lead same (stands (goal.at.returns c).After-step_within) c.self.inside.targets.now (ap (λ (y : MethodOf). y.targets) c.self.view_is) after
    (c.in_ok-go_past.ensures.places ∙ sym (plain_next f.program f.method f.body c.args.pc (x.instr, x.next) x.row c.in-Some-plain_row.ensures.past none)) c.in_ok-go_past.ensures.on (λ q d here. c.in_ok-go_past.ensures.behind q d) c.in_ok-go_past.ensures.handlers c.in_ok-go_past.ensures.caught
