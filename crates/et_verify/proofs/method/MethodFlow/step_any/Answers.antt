use Rattle.std.proofs.Common.{◌≡◌, ℕ, ◌<◌, inl, inr, true, List, [], ◌∷◌, ◌++◌, length, map, None, sym, ap, subst, ◌∙◌, arith, Contains}
use Rattle.std.specs.Prelude.{if◌then◌else◌, ◌^◌}
use Rattle.et_code.specs.Bodies.{Body, body_of}
use Rattle.et_code.specs.Decoding.{instruction_at}
use Rattle.et_code.specs.Rules.{flag, offsets}
use Rattle.et_code.specs.Starts.{is_start}
use Rattle.et_event.specs.Sites.{target}
use Rattle.et_flow.specs.Flows.{some_place}
use Rattle.et_verify.specs.declared.decoded.Decoded.{Decoded}
use Rattle.et_verify.specs.Leads.{goes_past, next_places, site_in}
use Rattle.et_verify.specs.Typings.{leads_by}
use Rattle.et_verify.specs.Methods.{MethodOf, StandsAt}
use Rattle.et_verify.proofs.Within.{place_inside}
use Rattle.et_verify.proofs.Straight.{target_flagged}
use Rattle.et_verify.proofs.Methods.{in_code, none_there, refused_there, stepped_there}
use Rattle.et_verify.proofs.method.MethodFlow.step_any.Goals.{In_ok-next_places}
use Rattle.et_verify.proofs.method.MethodFlow.step_any.Goals as goal

pub decoded_at-requires-clause-inside : goal.decoded_at-requires-clause-inside
decoded_at-requires-clause-inside c = in_code c.args.self.now c.as_slice-code.result.now c.args.pc (c.as_slice-code.ensures.value ∙ ap (λ (y : MethodOf). y.body.code) c.self.view_is) c.requires

pub decoded_at-requires-clause-few : goal.decoded_at-requires-clause-few
decoded_at-requires-clause-few c = subst (λ (bytes : List ℕ). length bytes < 2 ^ 16) (sym c.as_slice-code.ensures.value) c.self.invariant.few

pub returns-in_default : goal.returns-in_default
returns-in_default c =
    let f : MethodOf = c.args.self.now in
    none_there f c.args.pc c.args.types.now _ c.args.lead.now _
    (subst (λ (bytes : List ℕ). leads_by f.program f.method f.body c.args.pc c.args.types.now (instruction_at bytes c.args.pc) ≡ None) (c.as_slice-code.ensures.value ∙ ap (λ (y : MethodOf). y.body.code) c.self.view_is) (c.in_default.ensures.none f.program f.method f.body c.args.types.now))

pub step_decoded-requires : goal.step_decoded-requires
step_decoded-requires c = subst (λ (bytes : List ℕ). StandsAt bytes c.args.pc c.in-Some.at) (c.as_slice-code.ensures.value ∙ ap (λ (y : MethodOf). y.body.code) c.self.view_is) c.in-Some.ensures.stands

pub returns-then-not-branch : goal.returns-then-not-branch
returns-then-not-branch c =
    refused_there c.args.self.now c.args.pc c.as_slice-code.result.now c.in-Some.at c.args.types.now _ c.args.lead.now _ (c.as_slice-code.ensures.value ∙ ap (λ (y : MethodOf). y.body.code) c.self.view_is) c.in-Some.ensures.stands (c.in_ok-step_decoded.ensures.refused c.if-not-branch.true)

pub next_places-requires-clause-pc : goal.next_places-requires-clause-pc
next_places-requires-clause-pc c =
    let body : Body = body_of c.self.inside.code.now in
    let start : is_start body.code c.args.pc ≡ true = subst (λ (y : MethodOf). is_start y.body.code c.args.pc ≡ true) (sym c.self.view_is) c.requires in
    omega (arith, place_inside body.code c.args.pc start, c.self.invariant.few)

pub next_places-requires-clause-fits : goal.next_places-requires-clause-fits
next_places-requires-clause-fits c = c.in-Some.ensures.stands.fits

-- a place that is no target is not turned to
turns : (c : In_ok-next_places) → (q : ℕ) → Contains c.next_places.new.lead.nexts.items q → is_start c.args.self.now.body.code q ≡ true → flag c.self.inside.targets.now q ≡ true
turns c q d here =
    let body : Body = body_of c.self.inside.code.now in
    let x : Decoded = c.in-Some.at in
    let stands : StandsAt body.code c.args.pc x = subst (λ (bytes : List ℕ). StandsAt bytes c.args.pc x) c.as_slice-code.ensures.value c.in-Some.ensures.stands in
    let start : is_start body.code c.args.pc ≡ true = subst (λ (y : MethodOf). is_start y.body.code c.args.pc ≡ true) (sym c.self.view_is) c.requires in
    let there : is_start body.code q ≡ true = subst (λ (y : MethodOf). is_start y.body.code q ≡ true) (sym c.self.view_is) here in
    elim (c.in_ok-next_places.ensures.behind q d) [
      | inl turned ↦ target_flagged c.self.inside.program.now c.self.inside.method body c.self.inside.starts.now c.self.inside.targets.now c.self.invariant.flags c.self.invariant.marked (omega (arith, place_inside body.code c.args.pc start)) c.args.pc (x.instr, x.next) q start stands.decoded
          (subst (λ (bytes : List ℕ). Contains (map (target c.args.pc) (offsets bytes x.instr)) q) c.as_slice-code.ensures.value turned) there
      | inr on ↦ on
    ]

pub returns : goal.returns
returns c =
    let f : MethodOf = c.args.self.now in
    let x : Decoded = c.in-Some.at in
    let same : c.as_slice-code.result.now ≡ f.body.code = c.as_slice-code.ensures.value ∙ ap (λ (y : MethodOf). y.body.code) c.self.view_is in
    let nexts : some_place c.next_places.new.lead.on ++ c.next_places.new.lead.nexts.items ≡ next_places c.args.pc (site_in f.program f.method f.body (x.instr, x.next)) x.row =
    c.in_ok-next_places.ensures.places ∙ ap (λ (bytes : List ℕ). (if goes_past x.row then x.next ∷ [] else []) ++ map (target c.args.pc) (offsets bytes x.instr)) same in
    stepped_there f c.args.pc c.as_slice-code.result.now x c.args.types.now c.step_decoded.new.types c.args.lead.now c.next_places.new.lead same c.in-Some.ensures.stands c.self.inside.targets.now (ap (λ (y : MethodOf). y.targets) c.self.view_is) (c.in_ok-step_decoded.ensures.done c.if-not-branch.false)
    nexts c.in_ok-next_places.ensures.on (turns (goal.at.returns c).In_ok-next_places) c.in_ok-next_places.ensures.handlers c.in_ok-next_places.ensures.caught
