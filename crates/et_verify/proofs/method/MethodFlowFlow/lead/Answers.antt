use Rattle.std.specs.List.{list_all}
use Rattle.std.proofs.Common.{◌≡◌, ℕ, Bool, true, false, List, ◌++◌, Option, Some, None, refl, sym, ap, subst, ◌∙◌, Contains}
use Rattle.std.specs.Prelude.{IfSome, not, ◌&&◌}
use Rattle.std.proofs.lemmas.List.Elements.{Contains-append_right}
use Rattle.et_code.specs.Bodies.{body_of}
use Rattle.et_code.specs.Rules.{flag}
use Rattle.et_code.specs.Starts.{is_start}
use Rattle.et_flow.specs.Flows.{some_place}
use Rattle.et_flow.specs.Types.{caught}
use Rattle.et_verify.specs.Leads.{handlers_at}
use Rattle.et_verify.specs.Methods.{MethodOf}
use Rattle.et_verify.specs.Typings.{has_room}
use Rattle.et_verify.proofs.Within.{all_hold}
use Rattle.et_verify.proofs.Methods.{no_place, handlers_here, not_going, not_entering, goes}
use Rattle.et_verify.proofs.method.MethodFlowFlow.lead.Goals.{After-find_handlers, After-may_go, After-may_enter}
use Rattle.et_verify.proofs.method.MethodFlowFlow.lead.Goals as goal

pub step_at-requires : goal.step_at-requires
step_at-requires c =
    subst (λ (x : MethodOf). is_start x.body.code c.args.place ≡ true) c.self.view_is (sym (c.self.invariant.flags c.args.place) ∙ (sym c.is_flagged.ensures ∙ c.if-not-is_flagged.false))

pub returns-then-not-branch : goal.returns-then-not-branch
returns-then-not-branch c = no_place c.args.self.now.program c.args.self.now.method c.args.self.now.body c.args.place c.args.types.now (c.in_ok-step_at.ensures.refused c.if-not-branch.true)

-- an instruction stands at the place
start : (c : After-find_handlers) → is_start c.args.self.now.body.code c.args.place ≡ true
start c = subst (λ (y : MethodOf). is_start y.body.code c.args.place ≡ true) c.self.view_is (sym (c.self.invariant.flags c.args.place) ∙ (sym c.is_flagged.ensures ∙ c.if-not-is_flagged.false))

flags : (c : After-find_handlers) → (k : ℕ) → flag c.self.inside.starts.now k ≡ is_start c.args.self.now.body.code k
flags c = subst (λ (y : MethodOf). (k : ℕ) → flag c.self.inside.starts.now k ≡ is_start y.body.code k) c.self.view_is c.self.invariant.flags

-- .. and its handlers were found
handlers : (c : After-may_go) → c.step_at.new.lead.handlers.items ≡ handlers_at c.args.self.now.program c.args.self.now.method c.args.self.now.body c.args.place
handlers c =
    subst (λ (y : MethodOf). c.step_at.new.lead.handlers.items ≡ handlers_at y.program y.method y.body c.args.place) c.self.view_is
    (handlers_here c.self.inside.program.now c.self.inside.method (body_of c.self.inside.code.now) c.args.place c.step_at.new.lead.handlers.items c.self.inside.handling.now (c.in_ok-step_at.ensures.handlers c.if-not-branch.false ∙ c.in_ok-find_handlers.ensures.handlers) c.self.invariant.rows)

pub returns-then-not-may_go : goal.returns-then-not-may_go
returns-then-not-may_go c =
    let at = goal.at.returns-then-not-may_go c in
    not_going c.args.self.now.program c.args.self.now.method c.args.self.now.body c.args.place c.args.types.now (start at.After-find_handlers) c.self.inside.starts.now (flags at.After-find_handlers) (some_place c.step_at.new.lead.on ++ c.step_at.new.lead.nexts.items) c.step_at.new.lead.handlers.items c.step_at.new.types (handlers at.After-may_go) (c.in_ok-step_at.ensures.done c.if-not-branch.false) (sym c.may_go.ensures ∙ c.if-not-may_go.true)

-- .. which may be entered, or not
tested : (c : After-may_enter) → c.may_enter.result ≡ (list_all (flag c.self.inside.starts.now) c.step_at.new.lead.handlers.items && has_room c.args.self.now.body.max_stack c.step_at.new.lead.handlers.items)
tested c = subst (λ (n : ℕ). c.may_enter.result ≡ (list_all (flag c.self.inside.starts.now) c.step_at.new.lead.handlers.items && has_room n c.step_at.new.lead.handlers.items)) (ap (λ (y : MethodOf). y.body.max_stack) c.self.view_is) c.may_enter.ensures

pub returns-then-not-may_enter : goal.returns-then-not-may_enter
returns-then-not-may_enter c =
    let at = goal.at.returns-then-not-may_enter c in
    not_entering c.args.self.now.program c.args.self.now.method c.args.self.now.body c.args.place c.args.types.now (start at.After-find_handlers) c.self.inside.starts.now (flags at.After-find_handlers) (some_place c.step_at.new.lead.on ++ c.step_at.new.lead.nexts.items) c.step_at.new.lead.handlers.items c.step_at.new.types (handlers at.After-may_go) (c.in_ok-step_at.ensures.done c.if-not-branch.false) (sym (tested at.After-may_enter) ∙ c.if-not-may_enter.true)

on_straight : (targets : List Bool) (on : Option ℕ) → IfSome on (λ q. flag targets q ≡ false) → IfSome on (λ q. not (flag targets q) ≡ true)
on_straight targets None h = tt
on_straight targets (Some q) h = ap not h

pub returns : goal.returns
returns c =
    let at = goal.at.returns c in
    let nexts : List ℕ = some_place c.step_at.new.lead.on ++ c.step_at.new.lead.nexts.items in
    let standing : list_all (flag c.self.inside.starts.now) nexts ≡ true = sym c.may_go.ensures ∙ c.if-not-may_go.false in
    record {
      lead = record { after = c.step_at.new.types; nexts = nexts; caught = caught c.args.types.now; handlers = c.step_at.new.lead.handlers.items };
      is = goes c.args.self.now.program c.args.self.now.method c.args.self.now.body c.args.place c.args.types.now (start at.After-find_handlers) c.self.inside.starts.now (flags at.After-find_handlers) nexts c.step_at.new.lead.handlers.items c.step_at.new.types (handlers at.After-may_go) (c.in_ok-step_at.ensures.done c.if-not-branch.false) standing (sym (tested at.After-may_enter) ∙ c.if-not-may_enter.false);
      after_is = refl;
      nexts = refl;
      handlers = refl;
      caught = λ q d. c.in_ok-find_handlers.ensures.caught q (subst (λ (xs : List ℕ). Contains xs q) (c.in_ok-step_at.ensures.handlers c.if-not-branch.false) d) ∙ sym (c.in_ok-step_at.ensures.caught c.if-not-branch.false);
      on = on_straight c.args.self.now.targets c.step_at.new.lead.on (c.in_ok-step_at.ensures.on c.if-not-branch.false);
      others = λ q d. ap not (c.in_ok-step_at.ensures.turns c.if-not-branch.false q d (sym (flags at.After-find_handlers q) ∙ all_hold (flag c.self.inside.starts.now) nexts standing q (Contains-append_right (some_place c.step_at.new.lead.on) c.step_at.new.lead.nexts.items q d)));
    }
