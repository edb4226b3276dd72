use Rattle.std.proofs.Common.{◌≡◌, List, length, get_or, sym, ap, subst, ◌∙◌, arith}
use Rattle.std.proofs.lemmas.List.{get_or_past, get_or_default}
use Rattle.et_flow.specs.declared.types.EntryType.TheVariants.{Free}
use Rattle.et_flow.specs.declared.locals.Held.{Held}
use Rattle.et_flow.specs.Locals.{IsAt, IsGapFor}
use Rattle.et_flow.proofs.Held.{nothing, length-spread, type_found, type_missing, type_read}
use Rattle.et_flow.proofs.locals.Locals.type_at.Goals as goal

pub returns-then-i-self : goal.returns-then-i-self
returns-then-i-self c = sym (get_or_past c.args.self.now c.args.i Free (omega (arith, c.if-i-self.true, ap length c.self.view_is, length-spread c.self.inside.count c.self.inside.held.items)))

pub returns-in-Ok : goal.returns-in-Ok
returns-in-Ok c =
    let held : List Held = c.self.inside.held.items in
    let is : IsAt held c.args.i c.in-Ok.at = subst (λ (hs : List Held). IsAt hs c.args.i c.in-Ok.at) c.deref.ensures.value c.in-Ok.ensures.found in
    let read : c.index.result.now ≡ get_or held c.in-Ok.at nothing = c.index.ensures ∙ get_or_default held c.in-Ok.at c.index.result.now nothing is.inside in
    ap (λ (h : Held). h.entry) read ∙ (sym (type_found held c.self.invariant.order c.args.i c.in-Ok.at is) ∙ type_read c.self.inside.count held c.args.self.now c.args.i c.self.view_is c.if-i-self.false)

pub returns-in-Err : goal.returns-in-Err
returns-in-Err c =
    let held : List Held = c.self.inside.held.items in
    let gap : IsGapFor held c.args.i c.in-Err.field-0 = subst (λ (hs : List Held). IsGapFor hs c.args.i c.in-Err.field-0) c.deref.ensures.value c.in-Err.ensures.absent in
    sym (type_missing held c.args.i c.in-Err.field-0 gap) ∙ type_read c.self.inside.count held c.args.self.now c.args.i c.self.view_is c.if-i-self.false
