use Rattle.std.proofs.Common.{◌≡◌, ℕ, ◌<◌, List, length, get_or, set, ap, subst, ◌∙◌, arith}
use Rattle.std.proofs.lemmas.List.{get_or_read}
use Rattle.et_flow.specs.declared.types.EntryType.{EntryType}
use Rattle.et_flow.specs.declared.locals.Held.{Held}
use Rattle.et_flow.specs.Locals.{IsAt}
use Rattle.et_flow.proofs.Held.{nothing, length-spread, set_at, put_in_gap}
use Rattle.et_flow.proofs.locals.Locals.put.Goals as goal

pub overflow_cast-i : goal.overflow_cast-i
overflow_cast-i c = omega (arith, c.requires, c.self.invariant.few, ap length c.self.view_is, length-spread c.self.inside.count c.self.inside.held.items)

pub overflow_cast-local : goal.overflow_cast-local
overflow_cast-local c = omega (arith, c.requires, c.self.invariant.few, ap length c.self.view_is, length-spread c.self.inside.count c.self.inside.held.items)

pub invariant_of-self-in-Continue-1 : goal.invariant_of-self-in-Continue-1
invariant_of-self-in-Continue-1 c =
    let lt : c.args.i < c.self.inside.count = omega (arith, c.requires, ap length c.self.view_is, length-spread c.self.inside.count c.self.inside.held.items) in
    (put_in_gap c.self.inside.count c.self.inside.held.items _ c.insert.new.self.items c.in-Err.at (record { local = c.args.i; entry = c.args.entry }) c.args.self.now c.self.view_is c.self.invariant c.deref.ensures.value c.in-Err.ensures.absent lt c.in_ok-insert-in-Err.ensures.items).0

pub returns-in-Ok : goal.returns-in-Ok
returns-in-Ok c =
    let held : List Held = c.self.inside.held.items in
    let count : ℕ = c.self.inside.count in
    let lt : c.args.i < count = omega (arith, c.requires, ap length c.self.view_is, length-spread count held) in
    let is : IsAt held c.args.i c.in-Ok.at = subst (λ (hs : List Held). IsAt hs c.args.i c.in-Ok.at) c.deref.ensures.value c.in-Ok.ensures.found in
    let read : c.index_mut.result.now ≡ get_or held c.in-Ok.at nothing = get_or_read held c.in-Ok.at c.index_mut.result.now is.inside c.index_mut.ensures.value nothing in
    set_at count held c.args.i c.in-Ok.at c.index_mut.result.now c.args.entry c.self.invariant.order lt is read ∙ ap (λ (xs : List EntryType). set xs c.args.i c.args.entry) c.self.view_is

pub returns-in_ok-insert-in-Err : goal.returns-in_ok-insert-in-Err
returns-in_ok-insert-in-Err c =
    let lt : c.args.i < c.self.inside.count = omega (arith, c.requires, ap length c.self.view_is, length-spread c.self.inside.count c.self.inside.held.items) in
    (put_in_gap c.self.inside.count c.self.inside.held.items _ c.insert.new.self.items c.in-Err.at (record { local = c.args.i; entry = c.args.entry }) c.args.self.now c.self.view_is c.self.invariant c.deref.ensures.value c.in-Err.ensures.absent lt c.in_ok-insert-in-Err.ensures.items).1
