use Rattle.std.proofs.Common.{◌≡◌, ℕ, false, List, Some, sym, subst, rules}
use Rattle.std.specs.Prelude.{◌||◌, is_some}
use Rattle.std.specs.List.{list_any}
use Rattle.et_state.specs.Interned.{object_of}
use Rattle.et_event.specs.Moments.{Moment}
use Rattle.et_event.specs.Initialization.{field_set}
use Rattle.et_initialize.specs.Texts.{constant_text, has_text, Counted}
use Rattle.et_initialize.proofs.Counting.{counted_new}
use Rattle.et_initialize.proofs.limits.Count.count_field.Goals as goal

pub returns-in_ok-push-clause-counted : goal.returns-in_ok-push-clause-counted
returns-in_ok-push-clause-counted c =
    let p = c.args.self.now.program.now in
    let m = c.args.self.now.machine.now in
    let text : constant_text p c.args.field ≡ Some c.in-Some.text.now = search rules in
    let new : (is_some (object_of m.guest.interned c.in-Some.text.now) || list_any (has_text p c.in-Some.text.now) c.args.seen.now.items) ≡ false = search rules in
    λ before thread d h. let e : Moment = record { program = p; before = before; thread = thread } in
    subst (λ (fs : List ℕ). Counted p m fs (field_set e d c.args.field)) (sym c.in_ok-push.ensures.items)
    (counted_new m c.args.seen.now.items e d c.args.field c.in-Some.text.now text new h)
