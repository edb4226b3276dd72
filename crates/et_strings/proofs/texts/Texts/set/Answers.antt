use Rattle.std.proofs.Common.{ℕ, sym, ap, ◌∙◌, arith}
use Rattle.et_state.specs.Texts.{with_text, text_units}
use Rattle.et_strings.proofs.Entries.{spelled, spelled-insert, size, units-insert}
use Rattle.et_strings.proofs.texts.Texts.set.Goals as goal

pub overflow_sub-self : goal.overflow_sub-self
overflow_sub-self c =
    omega (arith, units-insert c.self.inside.own.entries c.number.result c.args.units c.insert.ensures.was_ordered, ap size (sym c.in_ok-old.ensures.old ∙ c.in-Some.is), c.self.invariant.units, c.len.ensures, c.len-more.ensures)

pub invariant_of-self-in-Some : goal.invariant_of-self-in-Some
invariant_of-self-in-Some c =
    record { units = omega (arith, units-insert c.self.inside.own.entries c.number.result c.args.units c.insert.ensures.was_ordered, ap size (sym c.in_ok-old.ensures.old ∙ c.in-Some.is), c.self.invariant.units, c.len.ensures, c.len-more.ensures, ap (λ x. text_units (spelled x)) c.in_ok-old.ensures.entries); ordered = c.insert.ensures.ordered }

pub invariant_of-self-in_default : goal.invariant_of-self-in_default
invariant_of-self-in_default c =
    record { units = omega (arith, units-insert c.self.inside.own.entries c.number.result c.args.units c.insert.ensures.was_ordered, ap size (sym c.in_ok-old.ensures.old ∙ c.in_default.is), c.self.invariant.units, c.len-more.ensures, ap (λ x. text_units (spelled x)) c.in_ok-old.ensures.entries); ordered = c.insert.ensures.ordered }

pub returns-in-Some : goal.returns-in-Some
returns-in-Some c = ap spelled c.in_ok-old.ensures.entries ∙ (spelled-insert c.self.inside.own.entries c.number.result c.args.units ∙ (ap (with_text c.number.result c.args.units.items) c.self.view_is ∙ ap (λ (o : ℕ). with_text o c.args.units.items c.args.self.now) c.number.ensures.value))

pub returns-in_default : goal.returns-in_default
returns-in_default c = ap spelled c.in_ok-old.ensures.entries ∙ (spelled-insert c.self.inside.own.entries c.number.result c.args.units ∙ (ap (with_text c.number.result c.args.units.items) c.self.view_is ∙ ap (λ (o : ℕ). with_text o c.args.units.items c.args.self.now) c.number.ensures.value))
