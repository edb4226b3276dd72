use Rattle.std.proofs.Common.{Some, None, sym, ap, ◌∙◌, arith}
use Rattle.et_state.specs.Texts.{given_text, text_units}
use Rattle.et_strings.proofs.Entries.{found, given-taken, left-taken, size, spelled, units-remove, units-taken}
use Rattle.et_strings.proofs.texts.Texts.take.Goals as goal

pub overflow_sub-self : goal.overflow_sub-self
overflow_sub-self c =
    omega (arith, units-remove c.self.inside.own.entries c.number.result, ap size (sym c.remove.ensures.value ∙ c.in-Some.is), c.self.invariant.units, c.len.ensures)

pub invariant_of-self : goal.invariant_of-self
invariant_of-self c = record {
  units =
      omega (arith, units-remove c.self.inside.own.entries c.number.result, ap size (sym c.remove.ensures.value ∙ c.in-Some.is), c.self.invariant.units, c.len.ensures, ap (λ x. text_units (spelled x)) c.remove.ensures.entries);
  ordered = c.remove.ensures.ordered;
}

pub returns-in-Some-clause-value : goal.returns-in-Some-clause-value
returns-in-Some-clause-value c =
    found c.self.inside.own.entries c.args.self.now c.number.result (Some c.in-Some.units) c.self.view_is (sym c.in-Some.is ∙ c.remove.ensures.value)
    ∙ ap (given_text c.args.self.now) c.number.ensures.value

pub returns-in-None-clause-value : goal.returns-in-None-clause-value
returns-in-None-clause-value c =
    found c.self.inside.own.entries c.args.self.now c.number.result None c.self.view_is (sym c.in-None.is ∙ c.remove.ensures.value)
    ∙ ap (given_text c.args.self.now) c.number.ensures.value

pub returns-in-Some-clause-left : goal.returns-in-Some-clause-left
returns-in-Some-clause-left c = left-taken c.args.o c.number.result c.self.inside.own.entries c.args.self.now c.remove.new.self.entries c.self.view_is c.self.invariant.ordered c.number.ensures.value c.remove.ensures.entries

pub returns-in-Some-clause-given : goal.returns-in-Some-clause-given
returns-in-Some-clause-given c = λ text. given-taken c.args.o c.number.result text c.self.inside.own.entries c.args.self.now c.remove.new.self.entries c.self.view_is c.self.invariant.ordered c.number.ensures.value c.remove.ensures.entries

pub returns-in-Some-clause-units : goal.returns-in-Some-clause-units
returns-in-Some-clause-units c = units-taken c.number.result c.self.inside.own.entries c.args.self.now c.remove.new.self.entries c.self.view_is c.remove.ensures.entries

pub returns-in-None-clause-left : goal.returns-in-None-clause-left
returns-in-None-clause-left c = left-taken c.args.o c.number.result c.self.inside.own.entries c.args.self.now c.remove.new.self.entries c.self.view_is c.self.invariant.ordered c.number.ensures.value c.remove.ensures.entries

pub returns-in-None-clause-given : goal.returns-in-None-clause-given
returns-in-None-clause-given c = λ text. given-taken c.args.o c.number.result text c.self.inside.own.entries c.args.self.now c.remove.new.self.entries c.self.view_is c.self.invariant.ordered c.number.ensures.value c.remove.ensures.entries

pub returns-in-None-clause-units : goal.returns-in-None-clause-units
returns-in-None-clause-units c = units-taken c.number.result c.self.inside.own.entries c.args.self.now c.remove.new.self.entries c.self.view_is c.remove.ensures.entries
