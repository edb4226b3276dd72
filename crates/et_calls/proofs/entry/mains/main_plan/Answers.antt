use Rattle.std.proofs.Common.{◌≡◌, ℕ, ◌<◌, List, length, All, Option, Some, None, refl, sym, ◌∙◌, ap, subst}
use Rattle.std.specs.Prelude.{IsSome}
use Rattle.std.specs.List.{list_all}
use Rattle.et_code.specs.Bodies.{Body}
use Rattle.et_program.specs.Entries.{method_at}
use Rattle.et_state.specs.declared.class_state.ClassState.TheVariants.{Untouched}
use Rattle.et_event.specs.Initialization.{is_ready, state_of}
use Rattle.et_event.specs.Moments.{moment, begins}
use Rattle.et_calls.proofs.CalledByCode.{none_within, one_ready, one_within}
use Rattle.et_calls.proofs.FirstMethods.{entry_argument}
use Rattle.et_calls.proofs.Initial.{quiet_need}
use Rattle.et_calls.proofs.Mains.{quiet_untouched}
use Rattle.et_calls.proofs.entry.mains.main_plan.Goals as goal

pub returns-in-Ready-clause-within : goal.returns-in-Ready-clause-within
returns-in-Ready-clause-within c = record {
  method = c.main-method.ensures.within;
  argument = entry_argument c.args.machine.now.guest c.args.thread c.entry_slot-argument.result c.entry_slot-argument.ensures;
  classes = none_within (length c.args.program.now.classes);
  ready = refl;
  coded = λ none. refl;
}

-- main has code
some_code : (code : Option Body) → IsSome code → code ≡ None → ⊥
some_code None some none = cc
some_code (Some body) some none = cc

pub returns-in-Quiet-clause-within : goal.returns-in-Quiet-clause-within
returns-in-Quiet-clause-within c =
    let p = c.args.program.now in
    let e = moment p c.args.machine.now c.args.thread in
    let class = c.method.result.now.class in
    let untouched : state_of (begins e) class ≡ Untouched = quiet_untouched e class c.need_of.result c.need_of.ensures c.in-Quiet.is in
    record {
      method = c.main-method.ensures.within;
      argument = entry_argument c.args.machine.now.guest c.args.thread c.entry_slot-argument.result c.entry_slot-argument.ensures;
      classes = subst (λ (ks : List ℕ). All (λ k. k < length p.classes) ks) (sym c.from_ref.ensures.value) (one_within class (length p.classes) c.method.ensures.class);
      ready = ap (λ (ks : List ℕ). list_all (is_ready e (begins e)) ks) c.from_ref.ensures.value ∙ one_ready e class (begins e) untouched (quiet_need e class c.need_of.result untouched c.need_of.ensures c.in-Quiet.is);
      coded = λ none. absurd (some_code (method_at p p.main).code c.requires.begins.methods.main_code (ap (λ (k : ℕ). (method_at p k).code) (sym c.main-method.ensures.value) ∙ none));
    }
