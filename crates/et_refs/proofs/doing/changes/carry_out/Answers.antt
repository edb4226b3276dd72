use Rattle.std.proofs.Common.{◌≡◌, ℕ, [], ◌∷◌, Option, take, ap, subst, sym, ◌∙◌}
use Rattle.et_base.specs.declared.value.Value.TheVariants.{Ref}
use Rattle.et_heap.specs.Refs.{refs_of}
use Rattle.et_state.specs.Words.{steps_top, top}
use Rattle.et_event.specs.Moments.{moment, begins, array_made}
use Rattle.et_event.specs.Making.{MakesObject}
use Rattle.et_event.proofs.Taking.{replaced}
use Rattle.et_event.specs.Answered.{EventAnswers}
use Rattle.et_state.specs.declared.ends.EventEnd.TheVariants as ends
use Rattle.et_refs.specs.Changes.{change_outcome}
use Rattle.et_refs.specs.declared.doing.changes.Change.{Change}
use Rattle.et_refs.proofs.Ending.{make_answers}
use Rattle.et_refs.proofs.doing.changes.carry_out.Goals as goal

pub returns-in-Some-clause-ok : goal.returns-in-Some-clause-ok
returns-in-Some-clause-ok c =
    let p = c.args.program.now in
    let m = c.args.machine.now in
    let t = c.args.thread in
    let made = subst (λ (o : Option ℕ). MakesObject (array_made (moment p m t) c.in-Make.x.class c.in-Make.x.elements (begins (moment p m t))) o m c.make_array.new.machine c.args.out.now c.make_array.new.out) c.in-Some.is c.in_ok-array-in-Make.ensures.made in
    let next : c.replace_top.new.machine ≡ steps_top c.begin_event.new.self t (replaced 1 (Ref c.in-Some.array ∷ []) c.args.place.now.site.next (top c.begin_event.new.self.guest t)) (refs_of (take 1 (top c.begin_event.new.self.guest t).operands)) =
    c.replace_top.ensures ∙ ap (λ (n : ℕ). steps_top c.begin_event.new.self t (replaced 1 (Ref c.in-Some.array ∷ []) n (top c.begin_event.new.self.guest t)) (refs_of (take 1 (top c.begin_event.new.self.guest t).operands))) c.next-in-Make.ensures in
    subst (λ (x : Change). EventAnswers (change_outcome (moment p m t) c.args.place.now.site x) ends.Done m c.replace_top.new.machine c.args.out.now c.make_array.new.out) (sym c.in-Make.is)
    (make_answers p c.args.place.now.site t c.in-Make.x.class c.in-Make.x.elements c.in-Some.array m _ _ _ c.args.out.now _ c.requires.step.sound c.requires.step.frame made c.begin_event.ensures next)
