use Rattle.std.proofs.Common.{length, ap, subst, sym, refl, ◌∙◌}
use Rattle.std.specs.Prelude.{IsTrue}
use Rattle.std.proofs.lemmas.Result.{IfOk-weaker, on_ok_weaker, on_err_weaker}
use Rattle.et_heap.specs.Objects.{new_object}
use Rattle.et_heap.specs.Stored.{states_of}
use Rattle.et_heap.proofs.States.{length-shown, shown_made, room_seen}
use Rattle.et_heap.proofs.Changes.{made-linked}
use Rattle.et_heap.proofs.heap.Heap.make_object.Goals as goal

pub returns-clause-number : goal.returns-clause-number
returns-clause-number c = IfOk-weaker c.make.result _ _ (λ o e. e ∙ (sym (length-shown c.self.inside.store) ∙ ap length c.self.view_is)) c.make.ensures.number

pub returns-clause-new : goal.returns-clause-new
returns-clause-new c = on_ok_weaker c.make.result (shown_made (new_object c.args.class 0 c.args.slots) _ _ _ c.self.view_is) c.make.ensures.new

pub returns-clause-room : goal.returns-clause-room
returns-clause-room c = on_ok_weaker c.make.result (subst (λ b. IsTrue b) (sym (room_seen _ _ 1 c.args.slots c.self.view_is))) c.make.ensures.room

pub returns-clause-full : goal.returns-clause-full
returns-clause-full c =
    let same = room_seen _ _ 1 c.args.slots c.self.view_is in
    (λ e. same ∙ c.make.ensures.full.0 e, λ e. c.make.ensures.full.1 (sym same ∙ e))

pub returns-clause-err : goal.returns-clause-err
returns-clause-err c = on_err_weaker c.make.result (λ e. ap states_of e ∙ c.self.view_is) c.make.ensures.err

pub invariant_of-self : goal.invariant_of-self
invariant_of-self c = made-linked c.make.result _ _ (new_object c.args.class 0 c.args.slots) refl c.make.ensures.new c.make.ensures.err c.self.invariant
