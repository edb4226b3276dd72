use Rattle.std.proofs.Common.{refl, inl, inr}
use denote.Param.Object.{read_made}
use Rattle.et_command_tests.proofs.boxes.answer_of_three.OwnLists.{own-1}
use Rattle.et_replay.specs.declared.model.HeapModel.{Ghosts}
use Rattle.et_models.proofs.Boxes.{three_all}
use Rattle.et_command_tests.proofs.boxes.answer_of_three.Goals as goal

pub elephant-requires : goal.elephant-requires
elephant-requires g c =
    let first = read_made {G = λ X. Ghosts X} own-1 (own-1.entry (inl tt)) (inl tt) refl (Type 0) (λ j z. j.1.is_new z) c.into_dyn_box.result.vtable c.into_dyn_box.result.value c.in_ok-new.field-0.value c.into_dyn_box.ensures.1 in
    let other = read_made {G = λ X. Ghosts X} own-1 (own-1.entry (inr (inl tt))) (inr (inl tt)) refl (Type 0) (λ j z. j.1.is_new z) c.into_dyn_box-in_ok-new-2.result.vtable c.into_dyn_box-in_ok-new-2.result.value c.in_ok-new-2.field-0.value c.into_dyn_box-in_ok-new-2.ensures.1 in
    let last = read_made {G = λ X. Ghosts X} own-1 (own-1.entry (inl tt)) (inl tt) refl (Type 0) (λ j z. j.1.is_new z) c.into_dyn_box-in_ok-new-3.result.vtable c.into_dyn_box-in_ok-new-3.result.value c.in_ok-new-3.field-0.value c.into_dyn_box-in_ok-new-3.ensures.1 in
    record {
      new = three_all (λ b. (own-1.entry b.vtable).1.is_new b.value) _ _ _ _ c.into_dyn_box.result c.into_dyn_box-in_ok-new-2.result c.into_dyn_box-in_ok-new-3.result c.new-models.ensures.items c.in_ok-push.ensures.items c.in_ok-push-2.ensures.items c.in_ok-push-3.ensures.items
          (rw first (rw c.in_ok-new.ensures.ok c.begin.ensures.new))
          (rw other (rw c.in_ok-new-2.ensures.ok c.begin-2.ensures.new))
          (rw last (rw c.in_ok-new-3.ensures.ok c.begin-3.ensures.new));
    }
