use Rattle.std.proofs.Common.{[], ◌∷◌, refl, inl, inr}
use denote.Param.Object.{read_made}
use Rattle.et_part_tests.proofs.models.replay_both.OwnLists.{own-1}
use Rattle.et_replay.specs.declared.model.HeapModel.{Ghosts}
use Rattle.et_models.proofs.Boxes.{two_items, two_zip}
use Rattle.et_part_tests.proofs.models.replay_both.Goals as goal

pub replay-requires : goal.replay-requires
replay-requires c =
    let a = c.requires.first in
    let b = c.requires.second in
    let first = read_made {G = λ X. Ghosts X} own-1 (own-1.entry (inl tt)) (inl tt) refl (Type 0) (λ j z. j.1.stands_for z a.0 a.1 []) c.into_dyn_box.result.vtable c.into_dyn_box.result.value c.in_ok-new.field-0.value c.into_dyn_box.ensures.1 in
    let second = read_made {G = λ X. Ghosts X} own-1 (own-1.entry (inr (inl tt))) (inr (inl tt)) refl (Type 0) (λ j z. j.1.stands_for z b.0 b.1 []) c.into_dyn_box-in_ok-new-2.result.vtable c.into_dyn_box-in_ok-new-2.result.value c.in_ok-new-2.field-0.value c.into_dyn_box-in_ok-new-2.ensures.1 in (
      a.0 ∷ b.0 ∷ [],
      two_zip _ _ c.into_dyn_box.result c.into_dyn_box-in_ok-new-2.result _ _ (two_items _ _ _ _ _ c.new-models.ensures.items c.in_ok-push.ensures.items c.in_ok-push-2.ensures.items)
          (a.1, a.2, rw first (rw c.in_ok-new.ensures.ok a.3)) (b.1, b.2, rw second (rw c.in_ok-new-2.ensures.ok b.3)),
    )
