use Rattle.std.proofs.Common.{refl, inl}
use denote.Param.Object.{read_made}
use Rattle.et_part_tests.proofs.models.replay_generations.OwnLists.{own-1}
use Rattle.et_replay.specs.declared.model.HeapModel.{Ghosts}
use Rattle.et_replay.specs.declared.model.Kind.{Kind}
use Rattle.et_part_tests.proofs.models.replay_generations.Goals as goal

pub replay_alone-requires : goal.replay_alone-requires
replay_alone-requires c =
    let new = read_made {G = λ X. Ghosts X} own-1 (own-1.entry (inl tt)) (inl tt) refl (Type 0) (λ j z. j.1.is_new z) c.into_dyn_box.result.vtable c.into_dyn_box.result.value c.in_ok-model.model.value c.into_dyn_box.ensures.1 in
    let kind = read_made {G = λ X. Ghosts X} own-1 (own-1.entry (inl tt)) (inl tt) refl Kind (λ j z. j.1.kind_of z) c.into_dyn_box.result.vtable c.into_dyn_box.result.value c.in_ok-model.model.value c.into_dyn_box.ensures.1 in
    record { new = rw new (rw c.in_ok-model.ensures.ok c.begin.ensures.new); kind = rw kind refl }
