use Rattle.std.proofs.Common.{ℕ, List, map, inl, inr, refl, sym, subst}
use Rattle.std.specs.Prelude.{string_bytes}
use denote.Param.Object.{read_made}
use Rattle.et_io.specs.Faults.{Rose}
use Rattle.et_replay.specs.declared.model.Kind.{Kind}
use Rattle.et_replay.specs.declared.model.HeapModel.{Ghosts}
use Rattle.et_models.proofs.Boxes.{four_all}
use Rattle.et_top.specs.Top.{IsDefined, GivesDefined}
use Rattle.et_top.proofs.KindLemmas.{map_four}
use Rattle.et_top.proofs.process.with_models.OwnLists.{own-1}
use Rattle.et_top.proofs.process.with_models.Goals as goal

pub elephant-requires : goal.elephant-requires
elephant-requires g c =
    let first = read_made {G = λ X. Ghosts X} own-1 (own-1.entry (inl tt)) (inl tt) refl (Type 0) (λ j z. j.1.is_new z) c.into_dyn_box.result.vtable c.into_dyn_box.result.value c.in_ok-new.field-0.value c.into_dyn_box.ensures.1 in
    let second = read_made {G = λ X. Ghosts X} own-1 (own-1.entry (inr (inl tt))) (inr (inl tt)) refl (Type 0) (λ j z. j.1.is_new z) c.into_dyn_box-in_ok-new-2.result.vtable c.into_dyn_box-in_ok-new-2.result.value c.in_ok-new-2.field-0.value c.into_dyn_box-in_ok-new-2.ensures.1 in
    let third = read_made {G = λ X. Ghosts X} own-1 (own-1.entry (inr (inr (inl tt)))) (inr (inr (inl tt))) refl (Type 0) (λ j z. j.1.is_new z) c.into_dyn_box-in_ok-new-3.result.vtable c.into_dyn_box-in_ok-new-3.result.value c.in_ok-new-3.field-0.value c.into_dyn_box-in_ok-new-3.ensures.1 in
    let fourth = read_made {G = λ X. Ghosts X} own-1 (own-1.entry (inr (inr (inr (inl tt))))) (inr (inr (inr (inl tt)))) refl (Type 0) (λ j z. j.1.is_new z) c.into_dyn_box-in_ok-new-4.result.vtable c.into_dyn_box-in_ok-new-4.result.value c.in_ok-new-4.field-0.value c.into_dyn_box-in_ok-new-4.ensures.1 in
    record {
      new = four_all (λ b. (own-1.entry b.vtable).1.is_new b.value) _ _ _ _ _ c.into_dyn_box.result c.into_dyn_box-in_ok-new-2.result c.into_dyn_box-in_ok-new-3.result c.into_dyn_box-in_ok-new-4.result c.new-models.ensures.items c.in_ok-push.ensures.items c.in_ok-push-2.ensures.items c.in_ok-push-3.ensures.items c.in_ok-push-4.ensures.items
          (rw first (rw c.in_ok-new.ensures.ok c.begin.ensures.new))
          (rw second (rw c.in_ok-new-2.ensures.ok c.begin-2.ensures.new))
          (rw third (rw c.in_ok-new-3.ensures.ok c.begin-3.ensures.new))
          (rw fourth (rw c.in_ok-new-4.ensures.ok c.begin-4.ensures.new));
    }

pub returns-clause-words : goal.returns-clause-words
returns-clause-words g c =
    let first = read_made {G = λ X. Ghosts X} own-1 (own-1.entry (inl tt)) (inl tt) refl Kind (λ j z. j.1.kind_of z) c.into_dyn_box.result.vtable c.into_dyn_box.result.value c.in_ok-new.field-0.value c.into_dyn_box.ensures.1 in
    let second = read_made {G = λ X. Ghosts X} own-1 (own-1.entry (inr (inl tt))) (inr (inl tt)) refl Kind (λ j z. j.1.kind_of z) c.into_dyn_box-in_ok-new-2.result.vtable c.into_dyn_box-in_ok-new-2.result.value c.in_ok-new-2.field-0.value c.into_dyn_box-in_ok-new-2.ensures.1 in
    let third = read_made {G = λ X. Ghosts X} own-1 (own-1.entry (inr (inr (inl tt)))) (inr (inr (inl tt))) refl Kind (λ j z. j.1.kind_of z) c.into_dyn_box-in_ok-new-3.result.vtable c.into_dyn_box-in_ok-new-3.result.value c.in_ok-new-3.field-0.value c.into_dyn_box-in_ok-new-3.ensures.1 in
    let fourth = read_made {G = λ X. Ghosts X} own-1 (own-1.entry (inr (inr (inr (inl tt))))) (inr (inr (inr (inl tt)))) refl Kind (λ j z. j.1.kind_of z) c.into_dyn_box-in_ok-new-4.result.vtable c.into_dyn_box-in_ok-new-4.result.value c.in_ok-new-4.field-0.value c.into_dyn_box-in_ok-new-4.ensures.1 in
    let kinds = map_four (λ b. (own-1.entry b.vtable).1.kind_of b.value) _ _ _ _ _ c.into_dyn_box.result c.into_dyn_box-in_ok-new-2.result c.into_dyn_box-in_ok-new-3.result c.into_dyn_box-in_ok-new-4.result _ _ _ _ c.new-models.ensures.items c.in_ok-push.ensures.items c.in_ok-push-2.ensures.items c.in_ok-push-3.ensures.items c.in_ok-push-4.ensures.items first second third fourth in
    record {
      answers = λ held told d defined reached decides.
          let at = subst (λ (of : List Kind). IsDefined of (map string_bytes c.args.words.now) held d) (sym kinds) defined in
          let read = Rose (g.F.Files.faults c.args.files.now) (g.F.Files.faults c.elephant.new.files) in
          let written = Rose (g.O.Sink.faults c.args.out.now) (g.O.Sink.faults c.elephant.new.out) in
          (c.elephant.new.visits, subst (λ (old : ℕ). GivesDefined reached (g.O.Sink.taken c.args.out.now) (g.O.Sink.taken c.elephant.new.out) old c.elephant.new.visits read written d c.elephant.result) c.begin-visits.ensures (c.elephant.ensures.answers held told d at reached decides));
      usage = c.elephant.ensures.usage;
      no_command = c.elephant.ensures.no_command;
      reads = c.elephant.ensures.reads;
    }
