use Rattle.std.proofs.Common.{◌≡◌, true, sym, ◌∙◌, arith, refl}
use Rattle.std.proofs.lemmas.Bool.{false≢true}
use Rattle.std.proofs.lemmas.Result.{err_from_is_err_and}
use Rattle.et_heap.specs.Stored.{has_stored_room}
use Rattle.et_heap.specs.Pages.{all_places}
use Rattle.et_heap.proofs.Places.{stored_count-le}
use Rattle.et_heap.proofs.Pages.{length-heap, length-all_places, room-there, room-out, room-small}
use Rattle.et_heap.proofs.store.Store.make.Goals as goal
use Rattle.et_heap.proofs.store.Store.make.Goals.{then-self-ge-MOST_OBJECTS-via-then-self-ge-MOST_OBJECTS, then-self-ge-MOST_OBJECTS-via-else-self-ge-MOST_OBJECTS+then-slots-self}

pub returns-then-self-ge-MOST_OBJECTS-clause-full : goal.returns-then-self-ge-MOST_OBJECTS-clause-full
returns-then-self-ge-MOST_OBJECTS-clause-full c =
    elim c.then-self-ge-MOST_OBJECTS.branch [
      | then-self-ge-MOST_OBJECTS-via-then-self-ge-MOST_OBJECTS w ↦ (λ _. room-out _ c.self.inside.pages.items _ _ c.self.view_is c.self.invariant.paged (omega arith), λ _. refl)
      | then-self-ge-MOST_OBJECTS-via-else-self-ge-MOST_OBJECTS+then-slots-self w ↦ (λ _. room-small _ c.self.inside.pages.items _ _ c.self.view_is c.self.invariant.paged (omega arith), λ _. refl)
    ]

pub returns-in_err-empty-clause-full : goal.returns-in_err-empty-clause-full
returns-in_err-empty-clause-full c =
    let room : has_stored_room c.args.self.now 1 c.args.slots ≡ true = room-there _ c.self.inside.pages.items _ _ c.self.view_is c.self.invariant.paged (omega arith) (omega arith) in
    let p = err_from_is_err_and c.from_residual.result c.from_residual.ensures.1 in
    (λ e. absurd (cc (p.1, p.2, e)), λ r. absurd (false≢true (sym r ∙ room)))

pub returns-in_err-push-clause-full : goal.returns-in_err-push-clause-full
returns-in_err-push-clause-full c =
    let room : has_stored_room c.args.self.now 1 c.args.slots ≡ true = room-there _ c.self.inside.pages.items _ _ c.self.view_is c.self.invariant.paged (omega arith) (omega arith) in
    let p = err_from_is_err_and c.from_residual-in_err-push.result c.from_residual-in_err-push.ensures.1 in
    (λ e. absurd (cc (p.1, p.2, e)), λ r. absurd (false≢true (sym r ∙ room)))

pub overflow_add-self-2 : goal.overflow_add-self-2
overflow_add-self-2 c =
    omega (arith, stored_count-le (all_places c.self.inside.pages.items), length-all_places _ _ c.self.invariant.paged)

pub returns-clause-number : goal.returns-clause-number
returns-clause-number c = c.new.ensures ∙ sym (length-heap _ c.self.inside.pages.items _ c.self.view_is c.self.invariant.paged)

pub returns-clause-room : goal.returns-clause-room
returns-clause-room c = room-there _ c.self.inside.pages.items _ _ c.self.view_is c.self.invariant.paged (omega arith) (omega arith)

pub returns-clause-full : goal.returns-clause-full
returns-clause-full c =
    let room : has_stored_room c.args.self.now 1 c.args.slots ≡ true = room-there _ c.self.inside.pages.items _ _ c.self.view_is c.self.invariant.paged (omega arith) (omega arith) in
    (λ e. absurd (cc e), λ r. absurd (false≢true (sym r ∙ room)))
