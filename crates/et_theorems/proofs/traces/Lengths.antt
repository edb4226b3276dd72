-- What is no array has no elements, in every state of a history.
use Rattle.std.proofs.Common.{◌≡◌, ℕ, zero, suc, ◌+◌, ◌<◌, ◌≤◌, Bool, true, false, List, [], ◌∷◌, length, Option, Some, None, refl, sym, ◌∙◌, subst, inl, inr, arith}
use Rattle.std.proofs.lemmas.Bool.{cases_eq}
use Rattle.et_program.specs.Entries.{Linked, class_at}
use Rattle.et_program.specs.declared.info.Element.TheVariants.{NoArray}
use Rattle.et_heap.specs.Objects.{ObjectState, Objects, IsHeld, at, found, is_there, object_at}
use Rattle.et_heap.specs.Remaining.{left_place, remaining}
use Rattle.et_heap.proofs.HeapLists.{held_within}
use Rattle.et_state.specs.Outcome.{Outcome, state_after}
use Rattle.et_state.specs.Outcome as outcome
use Rattle.et_state.specs.Start.{start}
use Rattle.et_state.specs.State.{State, Kept}
use Rattle.et_state.specs.declared.records.Record.{Record}
use Rattle.et_state.specs.declared.records.Record.TheVariants.{Alloc, Update, Enter, Exit, Unwind}
use Rattle.et_history.specs.steps.Changing.{KeepsMonitors}
use Rattle.et_history.specs.steps.Records.{AreRecordsOf, IsAllocationOf, IsAlike, TellsObjects}
use Rattle.et_history.specs.Whole.{beside}
use Rattle.et_state.specs.Enqueuing.{newcomers, begins_to_wait, joined_place, flushed_heap}
use Rattle.et_state.proofs.Enqueued.{joined_now}

abbrev pub IsPlain : Linked → ObjectState → Type 0
IsPlain p x = (class_at p x.class).info.element ≡ NoArray → x.length ≡ 0

abbrev pub ArePlain : Linked → Objects → Type 0
ArePlain p heap = (o : ℕ) → IsHeld heap o → IsPlain p (object_at heap o)

-- the state after an event, beside what was reported
abbrev pub after : State → Outcome Kept → State
after t x = state_after t (beside t.reported x)

-- AN OBJECT THAT IS MADE
module _ (p : Linked) (clock t : ℕ) (heap : Objects) where
  allocated_plain : (next object class size elements : ℕ) → IsAllocationOf p heap next object class size elements → IsPlain p (object_at heap object)
  allocated_plain next object class size elements is none = sym is.length_is ∙ is.plain (subst (λ (c : ℕ). (class_at p c).info.element ≡ NoArray) (sym is.class_is) none)

  new_plain : (next last : ℕ) (rs : List Record) → AreRecordsOf p clock t heap next rs last → (o : ℕ) → next ≤ o → o < last → IsPlain p (object_at heap o)
  new_plain next last [] are o le lt = absurd (omega (arith, are, le, lt))
  new_plain next last (Alloc event thread object class size elements ∷ rs) are o le lt =
      let is : IsAllocationOf p heap next object class size elements = are.0.2 in
      elim (cases_eq next o) [
        | inl same ↦ subst (λ (n : ℕ). IsPlain p (object_at heap n)) (is.number_is ∙ same) (allocated_plain next object class size elements is)
        | inr ne ↦ new_plain (next + 1) last rs are.1 o (omega (arith, le, ne)) lt
      ]
  new_plain next last (Update event thread object slot old new ∷ rs) are o le lt = new_plain next last rs are.1 o le lt
  new_plain next last (Enter event thread method receiver ∷ rs) are o le lt = new_plain next last rs are.1 o le lt
  new_plain next last (Exit event thread method ∷ rs) are o le lt = new_plain next last rs are.1 o le lt
  new_plain next last (Unwind event thread method exception ∷ rs) are o le lt = new_plain next last rs are.1 o le lt

-- AN EVENT
alike_plain : (p : Linked) (x y : ObjectState) → IsAlike x y → IsPlain p x → IsPlain p y
alike_plain p x y alike plain none = alike.elements ∙ plain (subst (λ (c : ℕ). (class_at p c).info.element ≡ NoArray) alike.class none)

pub event_plain : (p : Linked) (t : State) (thread : ℕ) (x : Outcome Kept) → TellsObjects p t.kept thread x → KeepsMonitors (record { program = p; before = t.kept; thread = thread }) x → ArePlain p t.kept.heap → ArePlain p (after t x).kept.heap
event_plain p t thread (outcome.Goes next records) tells keeps plain = λ o held. elim (keeps.changes.fresh o held) [
  | inl was ↦ alike_plain p (object_at t.kept.heap o) (object_at next.heap o) (tells.alike o was) (plain o was)
  | inr new ↦ new_plain p (t.kept.guest.clock + 1) thread next.heap (length t.kept.heap) (length next.heap) records tells.tells o new.0 (held_within next.heap o held)
]
event_plain p t thread (outcome.Waits next) tells keeps plain = subst (λ (heap : Objects). ArePlain p heap) (sym tells) plain
event_plain p t thread (outcome.IllTyped method pc) tells keeps plain = plain
event_plain p t thread outcome.ObjectLimit tells keeps plain = plain

-- A FLUSH
place_plain : (p : Linked) (here : ℕ → Bool) (b : Bool) (x : Option ObjectState) → is_there (left_place here b x) → (is_there x → IsPlain p (found x)) → IsPlain p (found (left_place here b x))
place_plain p here b None h plain = absurd h
place_plain p here true (Some x) h plain = plain tt
place_plain p here false (Some x) h plain = absurd h

pub flush_plain : (p : Linked) (here : ℕ → Bool) (k : ℕ) (heap : Objects) → ArePlain p heap → ArePlain p (remaining here k heap)
flush_plain p here k [] plain o held = absurd held
flush_plain p here k (x ∷ xs) plain zero held = place_plain p here (here k) x held (λ there. plain zero there)
flush_plain p here k (x ∷ xs) plain (suc o) held = flush_plain p here (k + 1) xs (λ i there. plain (suc i) there) o held

joined_plain : (p : Linked) (coming : ℕ → List ℕ) (begins : ℕ → Bool) (k : ℕ) (x : Option ObjectState) → is_there (joined_place coming begins k x) → (is_there x → IsPlain p (found x)) → IsPlain p (found (joined_place coming begins k x))
joined_plain p coming begins k None h plain = absurd h
joined_plain p coming begins k (Some x) h plain = plain tt

pub flushed_plain : (p : Linked) (here : ℕ → Bool) (heap : Objects) → ArePlain p heap → ArePlain p (flushed_heap here heap)
flushed_plain p here heap plain o held =
    let coming = newcomers here heap in
    let begins = begins_to_wait here heap in
    let left : Objects = remaining here 0 heap in
    let place : at (flushed_heap here heap) o ≡ joined_place coming begins o (at left o) = joined_now coming begins left o in
    subst (λ (x : Option ObjectState). IsPlain p (found x)) (sym place) (joined_plain p coming begins o (at left o) (subst is_there place held) (λ there. flush_plain p here 0 heap plain o there))

-- THE FIRST STATE
pub start_plain : (p : Linked) → ArePlain p (start p).heap
start_plain p zero held = absurd held
start_plain p (suc zero) held = λ none. refl
start_plain p (suc (suc o)) held = absurd held
