-- The row of System.out: it is read as a static of the table, or made.
use Rattle.std.proofs.Common.{◌≡◌, ℕ, ◌+◌, ◌<◌, ◌≤◌, ◌∷◌, ◌⊎◌, true, List, length, set, refl, sym, ◌∙◌, ap, subst, inl, inr, arith}
use Rattle.std.specs.Prelude.{codes, slice_index_or}
use Rattle.std.proofs.lemmas.Bool.{leb-true}
use Rattle.et_base.specs.declared.value.Value.{Value}
use Rattle.et_base.specs.declared.value.Value.TheVariants.{Unset, Int, Long, LongHigh, Null, Ref}
use Rattle.et_heap.specs.Objects.{IsHeld, new_object}
use Rattle.et_class.specs.Descriptors.{width_of}
use Rattle.et_program.specs.Entries.{Linked, class_at, field_at}
use Rattle.et_state.specs.Outcome.{Outcome}
use Rattle.et_state.specs.Outcome as outcome
use Rattle.et_state.specs.State.{Kept}
use Rattle.et_state.specs.Words.{class_state_at, static_at, with_static}
use Rattle.et_state.specs.declared.class_state.ClassState.{ClassState}
use Rattle.et_state.specs.declared.class_state.ClassState.TheVariants.{Untouched, Done}
use Rattle.et_state.specs.declared.records.Record.{Record}
use Rattle.et_event.specs.Errors.{class_called}
use Rattle.et_event.specs.Heap.{is_out, leaving_values}
use Rattle.et_event.specs.Moments.{Doing, Moment, begins, current_frame, doing_with_guest, fits_heap, goes, instance_made, next_object, static_written}
use Rattle.et_event.specs.Operands.{operand_kind}
use Rattle.et_event.specs.Out.{OutRead, out_read, out_row}
use Rattle.et_event.specs.Runnable.{IsRunnable}
use Rattle.et_event.specs.Sites.{Site}
use Rattle.et_event.specs.Sound.{is_of_kind}
use Rattle.et_history.specs.soundness.Outcomes.{KeepsSound}
use Rattle.et_history.specs.soundness.WellFormed.{IsUnderWayAt, IsWellFormed, StandsAt}
use Rattle.et_history.proofs.soundness.Fields.{going, leaving_well}
use Rattle.et_history.proofs.soundness.Outcomes.{ends_sound, instance_well, if_case}
use Rattle.et_history.proofs.soundness.Slots.{static_well}
use Rattle.et_state.proofs.Steps.{newest_held}
use Rattle.et_history.proofs.steps.Heaps.{statics_fine}
use Rattle.et_history.proofs.steps.Held.{Ready, frame_fine}
use Rattle.et_history.proofs.steps.Rows.{leaving_comes, operands_fine}
use Rattle.et_history.proofs.steps.Values.{fine_at, frame_grows}
use Rattle.et_history.proofs.steps.Words.{Still, begun, instance_still, level, top_still, written_static_still}
use Rattle.et_history.specs.steps.Steps.{Begins, Ended, IsFramed, Level, Plainly, WithInstance}
use Rattle.et_history.specs.steps.Values.{Fine, FineFrame}
use Rattle.et_history.specs.steps.Writes.{is_out_slot}
use Rattle.et_history.proofs.texts.Read.{IsOutRead}
use Rattle.et_history.proofs.texts.Rows.{EndsBeside, LeadsBeside, ends_event_beside}

-- the static slot that is read
abbrev pub out_slot : Linked → OutRead → ℕ
out_slot p y = (field_at p y.field).slot

-- IT IS MADE: with the statics as they were, that is made of steps
abbrev pub with_statics : List Value → Kept → Kept
with_statics statics s = record { heap = s.heap; guest = record s.guest { statics = statics } }

pub record MakesOut (e : Moment) (slot : ℕ) (next : Kept) (records : List Record) : Type 0 where
  pub ended : Ended e (record { state = with_statics e.before.guest.statics next; records = records })
  pub statics : next.guest.statics ≡ set e.before.guest.statics slot (Ref (length e.before.heap))
  pub texts : next.guest.texts ≡ e.before.guest.texts
  pub still : Still e (level e) next
  pub place : is_out_slot e.program slot ≡ true

abbrev pub LeadsOut : Moment → ℕ → Outcome Kept → Type 0
LeadsOut e slot (outcome.Goes next records) = EndsBeside e next records ⊎ MakesOut e slot next records
LeadsOut e slot (outcome.Waits next) = ⊥
LeadsOut e slot (outcome.IllTyped method pc) = Unit {0}
LeadsOut e slot outcome.ObjectLimit = Unit {0}

pub as_beside : (e : Moment) (slot : ℕ) (o : Outcome Kept) → LeadsBeside e o → LeadsOut e slot o
as_beside e slot (outcome.Goes next records) h = inl h
as_beside e slot (outcome.Waits next) h = h
as_beside e slot (outcome.IllTyped method pc) h = tt
as_beside e slot outcome.ObjectLimit h = tt

module _ (e : Moment) (ready : Ready e) (framed : IsFramed e) (at : Site) (slot : ℕ) (is_out_place : is_out_slot e.program slot ≡ true) where
  abbrev class : ℕ
  class = class_called e.program (codes "java/io/PrintStream")

  abbrev new : ℕ
  new = length e.before.heap

  abbrev operands : List Value
  operands = Ref new ∷ (current_frame e).operands

  abbrev made : Doing
  made = instance_made e class (begins e)

  abbrev with_out : Doing
  with_out = doing_with_guest (with_static made.state.guest slot (Ref new)) made

  new_there : IsHeld made.state.heap new
  new_there = newest_held e.before.heap (new_object class 0 (class_at e.program class).info.slots)

  out_still : Still e (level e) (leaving_values e at operands with_out).state
  out_still =
      let first : Still e (level e) (begins e).state = begun e ready.knows.sound.held ready.knows.thread.thread in
      let with_new : Still e (level e) made.state = instance_still e class (begins e) first in
      let read : Still e (level e) (static_written e slot (Ref new) made).state = written_static_still e slot (Ref new) made with_new new_there in
      let frame : FineFrame made.state.heap (current_frame e) = frame_grows e.before.heap made.state.heap (current_frame e) with_new.changes.stays (frame_fine e ready) in
      top_still e (record (current_frame e) { pc = at.next; operands = operands }) (static_written e slot (Ref new) made).state framed read (record { locals = frame.locals; operands = (new_there, frame.operands); lock = frame.lock })

  out_made_so : LeadsOut e slot (goes (leaving_values e at operands with_out))
  out_made_so = inr (record {
    ended = WithInstance at class (current_frame e).operands (begins e) Begins framed ready.may.texts.stream_within ready.may.texts.stream (operands_fine e ready framed);
    statics = refl;
    texts = refl;
    still = out_still;
    place = is_out_place;
  })

  made_leads : LeadsOut e slot (out_read e at slot Unset (begins e))
  made_leads = if_case (LeadsOut e slot) (fits_heap made.state.heap) (goes (leaving_values e at operands with_out)) outcome.ObjectLimit out_made_so tt

  read_leads : (v : Value) → Fine e.before.heap v → LeadsOut e slot (out_read e at slot v (begins e))
  read_leads Unset f = made_leads
  read_leads (Int n) f = made_leads
  read_leads (Long n) f = made_leads
  read_leads LongHigh f = made_leads
  read_leads Null f = made_leads
  read_leads (Ref o) f =
      let ops : List Value = Ref o ∷ (current_frame e).operands in
      as_beside e slot (out_read e at slot (Ref o) (begins e))
      (ends_event_beside e ready framed (leaving_values e at ops (begins e)) (Plainly Level (leaving_values e at ops (begins e)) (leaving_comes e ready framed at ops (begins e) Begins (λ u. (f, operands_fine e ready framed)))) refl)

-- the slot is that of System.out
pub slot_is_out : (e : Moment) (y : OutRead) → IsOutRead e y → IsRunnable e.program → (out_slot e.program y < length e.program.statics) × (slice_index_or e.program.statics (out_slot e.program y) 0 ≡ y.field)
slot_is_out e y r may = may.slots.statics y.field r.field.within r.static

pub is_slot_of_out : (e : Moment) (y : OutRead) → IsOutRead e y → IsRunnable e.program → is_out_slot e.program (out_slot e.program y) ≡ true
is_slot_of_out e y r may = subst (λ (f : ℕ). is_out e.program f ≡ true) (sym (slot_is_out e y r may).1) r.out

pub out_leads : (e : Moment) → Ready e → IsFramed e → (y : OutRead) → IsOutRead e y → LeadsOut e (out_slot e.program y) (out_row e y)
out_leads e ready framed y r =
    let slot : ℕ = out_slot e.program y in
    read_leads e ready framed y.at slot (is_slot_of_out e y r ready.may) (static_at e.before.guest slot) (fine_at e.before.heap e.before.guest.statics slot (statics_fine e.before ready.knows.sound.held))

-- A SOUND STATE is left

module _ (e : Moment) (y : OutRead) (r : IsOutRead e y) (here : StandsAt e y.at) (may : IsRunnable e.program) where
  abbrev p : Linked
  p = e.program

  abbrev place : ℕ
  place = out_slot p y

  under_way : IsUnderWayAt e (begins e)
  under_way = going e y.at here

  -- there is room for a reference
  room : (o : ℕ) → length (Ref o ∷ (current_frame e).operands) ≤ (current_frame e).room
  room o =
      let named : r.member.descriptor ≡ codes "Ljava/io/PrintStream;" = sym r.field.descriptor ∙ may.texts.out y.field r.field.within r.out in
      let wide : width_of r.member.descriptor ≡ 1 = ap width_of named in
      let fits = leb-true (width_of r.member.descriptor + length (current_frame e).operands) (current_frame e).room r.fits in
      omega (arith, wide, fits)

  kind : (o : ℕ) → is_of_kind (operand_kind (field_at p (slice_index_or p.statics place 0)).descriptor) (Ref o) ≡ true
  kind o =
      subst (λ (f : ℕ). is_of_kind (operand_kind (field_at p f).descriptor) (Ref o) ≡ true) (sym (slot_is_out e y r may).1)
      (subst (λ (d : List ℕ). is_of_kind (operand_kind d) (Ref o) ≡ true) (sym (may.texts.out y.field r.field.within r.out)) refl)

  different : (c : ClassState) → c ≡ Done → c ≡ Untouched → ⊥
  different c done untouched = let same : Done ≡ Untouched = sym done ∙ untouched in cc

  touched : class_state_at e.before.guest (field_at p (slice_index_or p.statics place 0)).class ≡ Untouched → ⊥
  touched = subst (λ (f : ℕ). class_state_at e.before.guest (field_at p f).class ≡ Untouched → ⊥) (sym (slot_is_out e y r may).1) (different (class_state_at e.before.guest (field_at p y.field).class) r.done)

  made_sound : KeepsSound p (out_read e y.at place Unset (begins e))
  made_sound =
      let class : ℕ = class_called p (codes "java/io/PrintStream") in
      let n : ℕ = next_object (begins e) in
      let x : Doing = instance_made e class (begins e) in
      let well : IsWellFormed p x.state = instance_well e class (begins e) (may.slots.instances class may.texts.stream_within may.texts.stream) under_way.well in
      let read : IsWellFormed p (static_written e place (Ref n) x).state = static_well p e place (Ref n) x well (slot_is_out e y r may).0 (kind n) touched in
      let z : Doing = doing_with_guest (with_static x.state.guest place (Ref n)) x in
      ends_sound p (leaving_values e y.at (Ref n ∷ (current_frame e).operands) z) (leaving_well e y.at (Ref n ∷ (current_frame e).operands) z here (room n) read refl)

  read_sound : (v : Value) → KeepsSound p (out_read e y.at place v (begins e))
  read_sound Unset = made_sound
  read_sound (Int n) = made_sound
  read_sound (Long n) = made_sound
  read_sound LongHigh = made_sound
  read_sound Null = made_sound
  read_sound (Ref o) =
      let ops : List Value = Ref o ∷ (current_frame e).operands in
      ends_sound p (leaving_values e y.at ops (begins e)) (leaving_well e y.at ops (begins e) here (room o) under_way.well refl)

  pub out_keeps_sound : KeepsSound p (out_row e y)
  out_keeps_sound = read_sound (static_at e.before.guest place)
