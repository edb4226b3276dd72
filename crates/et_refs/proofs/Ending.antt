-- What the events answer in which a slot is written or an array is made.
use Rattle.std.proofs.Common.{◌≡◌, ℕ, ◌+◌, List, [], ◌∷◌, ◌++◌, drop, take, Some, refl, sym, ◌∙◌, ap, subst, append-nil}
use Rattle.et_base.specs.declared.value.Value.{Value}
use Rattle.et_base.specs.declared.value.Value.TheVariants.{Unset, Int, Long, LongHigh, Null, Ref}
use Rattle.et_heap.specs.Objects.{object_at, slot_of, with_slot, with_object_at}
use Rattle.et_heap.specs.Refs.{refs_of}
use Rattle.et_state.specs.State.{Kept, MachineState, kept_of}
use Rattle.et_state.specs.Words.{top, with_top, HasFrame, ticked, begun, steps_top}
use Rattle.et_state.specs.Sound.{IsSound}
use Rattle.et_state.specs.Moves.{Led}
use Rattle.et_program.specs.Entries.{Linked}
use Rattle.et_state.specs.declared.records.Record.{Record}
use Rattle.et_state.specs.declared.ends.EventEnd.TheVariants as endings
use Rattle.et_state.specs.Outcome.{Outcome, Goes}
use Rattle.et_event.specs.Answered.{EventAnswers}
use Rattle.et_event.specs.Heap.{leaving_values}
use Rattle.et_event.specs.Moments.{Moment, moment, Doing, begins, next_object, array_made, slot_written, updated, goes, ends_event}
use Rattle.et_event.specs.Sites.{Site}
use Rattle.et_event.specs.Making.{MakesObject}
use Rattle.et_event.proofs.Taking.{replaced}
use Rattle.et_event.proofs.Throwing.{ends_fit}
use Rattle.et_refs.proofs.Leading.{make_led}
use Rattle.et_event.proofs.Values.{updated_state}

-- WRITING

updated_records : (e : Moment) (o i : ℕ) (old v : Value) (s : Kept) (out : List Record) → (updated e o i old v (record { state = s; records = out })).records ≡ out ++ (updated e o i old v (record { state = s; records = [] })).records
updated_records e o i old Unset s out = sym (append-nil out)
updated_records e o i old (Int n) s out = sym (append-nil out)
updated_records e o i old (Long n) s out = sym (append-nil out)
updated_records e o i old LongHigh s out = sym (append-nil out)
updated_records e o i old Null s out = refl
updated_records e o i old (Ref r) s out = refl

pub write_answers : (p : Linked) (at : Site) (t taken o i clock : ℕ) (old v : Value) (m m₁ : MachineState) (out out₁ : List Record) → clock ≡ m.guest.clock + 1 → old ≡ slot_of (object_at m.heap o) i
    → ((q : Linked) (b s : Kept) → s.guest.clock ≡ clock → out₁ ≡ (updated (record { program = q; before = b; thread = t }) o i old v (record { state = s; records = out })).records)
    → Led (kept_of m) (record { heap = with_object_at m.heap o (with_slot i v (object_at m.heap o)); guest = with_top (ticked m.guest) t (replaced taken [] at.next (top m.guest t)) }) m₁
    → EventAnswers (goes (slot_written (moment p m t) o i v (leaving_values (moment p m t) at (drop taken (top m.guest t).operands) (begins (moment p m t))))) endings.Done m m₁ out out₁
write_answers p at t taken o i clock old v m m₁ out out₁ time stood told led =
    let e : Moment = moment p m t in
    let x : Kept = record { heap = with_object_at m.heap o (with_slot i v (object_at m.heap o)); guest = with_top (ticked m.guest) t (replaced taken [] at.next (top m.guest t)) } in
    let was : Value = slot_of (object_at m.heap o) i in (
      subst (λ (k : Kept). Led (kept_of m) k m₁) (sym (updated_state e o i was v (record { state = x; records = [] }))) led,
      told p (kept_of m) x (sym time) ∙ (ap (λ (w : Value). (updated e o i w v (record { state = x; records = out })).records) stood ∙ updated_records e o i was v x out),
    )

-- MAKING

pub make_answers : (p : Linked) (at : Site) (t class elements o : ℕ) (m m₁ m₂ m₃ : MachineState) (out out₁ : List Record) → IsSound (kept_of m) → HasFrame m.guest t
    → MakesObject (array_made (moment p m t) class elements (begins (moment p m t))) (Some o) m m₁ out out₁ → m₂ ≡ begun m₁
    → m₃ ≡ steps_top m₂ t (replaced 1 (Ref o ∷ []) at.next (top m₂.guest t)) (refs_of (take 1 (top m₂.guest t).operands))
    → EventAnswers (ends_event (leaving_values (moment p m t) at (Ref (next_object (begins (moment p m t))) ∷ drop 1 (top m.guest t).operands) (array_made (moment p m t) class elements (begins (moment p m t))))) endings.Done m m₃ out out₁
make_answers p at t class elements o m m₁ m₂ m₃ out out₁ sound has made e₂ e₃ =
    let e : Moment = moment p m t in
    let d : Doing = leaving_values e at (Ref (next_object (begins e)) ∷ drop 1 (top m.guest t).operands) (array_made e class elements (begins e)) in
    let is : ends_event d ≡ Goes d.state d.records = ends_fit d made.0 in
    let newest = e₃ ∙ ap (λ (k : ℕ). steps_top m₂ t (replaced 1 (Ref k ∷ []) at.next (top m₂.guest t)) (refs_of (take 1 (top m₂.guest t).operands))) made.1 in
    subst (λ (x : Outcome Kept). EventAnswers x endings.Done m m₃ out out₁) (sym is) (make_led m t class elements at.next m₁ m₂ m₃ sound has made.2 e₂ newest, made.3)
