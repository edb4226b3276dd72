-- What a call answers that does the rest of an event.
use Rattle.std.proofs.Common.{◌≡◌, ℕ, ◌+◌, ◌-◌, ◌≤◌, List, [], length, drop, Result, Ok, Err, sym, ◌∙◌, ap, subst}
use Rattle.std.specs.Prelude.{ℤ, IfOk}
use Rattle.et_base.specs.declared.value.Value.{Value}
use Rattle.et_state.specs.State.{Kept, MachineState, kept_of}
use Rattle.et_state.specs.declared.records.Record.{Record}
use Rattle.et_state.specs.declared.ends.EventEnd.{EventEnd}
use Rattle.et_state.specs.declared.ends.EventEnd.TheVariants as ends
use Rattle.et_state.specs.Outcome.{Outcome, state_after}
use Rattle.et_event.specs.Answered.{EventAnswers}
use Rattle.et_event.specs.Heap.{with_lengths}
use Rattle.et_event.specs.Moments.{Moment, current_frame, ill_typed}
use Rattle.et_event.specs.Sites.{Site, natural_of}
use Rattle.et_refs.specs.Refusals.{outcome_of, refusal_outcome}
use Rattle.et_refs.specs.declared.refusals.Refusal.{Refusal}
use Rattle.et_refs.specs.Events.{new_arrays_outcome, with_checked_class}

pub answers_as : {E : Type 0} (x y : Outcome Kept) (r : Result EventEnd E) (m m' : MachineState) (out out' : List Record) → x ≡ y → IfOk r (λ end. EventAnswers y end m m' out out') → IfOk r (λ end. EventAnswers x end m m' out out')
answers_as x y r m m' out out' same h = subst (λ (z : Outcome Kept). IfOk r (λ end. EventAnswers z end m m' out out')) (sym same) h

-- .. that it is done
pub answers_done : (x y : Outcome Kept) (end : EventEnd) (m m' : MachineState) (out : List Record) → end ≡ ends.Done → x ≡ y → EventAnswers y ends.Done m m' out out → EventAnswers x end m m' out out
answers_done x y end m m' out done same h = subst (λ (q : EventEnd). EventAnswers x q m m' out out) (sym done) (subst (λ (z : Outcome Kept). EventAnswers z ends.Done m m' out out) (sym same) h)

-- .. and it visits as many objects, and one for each that is made
pub visits_as : (x y : Outcome Kept) (m : MachineState) (old new : ℕ) → x ≡ y → new ≤ old + (length (state_after (kept_of m) y).heap - length m.heap) → new ≤ old + (length (state_after (kept_of m) x).heap - length m.heap)
visits_as x y m old new same h = subst (λ (z : Outcome Kept). new ≤ old + (length (state_after (kept_of m) z).heap - length m.heap)) (sym same) h

-- THE LENGTHS

-- as many as were taken
pub as_many : {A : Type 0} (r : Result A Refusal) (items : A → List ℤ) (k : ℕ) (a : A) (l : List ℤ) → r ≡ Ok a → l ≡ items a → IfOk r (λ x. length (items x) ≡ k) → length l ≡ k
as_many {A} r items k a l is list h = ap (λ (ns : List ℤ). length ns) list ∙ subst (λ (y : Result A Refusal). IfOk y (λ x. length (items x) ≡ k)) is h

-- what goes on behind those that are taken

-- the event of multianewarray that names a class so
abbrev pub multi_array_of : Moment → Site → List ℕ → Outcome Kept
multi_array_of e at name = with_lengths (natural_of at.instr.second) [] (ill_typed e) (current_frame e).operands (λ lengths below. with_checked_class e name lengths (new_arrays_outcome e at.next lengths below))

module _ {A : Type 0} (e : Moment) (at : Site) (name : List ℕ) (k : ℕ) (r : Result A Refusal) (items : A → List ℤ) where
  abbrev Takes : Type 0
  Takes = (go : List ℤ → List Value → Outcome Kept) → with_lengths k [] (ill_typed e) (current_frame e).operands go ≡ outcome_of e r (λ x. go (items x) (drop k (current_frame e).operands))

  pub taken_as : k ≡ natural_of at.instr.second → Takes → multi_array_of e at name ≡ outcome_of e r (λ x. with_checked_class e name (items x) (new_arrays_outcome e at.next (items x) (drop k (current_frame e).operands)))
  taken_as same takes = ap (λ (n : ℕ). with_lengths n [] (ill_typed e) (current_frame e).operands (λ l below. with_checked_class e name l (new_arrays_outcome e at.next l below))) (sym same) ∙ takes (λ l below. with_checked_class e name l (new_arrays_outcome e at.next l below))

  pub taken_ok : (a : A) (l : List ℤ) → k ≡ natural_of at.instr.second → Takes → r ≡ Ok a → length l ≡ k → l ≡ items a → multi_array_of e at name ≡ with_checked_class e name l (new_arrays_outcome e at.next l (drop (length l) (current_frame e).operands))
  taken_ok a l same takes is count list =
      taken_as same takes ∙ (ap (λ (x : Result A Refusal). outcome_of e x (λ y. with_checked_class e name (items y) (new_arrays_outcome e at.next (items y) (drop k (current_frame e).operands)))) is
      ∙ (ap (λ (n : ℕ). with_checked_class e name (items a) (new_arrays_outcome e at.next (items a) (drop n (current_frame e).operands))) (sym count)
      ∙ ap (λ (ns : List ℤ). with_checked_class e name ns (new_arrays_outcome e at.next ns (drop (length l) (current_frame e).operands))) (sym list)))

  pub taken_err : (x : Refusal) → k ≡ natural_of at.instr.second → Takes → r ≡ Err x → multi_array_of e at name ≡ refusal_outcome e x
  taken_err x same takes is = taken_as same takes ∙ ap (λ (y : Result A Refusal). outcome_of e y (λ z. with_checked_class e name (items z) (new_arrays_outcome e at.next (items z) (drop k (current_frame e).operands)))) is
