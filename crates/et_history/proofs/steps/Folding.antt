-- An event that is done is made of steps.
use Rattle.et_base.specs.declared.value.Value.{Value}
use Rattle.et_base.specs.declared.value.Value.TheVariants.{Ref, Unset}
use Rattle.et_class.specs.Names.{has}
use Rattle.et_event.specs.Errors.{error_class}
use Rattle.et_event.specs.Heap.{arrays_made, element_class, filled}
use Rattle.et_event.specs.Moments.{Doing, Moment, array_made, begins, entry_given_up, instance_made, next_object, slot_written, with_thread_state}
use Rattle.et_event.specs.Programs.{HasDimensions}
use Rattle.et_heap.specs.Objects.{IsHeld, ObjectState, at, found, new_object, object_at, slot_of, with_object_at, with_slot}
use Rattle.et_program.specs.Entries.{class_at}
use Rattle.et_program.specs.declared.info.Element.{Element}
use Rattle.et_state.specs.Threads.{as_entered, has_frame}
use Rattle.et_state.specs.Words.{thread_at}
use Rattle.et_state.proofs.Steps.{newest_held}
use Rattle.et_history.proofs.steps.Held.{Ready, error_plain}
use Rattle.et_history.proofs.steps.Recording.{slot_steady}
use Rattle.et_history.proofs.steps.Records.{newest_at, steady_itself, steady_push, steady_then}
use Rattle.et_history.proofs.steps.Rows.{later_fine, on_top}
use Rattle.et_history.specs.steps.Records.{Steady}
use Rattle.et_history.specs.steps.Steps.{AllObjects, Begins, BeginsClass, Catches, ClassBecomes, Comes, CountsEntered, Drops, Ended, Ends, EntersClinit, EntersCode, EntersMonitor, GoesOn, Interns, LeavesMonitor, Level, MakesArray, MakesInstance, Pends, Phase, Plainly, Polls, Returns, SetsQueue, SetsReferent, Starts, StringsAlone, Unwinds, UnwindsClinit, WithArray, WithArrays, WithCause, WithError, WithInstance, WritesSlot, WritesStatic}
use Rattle.et_state.specs.State.{Kept}
use Rattle.et_event.proofs.Values.{updated_state}
use Rattle.et_history.proofs.soundness.Outcomes.{if_case}
use Rattle.std.proofs.Common.{List, Option, Some, [], ap, arith, inl, inr, length, subst, suc, sym, zero, ℕ, ◌<◌, ◌∙◌, ◌∷◌, ◌≡◌, ◌≤◌}
use Rattle.std.proofs.lemmas.List.{length-replicate, length-set, length_push}
use Rattle.et_event.specs.declared.errors.GuestError.TheVariants as errors

-- steps that make no other objects than strings are steps
pub eased : (e : Moment) (ph : Phase) (d : Doing) → Comes e StringsAlone ph d → Comes e AllObjects ph d
eased e ph d Begins = Begins
eased e ph d (GoesOn f x h framed a) = GoesOn f x (eased e Level x h) framed a
eased e ph d (EntersCode m body arguments x h is f has may) = EntersCode m body arguments x (eased e Level x h) is f has may
eased e ph d (EntersClinit m body x h framed is fine) = EntersClinit m body x (eased e Level x h) framed is fine
eased e ph d (BeginsClass c x h) = BeginsClass c x (eased e Level x h)
eased e ph d (Returns values framed is f has owned) = Returns values framed is f has owned
eased e ph d (Unwinds o framed is held has) = Unwinds o framed is held has
eased e ph d (UnwindsClinit o framed is held none) = UnwindsClinit o framed is held none
eased e ph d (Drops x h framed none) = Drops x (eased e Level x h) framed none
eased e ph d (Catches o handler framed held) = Catches o handler framed held
eased e ph d (CountsEntered x h) = CountsEntered x (eased e Level x h)
eased e ph d (Pends q o x h a) = Pends q o x (eased e q x h) a
eased e ph d (Starts o x h a) = Starts o x (eased e Level x h) a
eased e ph d Ends = Ends
eased e ph d (ClassBecomes q c y x h) = ClassBecomes q c y x (eased e q x h)
eased e ph d (WritesStatic i v x h lt a typed other) = WritesStatic i v x (eased e Level x h) lt a typed other
eased e ph d (Interns bytes x h) = Interns bytes x (eased e Level x h)
eased e ph d (MakesInstance q class x makes h lt plain) = absurd makes
eased e ph d (MakesArray class n x makes h array) = absurd makes
eased e ph d (WritesSlot q o i v x h a tells) = WritesSlot q o i v x (eased e q x h) a tells
eased e ph d (EntersMonitor o x h at held) = EntersMonitor o x (eased e Level x h) at held
eased e ph d (LeavesMonitor o x h at held) = LeavesMonitor o x (eased e Level x h) at held
eased e ph d (SetsReferent o r x h a) = SetsReferent o r x (eased e Level x h) a
eased e ph d (SetsQueue o q x h a) = SetsQueue o q x (eased e Level x h) a
eased e ph d (Polls q x h a) = Polls q x (eased e Level x h) a

second_own : 1 < 2
second_own = omega arith

module _ (e : Moment) (ready : Ready e) where
  -- ARRAYS of several dimensions: each is made, with those in it, before it is written

  record Makes (d x : Doing) : Type 0 where
    comes : Comes e AllObjects Level x
    steady : Steady d.state.heap x.state.heap
    longer : length d.state.heap ≤ length x.state.heap

  record MakesOne (d x : Doing) : Type 0 where
    makes : Makes d x
    first_held : IsHeld x.state.heap (next_object d)

  -- no object is taken out, so that what is made now is new
  abbrev IsLater : Doing → Type 0
  IsLater d = length e.before.heap ≤ length d.state.heap

  slot_longer : (o i : ℕ) (v : Value) (d : Doing) → length (slot_written e o i v d).state.heap ≡ length d.state.heap
  slot_longer o i v d =
      let x : ObjectState = object_at d.state.heap o in
      let next : Doing = record { state = record { heap = with_object_at d.state.heap o (with_slot i v x); guest = d.state.guest }; records = d.records } in
      ap (λ (s : Kept). length s.heap) (updated_state e o i (slot_of x i) v next) ∙ length-set d.state.heap o (Some (with_slot i v x))

  filled_makes : (o : ℕ) (make : Doing → Doing) (n : ℕ) (d : Doing) → ((x : Doing) → Comes e AllObjects Level x → IsLater x → MakesOne x (make x)) → Comes e AllObjects Level d → IsHeld d.state.heap o → n ≤ length (object_at d.state.heap o).slots
      → IsLater d → length e.before.heap ≤ o → Makes d (filled e o make n d)
  filled_makes o make zero d step h held room late new = record { comes = h; steady = steady_itself d.state.heap; longer = omega arith }
  filled_makes o make (suc i) d step h held room late new =
      let x : Doing = filled e o make i d in
      let so : Makes d x = filled_makes o make i d step h held (omega (arith, room)) late new in
      let up = so.longer in
      let one : MakesOne x (make x) = step x so.comes (omega (arith, late, up)) in
      let more = one.makes.longer in
      let same_length = slot_longer o i (Ref (next_object x)) (make x) in
      let both : Steady d.state.heap (make x).state.heap = steady_then d.state.heap x.state.heap (make x).state.heap so.steady one.makes.steady in
      let there : IsHeld (make x).state.heap o = both.stays o held in
      let same : length (object_at (make x).state.heap o).slots ≡ length (object_at d.state.heap o).slots = (both.alike o held).slots in
      let lt : i < length (object_at (make x).state.heap o).slots = omega (arith, room) in
      record {
        comes = WritesSlot Level o i (Ref (next_object x)) (make x) one.makes.comes (λ u. record { held = there; slot = inr lt; value = one.first_held }) (record { slot = λ cause. lt; plain = inl tt; own = inl tt; at_hand = inr new });
        steady = steady_then d.state.heap (make x).state.heap (slot_written e o i (Ref (next_object x)) (make x)).state.heap both (slot_steady e o i (Ref (next_object x)) (make x) there);
        longer = omega (arith, up, more, same_length);
      }

  arrays_make : (class n : ℕ) (more : List ℕ) (d : Doing) → HasDimensions e.program (length (n ∷ more)) class → Comes e AllObjects Level d → IsLater d → MakesOne d (arrays_made e class (n ∷ more) d)
  arrays_make class n [] d has h late = record {
    makes = record { comes = MakesArray class n d tt h has; steady = steady_push d.state.heap (new_object class n n); longer = (let one = length_push d.state.heap (Some (new_object class n n)) in omega (arith, one)) };
    first_held = newest_held d.state.heap (new_object class n n);
  }
  arrays_make class n (m ∷ more) d has h late =
      let inner : ℕ = element_class (class_at e.program class).info.element in
      let dimensions : HasDimensions e.program (length (m ∷ more)) inner = subst (λ (x : Element). HasDimensions e.program (length (m ∷ more)) (element_class x)) (sym has.1.1) has.1.2 in
      let object : ObjectState = new_object class n n in
      let y : Doing = array_made e class n d in
      let there : IsHeld y.state.heap (next_object d) = newest_held d.state.heap object in
      let count : length (object_at y.state.heap (next_object d)).slots ≡ n =
      ap (λ (x : Option ObjectState). length (found x).slots) (newest_at d.state.heap object) ∙ length-replicate n Unset in
      let one = length_push d.state.heap (Some object) in
      let all : Makes y (filled e (next_object d) (arrays_made e inner (m ∷ more)) n y) =
      filled_makes (next_object d) (arrays_made e inner (m ∷ more)) n y (λ x g after. arrays_make inner m more x dimensions g after) (MakesArray class n d tt h has.0) there (omega arith) (omega (arith, late, one)) late in
      let up = all.longer in
      record {
        makes = record {
          comes = all.comes;
          steady = steady_then d.state.heap y.state.heap (filled e (next_object d) (arrays_made e inner (m ∷ more)) n y).state.heap (steady_push d.state.heap object) all.steady;
          longer = omega (arith, one, up);
        };
        first_held = all.steady.stays (next_object d) there;
      }

  -- an event that is done is made of steps
  pub record MadeOf (d : Doing) : Type 0 where
    pub phase : Phase
    pub comes : Comes e AllObjects phase d

  pub comes_so : (d : Doing) → Ended e d → MadeOf d
  comes_so d (Plainly ph x h) = record { phase = ph; comes = eased e ph x h }
  comes_so d (WithInstance at class ops x h framed lt plain f) =
      let y : Doing = instance_made e class x in
      let made : Comes e AllObjects Level y = MakesInstance Level class x tt (eased e Level x h) lt plain in
      record { phase = Level; comes = on_top e ready framed at.next (Ref (next_object x) ∷ ops) y made (λ u. (newest_held x.state.heap (new_object class 0 (class_at e.program class).info.slots), later_fine e ready framed y.state ops u f)) }
  comes_so d (WithArray at class n ops framed array f) =
      let y : Doing = array_made e class n (begins e) in
      record { phase = Level; comes = on_top e ready framed at.next (Ref (next_object (begins e)) ∷ ops) y (MakesArray class n (begins e) tt Begins array) (λ u. (newest_held e.before.heap (new_object class n n), later_fine e ready framed y.state ops u f)) }
  comes_so d (WithArrays at class n more ops framed has f) =
      let y : Doing = arrays_made e class (n ∷ more) (begins e) in
      let one : MakesOne (begins e) y = arrays_make class n more (begins e) has Begins (omega arith) in
      record { phase = Level; comes = on_top e ready framed at.next (Ref (next_object (begins e)) ∷ ops) y one.makes.comes (λ u. (one.first_held, later_fine e ready framed y.state ops u f)) }
  comes_so d (WithError error x h) =
      let class : ℕ = error_class e.program error in
      let object : ObjectState = new_object class 0 (class_at e.program class).info.slots in
      let entered : Doing = with_thread_state e (as_entered (thread_at x.state.guest e.thread)) x in
      let given : Comes e AllObjects Level (entry_given_up e x) = if_case (λ (z : Doing). Comes e AllObjects Level z) (has_frame (thread_at x.state.guest e.thread).frames) x entered (eased e Level x h) (CountsEntered x (eased e Level x h)) in
      let y : Doing = instance_made e class (entry_given_up e x) in
      let held : IsHeld y.state.heap (next_object x) =
      if_case (λ (z : Doing). IsHeld (instance_made e class z).state.heap (next_object x)) (has_frame (thread_at x.state.guest e.thread).frames) x entered (newest_held x.state.heap object) (newest_held x.state.heap object) in
      record { phase = Level; comes = Pends Level (next_object x) y (MakesInstance Level class (entry_given_up e x) tt given (ready.may.makes.error error).class (error_plain e ready error)) (λ u. held) }
  comes_so d (WithCause ph o x h none held) =
      let class : ℕ = error_class e.program errors.ExceptionInInitializerError in
      let error : ℕ = next_object x in
      let y : Doing = instance_made e class x in
      let z : Doing = slot_written e error 1 (Ref o) y in
      let new : IsHeld y.state.heap error = newest_held x.state.heap (new_object class 0 (class_at e.program class).info.slots) in
      let made : Comes e AllObjects ph y = MakesInstance ph class x tt (eased e ph x h) (ready.may.makes.error errors.ExceptionInInitializerError).class (error_plain e ready errors.ExceptionInInitializerError) in
      let count : length (object_at y.state.heap error).slots ≡ (class_at e.program class).info.slots =
      ap (λ (x : Option ObjectState). length (found x).slots) (newest_at x.state.heap (new_object class 0 (class_at e.program class).info.slots)) ∙ length-replicate (class_at e.program class).info.slots Unset in
      let written : Comes e AllObjects ph z =
      WritesSlot ph error 1 (Ref o) y made (λ u. record { held = new; slot = inl second_own; value = u.stays o held }) (record { slot = λ cause. omega (arith, cause, count); plain = inl tt; own = inl tt; at_hand = inr (let same = ap length none in omega (arith, same)) }) in
      record { phase = ph; comes = Pends ph error z written (λ u. (slot_steady e error 1 (Ref o) y new).stays error new) }
