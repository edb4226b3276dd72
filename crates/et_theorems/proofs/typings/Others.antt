-- What the steps of an event keep: the other threads, and the message and the cause of each Throwable.
use Rattle.std.proofs.Common.{◌-◌, ◌≡◌, ◌⊎◌, ℕ, ◌<◌, ◌≤◌, ◌++◌, true, false, List, [], ◌∷◌, length, Option, Some, None, refl, sym, ◌∙◌, ap, subst, set, inl, inr, arith, get_or, get_or-set_same, get_or-set_other}
use Rattle.std.specs.Prelude.{codes, is_some, slice_index_or}
use Rattle.std.proofs.lemmas.Bool.{cases_eq, cases_lt}
use Rattle.std.proofs.lemmas.List.{get_or_append_left, get_or-append_right, get_or_past, length-append, length-set}
use Rattle.std.proofs.lemmas.Option.{none-some, same_Some}
use Rattle.et_heap.proofs.References.{unset_at}
use Rattle.et_base.specs.declared.value.Value.{Value}
use Rattle.et_base.specs.declared.value.Value.TheVariants.{Int, Long, LongHigh, Null, Ref, Unset}
use Rattle.et_class.specs.PoolOperands.Operand.TheVariants.{Reference}
use Rattle.et_event.specs.BuiltIns.{with_first_taken, with_thread_for}
use Rattle.et_event.specs.Calls.{class_done_by}
use Rattle.et_event.specs.Errors.{class_called}
use Rattle.et_event.specs.Frames.{frames_after_return, receiver_of}
use Rattle.et_event.specs.Initialization.{with_state}
use Rattle.et_event.specs.Moments.{Doing, Moment, begins, current_frame, doing_with_guest, instance_made, next_object, object_added, slot_written, static_written, thread_of, with_thread_state}
use Rattle.et_event.specs.Monitors.{Lock, OfClass, OfObject, entered, entered_some, left, left_some, lock_for, lock_in, owns}
use Rattle.et_event.specs.Sites.{running_method}
use Rattle.et_event.specs.Sound.{is_of_kind}
use Rattle.et_event.specs.Strings.{interned}
use Rattle.et_event.specs.Throw.{left_if_owned}
use Rattle.et_heap.specs.Objects.{ObjectState, Objects, at, found, object_at, slot_of, with_object_at, with_slot}
use Rattle.et_heap.specs.Queues.{take_first, with_waits, without_first_waiting}
use Rattle.et_program.specs.Entries.{Linked, method_at}
use Rattle.et_program.specs.Members.{is_subclass}
use Rattle.et_history.proofs.soundness.Outcomes.{if_case}
use Rattle.et_event.proofs.Values.{updated_state}
use Rattle.et_state.specs.Interned.{object_of}
use Rattle.et_state.specs.State.{Kept}
use Rattle.et_state.specs.Threads.{ThreadState, new_thread, no_thread, rest_of, without_top}
use Rattle.et_state.specs.Words.{static_at, thread_at, with_static, with_string}
use Rattle.et_state.specs.declared.stage.Stage.{Stage}
use Rattle.et_state.specs.declared.stage.Stage.TheVariants.{Before, Clinit, Plain}
use Rattle.et_history.specs.steps.Steps.{AllObjects, Begins, BeginsClass, Catches, ClassBecomes, Comes, CountsEntered, Drops, Ends, EntersClinit, EntersCode, EntersMonitor, GoesOn, Interns, IsReference, LeavesMonitor, MakesArray, MakesInstance, MayTell, Pends, Phase, Polls, Returns, SetsQueue, SetsReferent, Starts, Unwinds, UnwindsClinit, WritesSlot, WritesStatic}
use Rattle.et_theorems.specs.typings.Typed.{HasTypedSlots, IsTypedThread, Typings}

-- OBJECTS

abbrev AllTyped : Linked → Objects → Type 0
AllTyped p heap = (o : ℕ) (x : ObjectState) → at heap o ≡ Some x → HasTypedSlots p x

-- nothing was written to its slots
unset_typed : (p : Linked) (x : ObjectState) → ((i : ℕ) → slot_of x i ≡ Unset) → HasTypedSlots p x
unset_typed p x none below i lt = ap (λ (v : Value). is_of_kind (Some Reference) v) (none i)

found_typed : (p : Linked) (heap : Objects) (o : ℕ) → AllTyped p heap → HasTypedSlots p (object_at heap o)
found_typed p heap o all = by (at heap o) refl
  where
    by : (x : Option ObjectState) → at heap o ≡ x → HasTypedSlots p (found x)
    by None q = unset_typed p (found None) (λ i. refl)
    by (Some x) q = all o x q

set_typed : (p : Linked) (heap : Objects) (o : ℕ) (y : ObjectState) → AllTyped p heap → HasTypedSlots p y → AllTyped p (with_object_at heap o y)
set_typed p heap o y all new q x is = elim (cases_eq q o) [
  | inl same ↦ elim (cases_lt o (length heap)) [
    | inl lt ↦ subst (λ (z : ObjectState). HasTypedSlots p z) (same_Some y x (sym (ap (λ (k : ℕ). at (with_object_at heap o y) k) same ∙ get_or-set_same heap o (Some y) None lt) ∙ is)) new
    | inr past ↦ absurd (none-some x (sym (ap (λ (k : ℕ). at (with_object_at heap o y) k) same ∙ get_or_past (set heap o (Some y)) o None (omega (arith, past, length-set heap o (Some y)))) ∙ is))
  ]
  | inr other ↦ all q x (sym (get_or-set_other heap o q (Some y) None other) ∙ is)
]

pushed_typed : (p : Linked) (heap : Objects) (y : ObjectState) → AllTyped p heap → HasTypedSlots p y → AllTyped p (heap ++ Some y ∷ [])
pushed_typed p heap y all new q x is = elim (cases_lt q (length heap)) [
  | inl lt ↦ all q x (sym (get_or_append_left heap (Some y ∷ []) None q lt) ∙ is)
  | inr past ↦ elim (cases_eq q (length heap)) [
    | inl same ↦ (
        let le : length heap ≤ length heap = omega arith in
        let zero_is : length heap - length heap ≡ 0 = omega arith in
        let there : at (heap ++ Some y ∷ []) (length heap) ≡ Some y = get_or-append_right heap (Some y ∷ []) (length heap) (length heap) None refl le ∙ ap (λ (k : ℕ). at (Some y ∷ []) k) zero_is in
        subst (λ (z : ObjectState). HasTypedSlots p z) (same_Some y x (sym (ap (λ (k : ℕ). at (heap ++ Some y ∷ []) k) same ∙ there) ∙ is)) new)
    | inr more ↦ absurd (none-some x (sym (get_or_past (heap ++ Some y ∷ []) q None (omega (arith, past, more, length-append heap (Some y ∷ [])))) ∙ is))
  ]
]

-- a reference is written, or none to the two slots of a Throwable
reference_kind : (v : Value) → IsReference v → is_of_kind (Some Reference) v ≡ true
reference_kind Unset h = refl
reference_kind (Int n) h = absurd h
reference_kind (Long n) h = absurd h
reference_kind LongHigh h = absurd h
reference_kind Null h = refl
reference_kind (Ref o) h = refl

written_typed : (p : Linked) (x : ObjectState) (i : ℕ) (v : Value) → HasTypedSlots p x → IsReference v ⊎ (is_subclass p x.class (class_called p (codes "java/lang/Throwable")) ≡ true → 2 ≤ i) → HasTypedSlots p (with_slot i v x)
written_typed p x i v h own below j lt = elim (cases_eq j i) [
  | inl same ↦ elim own [
    | inl is ↦ elim (cases_lt i (length x.slots)) [
      | inl inside ↦ ap (λ (w : Value). is_of_kind (Some Reference) w) (ap (λ (k : ℕ). get_or (set x.slots i v) k Unset) same ∙ get_or-set_same x.slots i v Unset inside) ∙ reference_kind v is
      | inr past ↦ ap (λ (w : Value). is_of_kind (Some Reference) w) (ap (λ (k : ℕ). get_or (set x.slots i v) k Unset) same ∙ get_or_past (set x.slots i v) i Unset (omega (arith, past, length-set x.slots i v)))
    ]
    | inr free ↦ (let two : 2 ≤ i = free below in absurd (omega (arith, two, same, lt)))
  ]
  | inr other ↦ ap (λ (w : Value). is_of_kind (Some Reference) w) (get_or-set_other x.slots i j v Unset other) ∙ h below j lt
]

taken_typed : (p : Linked) (ws : List ℕ) (q : ℕ) (heap : Objects) → AllTyped p heap → AllTyped p (take_first ws q heap)
taken_typed p [] q heap all = all
taken_typed p (r ∷ ws) q heap all =
    let first : Objects = with_object_at heap q (without_first_waiting (object_at heap q)) in
    let one : AllTyped p first = set_typed p heap q (without_first_waiting (object_at heap q)) all (found_typed p heap q all) in
    set_typed p first r (with_waits false (object_at first r)) one (found_typed p first r one)

-- THE STATE SO FAR

module _ (e : Moment) (typings : Typings) where
  pub record KeepsOthers (d : Doing) : Type 0 where
    pub others : (t : ℕ) → t < length d.state.guest.threads → (t ≡ e.thread → ⊥) → IsTypedThread e.program typings (thread_at d.state.guest t)
    pub objects : AllTyped e.program d.state.heap

  threads_still : (d x : Doing) → x.state.guest.threads ≡ d.state.guest.threads → KeepsOthers d → (t : ℕ) → t < length x.state.guest.threads → (t ≡ e.thread → ⊥) → IsTypedThread e.program typings (thread_at x.state.guest t)
  threads_still d x same h t lt ne =
      subst (λ (ts : List ThreadState). IsTypedThread e.program typings (slice_index_or ts t no_thread)) (sym same) (h.others t (subst (λ (ts : List ThreadState). t < length ts) same lt) ne)

  -- the heap and the threads are the same
  same_parts : (d x : Doing) → x.state.guest.threads ≡ d.state.guest.threads → x.state.heap ≡ d.state.heap → KeepsOthers d → KeepsOthers x
  same_parts d x threads heap h = record { others = threads_still d x threads h; objects = subst (λ (os : Objects). AllTyped e.program os) (sym heap) h.objects }

  heap_parts : (d x : Doing) → x.state.guest.threads ≡ d.state.guest.threads → AllTyped e.program x.state.heap → KeepsOthers d → KeepsOthers x
  heap_parts d x threads all h = record { others = threads_still d x threads h; objects = all }

  -- its own thread became another one
  own_thread : (x : ThreadState) (d : Doing) → KeepsOthers d → KeepsOthers (with_thread_state e x d)
  own_thread x d h = record {
    others = λ t lt ne.
        subst (λ (y : ThreadState). IsTypedThread e.program typings y) (sym (get_or-set_other d.state.guest.threads e.thread t x no_thread ne)) (h.others t (omega (arith, lt, length-set d.state.guest.threads e.thread x)) ne);
    objects = h.objects;
  }

  started : (o : ℕ) (d : Doing) → KeepsOthers d → KeepsOthers (with_thread_for o d)
  started o d h = record {
    others = λ t lt ne. elim (cases_lt t (length d.state.guest.threads)) [
      | inl was ↦ subst (λ (y : ThreadState). IsTypedThread e.program typings y) (sym (get_or_append_left d.state.guest.threads (new_thread None (Some o) ∷ []) no_thread t was)) (h.others t was ne)
      | inr past ↦ (
          let le : length d.state.guest.threads ≤ length d.state.guest.threads = omega arith in
          let zero_is : length d.state.guest.threads - length d.state.guest.threads ≡ 0 = omega arith in
          let last : t ≡ length d.state.guest.threads = omega (arith, lt, past, length-append d.state.guest.threads (new_thread None (Some o) ∷ [])) in
          let new : thread_at (with_thread_for o d).state.guest t ≡ new_thread None (Some o) =
          ap (λ (k : ℕ). slice_index_or (d.state.guest.threads ++ new_thread None (Some o) ∷ []) k no_thread) last
          ∙ (get_or-append_right d.state.guest.threads (new_thread None (Some o) ∷ []) (length d.state.guest.threads) (length d.state.guest.threads) no_thread refl le ∙ ap (λ (k : ℕ). slice_index_or (new_thread None (Some o) ∷ []) k no_thread) zero_is) in
          subst (λ (y : ThreadState). IsTypedThread e.program typings y) (sym new) tt)
    ];
    objects = h.objects;
  }

  made : (x : ObjectState) (size : ℕ) (d : Doing) → ((i : ℕ) → slot_of x i ≡ Unset) → KeepsOthers d → KeepsOthers (object_added e x size d)
  made x size d none h = heap_parts d (object_added e x size d) refl (pushed_typed e.program d.state.heap x h.objects (unset_typed e.program x none)) h

  changed : (o : ℕ) (y : ObjectState) (d : Doing) → HasTypedSlots e.program y → KeepsOthers d → KeepsOthers (record { state = record { heap = with_object_at d.state.heap o y; guest = d.state.guest }; records = d.records })
  changed o y d typed h = heap_parts d _ refl (set_typed e.program d.state.heap o y h.objects typed) h

  wrote_slot : (o i : ℕ) (v : Value) (d : Doing) → MayTell e d.state.heap o i v → KeepsOthers d → KeepsOthers (slot_written e o i v d)
  wrote_slot o i v d may h =
      let x : ObjectState = object_at d.state.heap o in
      let next : Doing = record { state = record { heap = with_object_at d.state.heap o (with_slot i v x); guest = d.state.guest }; records = d.records } in
      let same : (slot_written e o i v d).state ≡ next.state = updated_state e o i (slot_of x i) v next in
      same_parts next (slot_written e o i v d) (ap (λ (s : Kept). s.guest.threads) same) (ap (λ (s : Kept). s.heap) same) (changed o (with_slot i v x) d (written_typed e.program x i v (found_typed e.program d.state.heap o h.objects) may.own) h)

  wrote_static : (i : ℕ) (v : Value) (d : Doing) → KeepsOthers d → KeepsOthers (static_written e i v d)
  wrote_static i v d h =
      let next : Doing = doing_with_guest (with_static d.state.guest i v) d in
      let same : (static_written e i v d).state ≡ next.state = updated_state e 0 i (static_at d.state.guest i) v next in
      same_parts d (static_written e i v d) (ap (λ (s : Kept). s.guest.threads) same) (ap (λ (s : Kept). s.heap) same) h

  interned_keeps : (bytes : List ℕ) (d : Doing) → KeepsOthers d → KeepsOthers (interned e bytes d)
  interned_keeps bytes d h =
      let x : Doing = instance_made e (class_called e.program (codes "java/lang/String")) d in
      if_case KeepsOthers (is_some (object_of d.state.guest.interned bytes)) d (doing_with_guest (with_string x.state.guest bytes (next_object d)) x) h
      (same_parts x (doing_with_guest (with_string x.state.guest bytes (next_object d)) x) refl refl (made _ _ d (λ i. unset_at _ i) h))

  lock_entered : (lock : Lock) (d : Doing) → KeepsOthers d → KeepsOthers (entered e lock d)
  lock_entered (OfObject o) d h = changed o _ d (found_typed e.program d.state.heap o h.objects) h
  lock_entered (OfClass c) d h = same_parts d (entered e (OfClass c) d) refl refl h

  lock_left : (lock : Lock) (d : Doing) → KeepsOthers d → KeepsOthers (left lock d)
  lock_left (OfObject o) d h = changed o _ d (found_typed e.program d.state.heap o h.objects) h
  lock_left (OfClass c) d h = same_parts d (left (OfClass c) d) refl refl h

  some_entered : (lock : Option Lock) (d : Doing) → KeepsOthers d → KeepsOthers (entered_some e lock d)
  some_entered None d h = h
  some_entered (Some lock) d h = lock_entered lock d h

  some_left : (lock : Option Lock) (d : Doing) → KeepsOthers d → KeepsOthers (left_some lock d)
  some_left None d h = h
  some_left (Some lock) d h = lock_left lock d h

  owned_left : (lock : Option Lock) (d : Doing) → KeepsOthers d → KeepsOthers (left_if_owned e lock d)
  owned_left None d h = h
  owned_left (Some lock) d h = if_case KeepsOthers (owns e d lock) (left lock d) d (lock_left lock d h) h

  class_done : (stage : Stage) (d : Doing) → KeepsOthers d → KeepsOthers (class_done_by stage d)
  class_done Plain d h = h
  class_done (Before c) d h = h
  class_done (Clinit c) d h = same_parts d (class_done_by (Clinit c) d) refl refl h

  -- THE STEPS
  module _ (first : KeepsOthers (begins e)) where
    pub steps_keep : (ph : Phase) (d : Doing) → Comes e AllObjects ph d → KeepsOthers d
    steps_keep ph d Begins = first
    steps_keep ph d (GoesOn f x h framed a) = own_thread _ x (steps_keep _ x h)
    steps_keep ph d (EntersCode m body arguments x h is f has may) =
        let lock : Option Lock = lock_for (method_at e.program m) (receiver_of e.program m arguments) in
        same_parts _ d refl refl (own_thread _ (entered_some e lock x) (some_entered lock x (steps_keep _ x h)))
    steps_keep ph d (EntersClinit m body x h framed is fine) = same_parts _ d refl refl (own_thread _ x (steps_keep _ x h))
    steps_keep ph d (BeginsClass c x h) = own_thread _ x (steps_keep _ x h)
    steps_keep ph d (Returns values framed is f has owned) =
        let lock : Option Lock = lock_in (current_frame e).stage (running_method e.program (current_frame e)) (current_frame e).lock in
        let y : Doing = class_done_by (current_frame e).stage (left_some lock (begins e)) in
        same_parts _ d refl refl (own_thread (record (thread_of e) { frames = frames_after_return e.program (current_frame e).stage values (rest_of (thread_of e).frames) }) y (class_done (current_frame e).stage (left_some lock (begins e)) (some_left lock (begins e) first)))
    steps_keep ph d (Unwinds o framed is held has) =
        let lock : Option Lock = lock_in (current_frame e).stage (running_method e.program (current_frame e)) (current_frame e).lock in
        same_parts _ d refl refl (own_thread (without_top (thread_at (left_if_owned e lock (begins e)).state.guest e.thread)) (left_if_owned e lock (begins e)) (owned_left lock (begins e) first))
    steps_keep ph d (UnwindsClinit o framed is held none) = same_parts _ d refl refl (own_thread (without_top (thread_at (begins e).state.guest e.thread)) (begins e) first)
    steps_keep ph d (Drops x h framed none) = own_thread _ x (steps_keep _ x h)
    steps_keep ph d (Catches o handler framed held) = own_thread _ (begins e) first
    steps_keep ph d (CountsEntered x h) = own_thread _ x (steps_keep _ x h)
    steps_keep ph d (Pends q o x h a) = own_thread _ x (steps_keep q x h)
    steps_keep ph d (Starts o x h a) = started o x (steps_keep _ x h)
    steps_keep ph d Ends = own_thread _ (begins e) first
    steps_keep ph d (ClassBecomes q c y x h) = same_parts x (with_state c y x) refl refl (steps_keep q x h)
    steps_keep ph d (WritesStatic i v x h lt a typed other) = wrote_static i v x (steps_keep _ x h)
    steps_keep ph d (Interns bytes x h) = interned_keeps bytes x (steps_keep _ x h)
    steps_keep ph d (MakesInstance q class x makes h lt plain) = made _ _ x (λ i. unset_at _ i) (steps_keep q x h)
    steps_keep ph d (MakesArray class n x makes h array) = made _ _ x (λ i. unset_at _ i) (steps_keep _ x h)
    steps_keep ph d (WritesSlot q o i v x h a tells) = wrote_slot o i v x tells (steps_keep q x h)
    steps_keep ph d (EntersMonitor o x h at held) = lock_entered (OfObject o) x (steps_keep _ x h)
    steps_keep ph d (LeavesMonitor o x h at held) = lock_left (OfObject o) x (steps_keep _ x h)
    steps_keep ph d (SetsReferent o r x h a) = let g : KeepsOthers x = steps_keep _ x h in changed o _ x (found_typed e.program x.state.heap o g.objects) g
    steps_keep ph d (SetsQueue o q x h a) = let g : KeepsOthers x = steps_keep _ x h in changed o _ x (found_typed e.program x.state.heap o g.objects) g
    steps_keep ph d (Polls q x h a) = let g : KeepsOthers x = steps_keep _ x h in heap_parts x (with_first_taken q x) refl (taken_typed e.program (object_at x.state.heap q).waiting q x.state.heap g.objects) g
