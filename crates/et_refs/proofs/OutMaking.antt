-- The event in which the print stream of System.out is made is a legal step.
use Rattle.std.proofs.Common.{◌≡◌, ℕ, ◌+◌, ◌*◌, ◌<◌, ◌≤◌, true, List, [], ◌∷◌, ◌++◌, length, None, Some, refl, sym, ◌∙◌, ap, subst, arith, Contains}
use Rattle.std.proofs.lemmas.List.{length_push}
use Rattle.et_base.specs.declared.value.Value.{Value}
use Rattle.et_base.specs.declared.value.Value.TheVariants.{Unset, Int, Long, LongHigh, Null, Ref}
use Rattle.et_base.proofs.Lists.{Contains-none, Contains-one}
use Rattle.et_heap.specs.Objects.{ObjectState, Objects, IsHeld, has_room, new_object, referent_of}
use Rattle.et_heap.specs.Refs.{refs_of_value}
use Rattle.et_state.specs.Threads.{FrameState}
use Rattle.et_state.specs.State.{Kept, MachineState, kept_of}
use Rattle.et_state.specs.Words.{HasFrame, begun, static_at, steps_guest, top, with_new_object, with_static}
use Rattle.et_state.specs.Roots.{roots_of}
use Rattle.et_state.specs.Moves.{IsOnWay, Led}
use Rattle.et_state.proofs.Calls.{on_make, on_set_static}
use Rattle.et_state.proofs.Steps.{MayBeLost, MayEnter, did_on_way, newest_held, with_top_root}
use Rattle.et_program.specs.Entries.{Linked, class_at}
use Rattle.et_state.specs.declared.records.Record.{Record}
use Rattle.et_state.specs.declared.records.Record.TheVariants.{Alloc}
use Rattle.et_state.specs.declared.ends.EventEnd.TheVariants as endings
use Rattle.et_state.specs.Outcome.{Outcome}
use Rattle.et_event.specs.Answered.{EventAnswers}
use Rattle.et_event.specs.Heap.{leaving_values}
use Rattle.et_event.specs.Moments.{Moment, Doing, begins, current_frame, doing_with_guest, ends_event, fits_heap, instance_made, moment, next_object}
use Rattle.et_event.specs.Sites.{Site}
use Rattle.et_event.specs.Sound.{IsSoundFor}
use Rattle.et_event.proofs.Taking.{replaced}
use Rattle.et_event.proofs.Throwing.{ends_fit}
use Rattle.et_refs.proofs.Leading.{moves_held}
use Rattle.et_initialize.proofs.Beginning.{strings_led}
use Rattle.et_initialize.proofs.Stepping.{has_frame_on, one_fits}
use Rattle.et_refs.specs.Accesses.{replaces}
use Rattle.et_refs.proofs.Carrying.{HasInitialized, frame_there, operand_first}
use Rattle.et_refs.proofs.Quiet.{begun_initialized}

no_refs : (v : Value) → referent_of v ≡ None → refs_of_value v ≡ []
no_refs Unset h = refl
no_refs (Int n) h = refl
no_refs (Long n) h = refl
no_refs LongHigh h = refl
no_refs Null h = refl
no_refs (Ref o) h = cc

module _ (p : Linked) (t c slot : ℕ) (at : Site) (m : MachineState) where
  abbrev stream : ObjectState
  stream = new_object c 0 (class_at p c).info.slots

  abbrev number : ℕ
  number = length m.heap

  -- the machine, after each call
  abbrev made : MachineState
  made = with_new_object (begun m) stream

  abbrev with_out : MachineState → MachineState
  with_out n = steps_guest n (with_static n.guest slot (Ref number)) (refs_of_value (static_at n.guest slot))

  abbrev pushed : MachineState → MachineState
  pushed n = replaces t at.next 0 (Ref number ∷ []) n

  -- what the table says
  abbrev pub stream_done : Doing
  stream_done =
      let e : Moment = moment p m t in
      let d : Doing = begins e in
      let x : Doing = instance_made e c d in
      leaving_values e at (Ref (next_object d) ∷ (current_frame e).operands) (doing_with_guest (with_static x.state.guest slot (Ref (next_object d))) x)

  pub stream_fits : IsSoundFor p (kept_of m) → fits_heap stream_done.state.heap ≡ has_room m.heap 1 (class_at p c).info.slots
  stream_fits sound = one_fits m.heap c 0 (class_at p c).info.slots sound.held.room

  module _ (sound : IsSoundFor p (kept_of m)) (has : HasFrame m.guest t) (lt : slot < length m.guest.statics) (unset : referent_of (static_at m.guest slot) ≡ None) where
    done : HasInitialized p m (begins (moment p m t))
    done = begun_initialized p t m sound

    one : (n : MachineState) → n.heap ≡ made.heap → (o : ℕ) → Contains (number ∷ []) o → IsHeld n.heap o
    one n same o z = subst (λ (h : Objects). IsHeld h o) (sym same) (subst (λ (k : ℕ). IsHeld made.heap k) (Contains-one number o z) (newest_held m.heap stream))

    way : IsOnWay (kept_of m) (pushed (with_out made))
    way =
        let s : Kept = kept_of m in
        let n : MachineState = with_out made in
        let f : FrameState = top n.guest t in
        let on : HasFrame n.guest t = has_frame_on m.guest n.guest t refl has in
        let kept : IsOnWay s n =
        on_set_static s made slot (Ref number) (on_make s (begun m) c 0 (class_at p c).info.slots done.made.way) lt (one made refl) (λ o z. absurd (Contains-none o (subst (λ (os : List ℕ). Contains os o) (no_refs (static_at m.guest slot) unset) z))) in
        did_on_way s n t (replaced 0 (Ref number ∷ []) at.next f) [] (pushed n) kept on
        (record { is = refl; moves = moves_held (MayEnter n) (MayBeLost s n) f 0 at.next (Ref number ∷ []) (one n refl) (λ o z. frame_there m n t o has refl z) })

    root : Contains (roots_of stream_done.state.guest) number
    root = with_top_root (with_out made).guest t (replaced 0 (Ref number ∷ []) at.next (top m.guest t)) number has.thread (operand_first (top m.guest t) number at.next)

    stream_led : Led (kept_of m) stream_done.state (pushed (with_out made))
    stream_led =
        let long : length stream_done.state.heap ≡ number + 1 = length_push m.heap (Some stream) in
        strings_led (kept_of m) stream_done.state (pushed (with_out made)) way refl (omega (arith, long)) (λ o low high. subst (λ (k : ℕ). Contains (roots_of stream_done.state.guest) k) (only o low high long) root)
      where
        only : (o : ℕ) → number ≤ o → o < length stream_done.state.heap → length stream_done.state.heap ≡ number + 1 → number ≡ o
        only o low high long = omega arith

    pub stream_answers : (m₂ m₃ m₄ m₅ : MachineState) (o : ℕ) (out out₃ : List Record) → has_room m.heap 1 (class_at p c).info.slots ≡ true → m₂ ≡ begun m → o ≡ length m₂.heap → m₃ ≡ with_new_object m₂ stream
        → m₄ ≡ steps_guest m₃ (with_static m₃.guest slot (Ref o)) (refs_of_value (static_at m₃.guest slot)) → m₅ ≡ replaces t at.next 0 (Ref o ∷ []) m₄
        → out₃ ≡ out ++ Alloc m₂.guest.clock t (length m₂.heap) c (16 + 8 * (class_at p c).info.slots) 0 ∷ [] → EventAnswers (ends_event stream_done) endings.Done m m₅ out out₃
    stream_answers m₂ m₃ m₄ m₅ o out out₃ room e₂ is e₃ e₄ e₅ told =
        let here : o ≡ number = is ∙ ap (λ (n : MachineState). length n.heap) e₂ in
        let at₃ : m₃ ≡ made = e₃ ∙ ap (λ (n : MachineState). with_new_object n stream) e₂ in
        let at₄ : m₄ ≡ with_out made =
        e₄ ∙ (ap (λ (n : MachineState). steps_guest n (with_static n.guest slot (Ref o)) (refs_of_value (static_at n.guest slot))) at₃
        ∙ ap (λ (k : ℕ). steps_guest made (with_static made.guest slot (Ref k)) (refs_of_value (static_at made.guest slot))) here) in
        let at₅ : m₅ ≡ pushed (with_out made) = e₅ ∙ (ap (λ (n : MachineState). replaces t at.next 0 (Ref o ∷ []) n) at₄ ∙ ap (λ (k : ℕ). replaces t at.next 0 (Ref k ∷ []) (with_out made)) here) in
        let records : out₃ ≡ out ++ stream_done.records = told ∙ ap (λ (n : MachineState). out ++ Alloc n.guest.clock t (length n.heap) c (16 + 8 * (class_at p c).info.slots) 0 ∷ []) e₂ in
        subst (λ (z : Outcome Kept). EventAnswers z endings.Done m m₅ out out₃) (sym (ends_fit stream_done (stream_fits sound ∙ room)))
        (subst (λ (n : MachineState). Led (kept_of m) stream_done.state n) (sym at₅) stream_led, records)
