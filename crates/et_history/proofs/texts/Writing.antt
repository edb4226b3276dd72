-- What the U records of an event of a state with texts tell.
use Rattle.std.proofs.Common.{◌≡◌, ℕ, ◌==◌, ◌&&◌, ◌∷◌, Bool, true, false, List, [], length, set, refl, sym, ◌∙◌, ap, subst, inl, inr, get_or-set_other}
use Rattle.std.specs.Prelude.{All, if◌then◌else◌, slice_index_or}
use Rattle.std.proofs.lemmas.Bool.{and_parts, eqb-true, true≢false}
use Rattle.std.proofs.lemmas.List.Elements.{All-head, All-tail}
use Rattle.et_base.specs.declared.value.Value.{Value}
use Rattle.et_base.specs.declared.value.Value.TheVariants.{Ref, Unset}
use Rattle.et_heap.specs.Objects.{object_at, slot_of}
use Rattle.et_program.specs.Entries.{Linked}
use Rattle.et_state.specs.Outcome.{Outcome}
use Rattle.et_state.specs.Outcome as outcome
use Rattle.et_state.specs.Spoken.{silent, spoken}
use Rattle.et_state.specs.State.{Kept}
use Rattle.et_state.specs.Words.{IsUnended, static_at}
use Rattle.et_state.specs.declared.records.Record.{Record}
use Rattle.et_state.specs.declared.records.Record.TheVariants.{Alloc, Update, Enter, Exit, Unwind}
use Rattle.et_event.specs.Event.{event}
use Rattle.et_event.specs.Moments.{Moment, number_of_value}
use Rattle.et_event.specs.Runnable.{IsRunnable}
use Rattle.et_event.specs.Sound.{IsSoundFor}
use Rattle.et_event.specs.Told.{event_with_texts, keeping}
use Rattle.et_history.proofs.steps.Held.{Ready}
use Rattle.et_history.proofs.steps.SaysReached.{by_others, event_tells_beside_out}
use Rattle.et_history.proofs.steps.SaysWrites.{by_writes, event_tells_writes}
use Rattle.et_history.specs.steps.Records.{HasPlainStrings}
use Rattle.et_history.specs.steps.Writes.{HasCause, IsBesideOut, TellWrites, TellsBesideOut, TellsWrites, after_record, is_out_slot, reference_at}
use Rattle.et_history.specs.texts.Writing.{TellsOtherWrites, reference_told}
use Rattle.et_history.proofs.texts.Events.{by_rows, moment, ready, sound_silent, unended_silent}
use Rattle.et_history.proofs.texts.Out.{LeadsOut, with_statics}

-- what records tell where none tells of System.out
module _ (p : Linked) where
  abbrev told : (ℕ → ℕ → ℕ) → ℕ → ℕ → ℕ
  told f o i = if (o == 0) && is_out_slot p i then 0 else f o i

  pub told_there : (object slot : ℕ) → (object ≡ 0 → is_out_slot p slot ≡ false) → ((object == 0) && is_out_slot p slot) ≡ false
  told_there object slot other = by (object == 0) refl
    where
      by : (b : Bool) → (object == 0) ≡ b → (b && is_out_slot p slot) ≡ false
      by false is = refl
      by true is = other (eqb-true object 0 is)

  pub told_is : (f : ℕ → ℕ → ℕ) (o i : ℕ) → ((o == 0) && is_out_slot p i) ≡ false → told f o i ≡ f o i
  told_is f o i is = ap (λ (b : Bool). if b then 0 else f o i) is

  one_more : (f g : ℕ → ℕ → ℕ) (object slot new : ℕ) → ((o i : ℕ) → g o i ≡ told f o i) → (object ≡ 0 → is_out_slot p slot ≡ false) → (o i : ℕ)
      → (if (o == object) && (i == slot) then new else g o i) ≡ told (λ k j. if (k == object) && (j == slot) then new else f k j) o i
  one_more f g object slot new same other o i = by ((o == object) && (i == slot)) refl
    where
      by : (b : Bool) → ((o == object) && (i == slot)) ≡ b → (if b then new else g o i) ≡ (if (o == 0) && is_out_slot p i then 0 else (if b then new else f o i))
      by false is = same o i
      by true is =
          let at = and_parts (o == object) (i == slot) is in
          let object_is : o ≡ object = eqb-true o object at.0 in
          let slot_is : i ≡ slot = eqb-true i slot at.1 in
          sym (ap (λ (b : Bool). if b then 0 else new) (told_there o i (λ none. subst (λ (k : ℕ). is_out_slot p k ≡ false) (sym slot_is) (other (sym object_is ∙ none)))))

  tells_told : (f g h : ℕ → ℕ → ℕ) (rs : List Record) → ((o i : ℕ) → g o i ≡ told f o i) → TellWrites f rs h → All (IsBesideOut p) rs → TellWrites g rs (told h)
  tells_told f g h [] same tells other = λ o i. ap (λ (n : ℕ). if (o == 0) && is_out_slot p i then 0 else n) (tells o i) ∙ sym (same o i)
  tells_told f g h (Alloc event thread object class size elements ∷ rs) same tells other = (tt, tells_told f g h rs same tells.1 (All-tail (IsBesideOut p) _ rs other))
  tells_told f g h (Update event thread object slot old new ∷ rs) same tells other =
      let apart : object ≡ 0 → is_out_slot p slot ≡ false = All-head (IsBesideOut p) _ rs other in (
        tells.0 ∙ sym (same object slot ∙ told_is f object slot (told_there object slot apart)),
        tells_told (after_record f (Update event thread object slot old new)) (after_record g (Update event thread object slot old new)) h rs (one_more f g object slot new same apart) tells.1 (All-tail (IsBesideOut p) _ rs other),
      )
  tells_told f g h (Enter event thread method receiver ∷ rs) same tells other = (tt, tells_told f g h rs same tells.1 (All-tail (IsBesideOut p) _ rs other))
  tells_told f g h (Exit event thread method ∷ rs) same tells other = (tt, tells_told f g h rs same tells.1 (All-tail (IsBesideOut p) _ rs other))
  tells_told f g h (Unwind event thread method exception ∷ rs) same tells other = (tt, tells_told f g h rs same tells.1 (All-tail (IsBesideOut p) _ rs other))

  -- what is told after them is another word for the same
  tells_as : (f g h : ℕ → ℕ → ℕ) (rs : List Record) → ((o i : ℕ) → h o i ≡ g o i) → TellWrites f rs g → TellWrites f rs h
  tells_as f g h [] same tells = λ o i. same o i ∙ tells o i
  tells_as f g h (r ∷ rs) same tells = (tells.0, tells_as (after_record f r) g h rs same tells.1)

-- System.out was made: no other static was written
module _ (p : Linked) (s next : Kept) (slot n : ℕ) (statics : next.guest.statics ≡ set s.guest.statics slot (Ref n)) (place : is_out_slot p slot ≡ true) where
  other_slot : (i : ℕ) → is_out_slot p i ≡ false → i ≡ slot → ⊥
  other_slot i is same = true≢false (sym place ∙ subst (λ (k : ℕ). is_out_slot p k ≡ false) same is)

  same_told : (o i : ℕ) → reference_told p next o i ≡ reference_told p (with_statics s.guest.statics next) o i
  same_told o i = by (o == 0) (is_out_slot p i) refl
    where
      x : ℕ
      x = number_of_value (slot_of (object_at next.heap o) i)

      by : (a b : Bool) → is_out_slot p i ≡ b → (if a && b then 0 else (if a then number_of_value (static_at next.guest i) else x)) ≡ (if a && b then 0 else (if a then number_of_value (slice_index_or s.guest.statics i Unset) else x))
      by false b is = refl
      by true true is = refl
      by true false is = ap number_of_value (ap (λ (vs : List Value). slice_index_or vs i Unset) statics ∙ get_or-set_other s.guest.statics slot i (Ref n) Unset (other_slot i is))

module _ (p : Linked) (s : Kept) (t : ℕ) (sound : IsSoundFor p s) (unended : IsUnended s.guest t) (may : IsRunnable p) (strings : HasPlainStrings p) (cause : HasCause p) where
  abbrev e : Moment
  e = moment p s t

  here : Ready e
  here = ready p s t sound unended may

  writes_row : (slot : ℕ) (o : Outcome Kept) → LeadsOut e slot o → TellsOtherWrites p s o
  writes_row slot (outcome.Goes next records) (inl h) =
      let x : Outcome Kept = outcome.Goes (spoken s.guest.texts next) records in
      tells_told p (reference_at s) (reference_told p s) (reference_at next) records (λ o i. refl) (by_writes e here strings cause x h.ended) (by_others e here x h.ended)
  writes_row slot (outcome.Goes next records) (inr h) =
      let base : Kept = with_statics s.guest.statics next in
      let x : Outcome Kept = outcome.Goes base records in
      tells_as p (reference_told p s) (reference_told p base) (reference_told p next) records (same_told p s next slot (length s.heap) h.statics h.place)
      (tells_told p (reference_at s) (reference_told p s) (reference_at base) records (λ o i. refl) (by_writes e here strings cause x h.ended) (by_others e here x h.ended))
  writes_row slot (outcome.Waits next) h = absurd h
  writes_row slot (outcome.IllTyped method pc) h = tt
  writes_row slot outcome.ObjectLimit h = tt

  writes_beside : (o : Outcome Kept) → TellsWrites (silent s) o → TellsBesideOut p o → TellsOtherWrites p s (keeping s.guest.texts o)
  writes_beside (outcome.Goes next records) h other = tells_told p (reference_at s) (reference_told p s) (reference_at next) records (λ o i. refl) h other
  writes_beside (outcome.Waits next) h other = λ o i. ap (λ (n : ℕ). if (o == 0) && is_out_slot p i then 0 else n) (h o i)
  writes_beside (outcome.IllTyped method pc) h other = tt
  writes_beside outcome.ObjectLimit h other = tt

  pub event_tells_other_writes : TellsOtherWrites p s (event_with_texts p s t)
  event_tells_other_writes =
      by_rows p s t sound unended may (λ o. TellsOtherWrites p s o)
      (writes_beside (event p (silent s) t) (event_tells_writes p (silent s) t (sound_silent p s t sound unended may) (unended_silent p s t sound unended may) may strings cause)
      (event_tells_beside_out p (silent s) t (sound_silent p s t sound unended may) (unended_silent p s t sound unended may) may))
      (λ slot o r. writes_row slot o r.leads)
