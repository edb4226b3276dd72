-- Texts stay sound: what an event gives a text is held and may have one, and it is no longer than a text may be.
use Rattle.std.proofs.Common.{◌≡◌, ℕ, ◌≤◌, ◌∷◌, ◌⊎◌, List, [], length, refl, sym, subst, inl, inr, arith}
use Rattle.std.specs.Prelude.{true}
use Rattle.std.specs.Map.{keys_of, values_of}
use Rattle.std.specs.Ordering.{match_ordering, nat_cmp}
use Rattle.std.specs.declared.cmp.Ordering.{Ordering}
use Rattle.std.specs.declared.cmp.Ordering.TheVariants.{Less, Equal, Greater}
use Rattle.std.proofs.lemmas.List.Elements.{All-weaker}
use Rattle.std.proofs.lemmas.List.Sums.{sum_by-cons}
use Rattle.std.proofs.lemmas.Map.Views.{All-keys-insert_entry, All-values-insert_entry}
use Rattle.et_heap.specs.Objects.{IsHeld, Objects, object_at}
use Rattle.et_program.specs.Entries.{Linked}
use Rattle.et_state.specs.Outcome.{Outcome}
use Rattle.et_state.specs.Outcome as outcome
use Rattle.et_state.specs.Spoken.{silent, spoken}
use Rattle.et_state.specs.State.{Kept}
use Rattle.et_state.specs.Texts.{Texts, longest_text, most_units, text_units, with_text}
use Rattle.et_state.specs.Words.{IsUnended}
use Rattle.et_state.specs.declared.records.Record.{Record}
use Rattle.et_event.specs.Event.{event}
use Rattle.et_event.specs.Moments.{Moment}
use Rattle.et_event.specs.Runnable.{IsRunnable}
use Rattle.et_event.specs.Sound.{IsSoundFor}
use Rattle.et_event.specs.SoundTexts.{HasSoundTexts, is_text_class}
use Rattle.et_event.specs.Told.{event_with_texts, keeping}
use Rattle.et_history.proofs.steps.SaysRecords.{event_tells}
use Rattle.et_history.specs.steps.Records.{IsAlike, TellsAll, TellsObjects}
use Rattle.et_history.specs.texts.Texts.{LeadsToSoundTexts}
use Rattle.et_history.proofs.texts.Events.{by_rows, moment, objects_row, sound_silent, unended_silent}
use Rattle.et_history.proofs.texts.Out.{LeadsOut}
use Rattle.et_history.proofs.texts.Rows.{GivesTexts}

-- an object that is held, of a class that has texts
abbrev MayHave : Linked → Objects → ℕ → Type 0
MayHave p heap o = IsHeld heap o × (is_text_class p (object_at heap o).class ≡ true)

abbrev IsShort : List ℕ → Type 0
IsShort units = length units ≤ longest_text

-- an empty text has no units, so no more are there than before
by_order : (r : Ordering) (o : ℕ) (k : ℕ) (units : List ℕ) (es more : Texts) → text_units more ≤ text_units es → text_units (match_ordering r ((o, []) ∷ (k, units) ∷ es) ((k, []) ∷ es) ((k, units) ∷ more)) ≤ text_units ((k, units) ∷ es)
by_order Less o k units es more le = omega (arith, sum_by-cons length [] (values_of ((k, units) ∷ es)))
by_order Equal o k units es more le = omega (arith, sum_by-cons length [] (values_of es), sum_by-cons length units (values_of es))
by_order Greater o k units es more le = omega (arith, le, sum_by-cons length units (values_of more), sum_by-cons length units (values_of es))

no_more : (o : ℕ) (es : Texts) → text_units (with_text o [] es) ≤ text_units es
no_more o [] = omega arith
no_more o (e ∷ es) = by_order (nat_cmp o e.0) o e.0 e.1 es (with_text o [] es) (no_more o es)

module _ (p : Linked) (s next : Kept) (texts : HasSoundTexts p s) (stays : (o : ℕ) → IsHeld s.heap o → IsHeld next.heap o) (alike : (o : ℕ) → IsHeld s.heap o → IsAlike (object_at s.heap o) (object_at next.heap o)) where
  -- what may have a text may have one in the next state
  on : (o : ℕ) → MayHave p s.heap o → MayHave p next.heap o
  on o h = (stays o h.0, subst (λ (c : ℕ). is_text_class p c ≡ true) (sym (alike o h.0).class) h.1)

  -- with the texts as they were
  same_texts : (x : Texts) → x ≡ s.guest.texts → HasSoundTexts p (spoken x next)
  same_texts x same =
      subst (λ (y : Texts). HasSoundTexts p (spoken y next)) (sym same)
      (record { owned = All-weaker (MayHave p s.heap) (MayHave p next.heap) (λ o h. on o h) (keys_of s.guest.texts) texts.owned; short = texts.short; few = texts.few })

  -- with one text more, or another one
  one_text : (o : ℕ) (units : List ℕ) (x : Texts) → x ≡ with_text o units s.guest.texts → MayHave p next.heap o → IsShort units → text_units (with_text o units s.guest.texts) ≤ most_units → HasSoundTexts p (spoken x next)
  one_text o units x is own short few =
      subst (λ (y : Texts). HasSoundTexts p (spoken y next)) (sym is)
      (record {
        owned = All-keys-insert_entry nat_cmp o units (MayHave p next.heap) s.guest.texts (All-weaker (MayHave p s.heap) (MayHave p next.heap) (λ k h. on k h) (keys_of s.guest.texts) texts.owned) own;
        short = All-values-insert_entry nat_cmp o units IsShort s.guest.texts texts.short short;
        few = few;
      })

  few_units : (units : List ℕ) (o : ℕ) (x : Texts) → x ≡ with_text o units s.guest.texts → (units ≡ []) ⊎ (text_units x ≤ most_units) → text_units (with_text o units s.guest.texts) ≤ most_units
  few_units units o x is (inl none) =
      let less = no_more o s.guest.texts in
      let few = texts.few in
      subst (λ (us : List ℕ). text_units (with_text o us s.guest.texts) ≤ most_units) (sym none) (omega (arith, less, few))
  few_units units o x is (inr few) = subst (λ (y : Texts). text_units y ≤ most_units) is few

module _ (p : Linked) (s : Kept) (t : ℕ) (sound : IsSoundFor p s) (texts : HasSoundTexts p s) (unended : IsUnended s.guest t) (may : IsRunnable p) where
  abbrev e : Moment
  e = moment p s t

  given : (next : Kept) (records : List Record) → TellsAll p s t next records → GivesTexts e next → HasSoundTexts p next
  given next records all (inl same) = same_texts p s next texts all.stays all.alike next.guest.texts same
  given next records all (inr g) =
      one_text p s next texts all.stays all.alike g.object g.units next.guest.texts g.texts (g.held, g.class) g.short (few_units p s next texts all.stays all.alike g.units g.object next.guest.texts g.texts g.few)

  texts_row : (slot : ℕ) (o : Outcome Kept) → LeadsOut e slot o → LeadsToSoundTexts p o
  texts_row slot (outcome.Goes next records) h = by h
    where
      all : TellsAll p s t next records
      all = objects_row p s t sound unended may may.texts.string slot (outcome.Goes next records) h

      by : LeadsOut e slot (outcome.Goes next records) → HasSoundTexts p next
      by (inl g) = given next records all g.texts
      by (inr g) = given next records all (inl g.texts)
  texts_row slot (outcome.Waits next) h = absurd h
  texts_row slot (outcome.IllTyped method pc) h = tt
  texts_row slot outcome.ObjectLimit h = tt

  -- an event of the table leaves them as they are
  texts_beside : (o : Outcome Kept) → TellsObjects p (silent s) t o → LeadsToSoundTexts p (keeping s.guest.texts o)
  texts_beside (outcome.Goes next records) all = same_texts p s next texts all.stays all.alike s.guest.texts refl
  texts_beside (outcome.Waits next) same = subst (λ (h : Objects). HasSoundTexts p (spoken s.guest.texts (record { heap = h; guest = next.guest }))) (sym same) (record { owned = texts.owned; short = texts.short; few = texts.few })
  texts_beside (outcome.IllTyped method pc) h = tt
  texts_beside outcome.ObjectLimit h = tt

  pub event_keeps_texts_sound : LeadsToSoundTexts p (event_with_texts p s t)
  event_keeps_texts_sound =
      by_rows p s t sound unended may (λ o. LeadsToSoundTexts p o)
      (texts_beside (event p (silent s) t) (event_tells p (silent s) t (sound_silent p s t sound unended may) (unended_silent p s t sound unended may) may may.texts.string)) (λ slot o r. texts_row slot o r.leads)
