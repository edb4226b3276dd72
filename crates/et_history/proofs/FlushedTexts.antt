-- A flush leaves sound texts: those of what stays.
use Rattle.std.proofs.Common.{◌≡◌, ℕ, ◌+◌, ◌≤◌, ◌∷◌, Bool, true, false, List, [], length, refl, sym, subst, arith}
use Rattle.std.specs.Prelude.{All, if◌then◌else◌}
use Rattle.std.specs.Map.{keys_of, values_of}
use Rattle.std.proofs.lemmas.List.Elements.{All-cons, All-head, All-nil, All-tail}
use Rattle.std.proofs.lemmas.List.Sums.{sum_by-cons}
use Rattle.et_heap.specs.Objects.{IsHeld, Objects, object_at}
use Rattle.et_heap.specs.Remaining.{remaining}
use Rattle.et_program.specs.Entries.{Linked}
use Rattle.et_state.specs.Enqueuing.{begins_to_wait, flushed_heap, newcomers}
use Rattle.et_state.specs.State.{Kept}
use Rattle.et_state.specs.Texts.{Texts, longest_text, text_units, texts_left}
use Rattle.et_state.proofs.Enqueued.{flushed_same, joined_held}
use Rattle.et_state.proofs.Wholes.{held_remaining}
use Rattle.et_event.specs.SoundTexts.{HasSoundTexts, is_text_class}
use Rattle.et_history.specs.Settings.{flushed_of}

-- THE TEXTS that are left
module _ (here : ℕ → Bool) where
  keys_left : (P Q : ℕ → Type 0) → ((o : ℕ) → here o ≡ true → P o → Q o) → (es : Texts) → All P (keys_of es) → All Q (keys_of (texts_left here es))
  keys_left P Q so [] all = All-nil Q
  keys_left P Q so (e ∷ es) all = by (here e.0) refl (keys_left P Q so es (All-tail P e.0 (keys_of es) all))
    where
      by : (b : Bool) → here e.0 ≡ b → All Q (keys_of (texts_left here es)) → All Q (keys_of (if b then e ∷ texts_left here es else texts_left here es))
      by true is rest = All-cons Q e.0 (keys_of (texts_left here es)) (so e.0 is (All-head P e.0 (keys_of es) all)) rest
      by false is rest = rest

  values_left : (P : List ℕ → Type 0) (es : Texts) → All P (values_of es) → All P (values_of (texts_left here es))
  values_left P [] all = All-nil P
  values_left P (e ∷ es) all = by (here e.0) (values_left P es (All-tail P e.1 (values_of es) all))
    where
      by : (b : Bool) → All P (values_of (texts_left here es)) → All P (values_of (if b then e ∷ texts_left here es else texts_left here es))
      by true rest = All-cons P e.1 (values_of (texts_left here es)) (All-head P e.1 (values_of es) all) rest
      by false rest = rest

  fewer_units : (es : Texts) → text_units (texts_left here es) ≤ text_units es
  fewer_units [] = omega arith
  fewer_units (e ∷ es) = by (here e.0) (fewer_units es)
    where
      by : (b : Bool) → text_units (texts_left here es) ≤ text_units es → text_units (if b then e ∷ texts_left here es else texts_left here es) ≤ text_units (e ∷ es)
      by true le = omega (arith, le, sum_by-cons length e.1 (values_of (texts_left here es)), sum_by-cons length e.1 (values_of es))
      by false le = omega (arith, le, sum_by-cons length e.1 (values_of es))

abbrev MayHave : Linked → Objects → ℕ → Type 0
MayHave p heap o = IsHeld heap o × (is_text_class p (object_at heap o).class ≡ true)

-- what is here stays, and of its class
stays_here : (p : Linked) (here : ℕ → Bool) (heap : Objects) (o : ℕ) → here o ≡ true → MayHave p heap o → MayHave p (flushed_heap here heap) o
stays_here p here heap o is h =
    let same : o ≡ 0 + o = omega arith in
    let left : IsHeld (remaining here 0 heap) o = held_remaining here 0 heap o h.0 (subst (λ (k : ℕ). here k ≡ true) same is) in (
      joined_held (newcomers here heap) (begins_to_wait here heap) (remaining here 0 heap) o left,
      subst (λ (c : ℕ). is_text_class p c ≡ true) (sym (flushed_same (λ x. x.class) (λ x r ws b. refl) here heap o is)) h.1,
    )

pub texts_flushed : (p : Linked) (s : Kept) (here : ℕ → Bool) → HasSoundTexts p s → HasSoundTexts p (flushed_of here s)
texts_flushed p s here h = record {
  owned = keys_left here (MayHave p s.heap) (MayHave p (flushed_heap here s.heap)) (λ o is had. stays_here p here s.heap o is had) s.guest.texts h.owned;
  short = values_left here (λ units. length units ≤ longest_text) s.guest.texts h.short;
  few = (let fewer = fewer_units here s.guest.texts in let few = h.few in omega (arith, fewer, few));
}
