-- Folds, and the string of a constant.
use Rattle.et_event.specs.Errors.{class_called}
use Rattle.et_event.specs.Moments.{Doing, Moment, doing_with_guest, instance_made, next_object}
use Rattle.et_event.specs.Strings.{interned, string_object}
use Rattle.et_heap.specs.Objects.{IsHeld}
use Rattle.et_history.proofs.soundness.Wholes.{sound}
use Rattle.et_state.proofs.Places.{string_root}
use Rattle.et_state.specs.Interned.{object_of}
use Rattle.et_state.specs.Sound.{IsSound}
use Rattle.et_state.specs.State.{Kept}
use Rattle.et_state.specs.Words.{with_string}
use Rattle.std.proofs.Common.{List, None, Option, Some, [], refl, subst, sym, ℕ, ◌∷◌, ◌≡◌}
use Rattle.std.proofs.lemmas.List.Elements.{All-head, All-tail}
use Rattle.std.specs.Option.{is_some}
use Rattle.std.specs.Prelude.{All, codes, fold, if◌then◌else◌, unwrap_or}
use Rattle.et_state.proofs.Interned.{object_pushed, object_in}

-- FOLDS

pub fold_keeps : {A : Type 0} (P : Doing → Type 0) (f : Doing → A → Doing) → ((x : Doing) (a : A) → P x → P (f x a)) → (xs : List A) (d : Doing) → P d → P (fold f d xs)
fold_keeps P f step [] d h = h
fold_keeps P f step (a ∷ xs) d h = fold_keeps P f step xs (f d a) (step d a h)

pub fold_keeps_all : {A : Type 0} (Q : A → Type 0) (P : Doing → Type 0) (f : Doing → A → Doing) → ((x : Doing) (a : A) → Q a → P x → P (f x a)) → (xs : List A) → All Q xs → (d : Doing) → P d → P (fold f d xs)
fold_keeps_all Q P f step [] all d h = h
fold_keeps_all Q P f step (a ∷ xs) all d h = fold_keeps_all Q P f step xs (All-tail Q a xs all) (f d a) (step d a (All-head Q a xs all) h)

-- THE STRING of a constant is held in a state in which it is interned
pub string_held : (e : Moment) (bytes : List ℕ) (d : Doing) → IsSound (interned e bytes d).state → IsHeld (interned e bytes d).state.heap (string_object bytes (interned e bytes d))
string_held e bytes d = by (object_of d.state.guest.interned bytes) refl
  where
    n : ℕ
    n = next_object d

    y : Doing
    y = instance_made e (class_called e.program (codes "java/lang/String")) d

    x : Doing
    x = doing_with_guest (with_string y.state.guest bytes n) y

    named : (s : Kept) (o : ℕ) → IsSound s → object_of s.guest.interned bytes ≡ Some o → IsHeld s.heap (unwrap_or (object_of s.guest.interned bytes) 0)
    named s o sound is = subst (λ (r : Option ℕ). IsHeld s.heap (unwrap_or r 0)) (sym is) (sound.roots o (string_root s.guest o (object_in s.guest.interned bytes o is)))

    by : (q : Option ℕ) → object_of d.state.guest.interned bytes ≡ q → IsSound (if is_some q then d else x).state → IsHeld (if is_some q then d else x).state.heap (string_object bytes (if is_some q then d else x))
    by (Some o) is sound = named d.state o sound is
    by None is sound = named x.state n sound (object_pushed d.state.guest.interned bytes n is)
