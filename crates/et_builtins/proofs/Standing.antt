-- Where the arguments of a call stand.
use Rattle.std.proofs.Common.{◌≡◌, ℕ, zero, suc, ◌-◌, ◌<◌, ◌≤◌, List, [], ◌∷◌, length, get_or, take, reverse, Option, Some, None, refl, ◌∙◌, ap, arith, Contains}
use Rattle.std.proofs.lemmas.List.{get_or-reverse, get_or-take, length-reverse}
use Rattle.et_heap.proofs.References.{unset_past}
use Rattle.et_base.specs.declared.value.Value.{Value}
use Rattle.et_base.specs.declared.value.Value.TheVariants.{Unset, Ref}
use Rattle.et_base.proofs.Lists.{Contains-here}
use Rattle.et_heap.specs.Objects.{IsHeld}
use Rattle.et_state.specs.ThreadRoots.{frame_roots}
use Rattle.et_state.specs.Threads.{FrameState}
use Rattle.et_state.specs.State.{MachineState, kept_of}
use Rattle.et_state.specs.Sound.{IsSound}
use Rattle.et_state.specs.Words.{HasFrame, top}
use Rattle.et_state.proofs.Places.{top_root}
use Rattle.et_event.specs.Frames.{first_reference}
use Rattle.et_event.specs.Tops.{IsIn}

length_taken : (xs : List Value) (n : ℕ) → n ≤ length xs → length (take n xs) ≡ n
length_taken xs zero le = refl
length_taken [] (suc n) le = absurd (omega arith)
length_taken (x ∷ xs) (suc n) le = let h : length (take n xs) ≡ n = length_taken xs n (omega arith) in omega arith

pub length_arguments : (ops : List Value) (count : ℕ) → count ≤ length ops → length (reverse (take count ops)) ≡ count
length_arguments ops count le = length-reverse (take count ops) ∙ length_taken ops count le

pub argument_there : (ops : List Value) (count j : ℕ) → count ≤ length ops → j < count → get_or (reverse (take count ops)) j Unset ≡ get_or ops (count - 1 - j) Unset
argument_there ops count j le lt =
    let n : length (take count ops) ≡ count = length_taken ops count le in
    let small : j < length (take count ops) = omega arith in
    get_or-reverse (take count ops) j Unset small
    ∙ (ap (λ (k : ℕ). get_or (take count ops) (k - 1 - j) Unset) n ∙ get_or-take count ops (count - 1 - j) Unset (omega arith))

pub argument_past : (ops : List Value) (count j : ℕ) → count ≤ length ops → count ≤ j → get_or (reverse (take count ops)) j Unset ≡ Unset
argument_past ops count j le past_end = unset_past (reverse (take count ops)) j (let n : length (reverse (take count ops)) ≡ count = length_arguments ops count le in omega arith)

-- THE RECEIVER

abbrev pub reference_in : Value → Option ℕ
reference_in (Ref o) = Some o
reference_in v = None

pub first_is : (vs : List Value) → first_reference vs ≡ reference_in (get_or vs 0 Unset)
first_is [] = refl
first_is (Ref o ∷ vs) = refl
first_is (v ∷ vs) = refl

pub reference_there : (f : FrameState) (o : ℕ) → IsIn f (Ref o) → Contains (frame_roots f) o
reference_there f o there = there o (Contains-here o [])

pub reference_held : (m : MachineState) (t o : ℕ) → IsSound (kept_of m) → HasFrame m.guest t → IsIn (top m.guest t) (Ref o) → IsHeld m.heap o
reference_held m t o sound has there = sound.roots o (top_root m.guest t o has (there o (Contains-here o [])))
