-- The frame of a method that is entered.
use Rattle.std.proofs.Common.{◌≡◌, ℕ, ◌-◌, ◌<◌, Bool, true, false, List, [], ◌++◌, length, replicate, Option, Some, refl, ◌∙◌, ap, arith}
use Rattle.std.specs.Prelude.{nat_le, if◌then◌else◌}
use Rattle.std.proofs.lemmas.Bool.Decides.{nat_tests}
use Rattle.et_base.specs.declared.value.Value.{Value}
use Rattle.et_base.specs.declared.value.Value.TheVariants.{Unset}
use Rattle.et_code.specs.Bodies.{Body}
use Rattle.et_state.specs.declared.stage.Stage.TheVariants.{Plain}
use Rattle.et_state.specs.Threads.{FrameState, locals_with}
use Rattle.et_program.specs.Entries.{Linked}
use Rattle.et_event.specs.Frames.{lock_slot, method_frame}

replicated : (n k : ℕ) → n ≡ k → replicate n Unset ≡ replicate k Unset
replicated n k e = ap (λ (i : ℕ). replicate i Unset) e

-- a frame has room for its arguments
pub locals_same : (n count : ℕ) (vs : List Value) → length vs ≡ count → locals_with (if nat_le count n then n else count) vs ≡ locals_with n vs
locals_same n count vs e = by_test (nat_le count n) refl
  where
    by_test : (b : Bool) → nat_le count n ≡ b → locals_with (if b then n else count) vs ≡ locals_with n vs
    by_test true h = refl
    by_test false h =
        let lt : n < count = grind (arith, nat_tests) in
        ap (λ (us : List Value). vs ++ us) (replicated (count - length vs) (n - length vs) (omega arith))

abbrev pub frame_with : ℕ → Option ℕ → ℕ → List Value → FrameState
frame_with method lock room locals = record { method = Some method; stage = Plain; lock = lock; pc = 0; room = room; locals = locals; operands = [] }

pub frame_built : (p : Linked) (method room : ℕ) (body : Body) (lock : Option ℕ) (locals vs : List Value) → lock ≡ lock_slot p method vs → room ≡ body.max_stack → locals ≡ locals_with body.max_locals vs
    → frame_with method lock room locals ≡ method_frame p method body vs
frame_built p method room body lock locals vs e₁ e₂ e₃ =
    ap (λ (l : Option ℕ). frame_with method l room locals) e₁
    ∙ (ap (λ (r : ℕ). frame_with method (lock_slot p method vs) r locals) e₂ ∙ ap (λ (ls : List Value). frame_with method (lock_slot p method vs) body.max_stack ls) e₃)
