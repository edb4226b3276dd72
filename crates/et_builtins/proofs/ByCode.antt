-- A selected method is called: by its code, and without.
use Rattle.std.proofs.Common.{◌≡◌, ℕ, ◌≤◌, Bool, false, length, Option, Some, None, ◌∙◌, ap}
use Rattle.std.specs.Prelude.{not}
use Rattle.et_class.specs.Names.{has}
use Rattle.et_class.specs.declared.flags.TheConstants.{NATIVE}
use Rattle.et_code.specs.Bodies.{Body}
use Rattle.et_program.specs.Entries.{method_at}
use Rattle.et_state.specs.Outcome.{Outcome}
use Rattle.et_state.specs.State.{Kept}
use Rattle.et_event.specs.declared.errors.GuestError.TheVariants.{UnsatisfiedLinkError}
use Rattle.et_event.specs.BuiltIns.{built_in_event}
use Rattle.et_event.specs.Calls.{arguments_of, enters_method, taking}
use Rattle.et_event.specs.Checks.{throws_unless}
use Rattle.et_event.specs.Frames.{by_code, enters_code}
use Rattle.et_event.specs.Moments.{Moment, Doing, current_frame}
use Rattle.et_event.specs.Sites.{Site}
use Rattle.et_builtins.proofs.Standing.{length_arguments}

abbrev called : Moment → Site → Doing → ℕ → ℕ → ℕ → Option Body → Outcome Kept
called e at d count taken m code = by_code e d (taking e taken) m (arguments_of e count) (built_in_event e at d (arguments_of e count) (method_at e.program m)) code

pub code_called : (e : Moment) (at : Site) (d : Doing) (count m : ℕ) (body : Body) → count ≤ length (current_frame e).operands → (method_at e.program m).code ≡ Some body
    → enters_method e at d (arguments_of e count) m ≡ enters_code e d (taking e count) m (arguments_of e count) body
code_called e at d count m body le code =
    ap (λ (n : ℕ). called e at d count n m (method_at e.program m).code) (length_arguments (current_frame e).operands count le) ∙ ap (λ (c : Option Body). called e at d count count m c) code

pub codeless_called : (e : Moment) (at : Site) (d : Doing) (count m : ℕ) → count ≤ length (current_frame e).operands → (method_at e.program m).code ≡ None
    → enters_method e at d (arguments_of e count) m ≡ throws_unless e d UnsatisfiedLinkError (not (has (method_at e.program m).flags NATIVE)) (built_in_event e at d (arguments_of e count) (method_at e.program m))
codeless_called e at d count m le code =
    ap (λ (n : ℕ). called e at d count n m (method_at e.program m).code) (length_arguments (current_frame e).operands count le) ∙ ap (λ (c : Option Body). called e at d count count m c) code

-- .. where it isn't native either
pub built_in_called : (e : Moment) (at : Site) (d : Doing) (count m : ℕ) → count ≤ length (current_frame e).operands → (method_at e.program m).code ≡ None → has (method_at e.program m).flags NATIVE ≡ false
    → enters_method e at d (arguments_of e count) m ≡ built_in_event e at d (arguments_of e count) (method_at e.program m)
built_in_called e at d count m le code native =
    codeless_called e at d count m le code
    ∙ ap (λ (b : Bool). throws_unless e d UnsatisfiedLinkError (not b) (built_in_event e at d (arguments_of e count) (method_at e.program m))) native
