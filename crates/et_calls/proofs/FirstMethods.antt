-- A method entered first, by its code.
use Rattle.std.proofs.Common.{◌≡◌, ℕ, Bool, true, false, List, Option, Some, None, refl, sym, ◌∙◌, ap, subst, option_to_list}
use Rattle.std.specs.Prelude.{not}
use Rattle.std.proofs.lemmas.List.Elements.{Contains-append_left, Contains-append_right}
use Rattle.et_event.proofs.There.{lock_listed}
use Rattle.et_base.specs.declared.value.Value.{Value}
use Rattle.et_class.specs.Names.{has}
use Rattle.et_class.specs.declared.flags.TheConstants.{NATIVE}
use Rattle.et_code.specs.Bodies.{Body}
use Rattle.et_state.specs.State.{GuestState, Kept, MachineState}
use Rattle.et_state.specs.Words.{thread_at}
use Rattle.et_program.specs.Entries.{method_at}
use Rattle.et_program.specs.declared.info.MethodInfo.{MethodInfo}
use Rattle.et_state.specs.declared.records.Record.{Record}
use Rattle.et_state.specs.declared.ends.EventEnd.{EventEnd}
use Rattle.et_state.specs.Outcome.{Outcome}
use Rattle.et_event.specs.declared.errors.GuestError.{GuestError}
use Rattle.et_event.specs.declared.errors.GuestError.TheVariants.{AbstractMethodError, UnsatisfiedLinkError}
use Rattle.et_event.specs.Answered.{EventAnswers}
use Rattle.et_event.specs.Calls.{enters_first, entering_frame}
use Rattle.et_event.specs.Checks.{throws_unless}
use Rattle.et_event.specs.Frames.{by_code, enters_code}
use Rattle.et_event.specs.Moments.{Moment, Doing, throws}
use Rattle.et_calls.specs.Fresh.{IsArgument}
use Rattle.et_calls.proofs.CalledByCode.{error_by}

pub alike : (x y : Outcome Kept) (end : EventEnd) (m m' : MachineState) (out out' : List Record) → x ≡ y → EventAnswers y end m m' out out' → EventAnswers x end m m' out out'
alike x y end m m' out out' e h = subst (λ (z : Outcome Kept). EventAnswers z end m m' out out') (sym e) h

-- BY THE CODE

pub code_is : (e : Moment) (d : Doing) (method : ℕ) (args : List Value) (x : MethodInfo) (body : Body) → x ≡ method_at e.program method → x.code ≡ Some body → enters_first e d args method ≡ enters_code e d (entering_frame e) method args body
code_is e d method args x body named code =
    ap (λ (c : Option Body). by_code e d (entering_frame e) method args (throws e AbstractMethodError d) c) (ap (λ (i : MethodInfo). i.code) (sym named) ∙ code)

by_error : (e : Moment) (d : Doing) (native : Bool) → throws_unless e d UnsatisfiedLinkError (not native) (throws e AbstractMethodError d) ≡ throws e (error_by native) d
by_error e d true = refl
by_error e d false = refl

pub codeless_is : (e : Moment) (d : Doing) (method : ℕ) (args : List Value) (x : MethodInfo) (error : GuestError) → x ≡ method_at e.program method → x.code ≡ None → error ≡ error_by (has x.flags NATIVE) → enters_first e d args method ≡ throws e error d
codeless_is e d method args x error named code is =
    ap (λ (c : Option Body). by_code e d (entering_frame e) method args (throws e AbstractMethodError d) c) (ap (λ (i : MethodInfo). i.code) (sym named) ∙ code)
    ∙ (by_error e d (has (method_at e.program method).flags NATIVE)
    ∙ (ap (λ (i : MethodInfo). throws e (error_by (has i.flags NATIVE)) d) (sym named) ∙ ap (λ (r : GuestError). throws e r d) (sym is)))

-- ARGUMENTS

pub entry_argument : (g : GuestState) (t : ℕ) (argument : Option ℕ) → argument ≡ (thread_at g t).entry → IsArgument g t argument
entry_argument g t argument e = λ o is.
    let x = thread_at g t in
    Contains-append_right (option_to_list x.pending) _ o (Contains-append_left (option_to_list x.entry) (option_to_list x.object) o (lock_listed x.entry o (sym e ∙ is)))

pub object_argument : (g : GuestState) (t : ℕ) (argument : Option ℕ) → (thread_at g t).object ≡ argument → IsArgument g t argument
object_argument g t argument e = λ o is.
    let x = thread_at g t in
    Contains-append_right (option_to_list x.pending) _ o (Contains-append_right (option_to_list x.entry) (option_to_list x.object) o (lock_listed x.object o (e ∙ is)))
