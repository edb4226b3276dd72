-- What the table says of a built-in method, by the tests of its receiver.
use Rattle.std.proofs.Common.{◌≡◌, ℕ, ◌<◌, Bool, true, false, List, [], length, Option, None, sym, ◌∙◌, ap, subst, arith}
use Rattle.std.specs.Prelude.{nat_lt}
use Rattle.std.specs.Option.{is_some}
use Rattle.std.proofs.lemmas.Bool.Decides.{nat_tests}
use Rattle.et_state.specs.Threads.{most_threads}
use Rattle.et_base.specs.declared.value.Value.{Value}
use Rattle.et_base.proofs.Options.{is_none}
use Rattle.et_state.specs.State.{Kept, MachineState}
use Rattle.et_state.specs.declared.records.Record.{Record}
use Rattle.et_state.specs.declared.ends.EventEnd.{EventEnd}
use Rattle.et_state.specs.Outcome.{Outcome}
use Rattle.et_event.specs.declared.errors.GuestError.TheVariants.{OutOfMemoryError}
use Rattle.et_program.specs.BootMethods.BuiltIn.{BuiltIn}
use Rattle.et_event.specs.Answered.{EventAnswers}
use Rattle.et_event.specs.BuiltIns.{built_in_row, is_fit_for, row_done, starts_thread, with_reference_made}
use Rattle.et_event.specs.Calls.{arguments_of}
use Rattle.et_event.specs.Checks.{ill_typed_unless, throws_unless, waits_unless}
use Rattle.et_event.specs.Moments.{Moment, begins, goes, ill_typed, moment, waits}
use Rattle.et_event.specs.Sites.{Site}
use Rattle.et_program.specs.Entries.{Linked}
use Rattle.et_builtins.specs.Calling.{answered}
use Rattle.et_builtins.specs.declared.changes.Called.{Called}

pub unfit_answers : (e : Moment) (at : Site) (args : List Value) (o : ℕ) (b : BuiltIn) (end : EventEnd) (m m' : MachineState) (out out' : List Record) → is_fit_for e (begins e) o b ≡ false
    → EventAnswers (ill_typed e) end m m' out out' → EventAnswers (built_in_row e at (begins e) args o b) end m m' out out'
unfit_answers e at args o b end m m' out out' unfit a =
    subst (λ (x : Outcome Kept). EventAnswers x end m m' out out') (sym (ap (λ (c : Bool). ill_typed_unless e c (row_done e at (begins e) args o b)) unfit)) a

-- WHAT IS DONE, by the kind of the method

pub done_by : (p : Linked) (m m' : MachineState) (call : Called) (at : Site) (o : ℕ) (b b' : BuiltIn) (end : EventEnd) (out out' : List Record)
    → is_fit_for (moment p m call.thread) (begins (moment p m call.thread)) o b ≡ true → b ≡ b'
    → EventAnswers (row_done (moment p m call.thread) at (begins (moment p m call.thread)) (arguments_of (moment p m call.thread) call.count) o b') end m m' out out'
    → EventAnswers (built_in_row (moment p m call.thread) at (begins (moment p m call.thread)) (arguments_of (moment p m call.thread) call.count) o b) end m m' out out'
done_by p m m' call at o b b' end out out' fit is a =
    let e = moment p m call.thread in
    let args = arguments_of e call.count in
    subst (λ (x : Outcome Kept). EventAnswers x end m m' out out')
    (ap (λ (x : BuiltIn). row_done e at (begins e) args o x) (sym is) ∙ sym (ap (λ (c : Bool). ill_typed_unless e c (row_done e at (begins e) args o b)) fit)) a

pub made_by : (p : Linked) (m m' : MachineState) (call : Called) (at : Site) (o : ℕ) (end : EventEnd) (out : List Record) (r r' q q' : Option ℕ) → r ≡ r' → q ≡ q'
    → EventAnswers (goes (with_reference_made o r q (answered p m call at []))) end m m' out out
    → EventAnswers (goes (with_reference_made o r' q' (answered p m call at []))) end m m' out out
made_by p m m' call at o end out r r' q q' is same a =
    subst (λ (x : Option ℕ). EventAnswers (goes (with_reference_made o r' x (answered p m call at []))) end m m' out out) same
    (subst (λ (x : Option ℕ). EventAnswers (goes (with_reference_made o x q (answered p m call at []))) end m m' out out) is a)

-- START AND JOIN

few_test : (n : ℕ) → n < most_threads → nat_lt n most_threads ≡ true
few_test n lt = grind (arith, nat_tests)

pub started_answers : (e : Moment) (o : ℕ) (go : Outcome Kept) (r : Option ℕ) (end : EventEnd) (m m' : MachineState) (out out' : List Record) → r ≡ None → length e.before.guest.threads < most_threads
    → EventAnswers go end m m' out out' → EventAnswers (starts_thread e (begins e) o go r) end m m' out out'
started_answers e o go r end m m' out out' none few a =
    subst (λ (x : Outcome Kept). EventAnswers x end m m' out out')
    (sym (ap (λ (q : Option ℕ). starts_thread e (begins e) o go q) none ∙ ap (λ (b : Bool). throws_unless e (begins e) OutOfMemoryError b go) (few_test (length e.before.guest.threads) few))) a

pub none_is : (r : Option ℕ) (b : Bool) → b ≡ is_some r → b ≡ false → r ≡ None
none_is r b e h = is_none r (sym e ∙ h)

pub joined_answers : (e : Moment) (b : Bool) (go : Outcome Kept) (end : EventEnd) (m m' : MachineState) (out out' : List Record) → b ≡ true → EventAnswers go end m m' out out' → EventAnswers (waits_unless e b go) end m m' out out'
joined_answers e b go end m m' out out' h a = subst (λ (c : Bool). EventAnswers (waits_unless e c go) end m m' out out') (sym h) a

pub waiting_answers : (e : Moment) (b : Bool) (go : Outcome Kept) (end : EventEnd) (m m' : MachineState) (out out' : List Record) → b ≡ false → EventAnswers (waits e) end m m' out out' → EventAnswers (waits_unless e b go) end m m' out out'
waiting_answers e b go end m m' out out' h a = subst (λ (c : Bool). EventAnswers (waits_unless e c go) end m m' out out') (sym h) a
