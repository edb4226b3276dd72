-- What is printed where a row is done.
use Rattle.std.proofs.Common.{◌≡◌, ℕ, ◌++◌, List, [], true, false, Bool, Some, sym, ap, subst, ◌∙◌}
use Rattle.std.specs.Prelude.{IfOk, OnOk, Ok, Err, Result, unwrap_or}
use Rattle.et_base.specs.declared.value.Value.{Value}
use Rattle.et_event.specs.Answered.{TextAnswers}
use Rattle.et_event.specs.BuiltIns.{argument}
use Rattle.et_event.specs.Calls.{arguments_of}
use Rattle.et_event.specs.Checks.{ill_typed_unless}
use Rattle.et_event.specs.Moments.{begins, goes}
use Rattle.et_event.specs.Sites.{Site}
use Rattle.et_event.specs.TextRows.{is_fit_text, said_of_method, text_done, text_row}
use Rattle.et_program.specs.BootTexts.TextMethod.{TextMethod}
use Rattle.et_program.specs.Entries.{Linked}
use Rattle.et_state.specs.Answers.{SaysWhereDone}
use Rattle.et_state.specs.Outcome.{Outcome}
use Rattle.et_state.specs.State.{Kept, MachineState}
use Rattle.et_state.specs.Texts.{Texts}
use Rattle.et_state.specs.Words.{top}
use Rattle.et_state.specs.declared.ends.EventEnd.{EventEnd}
use Rattle.et_state.specs.declared.ends.EventEnd.TheVariants as ends
use Rattle.et_state.specs.declared.records.Record.{Record}
use Rattle.et_strings.specs.Calls.{AnswersText, IsCalled, SaysRow, call_made, text_moment}
use Rattle.et_strings.specs.declared.calls.TextCalled.{TextCalled}
use Rattle.et_event.proofs.Answering.{if_ok}
use Rattle.et_strings.proofs.Answering.{giving, ill-beside, says}

if_both : {A E : Type 0} {P R : A → Type 0} {Q : Type 0} → (r : Result A E) → ((a : A) → P a → Q → R a) → IfOk r P → OnOk r Q → IfOk r R
if_both (Ok a) f h q = f a h q
if_both (Err e) f h q = tt

-- a row that answers nothing has these bytes
says-row : (p : Linked) (m m' : MachineState) (x : Texts) (c : TextCalled) (method : TextMethod) (end : EventEnd) (records : List Record) (old new : List ℕ) → c.method ≡ method → IsCalled m c
    → ((at : Site) → at.next ≡ c.called.next → TextAnswers (goes (giving p m x c.called.thread c.called.count at [])) end m m' x x records records)
    → new ≡ old ++ said_of_method (text_moment p m x c.called.thread) c.argument method → SaysRow p c end m x old new
says-row p m m' x c method end records old new named called answers is = λ at same.
    let e = text_moment p m x c.called.thread in
    let printed : SaysWhereDone end (said_of_method e c.argument method) old new = says (giving p m x c.called.thread c.called.count at []) end m m' x x records records (said_of_method e c.argument method) old new (answers at same) is in
    subst (λ (k : TextMethod). SaysWhereDone end (said_of_method e (argument (arguments_of e c.called.count) 1) k) old new) (sym named) (subst (λ (v : Value). SaysWhereDone end (said_of_method e v method) old new) called.argument printed)

-- THE ROW OF A METHOD whose answer says nothing of the program and of the records

pub answers-row : {E : Type 0} → (p : Linked) (m m' : MachineState) (x x' : Texts) (c : TextCalled) (method : TextMethod) (r : Result EventEnd E) (records : List Record) → c.method ≡ method
    → IfOk r (λ end. (q : Linked) (out : List Record) → AnswersText method q c end m m' x x' out out) → IfOk r (λ end. AnswersText c.method p c end m m' x x' records records)
answers-row p m m' x x' c method r records named h =
    if_ok r (λ end answers. subst (λ (k : TextMethod). AnswersText k p c end m m' x x' records records) (sym named) (answers p records)) h

-- .. and which prints these bytes
pub prints-row : {E : Type 0} → (p : Linked) (m m' : MachineState) (x : Texts) (c : TextCalled) (method : TextMethod) (r : Result EventEnd E) (old new bytes : List ℕ) → c.method ≡ method → IsCalled m c
    → IfOk r (λ end. (q : Linked) (out : List Record) (at : Site) → at.next ≡ c.called.next → TextAnswers (goes (giving q m x c.called.thread c.called.count at [])) end m m' x x out out)
    → bytes ≡ said_of_method (text_moment p m x c.called.thread) c.argument method → OnOk r (new ≡ old ++ bytes) → IfOk r (λ end. SaysRow p c end m x old new)
prints-row p m m' x c method r old new bytes named called h same is =
    if_both r (λ end answers said. says-row p m m' x c method end [] old new named called (answers p []) (said ∙ ap (λ (b : List ℕ). old ++ b) same)) h is

-- THE TEST OF THE CLASSES

abbrev AnswersRow : Linked → TextCalled → EventEnd → (m m' : MachineState) → (x x' : Texts) → (out out' : List Record) → Type 0
AnswersRow p c end m m' x x' out out' = (at : Site) → at.next ≡ c.called.next → TextAnswers (text_row (text_moment p m x c.called.thread) (call_made p m x c at) (Some c.object)) end m m' x x' out out'

pub row-done : (p : Linked) (c : TextCalled) (end : EventEnd) (m m' : MachineState) (x x' : Texts) (out out' : List Record)
    → is_fit_text (text_moment p m x c.called.thread) (begins (text_moment p m x c.called.thread)) (arguments_of (text_moment p m x c.called.thread) c.called.count) c.object c.method ≡ true
    → AnswersText c.method p c end m m' x x' out out' → AnswersRow p c end m m' x x' out out'
row-done p c end m m' x x' out out' fits h = λ at same.
    let e = text_moment p m x c.called.thread in
    subst (λ (k : Outcome Kept). TextAnswers k end m m' x x' out out') (sym (ap (λ (b : Bool). ill_typed_unless e b (text_done e at (begins e) (arguments_of e c.called.count) c.object c.method)) fits)) (h at same)

pub row-refused : (p : Linked) (c : TextCalled) (end : EventEnd) (m : MachineState) (x : Texts) (out : List Record)
    → is_fit_text (text_moment p m x c.called.thread) (begins (text_moment p m x c.called.thread)) (arguments_of (text_moment p m x c.called.thread) c.called.count) c.object c.method ≡ false
    → end ≡ ends.IllTyped (unwrap_or (top m.guest c.called.thread).method 0) (top m.guest c.called.thread).pc → AnswersRow p c end m m x x out out
row-refused p c end m x out refused is = λ at same.
    let e = text_moment p m x c.called.thread in
    subst (λ (k : Outcome Kept). TextAnswers k end m m x x out out) (sym (ap (λ (b : Bool). ill_typed_unless e b (text_done e at (begins e) (arguments_of e c.called.count) c.object c.method)) refused))
    (ill-beside p m x c.called.thread end out is)
