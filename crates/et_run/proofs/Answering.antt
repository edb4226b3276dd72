-- What an event call answers, as the run asks it.
use Rattle.std.proofs.Common.{◌≡◌, ℕ, ◌+◌, Result, Ok, Err, List, sym, ap, subst, ◌∙◌}
use Rattle.std.specs.Prelude.{All, IfOk, OnOk}
use Rattle.std.proofs.lemmas.List.Elements.{All-append}
use Rattle.et_program.specs.Entries.{Linked}
use Rattle.et_state.specs.Roots.{graph_of, fresh_of}
use Rattle.et_state.specs.State.{GuestState, Kept, MachineState, kept_of}
use Rattle.et_state.specs.Words.{IsUnended}
use Rattle.et_state.specs.declared.records.Record.{Record}
use Rattle.et_state.specs.declared.ends.EventEnd.{EventEnd}
use Rattle.et_state.specs.declared.ends.EventEnd.TheVariants as ends
use Rattle.et_state.specs.Answers.{Answers, TicksWhereDone}
use Rattle.et_state.specs.Naming.{IsNamed}
use Rattle.et_state.specs.Outcome.{Outcome}
use Rattle.et_state.specs.Outcome as outcome
use Rattle.et_event.specs.Answered.{TextAnswers}
use Rattle.et_loop.specs.Kept.{IsStepTo}
use Rattle.et_loop.specs.Stamping.{StepsWhereDone}
use Rattle.et_state.specs.Moves.{Led}
use Rattle.et_state.specs.Spoken.{spoken, silent}
use Rattle.et_state.specs.Texts.{Texts}
use Rattle.et_history.specs.steps.Telling.{IsToldOf, names_of_program}
use Rattle.et_history.specs.steps.Changing.{LeadsTo}

-- the state of a machine and its texts, where both are those of a state
stands : (next : Kept) (m : MachineState) (x : Texts) → kept_of m ≡ silent next → x ≡ next.guest.texts → spoken x (kept_of m) ≡ next
stands next m x kept texts = ap (λ (k : Kept). spoken x k) kept ∙ ap (λ (y : Texts). spoken y (silent next)) texts

-- .. or those that were there
still : (m m' : MachineState) (x x' : Texts) → m' ≡ m → x' ≡ x → spoken x' (kept_of m') ≡ spoken x (kept_of m)
still m m' x x' same texts = ap (λ (y : MachineState). spoken x' (kept_of y)) same ∙ ap (λ (y : Texts). spoken y (kept_of m)) texts

led_steps : (s n : Kept) (m : MachineState) → Led s n m → IsStepTo (graph_of s) (graph_of (kept_of m)) m.lost
led_steps s n m led = subst (λ (k : Kept). IsStepTo (graph_of s) (graph_of k) m.lost) (sym led.kept) (fresh_of s n, led.event.legal)

pub answers : (o : Outcome Kept) (end : EventEnd) (m m' : MachineState) (x x' : Texts) (out out' : List Record) → TextAnswers o end m m' x x' out out' → Answers o end (spoken x (kept_of m)) (spoken x' (kept_of m')) out out'
answers (outcome.Goes next records) ends.Done m m' x x' out out' h = (stands next m' x' h.0.kept h.1, h.2)
answers (outcome.Waits next) ends.Waited m m' x x' out out' h = (stands next m' x' h.0.kept h.1, h.2)
answers (outcome.IllTyped method pc) (ends.IllTyped named at) m m' x x' out out' h = (h.0, h.1, still m m' x x' h.2 h.3, h.4)
answers outcome.ObjectLimit ends.ObjectLimit m m' x x' out out' h = (still m m' x x' h.0 h.1, h.2)
answers _ _ m m' x x' out out' h = absurd h

pub steps : (o : Outcome Kept) (end : EventEnd) (m m' : MachineState) (x x' : Texts) (out out' : List Record) → TextAnswers o end m m' x x' out out' → StepsWhereDone end (graph_of (spoken x (kept_of m))) (graph_of (spoken x' (kept_of m'))) m'.lost
steps (outcome.Goes next records) ends.Done m m' x x' out out' h = led_steps (kept_of m) (silent next) m' h.0
steps (outcome.Waits next) ends.Waited m m' x x' out out' h = led_steps (kept_of m) (silent next) m' h.0
steps (outcome.IllTyped method pc) (ends.IllTyped named at) m m' x x' out out' h = tt
steps outcome.ObjectLimit ends.ObjectLimit m m' x x' out out' h = tt
steps _ _ m m' x x' out out' h = absurd h

clock_is : (n next : Kept) (m : MachineState) → kept_of m ≡ silent next → next.guest.clock ≡ n.guest.clock + 1 → m.guest.clock ≡ n.guest.clock + 1
clock_is n next m same is = ap (λ (k : Kept). k.guest.clock) same ∙ is

pub ticks : (p : Linked) (o : Outcome Kept) (end : EventEnd) (m m' : MachineState) (x x' : Texts) (out out' : List Record) → IsToldOf p (spoken x (kept_of m)) o → TextAnswers o end m m' x x' out out' → TicksWhereDone end m.guest.clock m'.guest.clock
ticks p (outcome.Goes next records) ends.Done m m' x x' out out' told h = clock_is (kept_of m) next m' h.0.kept told.0
ticks p (outcome.Waits next) ends.Waited m m' x x' out out' told h = clock_is (kept_of m) next m' h.0.kept told
ticks p (outcome.IllTyped method pc) (ends.IllTyped named at) m m' x x' out out' told h = tt
ticks p outcome.ObjectLimit ends.ObjectLimit m m' x x' out out' told h = tt
ticks p _ _ m m' x x' out out' told h = absurd h

pub named : (p : Linked) (o : Outcome Kept) (end : EventEnd) (m m' : MachineState) (x x' : Texts) (out out' : List Record) → IsToldOf p (spoken x (kept_of m)) o → TextAnswers o end m m' x x' out out' → All (IsNamed (names_of_program p)) out → All (IsNamed (names_of_program p)) out'
named p (outcome.Goes next records) ends.Done m m' x x' out out' told h before = subst (λ (rs : List Record). All (IsNamed (names_of_program p)) rs) (sym h.2) (All-append (IsNamed (names_of_program p)) out records before told.1)
named p (outcome.Waits next) ends.Waited m m' x x' out out' told h before = subst (λ (rs : List Record). All (IsNamed (names_of_program p)) rs) (sym h.2) before
named p (outcome.IllTyped method pc) (ends.IllTyped there at) m m' x x' out out' told h before = subst (λ (rs : List Record). All (IsNamed (names_of_program p)) rs) (sym h.4) before
named p outcome.ObjectLimit ends.ObjectLimit m m' x x' out out' told h before = subst (λ (rs : List Record). All (IsNamed (names_of_program p)) rs) (sym h.2) before
named p _ _ m m' x x' out out' told h before = absurd h

-- what is left is sound, where the outcome is
pub leads_after : (P : Kept → Type 0) (o : Outcome Kept) (end : EventEnd) (m m' : MachineState) (x x' : Texts) (out out' : List Record) → P (spoken x (kept_of m)) → LeadsTo P o → TextAnswers o end m m' x x' out out' → P (spoken x' (kept_of m'))
leads_after P (outcome.Goes next records) ends.Done m m' x x' out out' before leads h = subst P (sym (stands next m' x' h.0.kept h.1)) leads
leads_after P (outcome.Waits next) ends.Waited m m' x x' out out' before leads h = subst P (sym (stands next m' x' h.0.kept h.1)) leads
leads_after P (outcome.IllTyped method pc) (ends.IllTyped named at) m m' x x' out out' before leads h = subst P (sym (still m m' x x' h.2 h.3)) before
leads_after P outcome.ObjectLimit ends.ObjectLimit m m' x x' out out' before leads h = subst P (sym (still m m' x x' h.0 h.1)) before
leads_after P _ _ m m' x x' out out' before leads h = absurd h

-- texts end no thread
pub unended_with : (guest : GuestState) (x : Texts) (t : ℕ) → IsUnended guest t → IsUnended (record guest { texts = x }) t
unended_with guest x t h = record { thread = h.thread; unended = h.unended }

-- what holds where a call was answered
pub on_ok : {A E : Type 0} (r : Result A E) (P : A → Type 0) (Q : Type 0) → IfOk r P → ((a : A) → P a → Q) → OnOk r Q
on_ok (Ok a) P Q h go = go a h
on_ok (Err e) P Q h go = tt

pub if_ok : {A E : Type 0} (r : Result A E) (P Q : A → Type 0) → IfOk r P → ((a : A) → P a → Q a) → IfOk r Q
if_ok (Ok a) P Q h go = go a h
if_ok (Err e) P Q h go = tt
