-- What an event answers that had no meaning.
use Rattle.std.proofs.Common.{◌≡◌, ℕ, List, refl, sym, ap, subst}
use Rattle.std.specs.Prelude.{unwrap_or, Result, Ok, Err, IfOk}
use Rattle.et_state.specs.State.{MachineState}
use Rattle.et_state.specs.Words.{top}
use Rattle.et_state.specs.declared.records.Record.{Record}
use Rattle.et_state.specs.declared.ends.EventEnd.{EventEnd}
use Rattle.et_state.specs.declared.ends.EventEnd.TheVariants as ends
use Rattle.et_program.specs.Entries.{Linked}
use Rattle.et_event.specs.Moments.{moment, ill_typed}
use Rattle.et_event.specs.Answered.{EventAnswers}

abbrev pub ill_typed_end : MachineState → ℕ → EventEnd
ill_typed_end m t = ends.IllTyped (unwrap_or (top m.guest t).method 0) (top m.guest t).pc

pub ill_typed_answers : (p : Linked) (t : ℕ) (m m' : MachineState) (out : List Record) (end : EventEnd) → m' ≡ m → end ≡ ill_typed_end m' t
    → EventAnswers (ill_typed (moment p m t)) end m m' out out
ill_typed_answers p t m m' out end same e =
    subst (λ (x : EventEnd). EventAnswers (ill_typed (moment p m t)) x m m' out out) (sym e)
    (ap (λ (z : MachineState). unwrap_or (top z.guest t).method 0) same, ap (λ (z : MachineState). (top z.guest t).pc) same, same, refl)

pub if_ok : {A E : Type 0} {P Q : A → Type 0} → (r : Result A E) → ((a : A) → P a → Q a) → IfOk r P → IfOk r Q
if_ok (Ok a) f h = f a h
if_ok (Err e) f h = tt
