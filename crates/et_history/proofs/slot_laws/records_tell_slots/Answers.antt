use Rattle.std.proofs.Common.{suc, ◌+◌, ◌≡◌, arith}
use Rattle.et_history.proofs.Slots.{out_told, records_are_of, slots_told, unreached_on}
use Rattle.et_history.proofs.slot_laws.records_tell_slots.Goals as goal

pub returns-clause-told : goal.returns-clause-told
returns-clause-told c reached p options pick e o i up plain cause place other = slots_told reached p options pick up.is plain cause e o i up.comes place other

pub returns-clause-out : goal.returns-clause-out
returns-clause-out c reached p options pick e i up plain cause is = out_told reached p options pick up.is plain cause e i up.comes is

pub returns-clause-events : goal.returns-clause-events
returns-clause-events c reached p options pick e up plain = records_are_of reached p options pick up.is plain e up.comes

pub returns-clause-unreached : goal.returns-clause-unreached
returns-clause-unreached c reached p options pick e o i up some within out =
    let one : suc e ≡ e + 1 = omega arith in
    unreached_on reached p options pick up.is e (e + 1) o i one (λ k lt. up.comes k (omega (arith, lt))) some within out
