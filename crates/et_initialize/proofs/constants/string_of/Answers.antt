use Rattle.std.proofs.Common.{◌≡◌, ℕ, None, length, sym, ap, ◌∙◌}
use Rattle.std.specs.Prelude.{codes}
use Rattle.et_state.proofs.Interned.{no_text}
use Rattle.et_heap.specs.Objects.{has_room}
use Rattle.et_state.specs.Interned.{interned_text}
use Rattle.et_state.specs.State.{MachineState}
use Rattle.et_program.specs.Entries.{class_at}
use Rattle.et_event.specs.Errors.{class_called}
use Rattle.et_event.specs.Moments.{Doing, Moment, moment, fits_heap}
use Rattle.et_event.proofs.Making.{fits_made}
use Rattle.et_event.specs.Telling.{so_far}
use Rattle.et_initialize.proofs.Strings.{makes, made_string}
use Rattle.et_initialize.proofs.constants.string_of.Goals as goal

pub add_instance-requires : goal.add_instance-requires
add_instance-requires c =
    let p = c.args.program.now in
    let m = c.args.machine.now in
    let e : Moment = moment p m c.args.thread in
    let class : ℕ = class_called p (codes "java/lang/String") in
    ap (λ (k : ℕ). has_room m.heap 1 (class_at p k).info.slots) c.class_called-class.ensures.value
    ∙ (sym (fits_made m.heap class 0 (class_at p class).info.slots) ∙ (ap (λ (d : Doing). fits_heap d.state.heap) (sym (makes e c.args.bytes.now (so_far m c.args.out.now) (sym c.interned.ensures ∙ c.in-None.is))) ∙ c.requires.fits))

pub intern-requires-clause-object : goal.intern-requires-clause-object
intern-requires-clause-object c =
    let m = c.args.machine.now in
    let none : interned_text m.guest.interned (length m.heap) ≡ None = no_text (length m.heap) m.guest.interned c.requires.made in
    ap (λ (n : MachineState). interned_text n.guest.interned c.in_ok-object-in-None.object) c.in_ok-object-in-None.ensures.made.0
    ∙ (ap (λ (o : ℕ). interned_text m.guest.interned o) c.in_ok-object-in-None.ensures.object ∙ none)

pub returns-in_ok-intern-in-None-clause-object : goal.returns-in_ok-intern-in-None-clause-object
returns-in_ok-intern-in-None-clause-object c =
    let m = c.args.machine.now in
    made_string (moment c.args.program.now m c.args.thread) c.args.bytes.now (so_far m c.args.out.now) c.in_ok-object-in-None.object (sym c.interned.ensures ∙ c.in-None.is) c.in_ok-object-in-None.ensures.object
