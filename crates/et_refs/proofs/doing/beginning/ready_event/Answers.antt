use Rattle.std.proofs.Common.{ℕ, ◌∙◌, sym, subst, append-nil}
use Rattle.et_event.specs.Moments.{moment, begins}
use Rattle.et_refs.specs.Accesses.{Accesses}
use Rattle.et_refs.proofs.Carrying.{can_access, accessed_answers}
use Rattle.et_refs.proofs.Quiet.{begun_initialized}
use Rattle.et_refs.proofs.doing.beginning.ready_event.Goals as goal

pub carry_out-requires-clause-can : goal.carry_out-requires-clause-can
carry_out-requires-clause-can c =
    let p = c.args.program.now in
    let m = c.args.machine.now in
    let d = begins (moment p m c.args.thread) in
    can_access p c.args.thread m c.begin_event.new.self d c.args.wanted.now (begun_initialized p c.args.thread m c.requires.access.sound) c.requires.access.may
    (sym c.access_fits.ensures ∙ c.if-not-access_fits.false) c.begin_event.ensures

pub returns : goal.returns
returns c =
    let p = c.args.program.now in
    let m = c.args.machine.now in
    let d = begins (moment p m c.args.thread) in
    accessed_answers p c.args.thread c.args.place.now.site c.args.wanted.now m c.begin_event.new.self c.carry_out.new.machine d c.args.out.now c.args.out.now c.carry_out.new.out c.requires.access.sound.held c.requires.access.frame
    (begun_initialized p c.args.thread m c.requires.access.sound) c.requires.access.may (sym c.access_fits.ensures ∙ c.if-not-access_fits.false) c.begin_event.ensures (sym (append-nil c.args.out.now))
    (subst (λ (n : ℕ). Accesses p c.args.thread n c.args.wanted.now.class c.args.wanted.now.access c.begin_event.new.self c.carry_out.new.machine c.args.out.now c.carry_out.new.out) c.next.ensures c.in_ok-carry_out.ensures)
