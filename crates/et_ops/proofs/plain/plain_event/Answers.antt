use Rattle.std.proofs.Common.{Option, Some, refl, subst}
use Rattle.et_event.specs.Answered.{EventAnswers}
use Rattle.et_event.specs.Moments.{Moment, moment}
use Rattle.et_event.specs.Plain.{constant}
use Rattle.et_event.specs.Sites.{Site, AString, LoadedConstant}
use Rattle.et_event.proofs.Answering.{if_ok}
use Rattle.et_event.proofs.SiteAnswers.{same_site}
use Rattle.et_ops.proofs.Ending.{divides_by_zero, loads_string}
use Rattle.et_ops.proofs.plain.plain_event.Goals as goal

pub returns-in-Some-clause-ok : goal.returns-in-Some-clause-ok
returns-in-Some-clause-ok c =
    let at : Site = c.args.place.now.site in
    let loads = c.in-Some.ensures.some in
    let e : Moment = moment c.args.program.now c.plain_done.new.machine c.args.thread in
    let loaded : Option LoadedConstant = Some (AString c.in-Some.bytes.now) in
    let same = same_site at at.instr c.next.result at.code refl c.next.ensures refl in
    if_ok c.string_event.result
    (λ end h. loads_string c.args.program.now c.args.machine.now c.plain_done.new.machine c.string_event.new.machine c.args.thread at c.args.place.now.row c.in-Some.bytes.now end c.args.out.now c.string_event.new.out c.in-More.ensures.1 loads.0 loads.1
    (subst (λ (s : Site). EventAnswers (constant e s loaded) end c.plain_done.new.machine c.string_event.new.machine c.args.out.now c.string_event.new.out) same (h at.instr at.code at.pool at.class)))
    c.string_event.ensures.ok

pub returns-in-None-clause-ok : goal.returns-in-None-clause-ok
returns-in-None-clause-ok c =
    let divides = c.in-None.ensures.none in
    if_ok c.throw_error.result
    (λ end h. divides_by_zero c.args.program.now c.args.machine.now c.plain_done.new.machine c.throw_error.new.machine c.args.thread c.args.place.now.site c.args.place.now.row divides.0 divides.1 end c.args.out.now c.throw_error.new.out c.in-More.ensures.1 divides.2 c.in-More.ensures.0 h)
    c.throw_error.ensures.ok
