use Rattle.std.proofs.Common.{ℕ, ◌∙◌, ap, refl, Some, None, Result}
use Rattle.et_state.specs.State.{kept_of}
use Rattle.et_state.specs.Words.{top}
use Rattle.et_code.specs.declared.instr.Instr.{Instr}
use Rattle.et_code.specs.declared.instr.CodeFault.{CodeFault}
use Rattle.et_event.specs.Families.{row_at}
use Rattle.et_event.specs.Sites.{decoded_at}
use Rattle.et_event.proofs.FamilyTurns.{family_here}
use Rattle.et_event.proofs.SiteAnswers.{if_some, if_none, found_there, none_there, at_place, at_none}
use Rattle.et_event.proofs.places.place_of.Goals as goal

pub returns-clause-found : goal.returns-clause-found
returns-clause-found c = found_there c.args.program.now (top c.args.machine.now.guest c.args.thread) c.find_place.result c.find_place.ensures

pub returns-clause-none : goal.returns-clause-none
returns-clause-none c = none_there c.args.program.now (top c.args.machine.now.guest c.args.thread) c.find_place.result c.find_place.ensures

pub returns-clause-event : goal.returns-clause-event
returns-clause-event c =
    if_some c.find_place.result
    (λ place is. at_place c.args.program.now (kept_of c.args.machine.now) c.args.thread place is (c.instruction.ensures.row c.args.program.now (kept_of c.args.machine.now) c.args.thread (place.site.instr, place.site.next) place.row c.requires.turn is.decoded is.row))
    (found_there c.args.program.now (top c.args.machine.now.guest c.args.thread) c.find_place.result c.find_place.ensures)

pub returns-clause-no_event : goal.returns-clause-no_event
returns-clause-no_event c =
    let p = c.args.program.now in
    let s = kept_of c.args.machine.now in
    let t = c.args.thread in
    if_none c.find_place.result (λ e. at_none p s t (λ x d r. c.instruction.ensures.no_row p s t x c.requires.turn d r) (λ fault d. c.instruction.ensures.end p s t fault c.requires.turn d) (decoded_at p (top s.guest t)) refl e) (none_there p (top s.guest t) c.find_place.result c.find_place.ensures)

pub returns-clause-family : goal.returns-clause-family
returns-clause-family c =
    if_some c.find_place.result
    (λ place is. family_here c.args.program.now (kept_of c.args.machine.now) c.args.thread (Some place.row) c.requires.turn (ap (λ (d : Result (Instr × ℕ) CodeFault). row_at d) is.decoded ∙ is.row))
    (found_there c.args.program.now (top c.args.machine.now.guest c.args.thread) c.find_place.result c.find_place.ensures)

pub returns-clause-no_family : goal.returns-clause-no_family
returns-clause-no_family c =
    if_none c.find_place.result
    (λ e. family_here c.args.program.now (kept_of c.args.machine.now) c.args.thread None c.requires.turn e)
    (none_there c.args.program.now (top c.args.machine.now.guest c.args.thread) c.find_place.result c.find_place.ensures)
