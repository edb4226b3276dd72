use Rattle.std.proofs.Common.{append-nil, refl, sym, subst}
use Rattle.et_event.proofs.Answering.{if_ok}
use Rattle.et_program.specs.BootTexts.TextMethod.{TextMethod}
use Rattle.et_program.specs.BootTexts.TextMethod.TheVariants.{Begin, Print, PrintLine, EndLine}
use Rattle.et_strings.specs.Calls.{AnswersText}
use Rattle.et_strings.proofs.Saying.{answers-row, prints-row}
use Rattle.et_strings.proofs.rows.row_event.Goals as goal

pub returns-in-Length-clause-event : goal.returns-in-Length-clause-event
returns-in-Length-clause-event g c =
    subst (λ (k : TextMethod). AnswersText k c.args.program.now c.args.call.now c.length_event.result c.args.machine.now c.length_event.new.machine c.args.texts.now c.args.texts.now c.args.out.now.records c.args.out.now.records) (sym c.in-Length.is)
    (c.length_event.ensures c.args.program.now c.args.out.now.records)

pub returns-in-Begin-clause-event : goal.returns-in-Begin-clause-event
returns-in-Begin-clause-event g c =
    answers-row c.args.program.now c.args.machine.now c.begin_event.new.machine c.args.texts.now c.begin_event.new.texts c.args.call.now Begin c.begin_event.result c.args.out.now.records c.in-Begin.is c.begin_event.ensures

pub returns-in-Print-clause-event : goal.returns-in-Print-clause-event
returns-in-Print-clause-event g c =
    answers-row c.args.program.now c.args.machine.now c.print_event.new.machine c.args.texts.now c.args.texts.now c.args.call.now (Print c.in-Print.kind) c.print_event.result c.args.out.now.records c.in-Print.is c.print_event.ensures.event

pub returns-in-Print-clause-said : goal.returns-in-Print-clause-said
returns-in-Print-clause-said g c =
    prints-row c.args.program.now c.args.machine.now c.print_event.new.machine c.args.texts.now c.args.call.now (Print c.in-Print.kind) c.print_event.result c.args.out.now.said.items c.print_event.new.said.items _ c.in-Print.is c.requires.answers.call c.print_event.ensures.event (append-nil _) c.print_event.ensures.said

pub returns-in-PrintLine-clause-event : goal.returns-in-PrintLine-clause-event
returns-in-PrintLine-clause-event g c =
    answers-row c.args.program.now c.args.machine.now c.print_event-in-PrintLine.new.machine c.args.texts.now c.args.texts.now c.args.call.now (PrintLine c.in-PrintLine.kind) c.print_event-in-PrintLine.result c.args.out.now.records c.in-PrintLine.is c.print_event-in-PrintLine.ensures.event

pub returns-in-PrintLine-clause-said : goal.returns-in-PrintLine-clause-said
returns-in-PrintLine-clause-said g c =
    prints-row c.args.program.now c.args.machine.now c.print_event-in-PrintLine.new.machine c.args.texts.now c.args.call.now (PrintLine c.in-PrintLine.kind) c.print_event-in-PrintLine.result c.args.out.now.said.items c.print_event-in-PrintLine.new.said.items _ c.in-PrintLine.is c.requires.answers.call c.print_event-in-PrintLine.ensures.event refl c.print_event-in-PrintLine.ensures.said

pub returns-in-EndLine-clause-event : goal.returns-in-EndLine-clause-event
returns-in-EndLine-clause-event g c =
    answers-row c.args.program.now c.args.machine.now c.end_line_event.new.machine c.args.texts.now c.args.texts.now c.args.call.now EndLine c.end_line_event.result c.args.out.now.records c.in-EndLine.is (if_ok c.end_line_event.result (λ end h p out. h p c.args.texts.now out) c.end_line_event.ensures.event)

pub returns-in-EndLine-clause-said : goal.returns-in-EndLine-clause-said
returns-in-EndLine-clause-said g c =
    prints-row c.args.program.now c.args.machine.now c.end_line_event.new.machine c.args.texts.now c.args.call.now EndLine c.end_line_event.result c.args.out.now.said.items c.end_line_event.new.said.items _ c.in-EndLine.is c.requires.answers.call (if_ok c.end_line_event.result (λ end h p out. h p c.args.texts.now out) c.end_line_event.ensures.event) refl c.end_line_event.ensures.said
