use Rattle.std.proofs.Common.{◌∙◌, List, get_or, ap, arith}
use Rattle.std.specs.List.{flat_map}
use Rattle.std.proofs.lemmas.List.{take_all}
use Rattle.et_replay.specs.Seats.{Told, told_line}
use Rattle.et_replay.proofs.Seating.{no_policy, at_told, text_more}
use Rattle.et_replay.proofs.replaying.text_of.Goals as goal

pub report_of-requires : goal.report_of-requires
report_of-requires g c =
    let r = c.requires in
    let p = get_or r.0 c.loop-seat.seat-index no_policy in
    (p.0, p.1, r.1, at_told _ c.args.seats.now r.0 c.loop-seat.seat-index c.seat-item.result c.seat-item.is c.loop-seat-test.true r.2)

pub loop-seat-preserved : goal.loop-seat-preserved
loop-seat-preserved g c = λ reached decides told past z.
    (let i = c.loop-seat.seat-index in
    let p = get_or told i no_policy in
    let long = z.as_long in
    let lt = c.loop-seat-test.true in
    text_more reached past told i c.loop-seat.text.items c.push_line.new.text.items c.report_of.result (omega (arith, long, lt)) (c.loop-seat.invariant reached decides told past z)
    (c.report_of.ensures reached decides p.0 p.1 past (at_told _ c.args.seats.now told i c.seat-item.result c.seat-item.is lt z)) c.in_ok-push_line.ensures)

pub returns : goal.returns
returns g c = λ reached decides told past z.
    (let long = z.as_long in
    let end = c.loop-seat-test.false in
    c.loop-seat.invariant reached decides told past z ∙ ap (λ (t : List Told). flat_map (told_line reached past) t) (take_all c.loop-seat.seat-index told (omega (arith, long, end))))
