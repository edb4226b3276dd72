use Rattle.std.proofs.Common.{◌≡◌, ◌∙◌, sym, true, false, get_or}
use Rattle.et_models.specs.Tables.{flag_at}
use Rattle.et_models.proofs.Marking.{seed_all, seed_marks, seed_done, seed_skips}
use Rattle.et_models.proofs.marks.seed.Goals.{then-not-flag_at+in_ok-mark, else-not-flag_at}
use Rattle.et_models.proofs.marks.seed.Goals as goal

pub loop-object-preserved : goal.loop-object-preserved
loop-object-preserved c =
    let s = c.loop-object in
    let nursery = c.args.nursery.now in
    let dead = c.args.dead.now in
    elim c.if-not-flag_at.branch [
      | then-not-flag_at+in_ok-mark w ↦
          let lives : flag_at dead (get_or nursery s.object-index 0) ≡ false = sym c.flag_at.ensures ∙ w.if-not-flag_at.true in
          let m = w.in_ok-mark.ensures in
          rw (w.places-is, w.work-is) (record {
            marks = seed_marks nursery dead c.args.places.now c.args.work.now.items s.places s.work.items w.mark.new.places w.mark.new.work.items s.object-index c.loop-object-test.true lives s.invariant.marks m.0;
            done = seed_done nursery dead s.places s.work.items w.mark.new.places w.mark.new.work.items s.object-index s.invariant.done m.0 m.1;
          })
      | else-not-flag_at w ↦
          let is : flag_at dead (get_or nursery s.object-index 0) ≡ true = sym c.flag_at.ensures ∙ w.if-not-flag_at.false in
          rw (w.places-is, w.work-is) (record { marks = s.invariant.marks; done = seed_skips nursery dead s.places s.object-index is s.invariant.done })
    ]

pub returns : goal.returns
returns c = (c.loop-object.invariant.marks, seed_all c.args.nursery.now c.args.dead.now c.loop-object.places c.loop-object.object-index c.loop-object-test.false c.loop-object.invariant.done)
