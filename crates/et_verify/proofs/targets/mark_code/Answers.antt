use Rattle.std.proofs.Common.{◌≡◌, true, Some, sym, ◌∙◌, arith}
use Rattle.std.proofs.lemmas.List.{length-set}
use Rattle.et_code.specs.Decoding.{Fits}
use Rattle.et_code.proofs.Decoded.{decoded_fits}
use Rattle.et_code.proofs.Starting.{flags_more, flags_end}
use Rattle.et_verify.specs.Targets.{place_behind}
use Rattle.et_verify.proofs.Marked.{StandsBefore, stands_before, flags_end_there, marked_more}
use Rattle.et_verify.proofs.targets.mark_code.Goals as goal

pub loop-pc-preserved : goal.loop-pc-preserved
loop-pc-preserved c =
    let behind : Some c.in-Some.next ≡ place_behind c.args.code.now c.loop-pc.pc = sym c.in-Some.is ∙ c.in_ok-next.ensures.behind in
    let b : StandsBefore c.args.code.now c.loop-pc.pc c.in-Some.next = stands_before c.args.code.now c.loop-pc.pc c.in-Some.next behind in
    record {
      size = omega (arith, length-set c.loop-pc.starts.items c.loop-pc.pc true, c.loop-pc.invariant.size);
      flagged = flags_more c.args.code.now c.loop-pc.starts.items c.loop-pc.pc b.instr c.in-Some.next (omega arith) c.loop-pc.invariant.size b.is c.loop-pc.invariant.flagged;
      kept = λ q on. c.in_ok-next.ensures.kept q (c.loop-pc.invariant.kept q on);
      marked = marked_more c.args.code.now c.loop-pc.starts.items c.loop-pc.flags c.mark_targets.new.flags c.loop-pc.pc c.loop-pc.invariant.marked c.in_ok-next.ensures.kept (omega arith) c.in_ok-next.ensures.marked;
    }

pub loop-pc-smaller : goal.loop-pc-smaller
loop-pc-smaller c =
    let behind : Some c.in-Some.next ≡ place_behind c.args.code.now c.loop-pc.pc = sym c.in-Some.is ∙ c.in_ok-next.ensures.behind in
    let b : StandsBefore c.args.code.now c.loop-pc.pc c.in-Some.next = stands_before c.args.code.now c.loop-pc.pc c.in-Some.next behind in
    let fits : Fits c.args.code.now c.loop-pc.pc b.instr c.in-Some.next = decoded_fits c.args.code.now c.loop-pc.pc b.instr c.in-Some.next b.is in
    omega (arith, fits.advances, fits.within)

pub returns-in_default-clause-starts : goal.returns-in_default-clause-starts
returns-in_default-clause-starts c =
    flags_end_there c.args.code.now c.loop-pc.starts.items c.loop-pc.pc (omega arith) c.loop-pc.invariant.size (sym c.in_default.is ∙ c.in_ok-next.ensures.behind) c.loop-pc.invariant.flagged

pub returns-clause-starts : goal.returns-clause-starts
returns-clause-starts c = flags_end c.args.code.now c.loop-pc.starts.items c.loop-pc.pc (omega arith) c.loop-pc.invariant.flagged
