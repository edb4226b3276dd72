use Rattle.std.proofs.Common.{◌≡◌, ◌≤◌, ℕ, List, length, take, subst, arith}
use Rattle.std.proofs.lemmas.List.{take_all}
use Rattle.et_event.specs.Moments.{moment, begins}
use Rattle.et_event.specs.Initialization.{prepared}
use Rattle.et_initialize.specs.Texts.{CountedAll}
use Rattle.et_initialize.proofs.Preparing.{counted_more}
use Rattle.et_initialize.proofs.limits.Count.count_prepared.Goals as goal

pub loop-k-preserved : goal.loop-k-preserved
loop-k-preserved c = record {
  within = c.in_ok-count_quiet.ensures.within;
  counted = λ thread ready none.
      counted_more c.args.self.now.program.now c.args.self.now.machine.now thread c.args.classes.now c.loop-k.k c.index-classes-k.result c.loop-k.seen.items c.count_quiet.new.seen.items c.requires.program c.requires.all ready c.requires.counts.classes
      c.loop-k-test.true c.index-classes-k.is c.in_ok-count_quiet.ensures.counted c.in_ok-count_quiet.ensures.other (c.loop-k.invariant.counted thread ready none);
}

pub returns-clause-counted : goal.returns-clause-counted
returns-clause-counted c =
    let list = c.args.classes.now in
    let all : length list ≤ c.loop-k.k = omega (arith, c.loop-k-test.false) in
    let is : take c.loop-k.k list ≡ list = take_all c.loop-k.k list all in
    λ thread ready none.
    let e = moment c.args.self.now.program.now c.args.self.now.machine.now thread in
    subst (λ (ks : List ℕ). CountedAll c.args.self.now.program.now c.args.self.now.machine.now c.loop-k.seen.items (prepared e ks (begins e))) is (c.loop-k.invariant.counted thread ready none)
