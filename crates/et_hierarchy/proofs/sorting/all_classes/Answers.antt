use Rattle.std.proofs.Common.{rules, arith}
use Rattle.et_hierarchy.proofs.Sortings.{number_more, numbers_within, numbers_all}
use Rattle.et_hierarchy.proofs.sorting.all_classes.Goals as goal

pub loop-class-preserved : goal.loop-class-preserved
loop-class-preserved c = record {
  size = search rules;
  numbers = number_more _ _ _ c.loop-class.invariant.size c.loop-class.invariant.numbers c.in_ok-push.ensures.items;
}

pub returns-clause-within : goal.returns-clause-within
returns-clause-within c = numbers_within _ _ c.args.count c.loop-class.invariant.size (omega arith) c.loop-class.invariant.numbers

pub returns-clause-all : goal.returns-clause-all
returns-clause-all c = numbers_all _ _ c.args.count c.loop-class.invariant.size (omega arith) c.loop-class.invariant.numbers
