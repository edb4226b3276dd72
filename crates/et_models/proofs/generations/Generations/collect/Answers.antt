use Rattle.std.proofs.Common.{arith}
use Rattle.et_models.specs.Generations.{both_of}
use Rattle.et_models.proofs.Stepping.{stable_low, promotes_low}
use Rattle.et_models.proofs.generations.Generations.collect.Goals as goal

pub promote-requires-clause-bytes : goal.promote-requires-clause-bytes
promote-requires-clause-bytes c = let s = c.requires.ready in let l = stable_low (both_of c.args.self.now) s.0 s.1 s.2 in let a = l.young in let b = l.all in omega (arith, a, b)

pub promote-requires-clause-minor : goal.promote-requires-clause-minor
promote-requires-clause-minor c = let s = c.requires.ready in let l = stable_low (both_of c.args.self.now) s.0 s.1 s.2 in let a = l.minor in omega (arith, a)

pub promote-requires-clause-kept : goal.promote-requires-clause-kept
promote-requires-clause-kept c = let s = c.requires.ready in let l = stable_low (both_of c.args.self.now) s.0 s.1 s.2 in let a = l.young in let b = l.all in let k = l.kept in let m = l.minor in omega (arith, a, b, k, m)

pub sweep-requires-clause-bytes : goal.sweep-requires-clause-bytes
sweep-requires-clause-bytes c = let s = c.requires.ready in let l = promotes_low (both_of c.args.self.now) (both_of c.promote.new.self) s.0 s.1 s.2 c.in_ok-promote.ensures in let a = l.old in omega (arith, a)

pub sweep-requires-clause-major : goal.sweep-requires-clause-major
sweep-requires-clause-major c = let s = c.requires.ready in let l = promotes_low (both_of c.args.self.now) (both_of c.promote.new.self) s.0 s.1 s.2 c.in_ok-promote.ensures in let a = l.major in omega (arith, a)

pub sweep-requires-clause-freed : goal.sweep-requires-clause-freed
sweep-requires-clause-freed c = let s = c.requires.ready in let l = promotes_low (both_of c.args.self.now) (both_of c.promote.new.self) s.0 s.1 s.2 c.in_ok-promote.ensures in let a = l.all in omega (arith, a)
