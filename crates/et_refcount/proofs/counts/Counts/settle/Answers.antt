use Rattle.std.proofs.Common.{arith}
use Rattle.et_refcount.specs.Counts.{view_of}
use Rattle.et_refcount.specs.Objects.{tables_of}
use Rattle.et_refcount.proofs.Standing.{ready_low, freed_low, settles}
use Rattle.et_refcount.proofs.counts.Counts.settle.Goals as goal

pub free_from-requires-clause-fits : goal.free_from-requires-clause-fits
free_from-requires-clause-fits c = let s = c.requires.ready in let l = ready_low (view_of c.args.self.now) c.args.object s.0 s.1 s.2 s.3 in let w = l.weight in let b = l.bytes in omega (arith, w, b)

pub overflow_sub-self : goal.overflow_sub-self
overflow_sub-self c = let s = c.requires.ready in (freed_low (view_of c.args.self.now) (tables_of c.free_from.new.objects) c.args.object s.0 s.1 s.2 c.in_ok-freed.freed s.3 c.in_ok-freed.ensures).bytes

pub overflow_sub-self-2 : goal.overflow_sub-self-2
overflow_sub-self-2 c = let s = c.requires.ready in let e = c.from.ensures in let low = (freed_low (view_of c.args.self.now) (tables_of c.free_from.new.objects) c.args.object s.0 s.1 s.2 c.in_ok-freed.freed s.3 c.in_ok-freed.ensures).leaked in omega (arith, e, low)

pub overflow_add-self : goal.overflow_add-self
overflow_add-self c = let s = c.requires.ready in let low = (freed_low (view_of c.args.self.now) (tables_of c.free_from.new.objects) c.args.object s.0 s.1 s.2 c.in_ok-freed.freed s.3 c.in_ok-freed.ensures).freed in omega (arith, low)

pub returns : goal.returns
returns c = rw c.from.ensures (settles (view_of c.args.self.now) (tables_of c.free_from.new.objects) c.args.object c.in_ok-freed.freed c.in_ok-freed.ensures)
