use Rattle.std.proofs.Common.{ℕ, List, ◌+◌, subst, sym}
use Rattle.et_refcount.specs.Objects.{tables_of, IsFreeing}
use Rattle.et_refcount.proofs.Freeing.{frees}
use Rattle.et_refcount.proofs.objects.free_all.Goals as goal

pub loop-object-preserved : goal.loop-object-preserved
loop-object-preserved c =
    let s = c.loop-object in
    let before = subst (λ (w : List ℕ). IsFreeing (tables_of c.args.objects.now) (tables_of s.objects) w s.freed) c.in-Some.ensures.items s.invariant in
    let next = frees (tables_of c.args.objects.now) (tables_of s.objects) (tables_of c.free.new.objects) c.pop.new.self.items c.free.new.work.items c.in-Some.object c.in_ok-free.field-0 s.freed before c.in_ok-free.ensures in
    subst (λ (n : ℕ). IsFreeing (tables_of c.args.objects.now) (tables_of c.free.new.objects) c.free.new.work.items (s.freed + n)) (sym c.from.ensures) next
