use Rattle.std.proofs.Common.{◌∷◌, sym, subst, arith}
use Rattle.et_base.proofs.Options.{on_ok}
use Rattle.et_replay.specs.declared.item.Item.TheVariants.{Alloc}
use Rattle.et_replay.specs.Tally.{entered}
use Rattle.et_refcount.specs.Counts.{View, view_of, IsReady, Settles}
use Rattle.et_refcount.proofs.Noting.{placed_ready}
use Rattle.et_refcount.proofs.Standing.{heap_low, takes_none, takes_some}
use Rattle.et_refcount.proofs.counts.Counts.come.Goals as goal

pub overflow_add-self : goal.overflow_add-self
overflow_add-self c = let s = c.requires.ready in let low = (heap_low (view_of c.args.self.now) s.0 s.1 s.2 s.3).bytes in let small = s.4.small in let e = c.from.ensures in omega (arith, low, small, e)

pub returns-then-self-from : goal.returns-then-self-from
returns-then-self-from c = let t = c.if-self-from.true in let e = c.from.ensures in takes_none (view_of c.args.self.now) c.args.event c.args.object c.args.size (omega (arith, t, e))

pub settle-requires : goal.settle-requires
settle-requires c =
    let s = c.requires.ready in
    let item = Alloc c.args.event c.args.object c.args.size in
    record { ready = (s.0, item ∷ s.1, entered (item ∷ s.1) c.args.object s.2, subst (λ (u : View). IsReady u c.args.object s.0 (item ∷ s.1) (entered (item ∷ s.1) c.args.object s.2)) (sym c.place.ensures) (placed_ready (view_of c.args.self.now) s.0 s.1 s.2 c.args.event c.args.object c.args.size s.4 s.3)) }

pub returns : goal.returns
returns c =
    let f = c.if-self-from.false in let e = c.from.ensures in
    on_ok _ _ c.settle.result (λ st. takes_some (view_of c.args.self.now) (view_of c.settle.new.self) c.args.event c.args.object c.args.size (omega (arith, f, e)) (subst (λ (u : View). Settles u (view_of c.settle.new.self) c.args.object) c.place.ensures st)) c.settle.ensures
