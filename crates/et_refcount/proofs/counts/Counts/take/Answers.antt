use Rattle.std.proofs.Common.{◌∷◌, sym, subst}
use Rattle.et_base.proofs.Options.{on_ok}
use Rattle.et_replay.specs.declared.item.Item.{Item}
use Rattle.et_replay.specs.declared.item.Item.TheVariants.{Write, Death}
use Rattle.et_replay.specs.Tally.{written}
use Rattle.et_refcount.specs.Counts.{View, view_of, IsReady, Settles, TakesItem}
use Rattle.et_refcount.proofs.Noting.{written_ready, ended_ready}
use Rattle.et_refcount.proofs.Standing.{takes_write, takes_death}
use Rattle.et_refcount.proofs.counts.Counts.take.Goals as goal

pub settle-requires : goal.settle-requires
settle-requires c =
    let s = c.requires.ready in
    let w = c.in-Write in
    record { ready = (s.0, Write w.event w.object w.slot w.new ∷ s.1, written w.object w.slot w.new s.2, written_ready (view_of c.args.self.now) (view_of c.write.new.self) s.0 s.1 s.2 w.event w.object w.slot w.new c.in_ok-old-in-Write.old s.3 c.in_ok-old-in-Write.ensures) }

pub settle-requires-in-Death : goal.settle-requires-in-Death
settle-requires-in-Death c =
    let s = c.requires.ready in
    let d = c.in-Death in
    record { ready = (s.0, Death d.object d.time ∷ s.1, s.2, subst (λ (u : View). IsReady u d.object s.0 (Death d.object d.time ∷ s.1) s.2) (sym c.end.ensures) (ended_ready (view_of c.args.self.now) s.0 s.1 s.2 d.object d.time s.3)) }

pub returns-in_ok-old-in-Write : goal.returns-in_ok-old-in-Write
returns-in_ok-old-in-Write c =
    let w = c.in-Write in
    on_ok _ _ c.settle.result (λ st. subst (λ (i : Item). TakesItem i (view_of c.args.self.now) (view_of c.settle.new.self)) (sym w.is) (takes_write (view_of c.args.self.now) (view_of c.write.new.self) (view_of c.settle.new.self) w.event w.object w.slot w.new c.in_ok-old-in-Write.old c.in_ok-old-in-Write.ensures st)) c.settle.ensures

pub returns-in-Death : goal.returns-in-Death
returns-in-Death c =
    let d = c.in-Death in
    on_ok _ _ c.settle-in-Death.result (λ st. subst (λ (i : Item). TakesItem i (view_of c.args.self.now) (view_of c.settle-in-Death.new.self)) (sym d.is) (takes_death (view_of c.args.self.now) (view_of c.settle-in-Death.new.self) d.object d.time (subst (λ (u : View). Settles u (view_of c.settle-in-Death.new.self) d.object) c.end.ensures st))) c.settle-in-Death.ensures
