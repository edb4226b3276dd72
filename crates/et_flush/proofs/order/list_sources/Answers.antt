use Rattle.std.proofs.Common.{◌≡◌, ℕ, [], ◌∷◌, ◌++◌, length, get_or, ap, ◌∙◌, refl, arith}
use Rattle.std.proofs.lemmas.List.{length-append}
use Rattle.et_graph.specs.declared.objects.Death.{Death}
use Rattle.et_flush.proofs.Ordering.{sources_none, sources_hit, sources_miss, sources_all}
use Rattle.et_flush.proofs.order.list_sources.Goals as goal
use Rattle.et_flush.proofs.order.list_sources.Goals.{then-not-reached-i, else-not-reached-i}

pub loop-i-init : goal.loop-i-init
loop-i-init c = record {
  few = omega (arith, ap length c.clear.ensures.items);
  sources = sources_none c.args.times.now c.args.reached.now c.clear.new.self.items c.clear.ensures.items;
  room = omega (arith, c.clear.ensures.capacity);
}

pub push-requires : goal.push-requires
push-requires c = record { room = omega (arith, c.loop-i.order.ok.0, c.loop-i.invariant.few, c.loop-i.invariant.room, c.loop-i-test.true, c.requires.room) }

pub loop-i-preserved : goal.loop-i-preserved
loop-i-preserved c =
    let i : ℕ = c.loop-i.i in
    elim c.if-not-reached-i.branch [
      | then-not-reached-i w ↦
          let s : Death = record { object = w.new.result; time = get_or c.args.times.now i 0 } in
          let push : c.if-not-reached-i.order.items ≡ c.loop-i.order.items ++ s ∷ [] = ap (λ v. v.items) w.order-is ∙ w.push.ensures.items in
          record {
            few = omega (arith, ap length push, length-append c.loop-i.order.items (s ∷ []), c.loop-i.invariant.few);
            sources = sources_hit c.args.times.now c.args.reached.now i c.loop-i.order.items c.loop-i.invariant.sources c.if-not-reached-i.order.items s push w.new.ensures refl w.if-not-reached-i.true;
            room = rw w.order-is (omega (arith, w.push.ensures.grows, c.loop-i.invariant.room));
          }
      | else-not-reached-i w ↦
          rw w.order-is (record {
            few = omega (arith, c.loop-i.invariant.few);
            sources = sources_miss c.args.times.now c.args.reached.now i c.loop-i.order.items c.loop-i.invariant.sources w.if-not-reached-i.false;
            room = omega (arith, c.loop-i.invariant.room);
          })
    ]

pub returns-clause-sources : goal.returns-clause-sources
returns-clause-sources c = sources_all c.args.times.now c.args.reached.now c.loop-i.i c.loop-i.order.items c.loop-i.invariant.sources (omega (arith, c.loop-i-test.false))
