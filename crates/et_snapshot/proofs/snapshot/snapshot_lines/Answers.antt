use Rattle.std.proofs.Common.{◌∙◌, ℕ, List, length, sym, ap, subst}
use Rattle.std.specs.Prelude.{All}
use Rattle.std.specs.declared.vec.Vec.{Vec}
use Rattle.std.specs.declared.alloc.Global.{Global}
use Rattle.et_base.proofs.Options.{on_any_err}
use Rattle.et_io.proofs.Taking.{none_put}
use Rattle.et_snapshot.specs.Snapshot.{snapshot_text}
use Rattle.et_snapshot.specs.declared.objects.Entry.{Entry}
use Rattle.et_snapshot.specs.declared.totals.Total.{Total}
use Rattle.et_snapshot.specs.Heap.{objects_of, HasClass}
use Rattle.et_snapshot.proofs.Wholes.{object_text_is, class_text_is, stops_at_statics, stops_at_objects, stops_at_classes, whole_put, whole_stops}
use Rattle.et_snapshot.proofs.snapshot.snapshot_lines.Goals as goal

pub put_objects-requires : goal.put_objects-requires
put_objects-requires g c =
    let r = c.in-Ok.field-0 in
    record {
      classes =
          subst (λ (es : List Entry). All (HasClass (length c.deref.result.now)) (objects_of es)) (sym c.deref-2.ensures.value)
          (subst (λ (n : ℕ). All (HasClass n) (objects_of r.heap.objects.items)) (sym (ap (λ (l : List (Vec ℕ Global)). length l) c.deref.ensures.value)) c.in-Ok.ensures.classed);
    }

pub put_classes-requires : goal.put_classes-requires
put_classes-requires g c =
    record { each = ap (λ (l : List Total). length l) c.deref-4.ensures.value ∙ (c.in-Ok.ensures.as_many ∙ sym (ap (λ (l : List (Vec ℕ Global)). length l) c.deref-3.ensures.value)) }

pub returns-clause-ok : goal.returns-clause-ok
returns-clause-ok g c =
    let r = c.in-Ok.field-0 in
    whole_put c.args.trace.now c.args.event r.heap r.totals.items r.all c.in-Ok.ensures c.new-text.result.items c.put_head.new.text.items c.new-text.ensures.items c.in-Ok-put_head.ensures (g.O.Sink.taken c.args.sink.now) (g.O.Sink.taken c.put_slots.new.sink)
    c.put_slots.new.text.items _ (object_text_is r.heap c.deref.result.now c.deref-2.result.now c.deref.ensures.value c.deref-2.ensures.value) c.in_ok-put_slots.ensures.ok (g.O.Sink.taken c.put_objects.new.sink)
    c.put_objects.new.text.items _ (class_text_is r.heap r.totals.items c.deref-3.result.now c.deref-4.result.now c.deref-3.ensures.value c.deref-4.ensures.value) c.in_ok-put_objects.ensures.ok (g.O.Sink.taken c.put_classes.new.sink)
    c.put_classes.new.text.items c.as_slice.result.now (g.O.Sink.taken c.put_all.new.sink) c.put_all.result c.in_ok-put_classes.ensures.ok c.as_slice.ensures.value c.put_all.ensures.ok

pub returns-clause-err : goal.returns-clause-err
returns-clause-err g c =
    let r = c.in-Ok.field-0 in
    whole_stops c.args.trace.now c.args.event r.heap r.totals.items r.all c.in-Ok.ensures c.new-text.result.items c.put_head.new.text.items c.new-text.ensures.items c.in-Ok-put_head.ensures (g.O.Sink.taken c.args.sink.now) (g.O.Sink.taken c.put_slots.new.sink)
    c.put_slots.new.text.items _ (object_text_is r.heap c.deref.result.now c.deref-2.result.now c.deref.ensures.value c.deref-2.ensures.value) c.in_ok-put_slots.ensures.ok (g.O.Sink.taken c.put_objects.new.sink)
    c.put_objects.new.text.items _ (class_text_is r.heap r.totals.items c.deref-3.result.now c.deref-4.result.now c.deref-3.ensures.value c.deref-4.ensures.value) c.in_ok-put_objects.ensures.ok (g.O.Sink.taken c.put_classes.new.sink)
    c.put_classes.new.text.items c.as_slice.result.now (g.O.Sink.taken c.put_all.new.sink) c.put_all.result c.in_ok-put_classes.ensures.ok c.as_slice.ensures.value c.put_all.ensures.err

pub returns-in_default-clause-err : goal.returns-in_default-clause-err
returns-in_default-clause-err g c = none_put (g.O.Sink.taken c.args.sink.now) (snapshot_text c.args.trace.now c.args.event)

pub returns-in_default-put_head-clause-err : goal.returns-in_default-put_head-clause-err
returns-in_default-put_head-clause-err g c = none_put (g.O.Sink.taken c.args.sink.now) (snapshot_text c.args.trace.now c.args.event)

pub returns-in_err-put_slots-clause-err : goal.returns-in_err-put_slots-clause-err
returns-in_err-put_slots-clause-err g c =
    let r = c.in-Ok.field-0 in
    on_any_err c.from_residual.result
    (stops_at_statics c.args.trace.now c.args.event r.heap r.totals.items r.all c.in-Ok.ensures c.new-text.result.items c.put_head.new.text.items c.new-text.ensures.items c.in-Ok-put_head.ensures (g.O.Sink.taken c.args.sink.now) (g.O.Sink.taken c.put_slots.new.sink) c.in_err-put_slots.ensures.err)

pub returns-in_err-put_objects-clause-err : goal.returns-in_err-put_objects-clause-err
returns-in_err-put_objects-clause-err g c =
    let r = c.in-Ok.field-0 in
    on_any_err c.from_residual-in_err-put_objects.result
    (stops_at_objects c.args.trace.now c.args.event r.heap r.totals.items r.all c.in-Ok.ensures c.new-text.result.items c.put_head.new.text.items c.new-text.ensures.items c.in-Ok-put_head.ensures (g.O.Sink.taken c.args.sink.now) (g.O.Sink.taken c.put_slots.new.sink)
    c.put_slots.new.text.items _ (object_text_is r.heap c.deref.result.now c.deref-2.result.now c.deref.ensures.value c.deref-2.ensures.value) c.in_ok-put_slots.ensures.ok (g.O.Sink.taken c.put_objects.new.sink) c.in_err-put_objects.ensures.err)

pub returns-in_err-put_classes-clause-err : goal.returns-in_err-put_classes-clause-err
returns-in_err-put_classes-clause-err g c =
    let r = c.in-Ok.field-0 in
    on_any_err c.from_residual-in_err-put_classes.result
    (stops_at_classes c.args.trace.now c.args.event r.heap r.totals.items r.all c.in-Ok.ensures c.new-text.result.items c.put_head.new.text.items c.new-text.ensures.items c.in-Ok-put_head.ensures (g.O.Sink.taken c.args.sink.now) (g.O.Sink.taken c.put_slots.new.sink)
    c.put_slots.new.text.items _ (object_text_is r.heap c.deref.result.now c.deref-2.result.now c.deref.ensures.value c.deref-2.ensures.value) c.in_ok-put_slots.ensures.ok (g.O.Sink.taken c.put_objects.new.sink)
    c.put_objects.new.text.items _ (class_text_is r.heap r.totals.items c.deref-3.result.now c.deref-4.result.now c.deref-3.ensures.value c.deref-4.ensures.value) c.in_ok-put_objects.ensures.ok (g.O.Sink.taken c.put_classes.new.sink) c.in_err-put_classes.ensures.err)
