use Rattle.std.proofs.Common.{◌≡◌, ◌∙◌, ℕ, ◌<◌, ◌^◌, List, length, sym, ap, subst, arith}
use Rattle.std.specs.Prelude.{reverse, All}
use Rattle.std.specs.List.{sum_by}
use Rattle.std.specs.Vec.{with_items}
use Rattle.std.proofs.lemmas.List.{length-map, with_items_is}
use Rattle.et_base.specs.declared.line.TraceLine.{TraceLine}
use Rattle.et_snapshot.specs.declared.objects.Entry.{Entry}
use Rattle.et_snapshot.specs.declared.totals.Total.{Total}
use Rattle.et_snapshot.specs.Heap.{objects_of, kept_by, statics_by, lists_of, size_of, HasClass, IsTotal, AreTotals, IsCounted}
use Rattle.et_snapshot.proofs.Classes.{fields}
use Rattle.et_snapshot.proofs.Telling.{objects_told, all_classed}
use Rattle.et_snapshot.proofs.snapshot.count_at.Goals as goal

pub count_objects-all-requires-clause-classes : goal.count_objects-all-requires-clause-classes
count_objects-all-requires-clause-classes c =
    let heap = c.in_ok-heap.heap in
    let lines = c.args.trace.now in
    let good = c.lines.ensures.good in
    let told = objects_told good.version c.args.event lines c.lines.result.now (objects_of heap.objects.items) good.good.fine c.lines.ensures.value c.in_ok-heap.ensures.objects in
    let names = ap (λ (l : List (List ℕ)). length l) (c.in_ok-heap.ensures.names ∙ ap (λ (l : List TraceLine). fields l) c.lines.ensures.value) in
    let mapped = length-map heap.names.items (λ v. v.items) in
    let a = c.in_ok-resize.ensures.len in
    let b = c.len.ensures in
    let d = c.deref_mut.ensures.len in
    let ok = heap.names.ok.0 in
    subst (λ (es : List Entry). All (HasClass (length c.deref_mut.result.now)) (objects_of es)) (sym c.deref.ensures.value)
    (all_classed lines c.args.event (length c.deref_mut.result.now) (objects_of heap.objects.items) told (omega (arith, names, mapped, a, b, d, ok)))

pub count_objects-all-requires-clause-fits : goal.count_objects-all-requires-clause-fits
count_objects-all-requires-clause-fits c =
    let good = c.lines.ensures.good in
    subst (λ (es : List Entry). sum_by size_of (objects_of es) < 2 ^ 64) (sym c.deref.ensures.value)
    (objects_told good.version c.args.event c.args.trace.now c.lines.result.now (objects_of c.in_ok-heap.heap.objects.items) good.good.fine c.lines.ensures.value c.in_ok-heap.ensures.objects).light

pub returns : goal.returns
returns c =
    let heap = c.in_ok-heap.heap in
    let lines = c.args.trace.now in
    let e = c.args.event in
    let good = c.lines.ensures.good in
    let value = c.lines.ensures.value in
    let told = objects_told good.version e lines c.lines.result.now (objects_of heap.objects.items) good.good.fine value c.in_ok-heap.ensures.objects in
    let listed : lists_of heap.names.items ≡ fields lines = c.in_ok-heap.ensures.names ∙ ap (λ (l : List TraceLine). fields l) value in
    let names = ap (λ (l : List (List ℕ)). length l) listed in
    let mapped = length-map heap.names.items (λ v. v.items) in
    let ok = heap.names.ok.0 in
    let a = c.in_ok-resize.ensures.len in
    let b = c.len.ensures in
    let d = c.deref_mut.ensures.len in
    let k = c.count_objects-all.auto.totals in
    let totals = c.count_objects-all.new.totals in
    let last : (with_items c.resize.new.self totals).items ≡ totals = with_items_is c.resize.new.self totals (k ∙ d) in
    subst (λ (t : List Total). IsCounted lines e heap t c.count_objects-all.result) (sym last) (record {
      good = good;
      statics = c.in_ok-heap.ensures.statics ∙ ap (λ (l : List TraceLine). statics_by e (reverse l)) value;
      objects = c.in_ok-heap.ensures.objects ∙ ap (λ (l : List TraceLine). kept_by e (reverse l)) value;
      names = listed;
      classed = all_classed lines e (length heap.names.items) (objects_of heap.objects.items) told (omega (arith, names, mapped));
      as_many = omega (arith, k, d, a, b, ok);
      each = subst (λ (es : List Entry). AreTotals totals (objects_of es)) c.deref.ensures.value c.count_objects-all.ensures.classes;
      whole = subst (λ (es : List Entry). IsTotal c.count_objects-all.result (objects_of es)) c.deref.ensures.value c.count_objects-all.ensures.all;
    })
