use Rattle.std.proofs.Common.{ℕ, ◌<◌, List, sym, ap, subst, arith, ◌∙◌, ◌≡◌}
use Rattle.std.specs.declared.vec.Vec.{Vec}
use Rattle.std.specs.declared.alloc.Global.{Global}
use Rattle.std.specs.Vec.{with_items}
use Rattle.et_base.specs.declared.line.TraceLine.{TraceLine}
use Rattle.et_snapshot.specs.declared.objects.Entry.{Entry}
use Rattle.et_snapshot.specs.Heap.{numbers_of, RiseTo, IsAbove, top_after}
use Rattle.et_snapshot.proofs.Entries.{rise_wider, in_place}
use Rattle.et_snapshot.proofs.heap.note.Goals as goal

-- the numbers stay
rise_in_place : (top : ℕ) (v : Vec Entry Global) (new : List Entry) (line : TraceLine) → numbers_of new ≡ numbers_of v.items → RiseTo (top_after top line) 0 (numbers_of v.items) → RiseTo (top_after top line) 0 (numbers_of (with_items v new).items)
rise_in_place top v new line same r =
    subst (λ (ns : List ℕ). RiseTo (top_after top line) 0 ns) (sym (ap (λ (es : List Entry). numbers_of es) (in_place v new same) ∙ same)) r

pub returns-in_ok-name_class-in-Class-clause-rise : goal.returns-in_ok-name_class-in-Class-clause-rise
returns-in_ok-name_class-in-Class-clause-rise c = λ top r above. subst (λ (l : TraceLine). RiseTo (top_after top l) 0 (numbers_of c.args.heap.now.objects.items)) (sym c.in-Class.is) r

pub returns-in_ok-make-in-Alloc-clause-rise : goal.returns-in_ok-make-in-Alloc-clause-rise
returns-in_ok-make-in-Alloc-clause-rise c = λ top r above.
    let lower : top < c.in-Alloc.object = subst (λ (l : TraceLine). IsAbove top l) c.in-Alloc.is above in
    subst (λ (l : TraceLine). RiseTo (top_after top l) 0 (numbers_of c.make.new.entries.items)) (sym c.in-Alloc.is) (c.in_ok-make-in-Alloc.ensures.rise top r lower)

pub returns-else-born-event-clause-rise : goal.returns-else-born-event-clause-rise
returns-else-born-event-clause-rise c = λ top r above.
    let lower : top < c.in-Alloc.object = subst (λ (l : TraceLine). IsAbove top l) c.in-Alloc.is above in
    subst (λ (l : TraceLine). RiseTo (top_after top l) 0 (numbers_of c.args.heap.now.objects.items)) (sym c.in-Alloc.is) (rise_wider top c.in-Alloc.object 0 (numbers_of c.args.heap.now.objects.items) (omega (arith, lower)) r)

pub returns-in_ok-insert-in-Update-default-default-eq0-default-default-default-clause-rise : goal.returns-in_ok-insert-in-Update-default-default-eq0-default-default-default-clause-rise
returns-in_ok-insert-in-Update-default-default-eq0-default-default-default-clause-rise c = λ top r above.
    subst (λ (l : TraceLine). RiseTo (top_after top l) 0 (numbers_of c.args.heap.now.objects.items)) (sym c.in-Update-default-default-eq0-default-default-default.is) r

pub returns-in_ok-write-in-Update-clause-rise : goal.returns-in_ok-write-in-Update-clause-rise
returns-in_ok-write-in-Update-clause-rise c = λ top r above.
    let same = c.in_ok-write-in-Update.ensures.numbers ∙ ap (λ (es : List Entry). numbers_of es) c.deref_mut.ensures.value in
    rise_in_place top c.args.heap.now.objects c.write.new.entries c.args.line.now same (subst (λ (l : TraceLine). RiseTo (top_after top l) 0 (numbers_of c.args.heap.now.objects.items)) (sym c.in-Update.is) r)

pub returns-else-at-event-2-clause-rise : goal.returns-else-at-event-2-clause-rise
returns-else-at-event-2-clause-rise c = λ top r above. subst (λ (l : TraceLine). RiseTo (top_after top l) 0 (numbers_of c.args.heap.now.objects.items)) (sym c.in-Update.is) r

pub returns-in-Death-clause-rise : goal.returns-in-Death-clause-rise
returns-in-Death-clause-rise c = λ top r above.
    let same = c.forget.ensures.numbers ∙ ap (λ (es : List Entry). numbers_of es) c.deref_mut-in-Death.ensures.value in
    rise_in_place top c.args.heap.now.objects c.forget.new.entries c.args.line.now same (subst (λ (l : TraceLine). RiseTo (top_after top l) 0 (numbers_of c.args.heap.now.objects.items)) (sym c.in-Death.is) r)

pub returns-else-time-event-clause-rise : goal.returns-else-time-event-clause-rise
returns-else-time-event-clause-rise c = λ top r above. subst (λ (l : TraceLine). RiseTo (top_after top l) 0 (numbers_of c.args.heap.now.objects.items)) (sym c.in-Death.is) r
