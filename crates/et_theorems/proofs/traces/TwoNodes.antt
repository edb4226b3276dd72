-- A trace in which one of two objects comes to refer to the other, worked out. At event 5 object 2 comes to refer to object 3.
-- After event 6 nobody reaches the two any more; at event 7 object 3 comes to refer to object 2 all the same.
use Rattle.std.proofs.Common.{◌≡◌, List, [], ◌∷◌, refl}
use Rattle.std.specs.Prelude.{codes}
use Rattle.et_base.specs.declared.line.TraceLine.{TraceLine}
use Rattle.et_base.specs.declared.line.TraceLine.TheVariants.{Header, Class, Method, Alloc, Update, Enter, Exit, Flush, Death, Finish}
use Rattle.et_snapshot.specs.Snapshot.{content, slots_at}
use Rattle.et_theorems.specs.traces.Snapshots.{live_objects}

abbrev trace : List TraceLine
trace =
    Header 1 0 ∷ Class 1 (codes "[Ljava/lang/String;") ∷ Alloc 0 0 1 1 24 0
    ∷ Class 2 (codes "Node") ∷ Method 1 2 (codes "main") (codes "([Ljava/lang/String;)V") ∷ Enter 1 0 1 0
    ∷ Alloc 2 0 2 2 24 0 ∷ Alloc 3 0 3 2 24 0 ∷ Update 5 0 2 0 0 3 ∷ Update 7 0 3 0 0 2 ∷ Exit 8 0 1
    ∷ Flush 9 3 ∷ Death 1 7 ∷ Death 2 6 ∷ Death 3 6 ∷ Finish 9 0 ∷ []

-- what is live at events 6 and 7
live_then : live_objects trace 6 ≡ 1 ∷ 2 ∷ 3 ∷ []
live_then = refl

live_after : live_objects trace 7 ≡ 1 ∷ []
live_after = refl

-- the slot of object 2 holds object 3 from event 5 on, and that of object 3 nothing before event 7
not_yet : content trace 4 2 0 ≡ 0
not_yet = refl

refers : content trace 6 2 0 ≡ 3
refers = refl

refers_to_none : content trace 6 3 0 ≡ 0
refers_to_none = refl

refers_back : content trace 7 3 0 ≡ 2
refers_back = refl

-- so a snapshot at event 6 shows one slot, of object 2
one_slot : slots_at trace 6 2 ≡ (0, 3) ∷ []
one_slot = refl

no_slot : slots_at trace 6 3 ≡ []
no_slot = refl

no_static : slots_at trace 6 0 ≡ []
no_static = refl
