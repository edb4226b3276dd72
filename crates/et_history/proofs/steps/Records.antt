-- The records of an event, as the heap grows: what they tell of objects stays true.
use Rattle.et_history.specs.steps.Records.{Steady, size_by, size_of, IsAlike, IsMadeBefore, IsMadeBeforeOrNone, IsUpdated, next_after, IsAllocationOf, IsRecordOf, AreRecordsOf}
use Rattle.std.proofs.Common.{◌≡◌, ℕ, List, [], ◌∷◌, ◌++◌, length, Option, Some, None, refl, sym, ◌∙◌, ap, subst, inl, inr, arith, get_or-set_same}
use Rattle.std.proofs.lemmas.Bool.{cases_eq}
use Rattle.std.proofs.lemmas.List.{get_or-set_other, get_or_append_left}
use Rattle.et_heap.specs.Objects.{ObjectState, Objects, IsHeld, at, found, object_at, with_object_at}
use Rattle.et_heap.proofs.HeapLists.{held_within, held_set, held_push}
use Rattle.et_program.specs.Entries.{Linked, class_at}
use Rattle.et_state.specs.declared.records.Record.{Record}
use Rattle.et_state.specs.declared.records.Record.TheVariants.{Alloc, Update, Enter, Exit, Unwind}

pub alike_itself : (x : ObjectState) → IsAlike x x
alike_itself x = record { class = refl; elements = refl; slots = refl }

pub alike_then : (x y z : ObjectState) → IsAlike x y → IsAlike y z → IsAlike x z
alike_then x y z a b = record { class = b.class ∙ a.class; elements = b.elements ∙ a.elements; slots = b.slots ∙ a.slots }

pub alike_found : (x y : Option ObjectState) → x ≡ y → IsAlike (found x) (found y)
alike_found x y e = subst (λ (z : Option ObjectState). IsAlike (found x) (found z)) e (alike_itself (found x))

pub steady_itself : (h : Objects) → Steady h h
steady_itself h = record { stays = λ o held. held; alike = λ o held. alike_itself (object_at h o) }

pub steady_then : (a b c : Objects) → Steady a b → Steady b c → Steady a c
steady_then a b c x y = record {
  stays = λ o held. y.stays o (x.stays o held);
  alike = λ o held. alike_then (object_at a o) (object_at b o) (object_at c o) (x.alike o held) (y.alike o (x.stays o held));
}

pub steady_set : (h : Objects) (o : ℕ) (y : ObjectState) → IsHeld h o → IsAlike (object_at h o) y → Steady h (with_object_at h o y)
steady_set h o y held alike = record {
  stays = λ k there. held_set h o y k held there;
  alike = λ k there. elim (cases_eq k o) [
    | inl e ↦
        subst (λ (j : ℕ). IsAlike (object_at h j) (object_at (with_object_at h o y) j)) (sym e)
        (subst (λ (x : Option ObjectState). IsAlike (object_at h o) (found x)) (sym (get_or-set_same h o (Some y) None (held_within h o held))) alike)
    | inr ne ↦ alike_found (at h k) (at (with_object_at h o y) k) (sym (get_or-set_other h o k (Some y) None ne))
  ];
}

pub steady_push : (h : Objects) (y : ObjectState) → Steady h (h ++ Some y ∷ [])
steady_push h y = record {
  stays = λ k there. held_push h y k there;
  alike = λ k there. alike_found (at h k) (at (h ++ Some y ∷ []) k) (sym (get_or_append_left h (Some y ∷ []) None k (held_within h k there)));
}

pub newest_at : (h : Objects) (y : ObjectState) → at (h ++ Some y ∷ []) (length h) ≡ Some y
newest_at [] y = refl
newest_at (x ∷ h) y = newest_at h y

-- SIZES

pub same_size : (p : Linked) (x y : ObjectState) → IsAlike x y → size_of p x ≡ size_of p y
same_size p x y alike =
    ap (λ (c : ℕ). size_by (class_at p c).info.element x.length (length x.slots)) (sym alike.class)
    ∙ (ap (λ (n : ℕ). size_by (class_at p y.class).info.element n (length x.slots)) (sym alike.elements)
    ∙ ap (λ (n : ℕ). size_by (class_at p y.class).info.element y.length n) (sym alike.slots))

-- RECORDS

told_grows : (h h' : Objects) (next o : ℕ) → Steady h h' → IsMadeBefore h next o → IsMadeBefore h' next o
told_grows h h' next o steady told = (told.0, steady.stays o told.1)

told_or_grows : (h h' : Objects) (next o : ℕ) → Steady h h' → IsMadeBeforeOrNone h next o → IsMadeBeforeOrNone h' next o
told_or_grows h h' next o steady told = elim told [ inl none ↦ inl none | inr made ↦ inr (told_grows h h' next o steady made) ]

updated_grows : (p : Linked) (h h' : Objects) (next o i : ℕ) → Steady h h' → IsUpdated p h next o i → IsUpdated p h' next o i
updated_grows p h h' next o i steady place = elim place [
  | inl static ↦ inl static
  | inr slot ↦ inr (told_grows h h' next o steady slot.0, elim slot.1 [ inl own ↦ inl own | inr within ↦ (let same = (steady.alike o slot.0.1).slots in inr (omega (arith, within))) ])
]

allocation_grows : (p : Linked) (h h' : Objects) (next object class size elements : ℕ) → Steady h h' → IsAllocationOf p h next object class size elements → IsAllocationOf p h' next object class size elements
allocation_grows p h h' next object class size elements steady is =
    let alike : IsAlike (object_at h object) (object_at h' object) = steady.alike object is.held in
    record {
      number_is = is.number_is;
      held = steady.stays object is.held;
      class_is = is.class_is ∙ sym alike.class;
      length_is = is.length_is ∙ sym alike.elements;
      size_is = is.size_is ∙ same_size p (object_at h object) (object_at h' object) alike;
      plain = is.plain;
    }

record_grows : (p : Linked) (clock t : ℕ) (h h' : Objects) (next : ℕ) (r : Record) → Steady h h' → IsRecordOf p clock t h next r → IsRecordOf p clock t h' next r
record_grows p clock t h h' next (Alloc event thread object class size elements) steady is = (is.0, is.1, allocation_grows p h h' next object class size elements steady is.2)
record_grows p clock t h h' next (Update event thread object slot old new) steady is =
    (is.0, is.1, updated_grows p h h' next object slot steady is.2, told_or_grows h h' next old steady is.3, told_or_grows h h' next new steady is.4)
record_grows p clock t h h' next (Enter event thread method receiver) steady is = (is.0, is.1, told_or_grows h h' next receiver steady is.2)
record_grows p clock t h h' next (Exit event thread method) steady is = is
record_grows p clock t h h' next (Unwind event thread method exception) steady is = (is.0, is.1, told_grows h h' next exception steady is.2)

pub records_grow : (p : Linked) (clock t : ℕ) (h h' : Objects) (next last : ℕ) (rs : List Record) → Steady h h' → AreRecordsOf p clock t h next rs last → AreRecordsOf p clock t h' next rs last
records_grow p clock t h h' next last [] steady are = are
records_grow p clock t h h' next last (r ∷ rs) steady are = (record_grows p clock t h h' next r steady are.0, records_grow p clock t h h' (next_after next r) last rs steady are.1)

-- one record more
pub records_more : (p : Linked) (clock t : ℕ) (h : Objects) (next last : ℕ) (rs : List Record) (r : Record) → AreRecordsOf p clock t h next rs last → IsRecordOf p clock t h last r → AreRecordsOf p clock t h next (rs ++ r ∷ []) (next_after last r)
records_more p clock t h next last [] r are is = (subst (λ (n : ℕ). IsRecordOf p clock t h n r) (sym are) is, ap (λ (n : ℕ). next_after n r) are)
records_more p clock t h next last (x ∷ rs) r are is = (are.0, records_more p clock t h (next_after next x) last rs r are.1 is)
