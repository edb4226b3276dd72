-- Arrays are made with records before theirs.
use Rattle.std.proofs.Common.{◌≡◌, ℕ, zero, suc, List, [], ◌∷◌, ◌++◌, refl, sym, ◌∙◌, ap, append-nil, append_assoc}
use Rattle.et_base.specs.declared.value.Value.TheVariants.{Ref}
use Rattle.et_program.specs.Entries.{class_at}
use Rattle.et_state.specs.declared.records.Record.{Record}
use Rattle.et_event.specs.Heap.{arrays_made, filled, element_class}
use Rattle.et_event.specs.Moments.{Moment, Doing, begins, next_object, array_made, slot_written}

abbrev pub behind : List Record → Doing → Doing
behind out d = record { state = d.state; records = out ++ d.records }

one_more : (out rs : List Record) (r : Record) (d : Doing) → (let x : Doing = record { state = d.state; records = (out ++ rs) ++ r ∷ [] } in x) ≡ record { state = d.state; records = out ++ (rs ++ r ∷ []) }
one_more out rs r d = ap (λ (l : List Record). let x : Doing = record { state = d.state; records = l } in x) (append_assoc out rs (r ∷ []))

made_behind : (e : Moment) (c n : ℕ) (out : List Record) (d : Doing) → array_made e c n (behind out d) ≡ behind out (array_made e c n d)
made_behind e c n out d = one_more out d.records _ (array_made e c n d)

written_behind : (e : Moment) (o i r : ℕ) (out : List Record) (d : Doing) → slot_written e o i (Ref r) (behind out d) ≡ behind out (slot_written e o i (Ref r) d)
written_behind e o i r out d = one_more out d.records _ (slot_written e o i (Ref r) d)

filled_behind : (e : Moment) (o n : ℕ) (make : Doing → Doing) (out : List Record) (d : Doing) → ((x : Doing) → make (behind out x) ≡ behind out (make x)) → filled e o make n (behind out d) ≡ behind out (filled e o make n d)
filled_behind e o zero make out d h = refl
filled_behind e o (suc i) make out d h =
    let x : Doing = filled e o make i d in
    ap (λ (y : Doing). slot_written e o i (Ref (next_object y)) (make y)) (filled_behind e o i make out d h)
    ∙ (ap (λ (y : Doing). slot_written e o i (Ref (next_object x)) y) (h x) ∙ written_behind e o i (next_object x) out (make x))

pub arrays_behind : (e : Moment) (c : ℕ) (ns : List ℕ) (out : List Record) (d : Doing) → arrays_made e c ns (behind out d) ≡ behind out (arrays_made e c ns d)
arrays_behind e c [] out d = refl
arrays_behind e c (n ∷ []) out d = made_behind e c n out d
arrays_behind e c (n ∷ m ∷ more) out d =
    let inner : ℕ = element_class (class_at e.program c).info.element in
    let make : Doing → Doing = arrays_made e inner (m ∷ more) in
    ap (λ (y : Doing). filled e (next_object d) make n y) (made_behind e c n out d)
    ∙ filled_behind e (next_object d) n make out (array_made e c n d) (λ x. arrays_behind e inner (m ∷ more) out x)

-- .. in an event that begins
pub arrays_begun : (e : Moment) (c : ℕ) (ns : List ℕ) (out : List Record) → (let x : Doing = record { state = (begins e).state; records = out } in arrays_made e c ns x) ≡ behind out (arrays_made e c ns (begins e))
arrays_begun e c ns out =
    ap (λ (l : List Record). let x : Doing = record { state = (begins e).state; records = l } in arrays_made e c ns x) (sym (append-nil out)) ∙ arrays_behind e c ns out (begins e)
