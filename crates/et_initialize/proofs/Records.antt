-- Setting constants puts its records behind those that are there, and looks at none.
use Rattle.std.proofs.Common.{◌≡◌, ℕ, Bool, true, false, List, [], ◌∷◌, ◌++◌, Option, Some, None, refl, sym, ◌∙◌, ap, subst, append-nil, append_assoc}
use Rattle.std.specs.Prelude.{fold, if◌then◌else◌, is_some}
use Rattle.et_base.specs.declared.value.Value.{Value}
use Rattle.et_base.specs.declared.value.Value.TheVariants.{Unset, Int, Long, LongHigh, Null, Ref}
use Rattle.et_state.specs.declared.class_state.ClassState.{ClassState}
use Rattle.et_state.specs.declared.class_state.ClassState.TheVariants.{Untouched, Begun, Done, Failed}
use Rattle.et_state.specs.State.{Kept, MachineState}
use Rattle.et_state.specs.Words.{begun}
use Rattle.et_state.specs.Interned.{object_of}
use Rattle.et_program.specs.Entries.{Linked, class_at, field_at}
use Rattle.et_program.specs.declared.info.FieldInfo.{FieldInfo}
use Rattle.et_state.specs.declared.records.Record.{Record}
use Rattle.et_event.specs.Kinds.{narrowed}
use Rattle.et_event.specs.Moments.{Moment, moment, Doing, begins, fits_heap, static_written}
use Rattle.et_event.specs.Sites.{LoadedConstant, AnInt, ALong, AString, constant_at, pool_of_class}
use Rattle.et_event.specs.Strings.{interned, string_object}
use Rattle.et_event.specs.Initialization.{state_of, with_state, constant_set, field_set, constants_set, class_done, quietly_done}
use Rattle.et_event.specs.Telling.{so_far, StandsAt}
use Rattle.et_initialize.proofs.Strings.{making}
use Rattle.et_initialize.proofs.Setting.{done_step}

-- with records before
abbrev pub behind : List Record → Doing → Doing
behind r d = record { state = d.state; records = r ++ d.records }

one_more : (r : List Record) (x : Record) (k : Kept) (rs : List Record) → (let d : Doing = record { state = k; records = (r ++ rs) ++ x ∷ [] } in d) ≡ record { state = k; records = r ++ (rs ++ x ∷ []) }
one_more r x k rs = ap (λ (l : List Record). let d : Doing = record { state = k; records = l } in d) (append_assoc r rs (x ∷ []))

behind_written : (r : List Record) (e : Moment) (i : ℕ) (v : Value) (d : Doing) → static_written e i v (behind r d) ≡ behind r (static_written e i v d)
behind_written r e i Unset d = refl
behind_written r e i (Int n) d = refl
behind_written r e i (Long n) d = refl
behind_written r e i LongHigh d = refl
behind_written r e i Null d = one_more r _ _ d.records
behind_written r e i (Ref o) d = one_more r _ _ d.records

behind_either : (r : List Record) (b : Bool) (x y x' y' : Doing) → x' ≡ behind r x → y' ≡ behind r y → (if b then x' else y') ≡ behind r (if b then x else y)
behind_either r true x y x' y' e f = e
behind_either r false x y x' y' e f = f

behind_interned : (r : List Record) (e : Moment) (bytes : List ℕ) (d : Doing) → interned e bytes (behind r d) ≡ behind r (interned e bytes d)
behind_interned r e bytes d = behind_either r (is_some (object_of d.state.guest.interned bytes)) d (making e bytes d) (behind r d) (making e bytes (behind r d)) refl (one_more r _ _ d.records)

behind_constant : (r : List Record) (e : Moment) (f : FieldInfo) (k : Option LoadedConstant) (d : Doing) → constant_set e f k (behind r d) ≡ behind r (constant_set e f k d)
behind_constant r e f None d = refl
behind_constant r e f (Some (AnInt n)) d = behind_written r e f.slot (narrowed f.descriptor (Int n)) d
behind_constant r e f (Some (ALong n)) d = behind_written r e f.slot (Long n) d
behind_constant r e f (Some (AString bytes)) d =
    let x = interned e bytes d in
    ap (λ (y : Doing). static_written e f.slot (Ref (string_object bytes y)) y) (behind_interned r e bytes d) ∙ behind_written r e f.slot (Ref (string_object bytes x)) x

behind_fields : (r : List Record) (e : Moment) (fs : List ℕ) (d : Doing) → fold (field_set e) (behind r d) fs ≡ behind r (fold (field_set e) d fs)
behind_fields r e [] d = refl
behind_fields r e (f ∷ fs) d =
    ap (λ (y : Doing). fold (field_set e) y fs) (behind_constant r e (field_at e.program f) (constant_at (pool_of_class e.program (field_at e.program f).class) (field_at e.program f).constant) d) ∙ behind_fields r e fs (field_set e d f)

pub behind_constants : (r : List Record) (e : Moment) (c : ℕ) (d : Doing) → constants_set e c (behind r d) ≡ behind r (constants_set e c d)
behind_constants r e c d = behind_fields r e (class_at e.program c).info.constants d

behind_done : (r : List Record) (e : Moment) (c : ℕ) (x : ClassState) (d : Doing) → class_done e c x (behind r d) ≡ behind r (class_done e c x d)
behind_done r e c Untouched d = behind_constants r e c (with_state c Done d)
behind_done r e c (Begun t) d = refl
behind_done r e c Done d = refl
behind_done r e c Failed d = refl

behind_order : (r : List Record) (e : Moment) (ks : List ℕ) (d : Doing) → fold (done_step e) (behind r d) ks ≡ behind r (fold (done_step e) d ks)
behind_order r e [] d = refl
behind_order r e (k ∷ ks) d = ap (λ (y : Doing). fold (done_step e) y ks) (behind_done r e k (state_of d k) d) ∙ behind_order r e ks (done_step e d k)

pub behind_quietly : (r : List Record) (e : Moment) (c : ℕ) (d : Doing) → quietly_done e c (behind r d) ≡ behind r (quietly_done e c d)
behind_quietly r e c d = behind_order r e (class_at e.program c).init_order d

-- WHAT AN EVENT COMES TO that begins with records there already: the same, behind them

-- the state before the event doesn't matter
abbrev pub IsTimeless : (Moment → Doing → Doing) → Linked → MachineState → ℕ → Type 0
IsTimeless act p m t = (x : Doing) → act (moment p (begun m) t) x ≡ act (moment p m t) x

-- nor do the records that were there
abbrev pub GoesBehind : (Moment → Doing → Doing) → Linked → MachineState → ℕ → List Record → Type 0
GoesBehind act p m t out = act (moment p m t) (behind out (begins (moment p m t))) ≡ behind out (act (moment p m t) (begins (moment p m t)))

pub came_behind : (act : Moment → Doing → Doing) (p : Linked) (t : ℕ) (m m₁ m₂ : MachineState) (out out₂ : List Record) → IsTimeless act p m t → GoesBehind act p m t out → m₁ ≡ begun m
    → StandsAt (act (moment p m₁ t) (so_far m₁ out)) m₁ m₂ out₂ → StandsAt (behind out (act (moment p m t) (begins (moment p m t)))) (begun m) m₂ out₂
came_behind act p t m m₁ m₂ out out₂ timeless goes e h =
    let q = moment p m t in
    let d = begins q in
    let n = begun m in
    let a : StandsAt (act (moment p n t) (so_far n out)) n m₂ out₂ = subst (λ (x : MachineState). StandsAt (act (moment p x t) (so_far x out)) x m₂ out₂) e h in
    let b : StandsAt (act q (so_far n out)) n m₂ out₂ = subst (λ (x : Doing). StandsAt x n m₂ out₂) (timeless (so_far n out)) a in
    let c : StandsAt (act q (behind out d)) n m₂ out₂ = subst (λ (r : List Record). StandsAt (act q (record { state = d.state; records = r })) n m₂ out₂) (sym (append-nil out)) b in
    subst (λ (x : Doing). StandsAt x n m₂ out₂) goes c

pub fits_behind : (act : Moment → Doing → Doing) (p : Linked) (t : ℕ) (m m₁ : MachineState) (out : List Record) → IsTimeless act p m t → GoesBehind act p m t out → m₁ ≡ begun m
    → fits_heap (act (moment p m t) (begins (moment p m t))).state.heap ≡ true → fits_heap (act (moment p m₁ t) (so_far m₁ out)).state.heap ≡ true
fits_behind act p t m m₁ out timeless goes e fit =
    let q = moment p m t in
    let d = begins q in
    let n = begun m in
    let one : fits_heap (act q (behind out d)).state.heap ≡ true = ap (λ (x : Doing). fits_heap x.state.heap) goes ∙ fit in
    let two : fits_heap (act q (so_far n out)).state.heap ≡ true = subst (λ (r : List Record). fits_heap (act q (record { state = d.state; records = r })).state.heap ≡ true) (append-nil out) one in
    ap (λ (x : MachineState). fits_heap (act (moment p x t) (so_far x out)).state.heap) e ∙ (ap (λ (x : Doing). fits_heap x.state.heap) (timeless (so_far n out)) ∙ two)
