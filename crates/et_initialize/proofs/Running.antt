-- The calls one after another, each on what the machine has come to.
use Rattle.std.proofs.Common.{◌≡◌, ℕ, ◌+◌, ◌<◌, true, List, [], length, get_or, take, All, refl, sym, ◌∙◌, ap, subst}
use Rattle.std.specs.Prelude.{fold}
use Rattle.std.proofs.lemmas.List.{get_or_default}
use Rattle.std.proofs.lemmas.List.Elements.{All-take}
use Rattle.std.proofs.lemmas.List.Sums.{fold_more}
use Rattle.et_base.specs.declared.value.Value.TheVariants.{Unset}
use Rattle.et_state.specs.declared.class_state.ClassState.{ClassState}
use Rattle.et_state.specs.declared.class_state.ClassState.TheVariants.{Untouched, Done}
use Rattle.et_state.specs.Words.{static_at, class_state_at, with_class_state, with_guest}
use Rattle.et_state.specs.State.{Kept, MachineState, kept_of}
use Rattle.et_program.specs.Entries.{Linked, class_at}
use Rattle.et_state.specs.declared.records.Record.{Record}
use Rattle.et_event.specs.Moments.{Moment, moment, Doing, fits_heap}
use Rattle.et_event.specs.Initialization.{state_of, with_state, field_set, constants_set, class_done}
use Rattle.et_event.specs.InitializationOrder.{IsInOrder}
use Rattle.et_event.specs.Telling.{so_far, with_kept, StandsAt}
use Rattle.et_initialize.specs.Under.{IsInitializing, class_of_slot}
use Rattle.et_initialize.proofs.Setting.{CanSet, Grown, after, can_set, one_fits, done_first, done_step, ready_order, ready_marked, unset_marked}

abbrev pub at : Linked → ℕ → Kept → Moment
at p t b = record { program = p; before = b; thread = t }

-- the state before the event doesn't matter
pub field_same : (p : Linked) (t : ℕ) (b b' : Kept) (f : ℕ) (x : Doing) → field_set (at p t b) x f ≡ field_set (at p t b') x f
field_same p t b b' f x = refl

-- one call more
pub came : (F : Kept → Doing → Doing) → ((b b' : Kept) (x : Doing) → F b x ≡ F b' x) → (m₀ m m' : MachineState) (out out' : List Record) (x : Doing)
    → m ≡ with_kept m₀ x.state → out ≡ x.records → StandsAt (F (kept_of m) (so_far m out)) m m' out' → StandsAt (F (kept_of m₀) x) m₀ m' out'
came F same m₀ m m' out out' x e₁ e₂ h =
    let a : StandsAt (F x.state x) (with_kept m₀ x.state) m' out' = subst (λ (n : MachineState). StandsAt (F (kept_of n) (so_far n x.records)) n m' out') e₁ (subst (λ (o : List Record). StandsAt (F (kept_of m) (so_far m o)) m m' out') e₂ h) in
    subst (λ (y : Doing). StandsAt y m₀ m' out') (same x.state (kept_of m₀) x) a

-- what holds of what was done so far
pub known : (P : Kept → Doing → Type 0) (m₀ m : MachineState) (out : List Record) (x : Doing) → m ≡ with_kept m₀ x.state → out ≡ x.records → P x.state x → P (kept_of m) (so_far m out)
known P m₀ m out x e₁ e₂ h =
    subst (λ (n : MachineState). P (kept_of n) (so_far n out)) (sym e₁) (subst (λ (o : List Record). P x.state (so_far (with_kept m₀ x.state) o)) (sym e₂) h)

-- A LOOP each of whose rounds is one step of a fold

-- what k rounds come to
abbrev pub rounds : (Moment → Doing → ℕ → Doing) → Linked → ℕ → MachineState → List Record → List ℕ → ℕ → Doing
rounds step p t m out ks k = fold (step (moment p m t)) (so_far m out) (take k ks)

-- the state before the event doesn't matter to the step
abbrev pub IsApart : (Moment → Doing → ℕ → Doing) → Linked → ℕ → ℕ → Type 0
IsApart step p t c = (b b' : Kept) (x : Doing) → step (at p t b) x c ≡ step (at p t b') x c

pub round_has_room : (step : Moment → Doing → ℕ → Doing) (p : Linked) (t : ℕ) (m₀ m : MachineState) (out₀ out : List Record) (ks : List ℕ) (k c : ℕ) → ((e : Moment) (js : List ℕ) (x : Doing) → Grown x.state.heap (fold (step e) x js).state.heap)
    → IsApart step p t c → k < length ks → c ≡ get_or ks k c → fits_heap (fold (step (moment p m₀ t)) (so_far m₀ out₀) ks).state.heap ≡ true → StandsAt (rounds step p t m₀ out₀ ks k) m₀ m out
    → fits_heap (step (moment p m t) (so_far m out) c).state.heap ≡ true
round_has_room step p t m₀ m out₀ out ks k c grown apart within read fit before =
    let e = moment p m₀ t in
    let x = rounds step p t m₀ out₀ ks k in
    let same : get_or ks k 0 ≡ c = sym (read ∙ get_or_default ks k c 0 within) in
    let one : fits_heap (step e x c).state.heap ≡ true = subst (λ (g : ℕ). fits_heap (step e x g).state.heap ≡ true) same (one_fits (step e) (grown e) (so_far m₀ out₀) ks k within fit) in
    known (λ b y. fits_heap (step (at p t b) y c).state.heap ≡ true) m₀ m out x before.0 before.1 (ap (λ (y : Doing). fits_heap y.state.heap) (apart x.state (kept_of m₀) x) ∙ one)

pub round_came : (step : Moment → Doing → ℕ → Doing) (p : Linked) (t : ℕ) (m₀ m m' : MachineState) (out₀ out out' : List Record) (ks : List ℕ) (k c : ℕ) → IsApart step p t c → k < length ks → c ≡ get_or ks k c
    → StandsAt (rounds step p t m₀ out₀ ks k) m₀ m out → StandsAt (step (moment p m t) (so_far m out) c) m m' out' → StandsAt (rounds step p t m₀ out₀ ks (k + 1)) m₀ m' out'
round_came step p t m₀ m m' out₀ out out' ks k c apart within read before h =
    let e = moment p m₀ t in
    let x = rounds step p t m₀ out₀ ks k in
    let same : get_or ks k 0 ≡ c = sym (read ∙ get_or_default ks k c 0 within) in
    let now : StandsAt (step e x c) m₀ m' out' = came (λ b y. step (at p t b) y c) apart m₀ m m' out out' x before.0 before.1 h in
    let more : rounds step p t m₀ out₀ ks (k + 1) ≡ step e x c = fold_more (step e) (so_far m₀ out₀) ks k 0 within ∙ ap (λ (g : ℕ). step e x g) same in
    subst (λ (y : Doing). StandsAt y m₀ m' out') (sym more) now

-- A LOOP OVER THE CONSTANTS OF A CLASS

pub field_can : (p : Linked) (t c : ℕ) (m₀ m : MachineState) (out₀ out : List Record) (fs : List ℕ) (k f : ℕ) → IsInOrder p → c < length p.classes → IsInitializing p (kept_of m₀)
    → ((i : ℕ) → i < length p.statics → class_of_slot p i ≡ c → static_at m₀.guest i ≡ Unset) → fs ≡ (class_at p c).info.constants → k < length fs → f ≡ get_or fs k f
    → StandsAt (after (moment p m₀ t) (so_far m₀ out₀) fs k) m₀ m out → CanSet p f (so_far m out)
field_can p t c m₀ m out₀ out fs k f has lt ready unset is within read before =
    let e = moment p m₀ t in
    let d = so_far m₀ out₀ in
    let here : k < length (class_at p c).info.constants = subst (λ (l : List ℕ). k < length l) is within in
    let can : CanSet p (get_or (class_at p c).info.constants k 0) (after e d (class_at p c).info.constants k) = can_set e c d k (has.constants c lt) here ready unset in
    let same : get_or (class_at p c).info.constants k 0 ≡ f = sym (read ∙ (get_or_default fs k f 0 within ∙ ap (λ (l : List ℕ). get_or l k 0) is)) in
    let on : CanSet p f (after e d fs k) = subst (λ (g : ℕ). CanSet p g (after e d fs k)) same (subst (λ (l : List ℕ). CanSet p (get_or (class_at p c).info.constants k 0) (after e d l k)) (sym is) can) in
    known (λ b x. CanSet p f x) m₀ m out (after e d fs k) before.0 before.1 on

-- A LOOP OVER CLASSES

pub next_within : (n : ℕ) (ks : List ℕ) (k c : ℕ) → k < length ks → c ≡ get_or ks k c → All (λ j. j < n) ks → c < n
next_within n ks k c lt read all = subst (λ (j : ℕ). j < n) (sym read) (all k c lt)

pub class_ready : (p : Linked) (t : ℕ) (m₀ m : MachineState) (out₀ out : List Record) (ks : List ℕ) (k : ℕ) → IsInOrder p → k < length ks → All (λ c. c < length p.classes) ks → IsInitializing p (kept_of m₀)
    → StandsAt (done_first (moment p m₀ t) (so_far m₀ out₀) ks k) m₀ m out → IsInitializing p (kept_of m)
class_ready p t m₀ m out₀ out ks k has within all ready before =
    let e = moment p m₀ t in
    let d = so_far m₀ out₀ in
    let some : All (λ c. c < length p.classes) (take k ks) = All-take (λ c. c < length p.classes) k ks all in
    known (λ b x. IsInitializing p b) m₀ m out (done_first e d ks k) before.0 before.1 (ready_order e (take k ks) d has some ready)

-- A CLASS IS MARKED, and then its constants are set

abbrev pub marked : MachineState → ℕ → ClassState → MachineState
marked m c x = with_guest m (with_class_state m.guest c x)

pub marked_ready : (p : Linked) (c : ℕ) (x : ClassState) (m m' : MachineState) → c < length p.classes → (x ≡ Untouched → ⊥) → IsInitializing p (kept_of m) → m' ≡ marked m c x → IsInitializing p (kept_of m')
marked_ready p c x m m' lt apart ready is = subst (λ (n : MachineState). IsInitializing p (kept_of n)) (sym is) (ready_marked p c x (so_far m []) lt apart ready)

pub marked_unset : (p : Linked) (c : ℕ) (x : ClassState) (m m' : MachineState) → IsInitializing p (kept_of m) → class_state_at m.guest c ≡ Untouched → m' ≡ marked m c x → (i : ℕ) → i < length p.statics → class_of_slot p i ≡ c → static_at m'.guest i ≡ Unset
marked_unset p c x m m' ready un is i lt same = ap (λ (n : MachineState). static_at n.guest i) is ∙ unset_marked p c x (so_far m []) ready un i lt same

pub done_fits : (p : Linked) (t c : ℕ) (m m' : MachineState) (out : List Record) → class_state_at m.guest c ≡ Untouched → m' ≡ marked m c Done
    → fits_heap (class_done (moment p m t) c (state_of (so_far m out) c) (so_far m out)).state.heap ≡ true → fits_heap (constants_set (moment p m' t) c (so_far m' out)).state.heap ≡ true
done_fits p t c m m' out un is fit =
    let one : fits_heap (constants_set (moment p m t) c (with_state c Done (so_far m out))).state.heap ≡ true = ap (λ (x : ClassState). fits_heap (class_done (moment p m t) c x (so_far m out)).state.heap) (sym un) ∙ fit in
    ap (λ (n : MachineState). fits_heap (constants_set (moment p n t) c (so_far n out)).state.heap) is ∙ one

-- a round in which an untouched class becomes done, and one in which a class stays
pub done_came : (p : Linked) (t c : ℕ) (m m₁ m₂ : MachineState) (out out₂ : List Record) → class_state_at m.guest c ≡ Untouched → m₁ ≡ marked m c Done → StandsAt (constants_set (moment p m₁ t) c (so_far m₁ out)) m₁ m₂ out₂
    → StandsAt (done_step (moment p m t) (so_far m out) c) m m₂ out₂
done_came p t c m m₁ m₂ out out₂ un is h =
    let one : StandsAt (constants_set (moment p m t) c (with_state c Done (so_far m out))) m m₂ out₂ = subst (λ (n : MachineState). StandsAt (constants_set (moment p n t) c (so_far n out)) n m₂ out₂) is h in
    subst (λ (s : ClassState). StandsAt (class_done (moment p m t) c s (so_far m out)) m m₂ out₂) (sym un) one

pub stayed : (d : Doing → Doing) (m : MachineState) (out : List Record) → d (so_far m out) ≡ so_far m out → StandsAt (d (so_far m out)) m m out
stayed d m out is = subst (λ (x : Doing). StandsAt x m m out) (sym is) (refl, refl)
