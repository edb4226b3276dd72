-- What an event has done to the topmost frame of a thread so far, call by call, and how it ends.
use Rattle.std.proofs.Common.{◌≡◌, ℕ, zero, suc, ◌+◌, ◌-◌, ◌<◌, ◌≤◌, List, [], ◌∷◌, ◌++◌, length, get_or, set, Some, None, refl, sym, ◌∙◌, ap, subst, arith, Contains, get_or-set_same, set-set, append-nil, append_assoc, inl, inr}
use Rattle.std.specs.List.{flat_map}
use Rattle.std.proofs.lemmas.List.{length-set, length_push, get_or_at}
use Rattle.std.proofs.lemmas.List.Elements.{Contains-append_left}
use Rattle.et_base.specs.declared.value.Value.{Value}
use Rattle.et_base.specs.declared.value.Value.TheVariants.{Unset}
use Rattle.et_graph.specs.Graph.{IsReached}
use Rattle.et_base.proofs.Lists.{Contains-none, Contains-here, Contains-there, Contains-cons}
use Rattle.et_heap.specs.Objects.{ObjectState, Objects, IsHeld, is_there, object_at, slot_of, with_slot, with_object_at}
use Rattle.et_heap.specs.Refs.{refs_of_value, refs_of, leads_to}
use Rattle.et_state.specs.Threads.{FrameState, ThreadState, no_thread, at_pc, pushed, popped, without_operands, with_local, operand_of, local_of, first_frame, rest_of, top_of, with_top_of}
use Rattle.et_state.specs.ThreadRoots.{frame_roots, thread_roots}
use Rattle.et_state.specs.State.{GuestState, Kept, MachineState, kept_of}
use Rattle.et_state.specs.Words.{thread_at, top, with_top, HasFrame, ticked, begun, steps_top, steps_object}
use Rattle.et_state.specs.Roots.{roots_of, graph_of, numbers_from, fresh_of}
use Rattle.et_state.specs.Sound.{IsSound}
use Rattle.et_state.specs.Moves.{Moves, WasThere, IsOnWay, IsEventOf, Led}
use Rattle.et_state.proofs.Places.{moves_none, moves_then, frame_push, frame_pop, frame_clear, frame_set_local, guest_top, top_root, operand_root, local_root, part_contained, thread_root}
use Rattle.et_state.proofs.UnderWay.{start, law_guest, law_make, finish, no_fresh, root_is_reached, slot_is_reached, slot_pair}
use Rattle.et_state.proofs.Calls.{on_begin_event, on_set_slot}

-- EQUATIONS

pub top-with_top : (g : GuestState) (t : ℕ) (f : FrameState) → t < length g.threads → top (with_top g t f) t ≡ f
top-with_top g t f lt = ap (λ (x : ThreadState). top_of x) (get_or-set_same g.threads t (with_top_of (thread_at g t) f) no_thread lt)

pub with_top-with_top : (g : GuestState) (t : ℕ) (f h : FrameState) → t < length g.threads → with_top (with_top g t f) t h ≡ with_top g t h
with_top-with_top g t f h lt =
    rw (get_or-set_same g.threads t (with_top_of (thread_at g t) f) no_thread lt, set-set g.threads t (with_top_of (thread_at g t) f) (with_top_of (thread_at g t) h))

pub with_first : (fs : List FrameState) → 0 < length fs → first_frame fs ∷ rest_of fs ≡ fs
with_first [] h = absurd (omega arith)
with_first (f ∷ fs) h = refl

set_itself : (xs : List ThreadState) (t : ℕ) (d x : ThreadState) → x ≡ get_or xs t d → set xs t x ≡ xs
set_itself [] t d x e = refl
set_itself (y ∷ xs) zero d x e = ap (λ (z : ThreadState). z ∷ xs) e
set_itself (y ∷ xs) (suc t) d x e = ap (λ (ys : List ThreadState). y ∷ ys) (set_itself xs t d x e)

pub with_top-itself : (g : GuestState) (t : ℕ) → HasFrame g t → with_top g t (top g t) ≡ g
with_top-itself g t has =
    let e : with_top_of (thread_at g t) (top g t) ≡ thread_at g t = ap (λ (fs : List FrameState). record (thread_at g t) { frames = fs }) (with_first (thread_at g t).frames has.frame) in
    ap (λ (xs : List ThreadState). record g { threads = xs }) (set_itself g.threads t no_thread (with_top_of (thread_at g t) (top g t)) e)

-- a call that changes the topmost frame, after calls that changed it
pub then_top : (step : FrameState → FrameState) (k : FrameState → List ℕ) (b : MachineState) (t : ℕ) (f : FrameState) (l : List ℕ) (m₁ m₂ : MachineState) → t < length b.guest.threads
    → m₁ ≡ steps_top b t f l → m₂ ≡ steps_top m₁ t (step (top m₁.guest t)) (k (top m₁.guest t)) → m₂ ≡ steps_top b t (step f) (l ++ k f)
then_top step k b t f l m₁ m₂ lt e h =
    let x : MachineState = steps_top b t f l in
    let a : m₂ ≡ steps_top x t (step (top x.guest t)) (k (top x.guest t)) = h ∙ ap (λ (y : MachineState). steps_top y t (step (top y.guest t)) (k (top y.guest t))) e in
    let c : steps_top x t (step (top x.guest t)) (k (top x.guest t)) ≡ steps_top x t (step f) (k f) = ap (λ (g : FrameState). steps_top x t (step g) (k g)) (top-with_top b.guest t f lt) in
    let d : steps_top x t (step f) (k f) ≡ steps_top b t (step f) (l ++ k f) =
    ap (λ (g : GuestState). record b { guest = g; lost = b.lost ++ l ++ k f }) (with_top-with_top b.guest t f (step f) lt) ∙ ap (λ (os : List ℕ). record b { guest = with_top b.guest t (step f); lost = os }) (append_assoc b.lost l (k f)) in
    a ∙ (c ∙ d)

-- .. and what the topmost frame is then
pub top-steps_top : (b : MachineState) (t : ℕ) (f : FrameState) (l : List ℕ) (m : MachineState) → t < length b.guest.threads → m ≡ steps_top b t f l → top m.guest t ≡ f
top-steps_top b t f l m lt e = ap (λ (n : MachineState). top n.guest t) e ∙ top-with_top b.guest t f lt

-- WHAT MAY GO IN AND OUT

abbrev pub MayEnter : MachineState → ℕ → Type 0
MayEnter b o = IsHeld b.heap o

abbrev pub MayBeLost : Kept → MachineState → ℕ → Type 0
MayBeLost s b o = WasThere s (kept_of b) o

-- From the machine b, to which an event that began in s has come, the topmost frame of thread t became f, and these
-- objects were lost.
pub record Did (s : Kept) (b : MachineState) (t : ℕ) (f : FrameState) (l : List ℕ) (m : MachineState) : Type 0 where
  pub is : m ≡ steps_top b t f l
  pub moves : Moves (MayEnter b) (MayBeLost s b) (frame_roots (top b.guest t)) (frame_roots f) l

pub did_here : (s : Kept) (b : MachineState) (t : ℕ) (m : MachineState) → HasFrame b.guest t → m ≡ b → Did s b t (top b.guest t) [] m
did_here s b t m has e = record {
  is = e ∙ sym (ap (λ (g : GuestState). record b { guest = g; lost = b.lost ++ [] }) (with_top-itself b.guest t has) ∙ ap (λ (os : List ℕ). record b { lost = os }) (append-nil b.lost));
  moves = moves_none (MayEnter b) (MayBeLost s b) (frame_roots (top b.guest t));
}

-- an event has begun
pub did_begin : (s : Kept) (m : MachineState) (t : ℕ) (m' : MachineState) → HasFrame m.guest t → m' ≡ begun m → Did s (begun m) t (top m.guest t) [] m'
did_begin s m t m' has e = did_here s (begun m) t m' (record { thread = has.thread; frame = has.frame }) e

pub did_step : (s : Kept) (step : FrameState → FrameState) (k : FrameState → List ℕ) (b : MachineState) (t : ℕ) (f : FrameState) (l : List ℕ) (m₁ m₂ : MachineState) → HasFrame b.guest t → Did s b t f l m₁
    → m₂ ≡ steps_top m₁ t (step (top m₁.guest t)) (k (top m₁.guest t)) → Moves (MayEnter b) (MayBeLost s b) (frame_roots f) (frame_roots (step f)) (k f) → Did s b t (step f) (l ++ k f) m₂
did_step s step k b t f l m₁ m₂ has d e moves = record {
  is = then_top step k b t f l m₁ m₂ has.thread d.is e;
  moves = moves_then (MayEnter b) (MayBeLost s b) (frame_roots (top b.guest t)) (frame_roots f) (frame_roots (step f)) l (k f) d.moves moves;
}

pub did_set_pc : (s : Kept) (b : MachineState) (t : ℕ) (f : FrameState) (l : List ℕ) (m₁ m₂ : MachineState) (pc : ℕ) → HasFrame b.guest t → Did s b t f l m₁
    → m₂ ≡ steps_top m₁ t (at_pc pc (top m₁.guest t)) [] → Did s b t (at_pc pc f) (l ++ []) m₂
did_set_pc s b t f l m₁ m₂ pc has d e = did_step s (at_pc pc) (λ g. []) b t f l m₁ m₂ has d e (moves_none (MayEnter b) (MayBeLost s b) (frame_roots f))

pub did_push : (s : Kept) (b : MachineState) (t : ℕ) (f : FrameState) (l : List ℕ) (m₁ m₂ : MachineState) (v : Value) → HasFrame b.guest t → Did s b t f l m₁
    → m₂ ≡ steps_top m₁ t (pushed v (top m₁.guest t)) [] → ((o : ℕ) → Contains (refs_of_value v) o → MayEnter b o) → Did s b t (pushed v f) (l ++ []) m₂
did_push s b t f l m₁ m₂ v has d e h = did_step s (pushed v) (λ g. []) b t f l m₁ m₂ has d e (frame_push (MayEnter b) (MayBeLost s b) f v h)

pub did_pop : (s : Kept) (b : MachineState) (t : ℕ) (f : FrameState) (l : List ℕ) (m₁ m₂ : MachineState) → HasFrame b.guest t → Did s b t f l m₁
    → m₂ ≡ steps_top m₁ t (popped 1 (top m₁.guest t)) (refs_of_value (operand_of (top m₁.guest t) 0))
    → 0 < length f.operands → ((o : ℕ) → Contains (refs_of_value (operand_of f 0)) o → MayBeLost s b o) → Did s b t (popped 1 f) (l ++ refs_of_value (operand_of f 0)) m₂
did_pop s b t f l m₁ m₂ has d e lt r = did_step s (popped 1) (λ g. refs_of_value (operand_of g 0)) b t f l m₁ m₂ has d e (frame_pop (MayEnter b) (MayBeLost s b) f lt r)

pub did_clear_operands : (s : Kept) (b : MachineState) (t : ℕ) (f : FrameState) (l : List ℕ) (m₁ m₂ : MachineState) → HasFrame b.guest t → Did s b t f l m₁
    → m₂ ≡ steps_top m₁ t (without_operands (top m₁.guest t)) (refs_of (top m₁.guest t).operands)
    → ((o : ℕ) → Contains (refs_of f.operands) o → MayBeLost s b o) → Did s b t (without_operands f) (l ++ refs_of f.operands) m₂
did_clear_operands s b t f l m₁ m₂ has d e r = did_step s without_operands (λ g. refs_of g.operands) b t f l m₁ m₂ has d e (frame_clear (MayEnter b) (MayBeLost s b) f r)

pub did_set_local : (s : Kept) (b : MachineState) (t : ℕ) (f : FrameState) (l : List ℕ) (m₁ m₂ : MachineState) (i : ℕ) (v : Value) → HasFrame b.guest t → Did s b t f l m₁
    → m₂ ≡ steps_top m₁ t (with_local i v (top m₁.guest t)) (refs_of_value (local_of (top m₁.guest t) i))
    → i < length f.locals → ((o : ℕ) → Contains (refs_of_value v) o → MayEnter b o) → ((o : ℕ) → Contains (refs_of_value (local_of f i)) o → MayBeLost s b o)
    → Did s b t (with_local i v f) (l ++ refs_of_value (local_of f i)) m₂
did_set_local s b t f l m₁ m₂ i v has d e lt h r = did_step s (with_local i v) (λ g. refs_of_value (local_of g i)) b t f l m₁ m₂ has d e (frame_set_local (MayEnter b) (MayBeLost s b) f i v lt h r)

-- the event is still under way
pub did_on_way : (s : Kept) (b : MachineState) (t : ℕ) (f : FrameState) (l : List ℕ) (m : MachineState) → IsOnWay s b → HasFrame b.guest t → Did s b t f l m → IsOnWay s m
did_on_way s b t f l m w has d =
    subst (λ (n : MachineState). IsOnWay s n) (sym d.is) (law_guest s (kept_of b) b.lost (with_top b.guest t f) l w (guest_top (MayEnter b) (MayBeLost s b) b.guest t f l has d.moves))

-- HOW AN EVENT ENDS

pub led : (s x : Kept) (m : MachineState) → IsOnWay s m → ((o : ℕ) → Contains (fresh_of s (kept_of m)) o → IsReached (graph_of (kept_of m)) o) → kept_of m ≡ x → Led s x m
led s x m w reached e = record { kept = e; event = subst (λ (y : Kept). IsEventOf s y m.lost) e (finish s (kept_of m) m.lost w reached) }

-- .. that made nothing
pub led_plain : (s x : Kept) (m : MachineState) → IsOnWay s m → length m.heap ≡ length s.heap → kept_of m ≡ x → Led s x m
led_plain s x m w len e = led s x m w (λ o c. absurd (no_fresh s (kept_of m) len o c)) e

only_one : (k n o : ℕ) → n ≡ 1 → Contains (numbers_from k n) o → k ≡ o
only_one k n o e c =
    elim (Contains-cons k [] o (subst (λ (j : ℕ). Contains (numbers_from k j) o) e c)) [ inl same ↦ same | inr d ↦ absurd (Contains-none o d) ]

-- .. that made one object
pub led_made : (s x : Kept) (m : MachineState) → IsOnWay s m → length m.heap ≡ length s.heap + 1 → IsReached (graph_of (kept_of m)) (length s.heap) → kept_of m ≡ x → Led s x m
led_made s x m w len reached e =
    let one : length m.heap - length s.heap ≡ 1 = omega arith in
    led s x m w (λ o c. subst (λ (n : ℕ). IsReached (graph_of (kept_of m)) n) (only_one (length s.heap) (length m.heap - length s.heap) o one c) reached) e

-- .. that changed the topmost frame alone
pub did_led : (m : MachineState) (t : ℕ) (f : FrameState) (l : List ℕ) (m' : MachineState) → IsSound (kept_of m) → HasFrame m.guest t → Did (kept_of m) (begun m) t f l m'
    → Led (kept_of m) (record { heap = m.heap; guest = with_top (ticked m.guest) t f }) m'
did_led m t f l m' sound has d =
    led_plain (kept_of m) _ m' (did_on_way (kept_of m) (begun m) t f l m' (on_begin_event m sound) (record { thread = has.thread; frame = has.frame }) d)
    (ap (λ (n : MachineState). length n.heap) d.is) (ap (λ (n : MachineState). kept_of n) d.is)

-- a thread that waits
pub waited_led : (m m' : MachineState) → IsSound (kept_of m) → m' ≡ begun m → Led (kept_of m) (record { heap = m.heap; guest = ticked m.guest }) m'
waited_led m m' sound e =
    led_plain (kept_of m) _ m' (subst (λ (n : MachineState). IsOnWay (kept_of m) n) (sym e) (on_begin_event m sound)) (ap (λ (n : MachineState). length n.heap) e) (ap (λ (n : MachineState). kept_of n) e)

-- WHAT STANDS IN THE FIRST STATE is held, and was there

pub root_held : (s : Kept) (o : ℕ) → IsSound s → Contains (roots_of s.guest) o → IsHeld s.heap o
root_held s o sound c = sound.roots o c

pub root_there : (s x : Kept) (o : ℕ) → Contains (roots_of s.guest) o → WasThere s x o
root_there s x o c = inl (root_is_reached s o c)

pub operand_held : (m : MachineState) (t k : ℕ) → IsSound (kept_of m) → HasFrame m.guest t → k < length (top m.guest t).operands → (o : ℕ) → Contains (refs_of_value (operand_of (top m.guest t) k)) o → IsHeld m.heap o
operand_held m t k sound has lt o c = sound.roots o (top_root m.guest t o has (operand_root (top m.guest t) k o lt c))

pub operand_there : (m : MachineState) (x : Kept) (t k : ℕ) → HasFrame m.guest t → k < length (top m.guest t).operands → (o : ℕ) → Contains (refs_of_value (operand_of (top m.guest t) k)) o → WasThere (kept_of m) x o
operand_there m x t k has lt o c = root_there (kept_of m) x o (top_root m.guest t o has (operand_root (top m.guest t) k o lt c))

pub local_there : (m : MachineState) (x : Kept) (t i : ℕ) → HasFrame m.guest t → i < length (top m.guest t).locals → (o : ℕ) → Contains (refs_of_value (local_of (top m.guest t) i)) o → WasThere (kept_of m) x o
local_there m x t i has lt o c = root_there (kept_of m) x o (top_root m.guest t o has (local_root (top m.guest t) i o lt c))

-- what stands in a slot of an object that is held is held, and was there where the object was reached
pub slot_held : (s : Kept) (u i o : ℕ) → IsSound s → i < length (object_at s.heap u).slots → Contains (refs_of_value (slot_of (object_at s.heap u) i)) o → IsHeld s.heap o
slot_held s u i o sound lt c = sound.slots u o (slot_pair s.heap u o (part_contained refs_of_value Unset (object_at s.heap u).slots i o lt c))

pub slot_there : (s x : Kept) (u i o : ℕ) → IsReached (graph_of s) u → i < length (object_at s.heap u).slots → Contains (refs_of_value (slot_of (object_at s.heap u) i)) o → WasThere s x o
slot_there s x u i o reached lt c = inl (slot_is_reached s u o reached (part_contained refs_of_value Unset (object_at s.heap u).slots i o lt c))

number_there : (k n j : ℕ) → j < n → Contains (numbers_from k n) (k + j)
number_there k zero j lt = absurd (omega arith)
number_there k (suc n) zero lt = let e : k ≡ k + 0 = omega arith in subst (λ (o : ℕ). Contains (k ∷ numbers_from (k + 1) n) o) e (Contains-here k (numbers_from (k + 1) n))
number_there k (suc n) (suc j) lt =
    let e : k + 1 + j ≡ k + suc j = omega arith in
    subst (λ (o : ℕ). Contains (k ∷ numbers_from (k + 1) n) o) e (Contains-there k (numbers_from (k + 1) n) (k + 1 + j) (number_there (k + 1) n j (omega arith)))

-- an object that the event made was there
pub new_there : (s x : Kept) (o : ℕ) → length s.heap ≤ o → o < length x.heap → WasThere s x o
new_there s x o low high =
    let e : length s.heap + (o - length s.heap) ≡ o = omega arith in
    inr (subst (λ (n : ℕ). Contains (fresh_of s x) n) e (number_there (length s.heap) (length x.heap - length s.heap) (o - length s.heap) (omega arith)))

-- the newest object is held
pub newest_held : (heap : Objects) (y : ObjectState) → IsHeld (heap ++ Some y ∷ []) (length heap)
newest_held heap y = subst is_there (sym (get_or_at heap (Some y) [] None (length heap) refl)) tt

-- what stands in the topmost frame that is written stands in a root place
pub with_top_root : (g : GuestState) (t : ℕ) (f : FrameState) (o : ℕ) → t < length g.threads → Contains (frame_roots f) o → Contains (roots_of (with_top g t f)) o
with_top_root g t f o lt c =
    let x : ThreadState = with_top_of (thread_at g t) f in
    let inside : Contains (thread_roots x) o = Contains-append_left (flat_map frame_roots x.frames) _ o (Contains-append_left (frame_roots f) _ o c) in
    let long : t < length (set g.threads t x) = subst (λ (n : ℕ). t < n) (sym (length-set g.threads t x)) lt in
    thread_root (with_top g t f) t o long (subst (λ (y : ThreadState). Contains (thread_roots y) o) (sym (get_or-set_same g.threads t x no_thread lt)) inside)

-- an event that began on m and made an object first
pub made_on_way : (m : MachineState) (y : ObjectState) → IsSound (kept_of m) → leads_to y ≡ [] → y.referent ≡ None → IsOnWay (kept_of m) (begun (record m { heap = m.heap ++ Some y ∷ [] }))
made_on_way m y sound empty weak = law_make (kept_of m) (record { heap = m.heap; guest = ticked m.guest }) [] y (start (kept_of m) sound) empty weak

-- .. and then changed the topmost frame, where the object stands now
pub did_make : (m : MachineState) (t : ℕ) (f : FrameState) (l : List ℕ) (y : ObjectState) (m' : MachineState) → IsSound (kept_of m) → HasFrame m.guest t → leads_to y ≡ [] → y.referent ≡ None
    → Did (kept_of m) (begun (record m { heap = m.heap ++ Some y ∷ [] })) t f l m' → Contains (frame_roots f) (length m.heap)
    → Led (kept_of m) (record { heap = m.heap ++ Some y ∷ []; guest = with_top (ticked m.guest) t f }) m'
did_make m t f l y m' sound has empty weak d here =
    let s : Kept = kept_of m in
    let b : MachineState = begun (record m { heap = m.heap ++ Some y ∷ [] }) in
    let x : Kept = record { heap = m.heap ++ Some y ∷ []; guest = with_top (ticked m.guest) t f } in
    let kept : kept_of m' ≡ x = ap (λ (n : MachineState). kept_of n) d.is in
    let reached : IsReached (graph_of x) (length m.heap) = root_is_reached x (length m.heap) (with_top_root (ticked m.guest) t f (length m.heap) has.thread here) in
    led_made s x m' (did_on_way s b t f l m' (made_on_way m y sound empty weak) (record { thread = has.thread; frame = has.frame }) d)
    (ap (λ (n : MachineState). length n.heap) d.is ∙ length_push m.heap (Some y)) (subst (λ (z : Kept). IsReached (graph_of z) (length m.heap)) (sym kept) reached) kept

-- an event that changed the topmost frame and then wrote a slot
pub did_write : (m : MachineState) (t : ℕ) (f : FrameState) (l : List ℕ) (m₁ m₂ : MachineState) (o i : ℕ) (v : Value) → IsSound (kept_of m) → HasFrame m.guest t → Did (kept_of m) (begun m) t f l m₁
    → m₂ ≡ steps_object m₁ o (with_slot i v (object_at m₁.heap o)) (refs_of_value (slot_of (object_at m₁.heap o) i))
    → IsHeld m.heap o → IsReached (graph_of (kept_of m)) o → i < length (object_at m.heap o).slots
    → ((r : ℕ) → Contains (refs_of_value v) r → IsHeld m.heap r) → ((r : ℕ) → Contains (refs_of_value v) r → IsReached (graph_of (kept_of m)) r)
    → Led (kept_of m) (record { heap = with_object_at m.heap o (with_slot i v (object_at m.heap o)); guest = with_top (ticked m.guest) t f }) m₂
did_write m t f l m₁ m₂ o i v sound has d e held reached lt h r =
    let s : Kept = kept_of m in
    let b : MachineState = steps_top (begun m) t f l in
    let w : IsOnWay s b = subst (λ (n : MachineState). IsOnWay s n) d.is (did_on_way s (begun m) t f l m₁ (on_begin_event m sound) (record { thread = has.thread; frame = has.frame }) d) in
    let next : IsOnWay s (steps_object b o (with_slot i v (object_at m.heap o)) (refs_of_value (slot_of (object_at m.heap o) i))) =
    on_set_slot s b o i v w held (inl reached) lt h (λ q c. inl (r q c)) (λ q c. slot_there s (kept_of b) o i q reached lt c) in
    let is : m₂ ≡ steps_object b o (with_slot i v (object_at m.heap o)) (refs_of_value (slot_of (object_at m.heap o) i)) =
    e ∙ ap (λ (n : MachineState). steps_object n o (with_slot i v (object_at n.heap o)) (refs_of_value (slot_of (object_at n.heap o) i))) d.is in
    led_plain s _ m₂ (subst (λ (n : MachineState). IsOnWay s n) (sym is) next) (ap (λ (n : MachineState). length n.heap) is ∙ length-set m.heap o (Some (with_slot i v (object_at m.heap o)))) (ap (λ (n : MachineState). kept_of n) is)
