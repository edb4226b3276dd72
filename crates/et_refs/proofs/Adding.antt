-- The event that makes arrays is a legal step: all new arrays are reached from the first one, which stands on top.
use Rattle.std.proofs.Common.{◌≡◌, ℕ, zero, suc, ◌+◌, ◌-◌, ◌<◌, ◌≤◌, true, false, List, [], ◌∷◌, ◌++◌, length, take, drop, refl, sym, ◌∙◌, ap, subst, arith, inl, inr, Contains}
use Rattle.std.specs.Prelude.{ℤ}
use Rattle.std.proofs.lemmas.Bool.{cases_eq}
use Rattle.std.proofs.lemmas.List.Elements.{Contains-append_left, Contains-append_right}
use Rattle.et_state.proofs.Numbered.{in_range}
use Rattle.et_base.specs.declared.value.Value.{Value}
use Rattle.et_base.specs.declared.value.Value.TheVariants.{Ref}
use Rattle.et_graph.specs.Graph.{IsReached}
use Rattle.et_base.proofs.Lists.{Contains-here, Contains-one}
use Rattle.et_heap.specs.Objects.{IsHeld}
use Rattle.et_heap.specs.Refs.{refs_of}
use Rattle.et_state.specs.Threads.{FrameState}
use Rattle.et_state.specs.ThreadRoots.{frame_roots}
use Rattle.et_state.specs.State.{GuestState, Kept, MachineState, kept_of}
use Rattle.et_state.specs.Words.{top, with_top, HasFrame, begun, steps_top, ticked}
use Rattle.et_state.specs.Roots.{roots_of, graph_of}
use Rattle.et_state.specs.Sound.{IsSound}
use Rattle.et_state.specs.Moves.{IsOnWay, Led}
use Rattle.et_state.proofs.Calls.{on_begin_event}
use Rattle.et_state.proofs.Places.{top_root}
use Rattle.et_state.proofs.Steps.{MayEnter, MayBeLost, did_on_way, root_there, with_top_root, led}
use Rattle.et_state.proofs.UnderWay.{root_is_reached, slot_is_reached}
use Rattle.et_program.specs.Entries.{Linked}
use Rattle.et_state.specs.declared.records.Record.{Record}
use Rattle.et_state.specs.declared.ends.EventEnd.TheVariants as endings
use Rattle.et_state.specs.Outcome.{Outcome, state_after}
use Rattle.et_event.specs.Answered.{EventAnswers}
use Rattle.et_event.specs.Heap.{arrays_made, naturals}
use Rattle.et_event.specs.Moments.{Moment, moment, Doing, begins, with_frame, next_object, fits_heap}
use Rattle.et_event.specs.Sites.{natural_of}
use Rattle.et_event.proofs.Taking.{replaced, length_dropped}
use Rattle.et_event.proofs.Throwing.{ends_fit, ends_full}
use Rattle.et_refs.proofs.Leading.{moves_held}
use Rattle.et_refs.specs.Events.{new_arrays_outcome}
use Rattle.et_event.specs.Telling.{so_far}
use Rattle.et_refs.specs.Legal.{IsTied, HasMadeArrays}
use Rattle.et_refs.proofs.Behind.{behind, arrays_begun}
use Rattle.et_refs.proofs.Legal.{arrays_legal}

has_frame_on : (g g' : GuestState) (t : ℕ) → g' ≡ g → HasFrame g t → HasFrame g' t
has_frame_on g g' t e has = subst (λ (h : GuestState). HasFrame h t) (sym e) has

-- each object from k on is reached, where k is and each other one is tied
reached_from : (s : Kept) (k fuel o : ℕ) → IsReached (graph_of s) k → ((u : ℕ) → k < u → u < length s.heap → IsTied s.heap k u) → o < fuel → k ≤ o → o < length s.heap → IsReached (graph_of s) o
reached_from s k zero o first tied lt low high = absurd (omega arith)
reached_from s k (suc fuel) o first tied lt low high = elim (cases_eq o k) [
  | inl is ↦ subst (λ (u : ℕ). IsReached (graph_of s) u) (sym is) first
  | inr ne ↦
      let t : IsTied s.heap k o = tied o (above o k low ne) high in
      let under = t.high in
      slot_is_reached s t.parent o (reached_from s k fuel t.parent first tied (omega (arith, lt, under)) t.low (omega (arith, high, under))) t.ties
]
  where
    above : (o k : ℕ) → k ≤ o → (o ≡ k → ⊥) → k < o
    above o k low ne = omega arith

operand_first : (f : FrameState) (o n next : ℕ) → Contains (frame_roots (replaced n (Ref o ∷ []) next f)) o
operand_first f o n next = Contains-append_right (refs_of f.locals) _ o (Contains-append_left (refs_of (Ref o ∷ drop n f.operands)) _ o (Contains-here o _))

-- the machine when all arrays are made
abbrev pub with_arrays : Doing → MachineState
with_arrays x = record { heap = x.state.heap; guest = x.state.guest; lost = [] }

pub added_led : (m m₃ : MachineState) (t count next : ℕ) (x : Doing) → IsSound (kept_of m) → HasFrame m.guest t → HasMadeArrays (kept_of m) [] (record { state = kept_of (begun m); records = [] }) x
    → m₃ ≡ steps_top (with_arrays x) t (replaced count (Ref (length m.heap) ∷ []) next (top (with_arrays x).guest t)) (refs_of (take count (top (with_arrays x).guest t).operands))
    → Led (kept_of m) (record { heap = x.state.heap; guest = with_top x.state.guest t (replaced count (Ref (length m.heap) ∷ []) next (top m.guest t)) }) m₃
added_led m m₃ t count next x sound has made is₃ =
    let s : Kept = kept_of m in
    let n : MachineState = with_arrays x in
    let o₁ : ℕ = length m.heap in
    let f : FrameState = top n.guest t in
    let guest : n.guest ≡ ticked m.guest = made.guest in
    let on : HasFrame n.guest t = has_frame_on (ticked m.guest) n.guest t guest (record { thread = has.thread; frame = has.frame }) in
    let same : f ≡ top m.guest t = ap (λ (g : GuestState). top g t) guest in
    let one : (o : ℕ) → Contains (o₁ ∷ []) o → IsHeld n.heap o = λ o z. subst (λ (k : ℕ). IsHeld n.heap k) (Contains-one o₁ o z) made.first in
    let there = λ (o : ℕ) (z : Contains (frame_roots f) o). root_there s (kept_of n) o (top_root m.guest t o has (subst (λ (g : FrameState). Contains (frame_roots g) o) same z)) in
    let way : IsOnWay s m₃ =
    did_on_way s n t (replaced count (Ref o₁ ∷ []) next f) (refs_of (take count f.operands)) m₃ made.way on
    (record { is = is₃; moves = moves_held (MayEnter n) (MayBeLost s n) f count next (Ref o₁ ∷ []) one there }) in
    let k : Kept = record { heap = x.state.heap; guest = with_top x.state.guest t (replaced count (Ref o₁ ∷ []) next (top m.guest t)) } in
    let is : kept_of m₃ ≡ k = ap (λ (z : MachineState). kept_of z) is₃ ∙ ap (λ (g : FrameState). let w : Kept = record { heap = x.state.heap; guest = with_top x.state.guest t (replaced count (Ref o₁ ∷ []) next g) } in w) same in
    let root : Contains (roots_of k.guest) o₁ = with_top_root n.guest t (replaced count (Ref o₁ ∷ []) next (top m.guest t)) o₁ on.thread (operand_first (top m.guest t) o₁ count next) in
    let first : IsReached (graph_of k) o₁ = root_is_reached k o₁ root in
    let grown : o₁ < length k.heap = made.grown in
    led s k m₃ way (λ o c.
    let range = in_range o₁ (length (kept_of m₃).heap - o₁) o c in
    let low = range.0 in
    let high = range.1 in
    let long : length (kept_of m₃).heap ≡ length k.heap = ap (λ (z : Kept). length z.heap) is in
    subst (λ (z : Kept). IsReached (graph_of z) o) (sym is) (reached_from k o₁ (o + 1) o first made.tied (omega arith) low (omega (arith, low, high, long, grown)))) is

-- WHAT THE CALLS LEAVE

-- what the event has done when all arrays are made
abbrev pub arrays_doing : Linked → MachineState → ℕ → ℕ → List ℤ → Doing
arrays_doing p m t c ns = arrays_made (moment p m t) c (naturals ns) (begins (moment p m t))

pub record Came (p : Linked) (m m₂ : MachineState) (t c : ℕ) (ns : List ℤ) (out out₂ : List Record) : Type 0 where
  pub machine : m₂ ≡ with_arrays (arrays_doing p m t c ns)
  pub records : out₂ ≡ out ++ (arrays_doing p m t c ns).records
  pub made : HasMadeArrays (kept_of m) [] (record { state = kept_of (begun m); records = [] }) (arrays_doing p m t c ns)
  pub guest : m₂.guest ≡ ticked m.guest

has_made : (p : Linked) (m : MachineState) (t c : ℕ) (ns : List ℤ) → IsSound (kept_of m) → 0 < length ns → HasMadeArrays (kept_of m) [] (record { state = kept_of (begun m); records = [] }) (arrays_doing p m t c ns)
has_made p m t c [] sound some = absurd (omega arith)
has_made p m t c (n ∷ ns) sound some =
    let d : Doing = record { state = kept_of (begun m); records = [] } in
    arrays_legal (moment p m t) c (natural_of n) (naturals ns) d (kept_of m) [] (on_begin_event m sound) (omega arith)

pub came_by : (p : Linked) (m m₁ m₂ : MachineState) (t c : ℕ) (ns : List ℤ) (out out₂ : List Record) → IsSound (kept_of m) → 0 < length ns → m₁ ≡ begun m
    → ((b : Kept) → so_far m₂ out₂ ≡ arrays_made (record { program = p; before = b; thread = t }) c (naturals ns) (so_far m₁ out)) → m₂.lost ≡ m₁.lost → Came p m m₂ t c ns out out₂
came_by p m m₁ m₂ t c ns out out₂ sound some e₁ made lost =
    let e : Moment = moment p m t in
    let x : Doing = arrays_doing p m t c ns in
    let total : so_far m₂ out₂ ≡ behind out x =
    made (kept_of m) ∙ (ap (λ (z : MachineState). arrays_made e c (naturals ns) (so_far z out)) e₁ ∙ arrays_begun e c (naturals ns) out) in
    let none : m₂.lost ≡ [] = lost ∙ ap (λ (z : MachineState). z.lost) e₁ in
    let is : m₂ ≡ with_arrays x =
    ap (λ (d : Doing). let z : MachineState = record { heap = d.state.heap; guest = d.state.guest; lost = m₂.lost } in z) total
    ∙ ap (λ (l : List ℕ). let z : MachineState = record { heap = x.state.heap; guest = x.state.guest; lost = l } in z) none in
    let all = has_made p m t c ns sound some in
    record {
      machine = is;
      records = ap (λ (d : Doing). d.records) total;
      made = all;
      guest = ap (λ (z : MachineState). z.guest) is ∙ all.guest;
    }

-- .. so the operands are as before
pub frame_came : (m m₂ : MachineState) (t : ℕ) → m₂.guest ≡ ticked m.guest → HasFrame m.guest t → HasFrame m₂.guest t
frame_came m m₂ t e has = has_frame_on (ticked m.guest) m₂.guest t e (record { thread = has.thread; frame = has.frame })

pub top_came : (m m₂ : MachineState) (t : ℕ) → m₂.guest ≡ ticked m.guest → top m₂.guest t ≡ top m.guest t
top_came m m₂ t e = ap (λ (g : GuestState). top g t) e

pub deep_came : (m m₂ : MachineState) (t k n : ℕ) → m₂.guest ≡ ticked m.guest → k ≡ n → n ≤ length (top m.guest t).operands → k ≤ length (top m₂.guest t).operands
deep_came m m₂ t k n e same deep = let count : length (top m₂.guest t).operands ≡ length (top m.guest t).operands = ap (λ (f : FrameState). length f.operands) (top_came m m₂ t e) in omega (arith, count, same, deep)

pub room_came : (m m₂ : MachineState) (t k n : ℕ) → m₂.guest ≡ ticked m.guest → k ≡ n → n ≤ length (top m.guest t).operands → 0 < n → length (top m.guest t).operands ≤ (top m.guest t).room
    → 1 + length (drop k (top m₂.guest t).operands) ≤ (top m₂.guest t).room
room_came m m₂ t k n e same deep some fit =
    let f : FrameState = top m₂.guest t in
    let is : f ≡ top m.guest t = top_came m m₂ t e in
    let count : length f.operands ≡ length (top m.guest t).operands = ap (λ (g : FrameState). length g.operands) is in
    let room : f.room ≡ (top m.guest t).room = ap (λ (g : FrameState). g.room) is in
    let left : length (drop k f.operands) + k ≡ length f.operands = length_dropped f.operands k (omega (arith, count, same, deep)) in
    omega (arith, left, count, room, same, some, fit)

-- THE EVENT

pub arrays_answer : (p : Linked) (t c k o next : ℕ) (ns : List ℤ) (m m₂ m₃ : MachineState) (out out₂ : List Record) → IsSound (kept_of m) → HasFrame m.guest t → Came p m m₂ t c ns out out₂
    → fits_heap (arrays_made (moment p m t) c (naturals ns) (begins (moment p m t))).state.heap ≡ true → k ≡ length ns → o ≡ length m.heap
    → m₃ ≡ steps_top m₂ t (replaced k (Ref o ∷ []) next (top m₂.guest t)) (refs_of (take k (top m₂.guest t).operands))
    → EventAnswers (new_arrays_outcome (moment p m t) next ns (drop (length ns) (top m.guest t).operands) c) endings.Done m m₃ out out₂
arrays_answer p t c k o next ns m m₂ m₃ out out₂ sound has came fit same first is₃ =
    let e : Moment = moment p m t in
    let x : Doing = arrays_doing p m t c ns in
    let n : ℕ = length ns in
    let d : Doing = with_frame e (record (top m.guest t) { pc = next; operands = Ref (next_object (begins e)) ∷ drop n (top m.guest t).operands }) x in
    let is : m₃ ≡ steps_top (with_arrays x) t (replaced n (Ref (length m.heap) ∷ []) next (top (with_arrays x).guest t)) (refs_of (take n (top (with_arrays x).guest t).operands)) =
    is₃ ∙ (ap (λ (z : MachineState). steps_top z t (replaced k (Ref o ∷ []) next (top z.guest t)) (refs_of (take k (top z.guest t).operands))) came.machine
    ∙ (ap (λ (j : ℕ). steps_top (with_arrays x) t (replaced j (Ref o ∷ []) next (top (with_arrays x).guest t)) (refs_of (take j (top (with_arrays x).guest t).operands))) same
    ∙ ap (λ (j : ℕ). steps_top (with_arrays x) t (replaced n (Ref j ∷ []) next (top (with_arrays x).guest t)) (refs_of (take n (top (with_arrays x).guest t).operands))) first)) in
    subst (λ (z : Outcome Kept). EventAnswers z endings.Done m m₃ out out₂) (sym (ends_fit d fit)) (added_led m m₃ t n next x sound has came.made is, came.records)

pub arrays_full : (p : Linked) (t c next : ℕ) (ns : List ℤ) (below : List Value) (m : MachineState) (out : List Record) → fits_heap (arrays_made (moment p m t) c (naturals ns) (begins (moment p m t))).state.heap ≡ false
    → EventAnswers (new_arrays_outcome (moment p m t) next ns below c) endings.ObjectLimit m m out out
arrays_full p t c next ns below m out fit =
    let e : Moment = moment p m t in
    let d : Doing = with_frame e (record (top m.guest t) { pc = next; operands = Ref (next_object (begins e)) ∷ below }) (arrays_doing p m t c ns) in
    subst (λ (z : Outcome Kept). EventAnswers z endings.ObjectLimit m m out out) (sym (ends_full d fit)) (refl, refl)

-- HOW MANY ARRAYS THE EVENT MAKES: where they fit, as many as are made from the machine at which it began
pub arrays_many : (p : Linked) (t c next : ℕ) (ns : List ℤ) (below : List Value) (m m₁ : MachineState) (out : List Record) → m₁ ≡ begun m → fits_heap (arrays_made (moment p m t) c (naturals ns) (begins (moment p m t))).state.heap ≡ true
    → length (arrays_made (moment p m t) c (naturals ns) (so_far m₁ out)).state.heap ≡ length (state_after (kept_of m) (new_arrays_outcome (moment p m t) next ns below c)).heap
arrays_many p t c next ns below m m₁ out e₁ fit =
    let e : Moment = moment p m t in
    let d : Doing = with_frame e (record (top m.guest t) { pc = next; operands = Ref (next_object (begins e)) ∷ below }) (arrays_doing p m t c ns) in
    ap (λ (z : MachineState). length (arrays_made e c (naturals ns) (so_far z out)).state.heap) e₁
    ∙ (ap (λ (x : Doing). length x.state.heap) (arrays_begun e c (naturals ns) out)
    ∙ ap (λ (o : Outcome Kept). length (state_after (kept_of m) o).heap) (sym (ends_fit d fit)))

-- .. so whatever making them answered, it visited no more
pub arrays_visited : (p : Linked) (t c next : ℕ) (ns : List ℤ) (below : List Value) (m m₁ m₂ : MachineState) (out : List Record) (old new : ℕ) → m₁ ≡ begun m → fits_heap (arrays_made (moment p m t) c (naturals ns) (begins (moment p m t))).state.heap ≡ true
    → new + length m₁.heap ≤ old + length m₂.heap → length m₂.heap ≤ length (arrays_made (moment p m t) c (naturals ns) (so_far m₁ out)).state.heap
    → new ≤ old + (length (state_after (kept_of m) (new_arrays_outcome (moment p m t) next ns below c)).heap - length m.heap)
arrays_visited p t c next ns below m m₁ m₂ out old new e₁ fit visits most =
    let same : length m₁.heap ≡ length m.heap = ap (λ (z : MachineState). length z.heap) e₁ in
    let many = arrays_many p t c next ns below m m₁ out e₁ fit in
    omega (arith, visits, most, same, many)
