-- What an event comes to that makes a weak reference with a queue, or polls a queue.
use Rattle.std.proofs.Common.{◌≡◌, ℕ, ◌≤◌, List, [], ◌∷◌, ◌++◌, length, take, Option, Some, None, refl, sym, ◌∙◌, ap, subst, Contains, append-nil, inl, inr}
use Rattle.std.proofs.lemmas.List.{length-set}
use Rattle.et_base.specs.declared.value.Value.{Value}
use Rattle.et_base.proofs.Lists.{Contains-none, Contains-here, Contains-cons}
use Rattle.et_heap.specs.Objects.{ObjectState, IsHeld, object_at, with_referent, with_queue, referent_of, referent_value}
use Rattle.et_heap.specs.Queues.{IsWhole, first_value, polled}
use Rattle.et_heap.specs.Refs.{refs_of_value, refs_of}
use Rattle.et_heap.proofs.HeapLists.{held_set, held_within}
use Rattle.et_state.specs.Threads.{FrameState, pushed}
use Rattle.et_state.specs.ThreadRoots.{frame_roots}
use Rattle.et_state.specs.State.{GuestState, Kept, MachineState, kept_of}
use Rattle.et_state.specs.Words.{top, with_top, HasFrame, ticked, begun, losing, steps_top, steps_object, with_object}
use Rattle.et_state.specs.Sound.{IsSound}
use Rattle.et_state.specs.Moves.{IsOnWay, WasThere}
use Rattle.et_state.proofs.Places.{top_root}
use Rattle.et_state.proofs.UnderWay.{root_is_reached, reached_by_pair, queue_pair, waiting_pair}
use Rattle.et_state.proofs.Calls.{on_begin_event, on_push, on_set_referent, on_set_queue, on_poll, first_taken_held, first_taken_long}
use Rattle.et_state.proofs.Steps.{did_on_way, led_plain, top-with_top, with_top-with_top}
use Rattle.et_program.specs.Entries.{Linked}
use Rattle.et_state.specs.declared.records.Record.{Record}
use Rattle.et_state.specs.declared.ends.EventEnd.TheVariants as endings
use Rattle.et_event.specs.Answered.{EventAnswers}
use Rattle.et_event.specs.BuiltIns.{answering, with_first_taken, with_reference_made}
use Rattle.et_event.specs.Calls.{arguments_of}
use Rattle.et_event.specs.Moments.{Doing, moment, begins, goes}
use Rattle.et_event.specs.Sites.{Site}
use Rattle.et_event.specs.Tops.{IsIn}
use Rattle.et_event.proofs.Taking.{replaced, has_after}
use Rattle.et_builtins.proofs.Changing.{passed_by, did_pass, begun_has, answering_is, referent_refs, object_set}

-- nothing is lost
pub losing_none : (m : MachineState) (v : Value) → refs_of_value v ≡ [] → m ≡ losing m (refs_of_value v)
losing_none m v e = sym (ap (λ (os : List ℕ). losing m os) e ∙ ap (λ (os : List ℕ). record m { lost = os }) (append-nil m.lost))

-- A WEAK REFERENCE IS MADE

pub queue_named : (q : Option ℕ) (o : ℕ) → Contains (refs_of_value (referent_value q)) o → q ≡ Some o
queue_named None o c = absurd (Contains-none o c)
queue_named (Some u) o c = elim (Contains-cons u [] o c) [ inl e ↦ ap (λ (k : ℕ). Some k) e | inr d ↦ absurd (Contains-none o d) ]

pub reference_made : (p : Linked) (t n pc o : ℕ) (v w : Value) (m b b₁ b₂ : MachineState) (at : Site) (out : List Record) → IsSound (kept_of m) → HasFrame m.guest t → n ≤ length (top m.guest t).operands → at.next ≡ pc
    → Contains (frame_roots (top m.guest t)) o → IsHeld m.heap o → IsIn (top m.guest t) v → IsIn (top m.guest t) w → b ≡ passed_by m t n pc → b₁ ≡ with_object b o (with_referent (referent_of v) (object_at b.heap o))
    → b₂ ≡ steps_object b₁ o (with_queue (referent_of w) (object_at b₁.heap o)) (refs_of_value (referent_value (object_at b₁.heap o).queue))
    → EventAnswers (goes (with_reference_made o (referent_of v) (referent_of w) (answering (moment p m t) at (arguments_of (moment p m t) n) [] (begins (moment p m t))))) endings.Done m b₂ out out
reference_made p t n pc o v w m b b₁ b₂ at out sound has le same inside held value value₂ e e₁ e₂ =
    let s : Kept = kept_of m in
    let r : Option ℕ = referent_of v in
    let q : Option ℕ = referent_of w in
    let root = λ (x : ℕ) (c : Contains (frame_roots (top m.guest t)) x). top_root m.guest t x has c in
    let reached = λ (x : ℕ) (c : Contains (frame_roots (top m.guest t)) x). root_is_reached s x (root x c) in
    let c₀ : MachineState = passed_by m t n pc in
    let y : ObjectState = with_referent r (object_at m.heap o) in
    let c₁ : MachineState = with_object c₀ o y in
    let next : MachineState → MachineState = λ (x : MachineState). steps_object x o (with_queue q (object_at x.heap o)) (refs_of_value (referent_value (object_at x.heap o).queue)) in
    let way₀ : IsOnWay s c₀ = did_on_way s (begun m) t (replaced n [] pc (top m.guest t)) (refs_of (take n (top m.guest t).operands)) c₀ (on_begin_event m sound) (begun_has m t has) (did_pass m t n pc c₀ has refl) in
    let way₁ : IsOnWay s c₁ = on_set_referent s c₀ o r way₀ held (λ x c. sound.roots x (root x (value x (referent_refs v x c)))) in
    let now : (object_at c₁.heap o).queue ≡ (object_at m.heap o).queue = ap (λ (x : ObjectState). x.queue) (object_set m.heap o y (held_within m.heap o held)) in
    let was : (x : ℕ) → Contains (refs_of_value (referent_value (object_at c₁.heap o).queue)) x → WasThere s (kept_of c₁) x = λ x c.
    inl (reached_by_pair s o x (reached o inside) (queue_pair m.heap o x (queue_named (object_at m.heap o).queue x (subst (λ (k : Option ℕ). Contains (refs_of_value (referent_value k)) x) now c)))) in
    let way₂ : IsOnWay s (next c₁) =
    on_set_queue s c₁ o q way₁ (held_set m.heap o y o held held) (inl (reached o inside)) (λ x c. held_set m.heap o y x held (sound.roots x (root x (value₂ x (referent_refs w x c)))))
    (λ x c. inl (reached x (value₂ x (referent_refs w x c)))) was in
    let is₁ : b₁ ≡ c₁ = e₁ ∙ ap (λ (x : MachineState). with_object x o (with_referent r (object_at x.heap o))) e in
    let is₂ : b₂ ≡ next c₁ = e₂ ∙ ap next is₁ in
    let long : length (next c₁).heap ≡ length m.heap = length-set c₁.heap o (Some (with_queue q (object_at c₁.heap o))) ∙ length-set m.heap o (Some y) in
    subst (λ (d : Doing). EventAnswers (goes (with_reference_made o r q d)) endings.Done m b₂ out out) (sym (answering_is p t n pc m at [] le same))
    (led_plain s _ b₂ (subst (λ (x : MachineState). IsOnWay s x) (sym is₂) way₂) (ap (λ (x : MachineState). length x.heap) is₂ ∙ long) (ap (λ (x : MachineState). kept_of x) is₂), sym (append-nil out))

-- A QUEUE IS POLLED

first_waits : (rs : List ℕ) (o : ℕ) → Contains (refs_of_value (first_value rs)) o → Contains rs o
first_waits [] o c = c
first_waits (r ∷ rs) o c = elim (Contains-cons r [] o c) [
  | inl e ↦ subst (λ (x : ℕ). Contains (r ∷ rs) x) e (Contains-here r rs)
  | inr d ↦ absurd (Contains-none o d)
]

-- what waits in an object of a sound state is held
pub queue_whole : (m : MachineState) (q : ℕ) → IsSound (kept_of m) → IsWhole m.heap q
queue_whole m q sound = λ r c. sound.slots q r (waiting_pair m.heap q r c)

-- the first reference is taken out, and lost
abbrev pub first_gone : MachineState → ℕ → MachineState
first_gone m q = record m { heap = polled q m.heap; lost = m.lost ++ refs_of_value (first_value (object_at m.heap q).waiting) }

pub first_given : (p : Linked) (t n pc q : ℕ) (v : Value) (m b b₁ b₂ : MachineState) (at : Site) (out : List Record) → IsSound (kept_of m) → HasFrame m.guest t → n ≤ length (top m.guest t).operands → at.next ≡ pc
    → Contains (frame_roots (top m.guest t)) q → IsHeld m.heap q → v ≡ first_value (object_at b.heap q).waiting → b ≡ passed_by m t n pc → b₁ ≡ first_gone b q → b₂ ≡ steps_top b₁ t (pushed v (top b₁.guest t)) []
    → EventAnswers (goes (with_first_taken q (answering (moment p m t) at (arguments_of (moment p m t) n) (first_value (object_at m.heap q).waiting ∷ []) (begins (moment p m t))))) endings.Done m b₂ out out
first_given p t n pc q v m b b₁ b₂ at out sound has le same inside held is e e₁ e₂ =
    let s : Kept = kept_of m in
    let rs : List ℕ = (object_at m.heap q).waiting in
    let w : Value = first_value rs in
    let f : FrameState = replaced n [] pc (top m.guest t) in
    let l : List ℕ = refs_of (take n (top m.guest t).operands) in
    let c₀ : MachineState = passed_by m t n pc in
    let c₁ : MachineState = first_gone c₀ q in
    let next : MachineState → MachineState = λ (x : MachineState). steps_top x t (pushed w (top x.guest t)) [] in
    let reached = root_is_reached s q (top_root m.guest t q has inside) in
    let waits : (o : ℕ) → Contains rs o → IsHeld m.heap o = queue_whole m q sound in
    let way₀ : IsOnWay s c₀ = did_on_way s (begun m) t f l c₀ (on_begin_event m sound) (begun_has m t has) (did_pass m t n pc c₀ has refl) in
    let way₁ : IsOnWay s c₁ = on_poll s c₀ q way₀ held (inl reached) (λ o c. inl (reached_by_pair s q o reached (waiting_pair m.heap q o (first_waits rs o c)))) in
    let has₁ : HasFrame c₁.guest t = has_after (begun m) t f l c₀ (begun_has m t has) refl in
    let way₂ : IsOnWay s (next c₁) = on_push s c₁ t w way₁ has₁ (λ o c. first_taken_held m.heap q rs held waits o (waits o (first_waits rs o c))) in
    let value : v ≡ w = is ∙ ap (λ (x : MachineState). first_value (object_at x.heap q).waiting) e in
    let is₁ : b₁ ≡ c₁ = e₁ ∙ ap (λ (x : MachineState). first_gone x q) e in
    let is₂ : b₂ ≡ next c₁ = e₂ ∙ (ap (λ (y : Value). steps_top b₁ t (pushed y (top b₁.guest t)) []) value ∙ ap next is₁) in
    let guest : with_top c₁.guest t (pushed w (top c₁.guest t)) ≡ with_top (ticked m.guest) t (pushed w f) =
    ap (λ (x : FrameState). with_top c₁.guest t (pushed w x)) (top-with_top (ticked m.guest) t f has.thread) ∙ with_top-with_top (ticked m.guest) t f (pushed w f) has.thread in
    let kept : kept_of b₂ ≡ record { heap = polled q m.heap; guest = with_top (ticked m.guest) t (pushed w f) } =
    ap (λ (x : MachineState). kept_of x) is₂ ∙ ap (λ (g : GuestState). record { heap = polled q m.heap; guest = g }) guest in
    subst (λ (d : Doing). EventAnswers (goes (with_first_taken q d)) endings.Done m b₂ out out) (sym (answering_is p t n pc m at (w ∷ []) le same))
    (led_plain s _ b₂ (subst (λ (x : MachineState). IsOnWay s x) (sym is₂) way₂) (ap (λ (x : MachineState). length x.heap) is₂ ∙ first_taken_long m.heap q rs) kept, sym (append-nil out))
