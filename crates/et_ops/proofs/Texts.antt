-- The strings of constants.
use Rattle.std.proofs.Common.{◌≡◌, ℕ, ◌<◌, ◌≤◌, Bool, true, List, [], ◌∷◌, ◌++◌, length, Option, Some, None, refl, sym, ◌∙◌, ap, subst, append-nil, Contains}
use Rattle.std.specs.Prelude.{if◌then◌else◌, is_some, codes, unwrap_or}
use Rattle.std.proofs.lemmas.Bool.{lt-ltb, le-ltb}
use Rattle.std.proofs.lemmas.List.{length_push}
use Rattle.std.proofs.lemmas.List.Elements.{Contains-append_left, Contains-append_right}
use Rattle.et_graph.proofs.Among.{waits_one}
use Rattle.et_state.proofs.Interned.{object_in, object_pushed, no_text}
use Rattle.et_base.specs.declared.value.Value.TheVariants.{Ref}
use Rattle.et_graph.specs.Graph.{IsReached}
use Rattle.et_base.proofs.Lists.{Contains-here}
use Rattle.et_heap.specs.Objects.{ObjectState, new_object, IsHeld}
use Rattle.et_heap.specs.Refs.{refs_of}
use Rattle.et_heap.proofs.HeapLists.{held_within}
use Rattle.et_state.specs.Threads.{FrameState, at_pc, pushed}
use Rattle.et_state.specs.ThreadRoots.{frame_roots}
use Rattle.et_state.specs.State.{GuestState, Kept, MachineState, kept_of}
use Rattle.et_state.specs.Interned.{object_of, interned_text}
use Rattle.et_state.specs.Words.{top, with_top, HasFrame, ticked, begun, steps_top, with_guest, with_string}
use Rattle.et_state.specs.Roots.{graph_of}
use Rattle.et_state.specs.Sound.{IsSound}
use Rattle.et_state.specs.Moves.{IsOnWay, Led}
use Rattle.et_state.proofs.Places.{string_root, leads-new}
use Rattle.et_state.proofs.UnderWay.{root_is_reached}
use Rattle.et_state.proofs.Calls.{on_intern}
use Rattle.et_state.proofs.Steps.{Did, did_here, did_begin, did_push, did_set_pc, did_on_way, did_led, led_made, made_on_way, newest_held, with_top_root}
use Rattle.et_state.specs.declared.records.Record.{Record}
use Rattle.et_state.specs.declared.ends.EventEnd.{EventEnd}
use Rattle.et_state.specs.declared.ends.EventEnd.TheVariants as ends
use Rattle.et_state.specs.Outcome.{Outcome, Goes, ObjectLimit}
use Rattle.et_program.specs.Entries.{Linked, class_at}
use Rattle.et_event.specs.Errors.{class_called}
use Rattle.et_event.specs.Moments.{Moment, moment, Doing, current_frame, begins, instance_made, next_object, with_frame, ends_event as ending, fits_heap, ill_typed, doing_with_guest as doing_with}
use Rattle.et_event.specs.Checks.{ill_typed_unless}
use Rattle.et_event.specs.Sites.{Site, AString}
use Rattle.et_event.specs.Strings.{interned, string_object}
use Rattle.et_event.specs.Plain.{constant}
use Rattle.et_event.specs.Answered.{EventAnswers}
use Rattle.et_event.specs.Making.{MakesObject}
use Rattle.et_event.proofs.Answering.{ill_typed_end, ill_typed_answers}
use Rattle.et_event.proofs.Throwing.{ends_fit, ends_full}

abbrev Strings : Type 0
Strings = List (List ℕ × ℕ)

-- THE OBJECTS OF STRINGS

pub string_held : (m : MachineState) (bytes : List ℕ) (o : ℕ) → IsSound (kept_of m) → object_of m.guest.interned bytes ≡ Some o → IsHeld m.heap o
string_held m bytes o sound h = sound.roots o (string_root m.guest o (object_in m.guest.interned bytes o h))

-- the object that is made next has no bytes yet
pub new_text : (m m₁ : MachineState) (o : ℕ) → IsSound (kept_of m) → o ≡ length m.heap → m₁.guest ≡ m.guest → interned_text m₁.guest.interned o ≡ None
new_text m m₁ o sound e same =
    let none : interned_text m.guest.interned (length m.heap) ≡ None = no_text (length m.heap) m.guest.interned (λ q c. held_within m.heap q (sound.roots q (string_root m.guest q c))) in
    ap (λ (g : GuestState). interned_text g.interned o) same ∙ (ap (λ (k : ℕ). interned_text m.guest.interned k) e ∙ none)

-- THE EVENT

abbrev stepped : ℕ → ℕ → FrameState → FrameState
stepped pc o f = at_pc pc (pushed (Ref o) f)

pub pushed_led : (m : MachineState) (t o pc : ℕ) (m₁ m₂ m₃ : MachineState) → IsSound (kept_of m) → HasFrame m.guest t → IsHeld m.heap o → m₁ ≡ begun m
    → m₂ ≡ steps_top m₁ t (pushed (Ref o) (top m₁.guest t)) [] → m₃ ≡ steps_top m₂ t (at_pc pc (top m₂.guest t)) []
    → Led (kept_of m) (record { heap = m.heap; guest = with_top (ticked m.guest) t (stepped pc o (top m.guest t)) }) m₃
pushed_led m t o pc m₁ m₂ m₃ sound has held e₁ e₂ e₃ =
    let s : Kept = kept_of m in
    let f : FrameState = top m.guest t in
    let has₁ : HasFrame (begun m).guest t = record { thread = has.thread; frame = has.frame } in
    let d₁ = did_begin s m t m₁ has e₁ in
    let d₂ = did_push s (begun m) t f [] m₁ m₂ (Ref o) has₁ d₁ e₂ (waits_one (IsHeld m.heap) o held) in
    let d₃ = did_set_pc s (begun m) t (pushed (Ref o) f) ([] ++ []) m₂ m₃ pc has₁ d₂ e₃ in
    did_led m t (stepped pc o f) _ m₃ sound has d₃

made_led : (m : MachineState) (t class slots pc : ℕ) (bytes : List ℕ) (m₁ m₂ m₃ m₄ m₅ : MachineState) → IsSound (kept_of m) → HasFrame m.guest t
    → m₁ ≡ record m { heap = m.heap ++ Some (new_object class 0 slots) ∷ [] } → m₂ ≡ with_guest m₁ (with_string m₁.guest bytes (length m.heap)) → m₃ ≡ begun m₂
    → m₄ ≡ steps_top m₃ t (pushed (Ref (length m.heap)) (top m₃.guest t)) [] → m₅ ≡ steps_top m₄ t (at_pc pc (top m₄.guest t)) []
    → Led (kept_of m) (record { heap = m.heap ++ Some (new_object class 0 slots) ∷ []; guest = with_top (with_string (ticked m.guest) bytes (length m.heap)) t (stepped pc (length m.heap) (top m.guest t)) }) m₅
made_led m t class slots pc bytes m₁ m₂ m₃ m₄ m₅ sound has e₁ e₂ e₃ e₄ e₅ =
    let n : ℕ = length m.heap in
    let y : ObjectState = new_object class 0 slots in
    let s : Kept = kept_of m in
    let f : FrameState = top m.guest t in
    let b : MachineState = begun (record m { heap = m.heap ++ Some y ∷ [] }) in
    let b₁ : MachineState = with_guest b (with_string b.guest bytes n) in
    let w : IsOnWay s b₁ = on_intern s b bytes n (made_on_way m y sound (leads-new class 0 slots) refl) (newest_held m.heap y) in
    let is₃ : m₃ ≡ b₁ = e₃ ∙ ap (λ (z : MachineState). begun z) (e₂ ∙ ap (λ (z : MachineState). with_guest z (with_string z.guest bytes n)) e₁) in
    let has₁ : HasFrame b₁.guest t = record { thread = has.thread; frame = has.frame } in
    let d₃ : Did s b₁ t f [] m₃ = did_here s b₁ t m₃ has₁ is₃ in
    let d₄ = did_push s b₁ t f [] m₃ m₄ (Ref n) has₁ d₃ e₄ (waits_one (IsHeld b₁.heap) n (newest_held m.heap y)) in
    let d₅ = did_set_pc s b₁ t (pushed (Ref n) f) ([] ++ []) m₄ m₅ pc has₁ d₄ e₅ in
    let k : Kept = record { heap = m.heap ++ Some y ∷ []; guest = with_top (with_string (ticked m.guest) bytes n) t (stepped pc n f) } in
    let kept : kept_of m₅ ≡ k = ap (λ (z : MachineState). kept_of z) d₅.is in
    let here : Contains (frame_roots (stepped pc n f)) n = Contains-append_right (refs_of f.locals) _ n (Contains-append_left (refs_of (Ref n ∷ f.operands)) _ n (Contains-here n (refs_of f.operands))) in
    let reached : IsReached (graph_of k) n = root_is_reached k n (with_top_root (with_string (ticked m.guest) bytes n) t (stepped pc n f) n has.thread here) in
    led_made s k m₅ (did_on_way s b₁ t (stepped pc n f) _ m₅ w has₁ d₅)
    (ap (λ (z : MachineState). length z.heap) d₅.is ∙ length_push m.heap (Some y)) (subst (λ (z : Kept). IsReached (graph_of z) n) (sym kept) reached) kept

-- WHAT THE TABLE SAYS

-- the object is pushed that the string has in a state
abbrev loading : Moment → ℕ → List ℕ → Doing → Doing
loading e pc bytes d = with_frame e (record (current_frame e) { pc = pc; operands = Ref (string_object bytes d) ∷ (current_frame e).operands }) d

-- the string is made
abbrev making : Moment → List ℕ → Doing
making e bytes =
    let x = instance_made e (class_called e.program (codes "java/lang/String")) (begins e) in
    doing_with (with_string x.state.guest bytes (next_object (begins e))) x

loads : (e : Moment) (at : Site) (bytes : List ℕ) → length (current_frame e).operands < (current_frame e).room → constant e at (Some (AString bytes)) ≡ ending (loading e at.next bytes (interned e bytes (begins e)))
loads e at bytes lt = ap (λ (b : Bool). ill_typed_unless e b (ending (loading e at.next bytes (interned e bytes (begins e))))) (lt-ltb (length (current_frame e).operands) (current_frame e).room lt)

loads_new : (e : Moment) (at : Site) (bytes : List ℕ) → length (current_frame e).operands < (current_frame e).room → object_of e.before.guest.interned bytes ≡ None
    → constant e at (Some (AString bytes)) ≡ ending (loading e at.next bytes (making e bytes))
loads_new e at bytes lt none =
    loads e at bytes lt ∙ ap (λ (o : Option ℕ). ending (loading e at.next bytes (if is_some o then begins e else making e bytes))) none

loads_old : (e : Moment) (at : Site) (bytes : List ℕ) (o : ℕ) → length (current_frame e).operands < (current_frame e).room → object_of e.before.guest.interned bytes ≡ Some o
    → constant e at (Some (AString bytes)) ≡ ending (with_frame e (stepped at.next o (current_frame e)) (begins e))
loads_old e at bytes o lt some =
    loads e at bytes lt
    ∙ (ap (λ (r : Option ℕ). ending (loading e at.next bytes (if is_some r then begins e else making e bytes))) some
    ∙ ap (λ (r : Option ℕ). ending (with_frame e (stepped at.next (unwrap_or r 0) (current_frame e)) (begins e))) some)

pub string_refused : (p : Linked) (at : Site) (bytes : List ℕ) (t : ℕ) (m : MachineState) (out : List Record) (end : EventEnd) → (top m.guest t).room ≤ length (top m.guest t).operands → end ≡ ill_typed_end m t
    → EventAnswers (constant (moment p m t) at (Some (AString bytes))) end m m out out
string_refused p at bytes t m out end le e =
    let e₀ = moment p m t in
    let is : constant e₀ at (Some (AString bytes)) ≡ ill_typed e₀ =
    ap (λ (b : Bool). ill_typed_unless e₀ b (ending (loading e₀ at.next bytes (interned e₀ bytes (begins e₀))))) (le-ltb (length (top m.guest t).operands) (top m.guest t).room le) in
    subst (λ (x : Outcome Kept). EventAnswers x end m m out out) (sym is) (ill_typed_answers p t m m out end refl e)

pub string_known : (p : Linked) (at : Site) (bytes : List ℕ) (o t : ℕ) (m m' : MachineState) (out : List Record) → length (top m.guest t).operands < (top m.guest t).room → fits_heap m.heap ≡ true
    → object_of m.guest.interned bytes ≡ Some o → Led (kept_of m) (record { heap = m.heap; guest = with_top (ticked m.guest) t (stepped at.next o (top m.guest t)) }) m'
    → EventAnswers (constant (moment p m t) at (Some (AString bytes))) ends.Done m m' out out
string_known p at bytes o t m m' out lt fit some led =
    let e = moment p m t in
    let d : Doing = with_frame e (stepped at.next o (current_frame e)) (begins e) in
    let is : constant e at (Some (AString bytes)) ≡ Goes d.state d.records = loads_old e at bytes o lt some ∙ ends_fit d fit in
    subst (λ (x : Outcome Kept). EventAnswers x ends.Done m m' out out) (sym is) (led, sym (append-nil out))

pub string_full : (p : Linked) (at : Site) (bytes : List ℕ) (t : ℕ) (m m₁ : MachineState) (out out' : List Record) → length (top m.guest t).operands < (top m.guest t).room → object_of m.guest.interned bytes ≡ None
    → MakesObject (instance_made (moment p m t) (class_called p (codes "java/lang/String")) (begins (moment p m t))) None m m₁ out out'
    → EventAnswers (constant (moment p m t) at (Some (AString bytes))) ends.ObjectLimit m m₁ out out'
string_full p at bytes t m m₁ out out' lt none made =
    let e = moment p m t in
    let is : constant e at (Some (AString bytes)) ≡ ObjectLimit = loads_new e at bytes lt none ∙ ends_full (loading e at.next bytes (making e bytes)) made.0 in
    subst (λ (x : Outcome Kept). EventAnswers x ends.ObjectLimit m m₁ out out') (sym is) (made.1, made.2)

pub string_made : (p : Linked) (at : Site) (bytes : List ℕ) (o t : ℕ) (m m₁ m₂ m₃ m₄ m₅ : MachineState) (out out' : List Record) → IsSound (kept_of m) → HasFrame m.guest t
    → length (top m.guest t).operands < (top m.guest t).room → object_of m.guest.interned bytes ≡ None
    → MakesObject (instance_made (moment p m t) (class_called p (codes "java/lang/String")) (begins (moment p m t))) (Some o) m m₁ out out'
    → m₂ ≡ with_guest m₁ (with_string m₁.guest bytes o) → m₃ ≡ begun m₂
    → m₄ ≡ steps_top m₃ t (pushed (Ref o) (top m₃.guest t)) [] → m₅ ≡ steps_top m₄ t (at_pc at.next (top m₄.guest t)) []
    → EventAnswers (constant (moment p m t) at (Some (AString bytes))) ends.Done m m₅ out out'
string_made p at bytes o t m m₁ m₂ m₃ m₄ m₅ out out' sound has lt none made e₂ e₃ e₄ e₅ =
    let e : Moment = moment p m t in
    let n : ℕ = length m.heap in
    let class : ℕ = class_called p (codes "java/lang/String") in
    let d : Doing = with_frame e (stepped at.next n (current_frame e)) (making e bytes) in
    let named : loading e at.next bytes (making e bytes) ≡ d = ap (λ (r : Option ℕ). with_frame e (stepped at.next (unwrap_or r 0) (current_frame e)) (making e bytes)) (object_pushed m.guest.interned bytes n none) in
    let is : constant e at (Some (AString bytes)) ≡ Goes d.state d.records = loads_new e at bytes lt none ∙ (ap ending named ∙ ends_fit d made.0) in
    let h₂ = e₂ ∙ ap (λ (k : ℕ). with_guest m₁ (with_string m₁.guest bytes k)) made.1 in
    let h₄ = e₄ ∙ ap (λ (k : ℕ). steps_top m₃ t (pushed (Ref k) (top m₃.guest t)) []) made.1 in
    subst (λ (x : Outcome Kept). EventAnswers x ends.Done m m₅ out out') (sym is)
    (made_led m t class (class_at p class).info.slots at.next bytes m₁ m₂ m₃ m₄ m₅ sound has made.2 h₂ e₃ h₄ e₅, made.3)
