-- What an event comes to that takes arguments, and then gives a value, writes slots, sets a referent or starts a thread.
use Rattle.std.proofs.Common.{◌≡◌, ℕ, zero, suc, ◌+◌, ◌<◌, ◌≤◌, Bool, List, [], ◌∷◌, ◌++◌, length, get_or, set, take, Option, Some, None, refl, sym, ◌∙◌, ap, subst, arith, Contains, get_or-set_same, append-nil, append_assoc, inl, option_to_list}
use Rattle.std.specs.Prelude.{if◌then◌else◌}
use Rattle.std.specs.List.{position_from}
use Rattle.std.proofs.lemmas.List.{length-set}
use Rattle.et_heap.proofs.References.{few_references}
use Rattle.et_base.specs.declared.value.Value.{Value}
use Rattle.et_base.specs.declared.value.Value.TheVariants.{Unset, Int, Long, LongHigh, Null, Ref}
use Rattle.et_base.proofs.Lists.{Contains-none}
use Rattle.et_heap.specs.Objects.{ObjectState, Objects, IsHeld, at, found, object_at, slot_of, with_slot, with_object_at, with_referent, referent_of}
use Rattle.et_heap.specs.Refs.{refs_of_value, refs_of}
use Rattle.et_heap.proofs.HeapLists.{held_set, held_within}
use Rattle.et_state.specs.Threads.{FrameState, ThreadState, no_thread, new_thread, at_pc, popped, pushed, thread_with, is_thread_object, with_top_of}
use Rattle.et_state.specs.ThreadRoots.{frame_roots}
use Rattle.et_state.specs.State.{Kept, MachineState, kept_of}
use Rattle.et_state.specs.Words.{thread_at, top, with_top, with_guest, with_new_thread, HasFrame, ticked, begun, steps_top, steps_object, with_object}
use Rattle.et_state.specs.Sound.{IsSound}
use Rattle.et_state.specs.Moves.{IsOnWay, Led}
use Rattle.et_state.proofs.Places.{top_root}
use Rattle.et_state.proofs.UnderWay.{root_is_reached}
use Rattle.et_state.proofs.Calls.{on_begin_event, on_set_slot, on_set_referent, on_start_thread}
use Rattle.et_state.proofs.Steps.{Did, then_top, did_push, did_led, did_on_way, did_write, led_plain, slot_there}
use Rattle.et_program.specs.Entries.{Linked}
use Rattle.et_state.specs.declared.records.Record.{Record}
use Rattle.et_state.specs.declared.ends.EventEnd.TheVariants as endings
use Rattle.et_event.specs.Answered.{EventAnswers}
use Rattle.et_event.specs.BuiltIns.{answering, with_referent_of, with_thread_for}
use Rattle.et_event.specs.Calls.{arguments_of}
use Rattle.et_event.specs.Moments.{Moment, moment, Doing, begins, goes, slot_written, updated}
use Rattle.et_event.specs.Sites.{Site}
use Rattle.et_event.specs.Telling.{TellsUpdate}
use Rattle.et_event.specs.Tops.{IsIn}
use Rattle.et_event.proofs.Taking.{replaced, moves_replaced}
use Rattle.et_builtins.proofs.Standing.{length_arguments}

-- THE ARGUMENTS ARE TAKEN

abbrev pub passed_by : MachineState → ℕ → ℕ → ℕ → MachineState
passed_by m t n pc = steps_top (begun m) t (replaced n [] pc (top m.guest t)) (refs_of (take n (top m.guest t).operands))

pub passed_is : (m : MachineState) (t n pc : ℕ) (m₁ m₂ m₃ : MachineState) → HasFrame m.guest t → m₁ ≡ begun m
    → m₂ ≡ steps_top m₁ t (popped n (top m₁.guest t)) (refs_of (take n (top m₁.guest t).operands)) → m₃ ≡ steps_top m₂ t (at_pc pc (top m₂.guest t)) []
    → m₃ ≡ passed_by m t n pc
passed_is m t n pc m₁ m₂ m₃ has e₁ e₂ e₃ =
    let f : FrameState = top m.guest t in
    let l : List ℕ = refs_of (take n f.operands) in
    let is₂ : m₂ ≡ steps_top (begun m) t (popped n f) l = e₂ ∙ ap (λ (x : MachineState). steps_top x t (popped n (top x.guest t)) (refs_of (take n (top x.guest t).operands))) e₁ in
    then_top (at_pc pc) (λ g. []) (begun m) t (popped n f) l m₂ m₃ has.thread is₂ e₃ ∙ ap (λ (os : List ℕ). steps_top (begun m) t (replaced n [] pc f) os) (append-nil l)

length_both : (xs ys : List ℕ) → length (xs ++ ys) ≡ length xs + length ys
length_both [] ys = omega arith
length_both (x ∷ xs) ys = let h : length (xs ++ ys) ≡ length xs + length ys = length_both xs ys in omega arith

pub passed_few : (m : MachineState) (t n pc : ℕ) (b : MachineState) → b ≡ passed_by m t n pc → length b.lost ≤ n
passed_few m t n pc b e = subst (λ (x : MachineState). length x.lost ≤ n) (sym e) (few_references n (top m.guest t).operands)

abbrev pub PassedOver : MachineState → ℕ → ℕ → ℕ → MachineState → Type 0
PassedOver m t n pc b = Did (kept_of m) (begun m) t (replaced n [] pc (top m.guest t)) (refs_of (take n (top m.guest t).operands)) b

pub did_pass : (m : MachineState) (t n pc : ℕ) (b : MachineState) → HasFrame m.guest t → b ≡ passed_by m t n pc → PassedOver m t n pc b
did_pass m t n pc b has e = record { is = e; moves = moves_replaced m t n pc [] has (λ o c. absurd (Contains-none o c)) }

pub begun_has : (m : MachineState) (t : ℕ) → HasFrame m.guest t → HasFrame (begun m).guest t
begun_has m t has = record { thread = has.thread; frame = has.frame }

-- .. and values are given
abbrev pub gone : MachineState → ℕ → ℕ → ℕ → List Value → Kept
gone m t n pc vs = record { heap = m.heap; guest = with_top (ticked m.guest) t (replaced n vs pc (top m.guest t)) }

pub answering_is : (p : Linked) (t n pc : ℕ) (m : MachineState) (at : Site) (vs : List Value) → n ≤ length (top m.guest t).operands → at.next ≡ pc
    → answering (moment p m t) at (arguments_of (moment p m t) n) vs (begins (moment p m t)) ≡ record { state = gone m t n pc vs; records = [] }
answering_is p t n pc m at vs le same =
    ap (λ (k : ℕ). record { state = gone m t k at.next vs; records = [] }) (length_arguments (top m.guest t).operands n le) ∙ ap (λ (k : ℕ). record { state = gone m t n k vs; records = [] }) same

pub nothing_given : (p : Linked) (t n pc : ℕ) (m b : MachineState) (at : Site) (out : List Record) → IsSound (kept_of m) → HasFrame m.guest t → n ≤ length (top m.guest t).operands → at.next ≡ pc → b ≡ passed_by m t n pc
    → EventAnswers (goes (answering (moment p m t) at (arguments_of (moment p m t) n) [] (begins (moment p m t)))) endings.Done m b out out
nothing_given p t n pc m b at out sound has le same e =
    subst (λ (d : Doing). EventAnswers (goes d) endings.Done m b out out) (sym (answering_is p t n pc m at [] le same))
    (did_led m t (replaced n [] pc (top m.guest t)) (refs_of (take n (top m.guest t).operands)) b sound has (did_pass m t n pc b has e), sym (append-nil out))

pub value_given : (p : Linked) (t n pc : ℕ) (v : Value) (m b b₁ : MachineState) (at : Site) (out : List Record) → IsSound (kept_of m) → HasFrame m.guest t → n ≤ length (top m.guest t).operands → at.next ≡ pc
    → ((o : ℕ) → Contains (refs_of_value v) o → IsHeld m.heap o) → b ≡ passed_by m t n pc → b₁ ≡ steps_top b t (pushed v (top b.guest t)) []
    → EventAnswers (goes (answering (moment p m t) at (arguments_of (moment p m t) n) (v ∷ []) (begins (moment p m t)))) endings.Done m b₁ out out
value_given p t n pc v m b b₁ at out sound has le same held e e₁ =
    let f : FrameState = replaced n [] pc (top m.guest t) in
    let l : List ℕ = refs_of (take n (top m.guest t).operands) in
    subst (λ (d : Doing). EventAnswers (goes d) endings.Done m b₁ out out) (sym (answering_is p t n pc m at (v ∷ []) le same))
    (did_led m t (pushed v f) (l ++ []) b₁ sound has (did_push (kept_of m) (begun m) t f l b b₁ v (begun_has m t has) (did_pass m t n pc b has e) e₁ held), sym (append-nil out))

-- WRITING

updated_is : (e : Moment) (o i : ℕ) (old v : Value) (s : Kept) (rs : List Record)
    → updated e o i old v (record { state = s; records = rs }) ≡ record { state = s; records = rs ++ (updated e o i old v (record { state = s; records = [] })).records }
updated_is e o i old Unset s rs = ap (λ (qs : List Record). record { state = s; records = qs }) (sym (append-nil rs))
updated_is e o i old (Int n) s rs = ap (λ (qs : List Record). record { state = s; records = qs }) (sym (append-nil rs))
updated_is e o i old (Long n) s rs = ap (λ (qs : List Record). record { state = s; records = qs }) (sym (append-nil rs))
updated_is e o i old LongHigh s rs = ap (λ (qs : List Record). record { state = s; records = qs }) (sym (append-nil rs))
updated_is e o i old Null s rs = refl
updated_is e o i old (Ref r) s rs = refl

-- a slot of what is kept is written
abbrev written : ℕ → ℕ → Value → Kept → Kept
written o i v s = record { heap = with_object_at s.heap o (with_slot i v (object_at s.heap o)); guest = s.guest }

abbrev told_of : Moment → ℕ → ℕ → Value → Kept → List Record
told_of e o i v s = (updated e o i (slot_of (object_at s.heap o) i) v (record { state = written o i v s; records = [] })).records

written_is : (e : Moment) (o i : ℕ) (v : Value) (s : Kept) (rs : List Record) → slot_written e o i v (record { state = s; records = rs }) ≡ record { state = written o i v s; records = rs ++ told_of e o i v s }
written_is e o i v s rs = updated_is e o i (slot_of (object_at s.heap o) i) v (written o i v s) rs

-- what `write` tells
abbrev pub Tells : ℕ → ℕ → ℕ → Value → MachineState → List Record → List Record → Type 0
Tells t o i v m out out₁ = TellsUpdate m.guest.clock t o i (slot_of (object_at m.heap o) i) v out out₁

abbrev pub wrote : MachineState → ℕ → ℕ → Value → MachineState
wrote m o i v = steps_object m o (with_slot i v (object_at m.heap o)) (refs_of_value (slot_of (object_at m.heap o) i))

tells : (p : Linked) (t o i : ℕ) (v : Value) (m b : MachineState) (k : Kept) (out out₁ : List Record) → kept_of b ≡ k → Tells t o i v b out out₁ → out₁ ≡ out ++ told_of (moment p m t) o i v k
tells p t o i v m b k out out₁ kept told =
    subst (λ (s : Kept). out₁ ≡ out ++ told_of (moment p m t) o i v s) kept
    (told p (kept_of m) (written o i v (kept_of b)) refl
    ∙ ap (λ (d : Doing). d.records) (updated_is (moment p m t) o i (slot_of (object_at b.heap o) i) v (written o i v (kept_of b)) out))

pub one_written : (p : Linked) (t n pc o : ℕ) (v : Value) (m b b₁ : MachineState) (at : Site) (out out₁ : List Record) → IsSound (kept_of m) → HasFrame m.guest t → n ≤ length (top m.guest t).operands → at.next ≡ pc
    → Contains (frame_roots (top m.guest t)) o → IsHeld m.heap o → 0 < length (object_at m.heap o).slots → IsIn (top m.guest t) v → b ≡ passed_by m t n pc → b₁ ≡ wrote b o 0 v → Tells t o 0 v b out out₁
    → EventAnswers (goes (slot_written (moment p m t) o 0 v (answering (moment p m t) at (arguments_of (moment p m t) n) [] (begins (moment p m t))))) endings.Done m b₁ out out₁
one_written p t n pc o v m b b₁ at out out₁ sound has le same inside held lt value e e₁ told =
    let k : Kept = gone m t n pc [] in
    let f : FrameState = replaced n [] pc (top m.guest t) in
    let root = λ (r : ℕ) (c : Contains (frame_roots (top m.guest t)) r). top_root m.guest t r has c in
    let led : Led (kept_of m) (written o 0 v k) b₁ =
    did_write m t f (refs_of (take n (top m.guest t).operands)) b b₁ o 0 v sound has (did_pass m t n pc b has e) e₁ held (root_is_reached (kept_of m) o (root o inside)) lt
    (λ r c. sound.roots r (root r (value r c))) (λ r c. root_is_reached (kept_of m) r (root r (value r c))) in
    let is : slot_written (moment p m t) o 0 v (answering (moment p m t) at (arguments_of (moment p m t) n) [] (begins (moment p m t))) ≡ record { state = written o 0 v k; records = told_of (moment p m t) o 0 v k } =
    ap (λ (d : Doing). slot_written (moment p m t) o 0 v d) (answering_is p t n pc m at [] le same) ∙ written_is (moment p m t) o 0 v k [] in
    subst (λ (d : Doing). EventAnswers (goes d) endings.Done m b₁ out out₁) (sym is)
    (led, tells p t o 0 v m b k out out₁ (ap (λ (x : MachineState). kept_of x) e) told)

-- two slots

pub object_set : (heap : Objects) (o : ℕ) (x : ObjectState) → o < length heap → object_at (with_object_at heap o x) o ≡ x
object_set heap o x lt = ap found (get_or-set_same heap o (Some x) None lt)

other_slot : (vs : List Value) (v : Value) → get_or (set vs 0 v) 1 Unset ≡ get_or vs 1 Unset
other_slot [] v = refl
other_slot (w ∷ vs) v = refl

pub two_written : (p : Linked) (t n pc o : ℕ) (v w : Value) (m b b₁ b₂ : MachineState) (at : Site) (out out₁ out₂ : List Record) → IsSound (kept_of m) → HasFrame m.guest t → n ≤ length (top m.guest t).operands → at.next ≡ pc
    → Contains (frame_roots (top m.guest t)) o → IsHeld m.heap o → 2 ≤ length (object_at m.heap o).slots → IsIn (top m.guest t) v → IsIn (top m.guest t) w
    → b ≡ passed_by m t n pc → b₁ ≡ wrote b o 0 v → Tells t o 0 v b out out₁ → b₂ ≡ wrote b₁ o 1 w → Tells t o 1 w b₁ out₁ out₂
    → EventAnswers (goes (slot_written (moment p m t) o 1 w (slot_written (moment p m t) o 0 v (answering (moment p m t) at (arguments_of (moment p m t) n) [] (begins (moment p m t)))))) endings.Done m b₂ out out₂
two_written p t n pc o v w m b b₁ b₂ at out out₁ out₂ sound has le same inside held lt value value₂ e e₁ told e₂ told₂ =
    let s : Kept = kept_of m in
    let em : Moment = moment p m t in
    let k : Kept = gone m t n pc [] in
    let k₁ : Kept = written o 0 v k in
    let k₂ : Kept = written o 1 w k₁ in
    let root = λ (r : ℕ) (c : Contains (frame_roots (top m.guest t)) r). top_root m.guest t r has c in
    let reached = λ (r : ℕ) (c : Contains (frame_roots (top m.guest t)) r). root_is_reached s r (root r c) in
    let c₀ : MachineState = passed_by m t n pc in
    let c₁ : MachineState = wrote c₀ o 0 v in
    let c₂ : MachineState = wrote c₁ o 1 w in
    let is₁ : b₁ ≡ c₁ = e₁ ∙ ap (λ (x : MachineState). wrote x o 0 v) e in
    let is₂ : b₂ ≡ c₂ = e₂ ∙ ap (λ (x : MachineState). wrote x o 1 w) is₁ in
    let long : 0 < length (object_at m.heap o).slots = omega arith in
    let way₀ : IsOnWay s c₀ = did_on_way s (begun m) t (replaced n [] pc (top m.guest t)) (refs_of (take n (top m.guest t).operands)) c₀ (on_begin_event m sound) (begun_has m t has) (did_pass m t n pc c₀ has refl) in
    let way₁ : IsOnWay s c₁ =
    on_set_slot s c₀ o 0 v way₀ held (inl (reached o inside)) long (λ r c. sound.roots r (root r (value r c))) (λ r c. inl (reached r (value r c))) (λ r c. slot_there s (kept_of c₀) o 0 r (reached o inside) long c) in
    let x : ObjectState = with_slot 0 v (object_at m.heap o) in
    let now : object_at c₁.heap o ≡ x = object_set m.heap o x (held_within m.heap o held) in
    let slots : length (object_at c₁.heap o).slots ≡ length (object_at m.heap o).slots = ap (λ (y : ObjectState). length y.slots) now ∙ length-set (object_at m.heap o).slots 0 v in
    let long₁ : 1 < length (object_at c₁.heap o).slots = omega arith in
    let one : 1 < length (object_at m.heap o).slots = omega arith in
    let stood : slot_of (object_at c₁.heap o) 1 ≡ slot_of (object_at m.heap o) 1 = ap (λ (y : ObjectState). slot_of y 1) now ∙ other_slot (object_at m.heap o).slots v in
    let way₂ : IsOnWay s c₂ =
    on_set_slot s c₁ o 1 w way₁ (held_set m.heap o x o held held) (inl (reached o inside)) long₁ (λ r c. held_set m.heap o x r held (sound.roots r (root r (value₂ r c)))) (λ r c. inl (reached r (value₂ r c)))
    (λ r c. slot_there s (kept_of c₁) o 1 r (reached o inside) one (subst (λ (y : Value). Contains (refs_of_value y) r) stood c)) in
    let same_length : length c₂.heap ≡ length m.heap = length-set c₁.heap o (Some (with_slot 1 w (object_at c₁.heap o))) ∙ length-set m.heap o (Some x) in
    let led : Led s k₂ b₂ = led_plain s k₂ b₂ (subst (λ (y : MachineState). IsOnWay s y) (sym is₂) way₂) (ap (λ (y : MachineState). length y.heap) is₂ ∙ same_length) (ap (λ (y : MachineState). kept_of y) is₂) in
    let is : slot_written em o 1 w (slot_written em o 0 v (answering em at (arguments_of em n) [] (begins em))) ≡ record { state = k₂; records = told_of em o 0 v k ++ told_of em o 1 w k₁ } =
    ap (λ (d : Doing). slot_written em o 1 w (slot_written em o 0 v d)) (answering_is p t n pc m at [] le same)
    ∙ (ap (λ (d : Doing). slot_written em o 1 w d) (written_is em o 0 v k []) ∙ written_is em o 1 w k₁ (told_of em o 0 v k)) in
    let records : out₂ ≡ out ++ (told_of em o 0 v k ++ told_of em o 1 w k₁) =
    tells p t o 1 w m b₁ k₁ out₁ out₂ (ap (λ (y : MachineState). kept_of y) is₁) told₂
    ∙ (ap (λ (rs : List Record). rs ++ told_of em o 1 w k₁) (tells p t o 0 v m b k out out₁ (ap (λ (y : MachineState). kept_of y) e) told) ∙ append_assoc out (told_of em o 0 v k) (told_of em o 1 w k₁)) in
    subst (λ (d : Doing). EventAnswers (goes d) endings.Done m b₂ out out₂) (sym is) (led, records)

-- A REFERENT IS SET

pub referent_refs : (v : Value) (o : ℕ) → Contains (option_to_list (referent_of v)) o → Contains (refs_of_value v) o
referent_refs Unset o c = c
referent_refs (Int n) o c = c
referent_refs (Long n) o c = c
referent_refs LongHigh o c = c
referent_refs Null o c = c
referent_refs (Ref r) o c = c

pub referent_set : (p : Linked) (t n pc o : ℕ) (v : Value) (m b b₁ : MachineState) (at : Site) (out : List Record) → IsSound (kept_of m) → HasFrame m.guest t → n ≤ length (top m.guest t).operands → at.next ≡ pc
    → IsHeld m.heap o → IsIn (top m.guest t) v → b ≡ passed_by m t n pc → b₁ ≡ with_object b o (with_referent (referent_of v) (object_at b.heap o))
    → EventAnswers (goes (with_referent_of o (referent_of v) (answering (moment p m t) at (arguments_of (moment p m t) n) [] (begins (moment p m t))))) endings.Done m b₁ out out
referent_set p t n pc o v m b b₁ at out sound has le same held value e e₁ =
    let s : Kept = kept_of m in
    let r : Option ℕ = referent_of v in
    let c₀ : MachineState = passed_by m t n pc in
    let y : ObjectState = with_referent r (object_at m.heap o) in
    let way₀ : IsOnWay s c₀ = did_on_way s (begun m) t (replaced n [] pc (top m.guest t)) (refs_of (take n (top m.guest t).operands)) c₀ (on_begin_event m sound) (begun_has m t has) (did_pass m t n pc c₀ has refl) in
    let way₁ : IsOnWay s (with_object c₀ o y) = on_set_referent s c₀ o r way₀ held (λ q c. sound.roots q (top_root m.guest t q has (value q (referent_refs v q c)))) in
    let is : b₁ ≡ with_object c₀ o y = e₁ ∙ ap (λ (x : MachineState). with_object x o (with_referent r (object_at x.heap o))) e in
    subst (λ (d : Doing). EventAnswers (goes (with_referent_of o r d)) endings.Done m b₁ out out) (sym (answering_is p t n pc m at [] le same))
    (led_plain s _ b₁ (subst (λ (x : MachineState). IsOnWay s x) (sym is) way₁) (ap (λ (x : MachineState). length x.heap) is ∙ length-set m.heap o (Some y)) (ap (λ (x : MachineState). kept_of x) is), sym (append-nil out))

-- A THREAD IS STARTED

position_set : (o i t : ℕ) (xs : List ThreadState) (y : ThreadState) → is_thread_object o y ≡ is_thread_object o (get_or xs t no_thread) → position_from (is_thread_object o) i (set xs t y) ≡ position_from (is_thread_object o) i xs
position_set o i t [] y e = refl
position_set o i zero (x ∷ xs) y e = ap (λ (b : Bool). if b then Some i else position_from (is_thread_object o) (i + 1) xs) e
position_set o i (suc t) (x ∷ xs) y e = ap (λ (r : Option ℕ). if is_thread_object o x then Some i else r) (position_set o (i + 1) t xs y e)

pub fresh_still : (m : MachineState) (t n pc o : ℕ) (b : MachineState) → b ≡ passed_by m t n pc → thread_with m.guest.threads o ≡ None → thread_with b.guest.threads o ≡ None
fresh_still m t n pc o b e h =
    ap (λ (x : MachineState). thread_with x.guest.threads o) e ∙ (position_set o 0 t m.guest.threads (with_top_of (thread_at m.guest t) (replaced n [] pc (top m.guest t))) refl ∙ h)

pub few_still : (m : MachineState) (t n pc k : ℕ) (b : MachineState) → b ≡ passed_by m t n pc → length m.guest.threads < k → length b.guest.threads < k
few_still m t n pc k b e h =
    subst (λ (x : MachineState). length x.guest.threads < k) (sym e) (subst (λ (j : ℕ). j < k) (sym (length-set m.guest.threads t (with_top_of (thread_at m.guest t) (replaced n [] pc (top m.guest t))))) h)

pub thread_started : (p : Linked) (t n pc o : ℕ) (m b b₁ : MachineState) (at : Site) (out : List Record) → IsSound (kept_of m) → HasFrame m.guest t → n ≤ length (top m.guest t).operands → at.next ≡ pc
    → IsHeld m.heap o → b ≡ passed_by m t n pc → b₁ ≡ with_guest b (with_new_thread b.guest (new_thread None (Some o)))
    → EventAnswers (goes (with_thread_for o (answering (moment p m t) at (arguments_of (moment p m t) n) [] (begins (moment p m t))))) endings.Done m b₁ out out
thread_started p t n pc o m b b₁ at out sound has le same held e e₁ =
    let s : Kept = kept_of m in
    let c₀ : MachineState = passed_by m t n pc in
    let way₀ : IsOnWay s c₀ = did_on_way s (begun m) t (replaced n [] pc (top m.guest t)) (refs_of (take n (top m.guest t).operands)) c₀ (on_begin_event m sound) (begun_has m t has) (did_pass m t n pc c₀ has refl) in
    let way₁ = on_start_thread s c₀ o way₀ held in
    let is : b₁ ≡ with_guest c₀ (with_new_thread c₀.guest (new_thread None (Some o))) = e₁ ∙ ap (λ (x : MachineState). with_guest x (with_new_thread x.guest (new_thread None (Some o)))) e in
    subst (λ (d : Doing). EventAnswers (goes (with_thread_for o d)) endings.Done m b₁ out out) (sym (answering_is p t n pc m at [] le same))
    (led_plain s _ b₁ (subst (λ (x : MachineState). IsOnWay s x) (sym is) way₁) (ap (λ (x : MachineState). length x.heap) is) (ap (λ (x : MachineState). kept_of x) is), sym (append-nil out))
