-- Places that hold references, before and after a change.
use Rattle.std.proofs.Common.{◌≡◌, ℕ, zero, suc, ◌-◌, ◌<◌, ◌⊎◌, List, [], ◌∷◌, ◌++◌, length, get_or, set, Option, Contains, inl, inr, arith, sym, ap, ◌∙◌, subst, take, drop, replicate, reverse, false, if◌then◌else◌, option_to_list, append-nil, append_assoc}
use Rattle.std.specs.List.{flat_map}
use Rattle.std.proofs.lemmas.List.{map-append, reverse-append, reverse-reverse, take-append-drop}
use Rattle.std.proofs.lemmas.Grind.{flat_map-append}
use Rattle.std.proofs.lemmas.List.Elements.{Contains-append_left, Contains-append_right, Contains-append_cases}
use Rattle.et_heap.proofs.References.{none_unset, refs_append}
use Rattle.et_base.specs.declared.value.Value.{Value}
use Rattle.et_base.specs.declared.value.Value.TheVariants.{Unset}
use Rattle.et_base.proofs.Lists.{Contains-none}
use Rattle.et_heap.specs.Refs.{refs_of_value, refs_of, leads_to}
use Rattle.et_heap.specs.Objects.{new_object}
use Rattle.et_heap.specs.Queues.{first_value}
use Rattle.et_state.specs.Threads.{FrameState, ThreadState, no_thread, with_top_of, without_top, first_frame, rest_of, pushed, popped, without_operands, with_local, operand_of, local_of, locals_with, in_clinit, entered_by, with_pending, as_entered, as_ended, ended_roots}
use Rattle.et_state.specs.ThreadRoots.{frame_roots, thread_roots}
use Rattle.et_state.specs.NewFrames.{arguments_on, entered_over, frame_with}
use Rattle.et_state.specs.declared.new_frame.NewHead.{NewHead}
use Rattle.et_state.specs.Interned.{interned_objects}
use Rattle.et_state.specs.State.{GuestState}
use Rattle.et_state.specs.Words.{thread_at, with_thread, with_new_thread, top, with_top, HasFrame, static_at, with_static, with_string}
use Rattle.et_state.specs.Roots.{roots_of}
use Rattle.et_state.specs.Moves.{Moves}

pub moves_none : (H R : ℕ → Type 0) (a : List ℕ) → Moves H R a a []
moves_none H R a = record { on = λ o c. inl c; off = λ o c. inl c; was = λ o c. absurd (Contains-none o c) }

-- one change after another
pub moves_then : (H R : ℕ → Type 0) (a b c l m : List ℕ) → Moves H R a b l → Moves H R b c m → Moves H R a c (l ++ m)
moves_then H R a b c l m p q = record {
  on = λ o d. elim (q.on o d) [ inl e ↦ p.on o e | inr h ↦ inr h ];
  off = λ o d. elim (p.off o d) [
    | inl e ↦ elim (q.off o e) [ inl f ↦ inl f | inr f ↦ inr (Contains-append_right l m o f) ]
    | inr e ↦ inr (Contains-append_left l m o e)
  ];
  was = λ o d. elim (Contains-append_cases l m o d) [ inl e ↦ p.was o e | inr e ↦ q.was o e ];
}

-- other places beside them stay
pub moves_left : (H R : ℕ → Type 0) (a b l p : List ℕ) → Moves H R a b l → Moves H R (a ++ p) (b ++ p) l
moves_left H R a b l p m = record {
  on = λ o c. elim (Contains-append_cases b p o c) [
    | inl d ↦ elim (m.on o d) [ inl e ↦ inl (Contains-append_left a p o e) | inr h ↦ inr h ]
    | inr d ↦ inl (Contains-append_right a p o d)
  ];
  off = λ o c. elim (Contains-append_cases a p o c) [
    | inl d ↦ elim (m.off o d) [ inl e ↦ inl (Contains-append_left b p o e) | inr e ↦ inr e ]
    | inr d ↦ inl (Contains-append_right b p o d)
  ];
  was = m.was;
}

pub moves_right : (H R : ℕ → Type 0) (a b l p : List ℕ) → Moves H R a b l → Moves H R (p ++ a) (p ++ b) l
moves_right H R a b l p m = record {
  on = λ o c. elim (Contains-append_cases p b o c) [
    | inl d ↦ inl (Contains-append_left p a o d)
    | inr d ↦ elim (m.on o d) [ inl e ↦ inl (Contains-append_right p a o e) | inr h ↦ inr h ]
  ];
  off = λ o c. elim (Contains-append_cases p a o c) [
    | inl d ↦ inl (Contains-append_left p b o d)
    | inr d ↦ elim (m.off o d) [ inl e ↦ inl (Contains-append_right p b o e) | inr e ↦ inr e ]
  ];
  was = m.was;
}

-- all of them are emptied
pub moves_all : (H R : ℕ → Type 0) (a : List ℕ) → ((o : ℕ) → Contains a o → R o) → Moves H R a [] a
moves_all H R a was = record { on = λ o c. absurd (Contains-none o c); off = λ o c. inr c; was = was }

-- some of them are emptied
pub moves_fewer : (H R : ℕ → Type 0) (p a : List ℕ) → ((o : ℕ) → Contains p o → R o) → Moves H R (p ++ a) a p
moves_fewer H R p a was = record {
  on = λ o c. inl (Contains-append_right p a o c);
  off = λ o c. elim (Contains-append_cases p a o c) [ inl d ↦ inr d | inr d ↦ inl d ];
  was = was;
}

-- others stand in their places
pub moves_anew : (H R : ℕ → Type 0) (a b : List ℕ) → ((o : ℕ) → Contains b o → H o) → ((o : ℕ) → Contains a o → R o) → Moves H R a b a
moves_anew H R a b h r = record { on = λ o c. inr (h o c); off = λ o c. inr c; was = r }

-- the first one is taken out
pub moves_first : (H R : ℕ → Type 0) (a : List ℕ) → ((o : ℕ) → Contains (refs_of_value (first_value a)) o → R o) → Moves H R a (drop 1 a) (refs_of_value (first_value a))
moves_first H R [] was = moves_none H R []
moves_first H R (x ∷ xs) was = moves_fewer H R (x ∷ []) xs was

-- new ones beside them
pub moves_more : (H R : ℕ → Type 0) (a p : List ℕ) → ((o : ℕ) → Contains p o → H o) → Moves H R a (p ++ a) []
moves_more H R a p h = record {
  on = λ o c. elim (Contains-append_cases p a o c) [ inl d ↦ inr (h o d) | inr d ↦ inl d ];
  off = λ o c. inl (Contains-append_right p a o c);
  was = λ o c. absurd (Contains-none o c);
}

pub moves_last : (H R : ℕ → Type 0) (a p : List ℕ) → ((o : ℕ) → Contains p o → H o) → Moves H R a (a ++ p) []
moves_last H R a p h = record {
  on = λ o c. elim (Contains-append_cases a p o c) [ inl d ↦ inl d | inr d ↦ inr (h o d) ];
  off = λ o c. inl (Contains-append_left a p o c);
  was = λ o c. absurd (Contains-none o c);
}

-- one of many parts changes
pub moves_set : {X : Type 0} (H R : ℕ → Type 0) (F : X → List ℕ) (d : X) (xs : List X) (i : ℕ) (y : X) (l : List ℕ) → i < length xs → Moves H R (F (get_or xs i d)) (F y) l → Moves H R (flat_map F xs) (flat_map F (set xs i y)) l
moves_set H R F d [] i y l lt m = absurd (omega arith)
moves_set H R F d (x ∷ xs) zero y l lt m = moves_left H R (F x) (F y) l (flat_map F xs) m
moves_set H R F d (x ∷ xs) (suc i) y l lt m = moves_right H R (flat_map F xs) (flat_map F (set xs i y)) l (F x) (moves_set H R F d xs i y l (omega arith) m)

pub part_contained : {X : Type 0} (F : X → List ℕ) (d : X) (xs : List X) (i : ℕ) (o : ℕ) → i < length xs → Contains (F (get_or xs i d)) o → Contains (flat_map F xs) o
part_contained F d [] i o lt c = absurd (omega arith)
part_contained F d (x ∷ xs) zero o lt c = Contains-append_left (F x) (flat_map F xs) o c
part_contained F d (x ∷ xs) (suc i) o lt c = Contains-append_right (F x) (flat_map F xs) o (part_contained F d xs i o (omega arith) c)

-- VALUES

pub moves_value : (H R : ℕ → Type 0) (v w : Value) → ((o : ℕ) → Contains (refs_of_value w) o → H o) → ((o : ℕ) → Contains (refs_of_value v) o → R o) → Moves H R (refs_of_value v) (refs_of_value w) (refs_of_value v)
moves_value H R v w h r = record { on = λ o c. inr (h o c); off = λ o c. inr c; was = r }

pub moves_place : (H R : ℕ → Type 0) (vs : List Value) (i : ℕ) (v : Value) → i < length vs → ((o : ℕ) → Contains (refs_of_value v) o → H o) → ((o : ℕ) → Contains (refs_of_value (get_or vs i Unset)) o → R o) → Moves H R (refs_of vs) (refs_of (set vs i v)) (refs_of_value (get_or vs i Unset))
moves_place H R vs i v lt h r = moves_set H R refs_of_value Unset vs i v (refs_of_value (get_or vs i Unset)) lt (moves_value H R (get_or vs i Unset) v h r)

-- FRAMES

pub local_root : (f : FrameState) (i o : ℕ) → i < length f.locals → Contains (refs_of_value (local_of f i)) o → Contains (frame_roots f) o
local_root f i o lt c = Contains-append_left (refs_of f.locals) _ o (part_contained refs_of_value Unset f.locals i o lt c)

pub operand_root : (f : FrameState) (k o : ℕ) → k < length f.operands → Contains (refs_of_value (operand_of f k)) o → Contains (frame_roots f) o
operand_root f k o lt c = Contains-append_right (refs_of f.locals) _ o (Contains-append_left (refs_of f.operands) _ o (part_contained refs_of_value Unset f.operands k o lt c))

pub frame_set_local : (H R : ℕ → Type 0) (f : FrameState) (i : ℕ) (v : Value) → i < length f.locals → ((o : ℕ) → Contains (refs_of_value v) o → H o) → ((o : ℕ) → Contains (refs_of_value (local_of f i)) o → R o) → Moves H R (frame_roots f) (frame_roots (with_local i v f)) (refs_of_value (local_of f i))
frame_set_local H R f i v lt h r = moves_left H R (refs_of f.locals) (refs_of (set f.locals i v)) (refs_of_value (local_of f i)) _ (moves_place H R f.locals i v lt h r)

popped_one : (H R : ℕ → Type 0) (vs : List Value) → 0 < length vs → ((o : ℕ) → Contains (refs_of_value (get_or vs 0 Unset)) o → R o) → Moves H R (refs_of vs) (refs_of (drop 1 vs)) (refs_of_value (get_or vs 0 Unset))
popped_one H R [] lt r = absurd (omega arith)
popped_one H R (v ∷ vs) lt r = moves_fewer H R (refs_of_value v) (refs_of vs) r

pub frame_pop : (H R : ℕ → Type 0) (f : FrameState) → 0 < length f.operands → ((o : ℕ) → Contains (refs_of_value (operand_of f 0)) o → R o) → Moves H R (frame_roots f) (frame_roots (popped 1 f)) (refs_of_value (operand_of f 0))
frame_pop H R f lt r = moves_right H R _ _ (refs_of_value (operand_of f 0)) (refs_of f.locals) (moves_left H R (refs_of f.operands) (refs_of (drop 1 f.operands)) (refs_of_value (operand_of f 0)) _ (popped_one H R f.operands lt r))

pub frame_push : (H R : ℕ → Type 0) (f : FrameState) (v : Value) → ((o : ℕ) → Contains (refs_of_value v) o → H o) → Moves H R (frame_roots f) (frame_roots (pushed v f)) []
frame_push H R f v h = moves_right H R _ _ [] (refs_of f.locals) (moves_left H R (refs_of f.operands) (refs_of_value v ++ refs_of f.operands) [] _ (moves_more H R (refs_of f.operands) (refs_of_value v) h))

popped_many : (H R : ℕ → Type 0) (n : ℕ) (vs : List Value) → ((o : ℕ) → Contains (refs_of (take n vs)) o → R o) → Moves H R (refs_of vs) (refs_of (drop n vs)) (refs_of (take n vs))
popped_many H R zero vs r = moves_none H R (refs_of vs)
popped_many H R (suc n) [] r = moves_none H R []
popped_many H R (suc n) (v ∷ vs) r =
    moves_then H R (refs_of (v ∷ vs)) (refs_of vs) (refs_of (drop n vs)) (refs_of_value v) (refs_of (take n vs))
    (moves_fewer H R (refs_of_value v) (refs_of vs) (λ o c. r o (Contains-append_left (refs_of_value v) (refs_of (take n vs)) o c)))
    (popped_many H R n vs (λ o c. r o (Contains-append_right (refs_of_value v) (refs_of (take n vs)) o c)))

pub frame_pops : (H R : ℕ → Type 0) (f : FrameState) (n : ℕ) → ((o : ℕ) → Contains (refs_of (take n f.operands)) o → R o) → Moves H R (frame_roots f) (frame_roots (popped n f)) (refs_of (take n f.operands))
frame_pops H R f n r = moves_right H R _ _ (refs_of (take n f.operands)) (refs_of f.locals) (moves_left H R (refs_of f.operands) (refs_of (drop n f.operands)) (refs_of (take n f.operands)) _ (popped_many H R n f.operands r))

pub frame_clear : (H R : ℕ → Type 0) (f : FrameState) → ((o : ℕ) → Contains (refs_of f.operands) o → R o) → Moves H R (frame_roots f) (frame_roots (without_operands f)) (refs_of f.operands)
frame_clear H R f r = moves_right H R _ _ (refs_of f.operands) (refs_of f.locals) (moves_left H R (refs_of f.operands) [] (refs_of f.operands) _ (moves_all H R (refs_of f.operands) r))

-- a new object leads to nothing
pub leads-new : (class elements n : ℕ) → leads_to (new_object class elements n) ≡ []
leads-new class elements n = append-nil (refs_of (replicate n Unset)) ∙ none_unset n

-- the locals of a frame that begins refer to what its arguments refer to
pub refs_of-locals_with : (n : ℕ) (vs : List Value) → refs_of (locals_with n vs) ≡ refs_of vs ++ []
refs_of-locals_with n vs = flat_map-append refs_of_value vs (replicate (n - length vs) Unset) ∙ ap (λ os. refs_of vs ++ os) (none_unset (n - length vs))

pub refs_reversed : (vs : List Value) (o : ℕ) → Contains (refs_of (reverse vs)) o → Contains (refs_of vs) o
refs_reversed [] o c = c
refs_reversed (v ∷ vs) o c =
    let c' : Contains (refs_of (reverse vs ++ v ∷ [])) o = subst (λ (ws : List Value). Contains (refs_of ws) o) (reverse-append (v ∷ []) vs) c in
    elim (Contains-append_cases (refs_of (reverse vs)) (refs_of (v ∷ [])) o (subst (λ (os : List ℕ). Contains os o) (refs_append (reverse vs) (v ∷ [])) c')) [
      | inl d ↦ Contains-append_right (refs_of_value v) (refs_of vs) o (refs_reversed vs o d)
      | inr d ↦ Contains-append_left (refs_of_value v) (refs_of vs) o (subst (λ (os : List ℕ). Contains os o) (append-nil (refs_of_value v)) d)
    ]

-- what the arguments of a frame refer to was among the operands of its caller ..
argument_root : (h : NewHead) (count : ℕ) (f : FrameState) (o : ℕ) → Contains (refs_of (locals_with h.max_locals (arguments_on count f))) o → Contains (frame_roots f) o
argument_root h count f o c =
    let vs : List Value = take count f.operands in
    let d : Contains (refs_of (reverse vs)) o = subst (λ (os : List ℕ). Contains os o) (refs_of-locals_with h.max_locals (reverse vs) ∙ append-nil (refs_of (reverse vs))) c in
    let parted : refs_of vs ++ refs_of (drop count f.operands) ≡ refs_of f.operands = sym (refs_append vs (drop count f.operands)) ∙ ap refs_of (take-append-drop count f.operands) in
    Contains-append_right (refs_of f.locals) _ o (Contains-append_left (refs_of f.operands) _ o (subst (λ (os : List ℕ). Contains os o) parted (Contains-append_left (refs_of vs) (refs_of (drop count f.operands)) o (refs_reversed vs o d))))

-- .. and what was among those stands in the frame
root_argument : (h : NewHead) (count : ℕ) (f : FrameState) (o : ℕ) → Contains (refs_of (take count f.operands)) o → Contains (frame_roots (frame_with h (arguments_on count f))) o
root_argument h count f o c =
    let vs : List Value = take count f.operands in
    let d : Contains (refs_of (reverse vs)) o = refs_reversed (reverse vs) o (subst (λ (ws : List Value). Contains (refs_of ws) o) (sym (reverse-reverse vs)) c) in
    Contains-append_left (refs_of (locals_with h.max_locals (reverse vs))) _ o (subst (λ (os : List ℕ). Contains os o) (sym (refs_of-locals_with h.max_locals (reverse vs) ∙ append-nil (refs_of (reverse vs)))) d)

-- operands of a frame become the arguments of another
moves_over : (H R : ℕ → Type 0) (h : NewHead) (count : ℕ) (f : FrameState) → ((o : ℕ) → Contains (option_to_list h.lock) o → H o) → Moves H R (frame_roots f) (frame_roots (frame_with h (arguments_on count f)) ++ frame_roots (popped count f)) []
moves_over H R h count f lock =
    let g : FrameState = frame_with h (arguments_on count f) in
    let m = frame_pops H (λ o. Contains (refs_of (take count f.operands)) o) f count (λ o c. c) in
    record {
      on = λ o c. elim (Contains-append_cases (frame_roots g) (frame_roots (popped count f)) o c) [
        | inl d ↦ elim (Contains-append_cases (refs_of g.locals) (option_to_list h.lock) o d) [ inl e ↦ inl (argument_root h count f o e) | inr e ↦ inr (lock o e) ]
        | inr d ↦ m.on o d
      ];
      off = λ o c. elim (m.off o c) [
        | inl d ↦ inl (Contains-append_right (frame_roots g) (frame_roots (popped count f)) o d)
        | inr d ↦ inl (Contains-append_left (frame_roots g) (frame_roots (popped count f)) o (root_argument h count f o d))
      ];
      was = λ o c. absurd (Contains-none o c);
    }

-- a frame that holds nothing but a lock enters <clinit>
pub frame_in_clinit : (H R : ℕ → Type 0) (f : FrameState) (method room locals : ℕ) → f.locals ≡ [] → f.operands ≡ [] → Moves H R (frame_roots f) (frame_roots (in_clinit method room locals f)) []
frame_in_clinit H R f method room locals noLocals noOperands =
    let before : frame_roots f ≡ option_to_list f.lock = ap (λ vs. refs_of vs ++ (refs_of f.operands ++ option_to_list f.lock)) noLocals ∙ ap (λ vs. refs_of vs ++ option_to_list f.lock) noOperands in
    let after : frame_roots (in_clinit method room locals f) ≡ option_to_list f.lock = ap (λ os. os ++ option_to_list f.lock) (refs_of-locals_with locals []) in
    subst (λ (os : List ℕ). Moves H R os (frame_roots (in_clinit method room locals f)) []) (sym before) (subst (λ (os : List ℕ). Moves H R (option_to_list f.lock) os []) (sym after) (moves_none H R (option_to_list f.lock)))

-- THREADS

first_moves : (H R : ℕ → Type 0) (fs : List FrameState) (f : FrameState) (l : List ℕ) → 0 < length fs → Moves H R (frame_roots (first_frame fs)) (frame_roots f) l → Moves H R (flat_map frame_roots fs) (flat_map frame_roots (f ∷ rest_of fs)) l
first_moves H R [] f l h m = absurd (omega arith)
first_moves H R (g ∷ fs) f l h m = moves_left H R (frame_roots g) (frame_roots f) l (flat_map frame_roots fs) m

first_dropped : (H R : ℕ → Type 0) (fs : List FrameState) → 0 < length fs → ((o : ℕ) → Contains (frame_roots (first_frame fs)) o → R o) → Moves H R (flat_map frame_roots fs) (flat_map frame_roots (rest_of fs)) (frame_roots (first_frame fs))
first_dropped H R [] h r = absurd (omega arith)
first_dropped H R (g ∷ fs) h r = moves_fewer H R (frame_roots g) (flat_map frame_roots fs) r

first_over : (H R : ℕ → Type 0) (h : NewHead) (count : ℕ) (fs : List FrameState) → 0 < length fs → ((o : ℕ) → Contains (option_to_list h.lock) o → H o) → Moves H R (flat_map frame_roots fs) (flat_map frame_roots (frame_with h (arguments_on count (first_frame fs)) ∷ popped count (first_frame fs) ∷ rest_of fs)) []
first_over H R h count [] some lock = absurd (omega (arith, some))
first_over H R h count (f ∷ fs) some lock =
    let g : List ℕ = frame_roots (frame_with h (arguments_on count f)) in
    let rest : List ℕ = flat_map frame_roots fs in
    subst (λ (os : List ℕ). Moves H R (frame_roots f ++ rest) os []) (append_assoc g (frame_roots (popped count f)) rest)
    (moves_left H R (frame_roots f) (g ++ frame_roots (popped count f)) [] rest (moves_over H R h count f lock))

pub thread_root : (g : GuestState) (t o : ℕ) → t < length g.threads → Contains (thread_roots (thread_at g t)) o → Contains (roots_of g) o
thread_root g t o lt c = Contains-append_left (flat_map thread_roots g.threads) _ o (part_contained thread_roots no_thread g.threads t o lt c)

first_root : (fs : List FrameState) (o : ℕ) → 0 < length fs → Contains (frame_roots (first_frame fs)) o → Contains (flat_map frame_roots fs) o
first_root [] o h c = absurd (omega arith)
first_root (f ∷ fs) o h c = Contains-append_left (frame_roots f) (flat_map frame_roots fs) o c

-- what stands in the topmost frame stands in a root place
pub top_root : (g : GuestState) (t o : ℕ) → HasFrame g t → Contains (frame_roots (top g t)) o → Contains (roots_of g) o
top_root g t o has c = thread_root g t o has.thread (Contains-append_left (flat_map frame_roots (thread_at g t).frames) _ o (first_root (thread_at g t).frames o has.frame c))

-- THE GUEST

pub guest_thread : (H R : ℕ → Type 0) (g : GuestState) (t : ℕ) (x : ThreadState) (l : List ℕ) → t < length g.threads → Moves H R (thread_roots (thread_at g t)) (thread_roots x) l → Moves H R (roots_of g) (roots_of (with_thread g t x)) l
guest_thread H R g t x l lt m = moves_left H R _ _ l _ (moves_set H R thread_roots no_thread g.threads t x l lt m)

-- the topmost frame changes
pub guest_top : (H R : ℕ → Type 0) (g : GuestState) (t : ℕ) (f : FrameState) (l : List ℕ) → HasFrame g t → Moves H R (frame_roots (top g t)) (frame_roots f) l → Moves H R (roots_of g) (roots_of (with_top g t f)) l
guest_top H R g t f l has m = guest_thread H R g t (with_top_of (thread_at g t) f) l has.thread (moves_left H R _ _ l _ (first_moves H R (thread_at g t).frames f l has.frame m))

-- the topmost frame is dropped
pub guest_dropped : (H R : ℕ → Type 0) (g : GuestState) (t : ℕ) → HasFrame g t → ((o : ℕ) → Contains (frame_roots (top g t)) o → R o) → Moves H R (roots_of g) (roots_of (with_thread g t (without_top (thread_at g t)))) (frame_roots (top g t))
guest_dropped H R g t has r = guest_thread H R g t (without_top (thread_at g t)) (frame_roots (top g t)) has.thread (moves_left H R _ _ (frame_roots (top g t)) _ (first_dropped H R (thread_at g t).frames has.frame r))

-- a static slot is written
pub guest_static : (H R : ℕ → Type 0) (g : GuestState) (i : ℕ) (v : Value) → i < length g.statics → ((o : ℕ) → Contains (refs_of_value v) o → H o) → ((o : ℕ) → Contains (refs_of_value (static_at g i)) o → R o) → Moves H R (roots_of g) (roots_of (with_static g i v)) (refs_of_value (static_at g i))
guest_static H R g i v lt h r =
    moves_right H R _ _ (refs_of_value (static_at g i)) (flat_map thread_roots g.threads) (moves_left H R (refs_of g.statics) (refs_of (set g.statics i v)) (refs_of_value (static_at g i)) _ (moves_place H R g.statics i v lt h r))

-- a string of a constant is added
pub guest_interned : (H R : ℕ → Type 0) (g : GuestState) (text : List ℕ) (o : ℕ) → H o → Moves H R (roots_of g) (roots_of (with_string g text o)) []
guest_interned H R g text o h =
    let more : interned_objects (g.interned ++ (text, o) ∷ []) ≡ interned_objects g.interned ++ o ∷ [] = map-append (λ p. p.1) g.interned ((text, o) ∷ []) in
    moves_right H R _ _ [] (flat_map thread_roots g.threads) (moves_right H R _ _ [] (refs_of g.statics) (subst (λ (os : List ℕ). Moves H R (interned_objects g.interned) os []) (sym more) (moves_last H R (interned_objects g.interned) (o ∷ []) (λ p c. one p c h))))
  where
    only : (p : ℕ) → Contains (o ∷ []) p → o ≡ p
    only p (zero, lt, e) = e
    only p (suc k, lt, e) = absurd (omega arith)

    one : (p : ℕ) → Contains (o ∷ []) p → H o → H p
    one p c k = elim (Contains-append_cases (o ∷ []) [] p c) [ inl d ↦ subst H (only p d) k | inr d ↦ absurd (Contains-none p d) ]

-- a frame is entered
pub guest_entered : (H R : ℕ → Type 0) (g : GuestState) (t : ℕ) (f : FrameState) → t < length g.threads → ((o : ℕ) → Contains (frame_roots f) o → H o) → Moves H R (roots_of g) (roots_of (with_thread g t (entered_by f (thread_at g t)))) []
guest_entered H R g t f lt h = guest_thread H R g t (entered_by f (thread_at g t)) [] lt (moves_left H R _ _ [] _ (moves_more H R (flat_map frame_roots (thread_at g t).frames) (frame_roots f) h))

-- .. over operands of another
pub guest_over : (H R : ℕ → Type 0) (g : GuestState) (t : ℕ) (h : NewHead) (count : ℕ) → HasFrame g t → ((o : ℕ) → Contains (option_to_list h.lock) o → H o) → Moves H R (roots_of g) (roots_of (with_thread g t (entered_over h count (thread_at g t)))) []
guest_over H R g t h count has held = guest_thread H R g t (entered_over h count (thread_at g t)) [] has.thread (moves_left H R _ _ [] _ (first_over H R h count (thread_at g t).frames has.frame held))

-- an exception is thrown, or taken
pub guest_pending : (H R : ℕ → Type 0) (g : GuestState) (t : ℕ) (p : Option ℕ) → t < length g.threads → ((o : ℕ) → Contains (option_to_list p) o → H o) → ((o : ℕ) → Contains (option_to_list (thread_at g t).pending) o → R o) → Moves H R (roots_of g) (roots_of (with_thread g t (with_pending p (thread_at g t)))) (option_to_list (thread_at g t).pending)
guest_pending H R g t p lt h r =
    guest_thread H R g t (with_pending p (thread_at g t)) (option_to_list (thread_at g t).pending) lt
    (moves_right H R _ _ (option_to_list (thread_at g t).pending) (flat_map frame_roots (thread_at g t).frames)
    (moves_left H R (option_to_list (thread_at g t).pending) (option_to_list p) (option_to_list (thread_at g t).pending) _ (record { on = λ o c. inr (h o c); off = λ o c. inr c; was = r })))

parts_append : {X : Type 0} (F : X → List ℕ) (xs : List X) (y : X) (o : ℕ) → Contains (flat_map F (xs ++ y ∷ [])) o → Contains (flat_map F xs) o ⊎ Contains (F y) o
parts_append F [] y o c = elim (Contains-append_cases (F y) [] o c) [ inl d ↦ inr d | inr d ↦ inl d ]
parts_append F (x ∷ xs) y o c = elim (Contains-append_cases (F x) (flat_map F (xs ++ y ∷ [])) o c) [
  | inl d ↦ inl (Contains-append_left (F x) (flat_map F xs) o d)
  | inr d ↦ elim (parts_append F xs y o d) [ inl e ↦ inl (Contains-append_right (F x) (flat_map F xs) o e) | inr e ↦ inr e ]
]

append_parts : {X : Type 0} (F : X → List ℕ) (xs : List X) (y : X) (o : ℕ) → Contains (flat_map F xs) o → Contains (flat_map F (xs ++ y ∷ [])) o
append_parts F [] y o c = absurd (Contains-none o c)
append_parts F (x ∷ xs) y o c = elim (Contains-append_cases (F x) (flat_map F xs) o c) [
  | inl d ↦ Contains-append_left (F x) (flat_map F (xs ++ y ∷ [])) o d
  | inr d ↦ Contains-append_right (F x) (flat_map F (xs ++ y ∷ [])) o (append_parts F xs y o d)
]

-- a thread is started
pub guest_started : (H R : ℕ → Type 0) (g : GuestState) (x : ThreadState) → ((o : ℕ) → Contains (thread_roots x) o → H o) → Moves H R (roots_of g) (roots_of (with_new_thread g x)) []
guest_started H R g x h = moves_left H R _ _ [] _ (record {
  on = λ o c. elim (parts_append thread_roots g.threads x o c) [ inl d ↦ inl d | inr d ↦ inr (h o d) ];
  off = λ o c. inl (append_parts thread_roots g.threads x o c);
  was = λ o c. absurd (Contains-none o c);
})

-- the roots of a thread that has not ended
unended_roots : (x : ThreadState) → x.ended ≡ false → thread_roots x ≡ flat_map frame_roots x.frames ++ ended_roots x
unended_roots x e = ap (λ b. flat_map frame_roots x.frames ++ (option_to_list x.pending ++ (if b then [] else option_to_list x.entry ++ option_to_list x.object))) e

-- a thread ends
pub guest_ended : (H R : ℕ → Type 0) (g : GuestState) (t : ℕ) → t < length g.threads → (thread_at g t).ended ≡ false → ((o : ℕ) → Contains (ended_roots (thread_at g t)) o → R o)
    → Moves H R (roots_of g) (roots_of (with_thread g t (as_ended (thread_at g t)))) (ended_roots (thread_at g t))
guest_ended H R g t lt unended r =
    let x : ThreadState = thread_at g t in
    guest_thread H R g t (as_ended x) (ended_roots x) lt
    (subst (λ (os : List ℕ). Moves H R os (thread_roots (as_ended x)) (ended_roots x)) (sym (unended_roots x unended)) (moves_right H R (ended_roots x) [] (ended_roots x) (flat_map frame_roots x.frames) (moves_all H R (ended_roots x) r)))

-- a thread counts as entered
pub guest_set_entered : (H R : ℕ → Type 0) (g : GuestState) (t : ℕ) → t < length g.threads → (thread_at g t).ended ≡ false → ((o : ℕ) → Contains (option_to_list (thread_at g t).entry) o → R o)
    → Moves H R (roots_of g) (roots_of (with_thread g t (as_entered (thread_at g t)))) (option_to_list (thread_at g t).entry)
guest_set_entered H R g t lt unended r =
    let x : ThreadState = thread_at g t in
    let l : List ℕ = option_to_list x.entry in
    let later : thread_roots (as_entered x) ≡ flat_map frame_roots x.frames ++ (option_to_list x.pending ++ option_to_list x.object) = unended_roots (as_entered x) unended in
    guest_thread H R g t (as_entered x) l lt
    (subst (λ (os : List ℕ). Moves H R os (thread_roots (as_entered x)) l) (sym (unended_roots x unended))
    (subst (λ (os : List ℕ). Moves H R (flat_map frame_roots x.frames ++ ended_roots x) os l) (sym later)
    (moves_right H R _ _ l (flat_map frame_roots x.frames) (moves_right H R _ _ l (option_to_list x.pending) (moves_fewer H R l (option_to_list x.object) r)))))

-- what stands in the root places of a thread that has not ended
pub ended_root : (g : GuestState) (t o : ℕ) → t < length g.threads → (thread_at g t).ended ≡ false → Contains (ended_roots (thread_at g t)) o → Contains (roots_of g) o
ended_root g t o lt unended c =
    thread_root g t o lt (subst (λ (os : List ℕ). Contains os o) (sym (unended_roots (thread_at g t) unended)) (Contains-append_right (flat_map frame_roots (thread_at g t).frames) (ended_roots (thread_at g t)) o c))

pub pending_root : (g : GuestState) (t o : ℕ) → t < length g.threads → Contains (option_to_list (thread_at g t).pending) o → Contains (roots_of g) o
pending_root g t o lt c =
    thread_root g t o lt (Contains-append_right (flat_map frame_roots (thread_at g t).frames) _ o (Contains-append_left (option_to_list (thread_at g t).pending) _ o c))

pub static_root : (g : GuestState) (i o : ℕ) → i < length g.statics → Contains (refs_of_value (static_at g i)) o → Contains (roots_of g) o
static_root g i o lt c = Contains-append_right (flat_map thread_roots g.threads) _ o (Contains-append_left (refs_of g.statics) (interned_objects g.interned) o (part_contained refs_of_value Unset g.statics i o lt c))

pub string_root : (g : GuestState) (o : ℕ) → Contains (interned_objects g.interned) o → Contains (roots_of g) o
string_root g o c = Contains-append_right (flat_map thread_roots g.threads) _ o (Contains-append_right (refs_of g.statics) (interned_objects g.interned) o c)

pub lock_root : (f : FrameState) (o : ℕ) → Contains (option_to_list f.lock) o → Contains (frame_roots f) o
lock_root f o c = Contains-append_right (refs_of f.locals) _ o (Contains-append_right (refs_of f.operands) (option_to_list f.lock) o c)
