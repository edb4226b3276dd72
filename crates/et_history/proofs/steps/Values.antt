-- References that are held: in values, frames and threads.
use Rattle.et_history.specs.steps.Values.{Fine, Fines, FineSome, Grows, FineFrame, FineFrames, FineThread}
use Rattle.std.proofs.Common.{◌≡◌, ℕ, zero, suc, Bool, true, false, List, [], ◌∷◌, ◌++◌, set, get_or, take, drop, reverse, replicate, Option, Some, None, Contains, refl, sym, subst, inl, inr, option_to_list}
use Rattle.std.specs.Prelude.{if◌then◌else◌}
use Rattle.std.specs.List.{flat_map}
use Rattle.std.proofs.lemmas.List.{reverse-append}
use Rattle.std.proofs.lemmas.List.Elements.{Contains-append_left, Contains-append_right, Contains-append_cases}
use Rattle.et_base.specs.declared.value.Value.{Value}
use Rattle.et_base.specs.declared.value.Value.TheVariants.{Unset, Int, Long, LongHigh, Null, Ref}
use Rattle.et_base.proofs.Lists.{Contains-none, Contains-here, Contains-cons}
use Rattle.et_heap.specs.Objects.{Objects, IsHeld}
use Rattle.et_heap.specs.Refs.{refs_of_value, refs_of}
use Rattle.et_state.specs.ThreadRoots.{frame_roots, thread_roots}
use Rattle.et_state.specs.Threads.{FrameState, ThreadState, first_frame, rest_of}

only : (h : Objects) (q o : ℕ) → IsHeld h q → Contains (q ∷ []) o → IsHeld h o
only h q o held c = elim (Contains-cons q [] o c) [ inl e ↦ subst (λ (k : ℕ). IsHeld h k) e held | inr d ↦ absurd (Contains-none o d) ]

pub value_in : (h : Objects) (v : Value) (o : ℕ) → Fine h v → Contains (refs_of_value v) o → IsHeld h o
value_in h Unset o f c = absurd (Contains-none o c)
value_in h (Int n) o f c = absurd (Contains-none o c)
value_in h (Long n) o f c = absurd (Contains-none o c)
value_in h LongHigh o f c = absurd (Contains-none o c)
value_in h Null o f c = absurd (Contains-none o c)
value_in h (Ref q) o f c = only h q o f c

pub values_in : (h : Objects) (vs : List Value) (o : ℕ) → Fines h vs → Contains (refs_of vs) o → IsHeld h o
values_in h [] o f c = absurd (Contains-none o c)
values_in h (v ∷ vs) o f c = elim (Contains-append_cases (refs_of_value v) (refs_of vs) o c) [ inl d ↦ value_in h v o f.0 d | inr d ↦ values_in h vs o f.1 d ]

pub in_value : (h : Objects) (v : Value) → ((o : ℕ) → Contains (refs_of_value v) o → IsHeld h o) → Fine h v
in_value h Unset g = tt
in_value h (Int n) g = tt
in_value h (Long n) g = tt
in_value h LongHigh g = tt
in_value h Null g = tt
in_value h (Ref q) g = g q (Contains-here q [])

pub in_values : (h : Objects) (vs : List Value) → ((o : ℕ) → Contains (refs_of vs) o → IsHeld h o) → Fines h vs
in_values h [] g = tt
in_values h (v ∷ vs) g =
    (in_value h v (λ o c. g o (Contains-append_left (refs_of_value v) (refs_of vs) o c)), in_values h vs (λ o c. g o (Contains-append_right (refs_of_value v) (refs_of vs) o c)))

pub fine_grows : (h h' : Objects) (v : Value) → Grows h h' → Fine h v → Fine h' v
fine_grows h h' Unset g f = tt
fine_grows h h' (Int n) g f = tt
fine_grows h h' (Long n) g f = tt
fine_grows h h' LongHigh g f = tt
fine_grows h h' Null g f = tt
fine_grows h h' (Ref o) g f = g o f

pub fines_grow : (h h' : Objects) (vs : List Value) → Grows h h' → Fines h vs → Fines h' vs
fines_grow h h' [] g f = tt
fines_grow h h' (v ∷ vs) g f = (fine_grows h h' v g f.0, fines_grow h h' vs g f.1)

pub some_grows : (h h' : Objects) (o : Option ℕ) → Grows h h' → FineSome h o → FineSome h' o
some_grows h h' None g f = tt
some_grows h h' (Some o) g f = g o f

pub fine_at : (h : Objects) (vs : List Value) (i : ℕ) → Fines h vs → Fine h (get_or vs i Unset)
fine_at h [] i f = tt
fine_at h (v ∷ vs) zero f = f.0
fine_at h (v ∷ vs) (suc i) f = fine_at h vs i f.1

pub fines_set : (h : Objects) (vs : List Value) (i : ℕ) (v : Value) → Fine h v → Fines h vs → Fines h (set vs i v)
fines_set h [] i v f fs = tt
fines_set h (x ∷ vs) zero v f fs = (f, fs.1)
fines_set h (x ∷ vs) (suc i) v f fs = (fs.0, fines_set h vs i v f fs.1)

pub fines_append : (h : Objects) (vs ws : List Value) → Fines h vs → Fines h ws → Fines h (vs ++ ws)
fines_append h [] ws f g = g
fines_append h (v ∷ vs) ws f g = (f.0, fines_append h vs ws f.1 g)

pub fines_drop : (h : Objects) (n : ℕ) (vs : List Value) → Fines h vs → Fines h (drop n vs)
fines_drop h zero vs f = f
fines_drop h (suc n) [] f = tt
fines_drop h (suc n) (v ∷ vs) f = fines_drop h n vs f.1

pub fines_take : (h : Objects) (n : ℕ) (vs : List Value) → Fines h vs → Fines h (take n vs)
fines_take h zero vs f = tt
fines_take h (suc n) [] f = tt
fines_take h (suc n) (v ∷ vs) f = (f.0, fines_take h n vs f.1)

pub fines_reverse : (h : Objects) (vs : List Value) → Fines h vs → Fines h (reverse vs)
fines_reverse h [] f = tt
fines_reverse h (v ∷ vs) f = subst (λ (ws : List Value). Fines h ws) (sym (reverse-append (v ∷ []) vs)) (fines_append h (reverse vs) (v ∷ []) (fines_reverse h vs f.1) (f.0, tt))

pub fines_unset : (h : Objects) (n : ℕ) → Fines h (replicate n Unset)
fines_unset h zero = tt
fines_unset h (suc n) = (tt, fines_unset h n)

some_in : (h : Objects) (q : Option ℕ) (o : ℕ) → FineSome h q → Contains (option_to_list q) o → IsHeld h o
some_in h None o f c = absurd (Contains-none o c)
some_in h (Some q) o f c = only h q o f c

in_some : (h : Objects) (q : Option ℕ) → ((o : ℕ) → Contains (option_to_list q) o → IsHeld h o) → FineSome h q
in_some h None g = tt
in_some h (Some q) g = g q (Contains-here q [])

frame_in : (h : Objects) (f : FrameState) (o : ℕ) → FineFrame h f → Contains (frame_roots f) o → IsHeld h o
frame_in h f o fine c = elim (Contains-append_cases (refs_of f.locals) (refs_of f.operands ++ option_to_list f.lock) o c) [
  | inl d ↦ values_in h f.locals o fine.locals d
  | inr d ↦ elim (Contains-append_cases (refs_of f.operands) (option_to_list f.lock) o d) [ inl i ↦ values_in h f.operands o fine.operands i | inr i ↦ some_in h f.lock o fine.lock i ]
]

in_frame : (h : Objects) (f : FrameState) → ((o : ℕ) → Contains (frame_roots f) o → IsHeld h o) → FineFrame h f
in_frame h f g = record {
  locals = in_values h f.locals (λ o c. g o (Contains-append_left (refs_of f.locals) (refs_of f.operands ++ option_to_list f.lock) o c));
  operands = in_values h f.operands (λ o c. g o (Contains-append_right (refs_of f.locals) (refs_of f.operands ++ option_to_list f.lock) o (Contains-append_left (refs_of f.operands) (option_to_list f.lock) o c)));
  lock = in_some h f.lock (λ o c. g o (Contains-append_right (refs_of f.locals) (refs_of f.operands ++ option_to_list f.lock) o (Contains-append_right (refs_of f.operands) (option_to_list f.lock) o c)));
}

pub frame_grows : (h h' : Objects) (f : FrameState) → Grows h h' → FineFrame h f → FineFrame h' f
frame_grows h h' f g fine = record { locals = fines_grow h h' f.locals g fine.locals; operands = fines_grow h h' f.operands g fine.operands; lock = some_grows h h' f.lock g fine.lock }

frames_in : (h : Objects) (fs : List FrameState) (o : ℕ) → FineFrames h fs → Contains (flat_map frame_roots fs) o → IsHeld h o
frames_in h [] o fine c = absurd (Contains-none o c)
frames_in h (f ∷ fs) o fine c = elim (Contains-append_cases (frame_roots f) (flat_map frame_roots fs) o c) [ inl d ↦ frame_in h f o fine.0 d | inr d ↦ frames_in h fs o fine.1 d ]

in_frames : (h : Objects) (fs : List FrameState) → ((o : ℕ) → Contains (flat_map frame_roots fs) o → IsHeld h o) → FineFrames h fs
in_frames h [] g = tt
in_frames h (f ∷ fs) g =
    (in_frame h f (λ o c. g o (Contains-append_left (frame_roots f) (flat_map frame_roots fs) o c)), in_frames h fs (λ o c. g o (Contains-append_right (frame_roots f) (flat_map frame_roots fs) o c)))

pub rest_fine : (h : Objects) (fs : List FrameState) → FineFrames h fs → FineFrames h (rest_of fs)
rest_fine h [] fine = tt
rest_fine h (f ∷ fs) fine = fine.1

pub first_fine : (h : Objects) (fs : List FrameState) → FineFrames h fs → FineFrame h (first_frame fs)
first_fine h [] fine = record { locals = tt; operands = tt; lock = tt }
first_fine h (f ∷ fs) fine = fine.0

abbrev ends_of : ThreadState → Bool → List ℕ
ends_of x b = if b then [] else option_to_list x.entry ++ option_to_list x.object

ends_in : (h : Objects) (x : ThreadState) (b : Bool) (o : ℕ) → x.ended ≡ b → FineThread h x → Contains (ends_of x b) o → IsHeld h o
ends_in h x true o e fine c = absurd (Contains-none o c)
ends_in h x false o e fine c = elim (Contains-append_cases (option_to_list x.entry) (option_to_list x.object) o c) [ inl d ↦ some_in h x.entry o (fine.entry e) d | inr d ↦ some_in h x.object o (fine.object e) d ]

pub thread_in : (h : Objects) (x : ThreadState) → FineThread h x → (o : ℕ) → Contains (thread_roots x) o → IsHeld h o
thread_in h x fine o c = elim (Contains-append_cases (flat_map frame_roots x.frames) (option_to_list x.pending ++ ends_of x x.ended) o c) [
  | inl d ↦ frames_in h x.frames o fine.frames d
  | inr d ↦ elim (Contains-append_cases (option_to_list x.pending) (ends_of x x.ended) o d) [ inl i ↦ some_in h x.pending o fine.pending i | inr i ↦ ends_in h x x.ended o refl fine i ]
]

in_ends : (h : Objects) (x : ThreadState) (b : Bool) → ((o : ℕ) → Contains (ends_of x b) o → IsHeld h o) → b ≡ false → FineSome h x.entry × FineSome h x.object
in_ends h x true g e = cc
in_ends h x false g e =
    (in_some h x.entry (λ o c. g o (Contains-append_left (option_to_list x.entry) (option_to_list x.object) o c)), in_some h x.object (λ o c. g o (Contains-append_right (option_to_list x.entry) (option_to_list x.object) o c)))

pub in_thread : (h : Objects) (x : ThreadState) → ((o : ℕ) → Contains (thread_roots x) o → IsHeld h o) → FineThread h x
in_thread h x g =
    let others : (o : ℕ) → Contains (option_to_list x.pending ++ ends_of x x.ended) o → IsHeld h o = λ o c. g o (Contains-append_right (flat_map frame_roots x.frames) (option_to_list x.pending ++ ends_of x x.ended) o c) in
    let last : (o : ℕ) → Contains (ends_of x x.ended) o → IsHeld h o = λ o c. others o (Contains-append_right (option_to_list x.pending) (ends_of x x.ended) o c) in
    record {
      frames = in_frames h x.frames (λ o c. g o (Contains-append_left (flat_map frame_roots x.frames) (option_to_list x.pending ++ ends_of x x.ended) o c));
      pending = in_some h x.pending (λ o c. others o (Contains-append_left (option_to_list x.pending) (ends_of x x.ended) o c));
      entry = λ e. (in_ends h x x.ended last e).0;
      object = λ e. (in_ends h x x.ended last e).1;
    }
