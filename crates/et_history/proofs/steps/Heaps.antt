-- Heaps that keep their monitors, and states in which what is referred to is held.
use Rattle.std.proofs.Common.{◌≡◌, ℕ, zero, suc, ◌+◌, ◌<◌, ◌≤◌, ◌⊎◌, List, [], ◌∷◌, ◌++◌, length, drop, set, Option, Some, None, Contains, refl, sym, ◌∙◌, ap, subst, inl, inr, arith, get_or-set_same}
use Rattle.std.specs.List.{flat_map}
use Rattle.std.proofs.lemmas.Bool.{cases_eq}
use Rattle.std.proofs.lemmas.List.{length-set, length_push, get_or-set_other, get_or_append_left}
use Rattle.std.proofs.lemmas.List.Elements.{Contains-append_left, Contains-append_right, Contains-append_cases}
use Rattle.et_base.specs.declared.value.Value.{Value}
use Rattle.et_heap.specs.Objects.{ObjectState, Objects, IsHeld, is_there, at, found, object_at, with_object_at, free_monitor, new_object, with_queue}
use Rattle.std.specs.Option.{option_to_list}
use Rattle.std.proofs.lemmas.Option.{none-some}
use Rattle.et_heap.specs.Refs.{refs_of, targets_of}
use Rattle.et_heap.proofs.HeapLists.{pair_at, at_pair, held_within, held_set, set_held, held_push, pairs_push}
use Rattle.et_state.specs.ThreadRoots.{thread_roots}
use Rattle.et_state.specs.Threads.{ThreadState}
use Rattle.et_state.specs.Interned.{interned_objects}
use Rattle.et_state.specs.Moves.{Moves}
use Rattle.et_state.specs.Roots.{roots_of}
use Rattle.et_state.specs.Sound.{IsSound}
use Rattle.et_state.specs.State.{GuestState, Kept}
use Rattle.et_state.specs.Words.{thread_at, with_thread, with_new_thread, with_static, with_string}
use Rattle.et_state.proofs.Places.{guest_thread, guest_started, guest_interned, thread_root, leads-new}
use Rattle.et_state.proofs.Steps.{newest_held}
use Rattle.et_state.proofs.UnderWay.{slot_pair, lead_pair}
use Rattle.et_history.specs.steps.Values.{Fine, Fines, FineSome, FineThread}
use Rattle.et_history.proofs.steps.Values.{values_in, in_values, fines_set, thread_in, in_thread}
use Rattle.et_heap.specs.Queues.{first_value, without_first_waiting}
use Rattle.et_base.proofs.Lists.{Contains-none, Contains-here, Contains-there, Contains-cons}

-- HEAPS: nothing is taken out, what was there has its monitor, and what is new has a free one
pub record Grown (h h' : Objects) : Type 0 where
  pub stays : (o : ℕ) → IsHeld h o → IsHeld h' o × ((object_at h' o).monitor ≡ (object_at h o).monitor)
  pub more : (o : ℕ) → IsHeld h' o → IsHeld h o ⊎ ((length h ≤ o) × ((object_at h' o).monitor ≡ free_monitor))
  pub longer : length h ≤ length h'
  pub full : (o : ℕ) → length h ≤ o → o < length h' → IsHeld h' o

set_monitors : (h : Objects) (o k : ℕ) (y : ObjectState) → IsHeld h o → y.monitor ≡ (object_at h o).monitor → (object_at (with_object_at h o y) k).monitor ≡ (object_at h k).monitor
set_monitors h o k y held same =
    elim (cases_eq k o) [
      | inl e ↦
          subst (λ (j : ℕ). (object_at (with_object_at h o y) j).monitor ≡ (object_at h j).monitor) (sym e)
          (ap (λ (x : Option ObjectState). (found x).monitor) (get_or-set_same h o (Some y) None (held_within h o held)) ∙ same)
      | inr ne ↦ ap (λ (x : Option ObjectState). (found x).monitor) (get_or-set_other h o k (Some y) None ne)
    ]

pub grown_set : (h : Objects) (o : ℕ) (y : ObjectState) → IsHeld h o → y.monitor ≡ (object_at h o).monitor → Grown h (with_object_at h o y)
grown_set h o y held same =
    let len : length (with_object_at h o y) ≡ length h = length-set h o (Some y) in
    record {
      stays = λ k there. (held_set h o y k held there, set_monitors h o k y held same);
      more = λ k there. inl (set_held h o y k held there);
      longer = omega arith;
      full = λ k le lt. absurd (omega (arith, len, le, lt));
    }

pub at_push : (xs : Objects) (y : ObjectState) (u : ℕ) → (at (xs ++ Some y ∷ []) u ≡ at xs u) ⊎ ((length xs ≤ u) × (at (xs ++ Some y ∷ []) u ≡ Some y))
at_push [] y zero = inr (omega arith, refl)
at_push [] y (suc u) = inl refl
at_push (x ∷ xs) y zero = inl refl
at_push (x ∷ xs) y (suc u) = elim (at_push xs y u) [ inl e ↦ inl e | inr e ↦ (let le = e.0 in inr (omega arith, e.1)) ]

-- the only number between a length and the next
pub newest : {n m k : ℕ} → m ≡ n + 1 → n ≤ k → k < m → n ≡ k
newest len le lt = omega (arith, len, le, lt)

pub grown_push : (h : Objects) (y : ObjectState) → y.monitor ≡ free_monitor → Grown h (h ++ Some y ∷ [])
grown_push h y free =
    let len : length (h ++ Some y ∷ []) ≡ length h + 1 = length_push h (Some y) in
    record {
      stays = λ k there. (held_push h y k there, ap (λ (x : Option ObjectState). (found x).monitor) (get_or_append_left h (Some y ∷ []) None k (held_within h k there)));
      more = λ k there. elim (at_push h y k) [
        | inl e ↦ inl (subst is_there e there)
        | inr e ↦ inr (e.0, ap (λ (x : Option ObjectState). (found x).monitor) e.1 ∙ free)
      ];
      longer = omega arith;
      full = λ k le lt. subst (λ (n : ℕ). IsHeld (h ++ Some y ∷ []) n) (newest len le lt) (newest_held h y);
    }

-- STATES

pub sound_guest : (s : Kept) (g : GuestState) → IsSound s → ((o : ℕ) → Contains (roots_of g) o → IsHeld s.heap o) → IsSound (record { heap = s.heap; guest = g })
sound_guest s g sound roots = record { room = sound.room; none = sound.none; roots = roots; slots = sound.slots; referents = sound.referents }

-- .. where some places may be filled with what is held
moved : (s : Kept) (g : GuestState) (l : List ℕ) → IsSound s → Moves (λ o. IsHeld s.heap o) (λ o. Unit {0}) (roots_of s.guest) (roots_of g) l → IsSound (record { heap = s.heap; guest = g })
moved s g l sound m = sound_guest s g sound (λ o c. elim (m.on o c) [ inl d ↦ sound.roots o d | inr h ↦ h ])

pub fine_thread : (s : Kept) (t : ℕ) → IsSound s → t < length s.guest.threads → FineThread s.heap (thread_at s.guest t)
fine_thread s t sound lt = in_thread s.heap (thread_at s.guest t) (λ o c. sound.roots o (thread_root s.guest t o lt c))

pub thread_sound : (s : Kept) (t : ℕ) (x : ThreadState) → IsSound s → t < length s.guest.threads → FineThread s.heap x → IsSound (record { heap = s.heap; guest = with_thread s.guest t x })
thread_sound s t x sound lt fine =
    moved s (with_thread s.guest t x) (thread_roots (thread_at s.guest t)) sound
    (guest_thread (λ o. IsHeld s.heap o) (λ o. Unit {0}) s.guest t x (thread_roots (thread_at s.guest t)) lt
    (record { on = λ o c. inr (thread_in s.heap x fine o c); off = λ o c. inr c; was = λ o c. tt }))

pub new_thread_sound : (s : Kept) (x : ThreadState) → IsSound s → FineThread s.heap x → IsSound (record { heap = s.heap; guest = with_new_thread s.guest x })
new_thread_sound s x sound fine = moved s (with_new_thread s.guest x) [] sound (guest_started (λ o. IsHeld s.heap o) (λ o. Unit {0}) s.guest x (λ o c. thread_in s.heap x fine o c))

pub string_sound : (s : Kept) (text : List ℕ) (o : ℕ) → IsSound s → IsHeld s.heap o → IsSound (record { heap = s.heap; guest = with_string s.guest text o })
string_sound s text o sound held = moved s (with_string s.guest text o) [] sound (guest_interned (λ k. IsHeld s.heap k) (λ k. Unit {0}) s.guest text o held)

pub statics_fine : (s : Kept) → IsSound s → Fines s.heap s.guest.statics
statics_fine s sound =
    in_values s.heap s.guest.statics (λ o c. sound.roots o (Contains-append_right (flat_map thread_roots s.guest.threads) (refs_of s.guest.statics ++ interned_objects s.guest.interned) o
    (Contains-append_left (refs_of s.guest.statics) (interned_objects s.guest.interned) o c)))

pub static_sound : (s : Kept) (i : ℕ) (v : Value) → IsSound s → Fine s.heap v → IsSound (record { heap = s.heap; guest = with_static s.guest i v })
static_sound s i v sound fine =
    let threads : List ℕ = flat_map thread_roots s.guest.threads in
    let strings : List ℕ = interned_objects s.guest.interned in
    let old : List ℕ = refs_of s.guest.statics in
    let new : List Value = set s.guest.statics i v in
    let fines : Fines s.heap new = fines_set s.heap s.guest.statics i v fine (statics_fine s sound) in
    sound_guest s (with_static s.guest i v) sound (λ o c. elim (Contains-append_cases threads (refs_of new ++ strings) o c) [
      | inl d ↦ sound.roots o (Contains-append_left threads (old ++ strings) o d)
      | inr d ↦ elim (Contains-append_cases (refs_of new) strings o d) [
        | inl i ↦ values_in s.heap new o fines i
        | inr i ↦ sound.roots o (Contains-append_right threads (old ++ strings) o (Contains-append_right old strings o i))
      ]
    ])

pub slots_fine : (s : Kept) (u : ℕ) → IsSound s → Fines s.heap (object_at s.heap u).slots
slots_fine s u sound = in_values s.heap (object_at s.heap u).slots (λ z c. sound.slots u z (slot_pair s.heap u z c))

pub referent_fine : (s : Kept) (u : ℕ) → IsSound s → FineSome s.heap (object_at s.heap u).referent
referent_fine s u sound = by (object_at s.heap u).referent refl
  where
    by : (q : Option ℕ) → (object_at s.heap u).referent ≡ q → FineSome s.heap q
    by None e = tt
    by (Some o) e = sound.referents u o e

fine_referent : (h : Objects) (q : Option ℕ) (r : ℕ) → FineSome h q → q ≡ Some r → IsHeld h r
fine_referent h q r fine e = subst (λ (x : Option ℕ). FineSome h x) e fine

-- its queue, and what waits in it, are held
abbrev pub AreRestHeld : Objects → ObjectState → Type 0
AreRestHeld h y = (z : ℕ) → Contains (option_to_list y.queue ++ y.waiting) z → IsHeld h z

pub rest_held : (s : Kept) (u : ℕ) → IsSound s → AreRestHeld s.heap (object_at s.heap u)
rest_held s u sound = λ z c. sound.slots u z (lead_pair s.heap u z (Contains-append_right (refs_of (object_at s.heap u).slots) _ z c))

-- .. once it has another queue
pub rest_with_queue : (s : Kept) (u : ℕ) (q : Option ℕ) → IsSound s → FineSome s.heap q → AreRestHeld s.heap (with_queue q (object_at s.heap u))
rest_with_queue s u q sound fine = λ z c. elim (Contains-append_cases (option_to_list q) (object_at s.heap u).waiting z c) [
  | inl d ↦ by q z fine d
  | inr d ↦ rest_held s u sound z (Contains-append_right (option_to_list (object_at s.heap u).queue) _ z d)
]
  where
    by : (r : Option ℕ) (z : ℕ) → FineSome s.heap r → Contains (option_to_list r) z → IsHeld s.heap z
    by None z f d = absurd (Contains-none z d)
    by (Some o) z f d = elim (Contains-cons o [] z d) [ inl e ↦ subst (λ (k : ℕ). IsHeld s.heap k) e f | inr g ↦ absurd (Contains-none z g) ]

-- .. once the first one waits there no more
pub rest_without_first : (s : Kept) (u : ℕ) → IsSound s → AreRestHeld s.heap (without_first_waiting (object_at s.heap u))
rest_without_first s u sound = λ z c. elim (Contains-append_cases (option_to_list (object_at s.heap u).queue) (drop 1 (object_at s.heap u).waiting) z c) [
  | inl d ↦ rest_held s u sound z (Contains-append_left (option_to_list (object_at s.heap u).queue) _ z d)
  | inr d ↦ rest_held s u sound z (Contains-append_right (option_to_list (object_at s.heap u).queue) _ z (later (object_at s.heap u).waiting z d))
]
  where
    later : (ws : List ℕ) (z : ℕ) → Contains (drop 1 ws) z → Contains ws z
    later [] z d = d
    later (w ∷ ws) z d = Contains-there w ws z d

-- the first one that waits is held
pub first_waiting_fine : (s : Kept) (u : ℕ) → IsSound s → Fine s.heap (first_value (object_at s.heap u).waiting)
first_waiting_fine s u sound = by (object_at s.heap u).waiting (λ z c. rest_held s u sound z (Contains-append_right (option_to_list (object_at s.heap u).queue) _ z c))
  where
    by : (ws : List ℕ) → ((z : ℕ) → Contains ws z → IsHeld s.heap z) → Fine s.heap (first_value ws)
    by [] all = tt
    by (w ∷ ws) all = all w (Contains-here w ws)

pub object_sound : (s : Kept) (o : ℕ) (y : ObjectState) → IsSound s → IsHeld s.heap o → Fines s.heap y.slots → FineSome s.heap y.referent → AreRestHeld s.heap y → IsSound (record { heap = with_object_at s.heap o y; guest = s.guest })
object_sound s o y sound held slots referent rest =
    let h : Objects = with_object_at s.heap o y in
    let len : length h ≡ length s.heap = length-set s.heap o (Some y) in
    let here : at h o ≡ Some y = get_or-set_same s.heap o (Some y) None (held_within s.heap o held) in
    record {
      room = subst (λ (n : ℕ). 0 < n) (sym len) sound.room;
      none = λ is. sound.none (set_held s.heap o y 0 held is);
      roots = λ r c. held_set s.heap o y r held (sound.roots r c);
      slots = λ u z c. held_set s.heap o y z held (elim (cases_eq u o) [
        | inl e ↦
            let d : Contains (targets_of (at h o)) z = subst (λ (k : ℕ). Contains (targets_of (at h k)) z) e (pair_at h u z c) in
            elim (Contains-append_cases (refs_of y.slots) _ z (subst (λ (x : Option ObjectState). Contains (targets_of x) z) here d)) [
              | inl f ↦ values_in s.heap y.slots z slots f
              | inr f ↦ rest z f
            ]
        | inr ne ↦ sound.slots u z (at_pair s.heap u z (subst (λ (x : Option ObjectState). Contains (targets_of x) z) (get_or-set_other s.heap o u (Some y) None ne) (pair_at h u z c)))
      ]);
      referents = λ u r e. held_set s.heap o y r held (elim (cases_eq u o) [
        | inl same ↦
            let f : (object_at h o).referent ≡ Some r = subst (λ (k : ℕ). (object_at h k).referent ≡ Some r) same e in
            fine_referent s.heap y.referent r referent (subst (λ (x : Option ObjectState). (found x).referent ≡ Some r) here f)
        | inr ne ↦ sound.referents u r (subst (λ (x : Option ObjectState). (found x).referent ≡ Some r) (get_or-set_other s.heap o u (Some y) None ne) e)
      ]);
    }

first_none : (xs : Objects) (y : ObjectState) → 0 < length xs → (IsHeld xs 0 → ⊥) → IsHeld (xs ++ Some y ∷ []) 0 → ⊥
first_none [] y lt out h = absurd (omega arith)
first_none (x ∷ xs) y lt out h = out h

pub made_sound : (s : Kept) (class elements slots : ℕ) → IsSound s → IsSound (record { heap = s.heap ++ Some (new_object class elements slots) ∷ []; guest = s.guest })
made_sound s class elements slots sound =
    let y : ObjectState = new_object class elements slots in
    let h : Objects = s.heap ++ Some y ∷ [] in
    let len : length h ≡ length s.heap + 1 = length_push s.heap (Some y) in
    record {
      room = subst (λ (m : ℕ). 0 < m) (sym len) (omega arith);
      none = λ is. first_none s.heap y sound.room sound.none is;
      roots = λ o c. held_push s.heap y o (sound.roots o c);
      slots = λ u o c. held_push s.heap y o (sound.slots u o (subst (λ (ps : List (ℕ × ℕ)). Contains ps (u, o)) (pairs_push s.heap y (leads-new class elements slots)) c));
      referents = λ u o e. held_push s.heap y o (elim (at_push s.heap y u) [
        | inl f ↦ sound.referents u o (subst (λ (x : Option ObjectState). (found x).referent ≡ Some o) f e)
        | inr f ↦ absurd (none-some o (subst (λ (x : Option ObjectState). (found x).referent ≡ Some o) f.1 e))
      ]);
    }
