-- The frames of a thread as they are kept.
use Rattle.std.proofs.Common.{◌≡◌, ℕ, zero, suc, ◌+◌, ◌-◌, ◌<◌, ◌≤◌, ◌^◌, List, [], ◌∷◌, ◌++◌, length, get_or, set, take, drop, reverse, replicate, refl, sym, ◌∙◌, ap, subst, arith}
use Rattle.std.specs.List.{flat_map}
use Rattle.std.proofs.lemmas.List.{append_assoc, append-nil, length-set, reverse-append, reverse-reverse, take-append-drop, drop-drop, set_at, get_or_at, length-append, length-reverse, length-take, length-take-le, length-drop, length-replicate, take_all, take_at, take-take, take-append-le, take-set-le, drop_all, drop_at, drop-append-le, drop-set-lt, drop-set-add, drop-take, take_more, take_more_set, get_or-reverse}
use Rattle.std.proofs.lemmas.Slice.{take-put_mid}
use borrow.Rule.Slice.PartMut.{put_mid}
use Rattle.et_base.specs.declared.value.Value.{Value}
use Rattle.et_base.specs.declared.value.Value.TheVariants.{Unset}
use Rattle.et_state.specs.Threads.{FrameState, first_frame, rest_of, at_pc, pushed, popped, without_operands, with_local, locals_with}
use Rattle.et_state.specs.ThreadRoots.{frame_roots}
use Rattle.et_state.specs.declared.frames.frame.FrameHead.{FrameHead}
use Rattle.et_state.specs.FrameInside.{frame_in, IsFrame}
use Rattle.et_state.specs.StackInside.{frames_in, IsTopmost, AreFrames, IsStacked}

-- LISTS SEEN FROM THEIR ENDS

-- a list that has an element is a list with one behind it
pub last_split : {X : Type 0} (xs : List X) → 0 < length xs → (front : List X) × (x : X) × (xs ≡ front ++ x ∷ [])
last_split [] h = absurd (omega arith)
last_split (x ∷ []) h = ([], x, refl)
last_split (x ∷ y ∷ xs) h =
    let r = last_split (y ∷ xs) (omega arith) in (x ∷ r.0, r.1, ap (λ ys. x ∷ ys) r.2)

length_front : {X : Type 0} (xs front : List X) (x : X) → xs ≡ front ++ x ∷ [] → length front ≡ length xs - 1
length_front xs front x e = omega (arith, ap length e, length-append front (x ∷ []))

-- the last element comes first from the end ..
pub from_end : {X : Type 0} (xs : List X) (i : ℕ) (x : X) → i ≡ length xs - 1 → 0 < length xs → x ≡ get_or xs i x → (below : List X) × (reverse xs ≡ x ∷ below) × ((y : X) → reverse (set xs i y) ≡ y ∷ below)
from_end {X = X} xs i x e h g =
    let r = last_split xs h in
    let l : length r.0 ≡ i = length_front xs r.0 r.1 r.2 ∙ sym e in
    let a : x ≡ r.1 = g ∙ (ap (λ ys. get_or ys i x) r.2 ∙ get_or_at r.0 r.1 [] x i l) in
    let b : reverse xs ≡ r.1 ∷ reverse r.0 = ap reverse r.2 ∙ reverse-append r.0 (r.1 ∷ []) in
    let w : (y : X) → reverse (set xs i y) ≡ y ∷ reverse r.0 = λ y. ap (λ ys. reverse (set ys i y)) r.2 ∙ (ap reverse (set_at r.0 r.1 [] y i l) ∙ reverse-append r.0 (y ∷ [])) in
    (reverse r.0, b ∙ ap (λ z. z ∷ reverse r.0) (sym a), w)

-- .. and one put behind it does too
pub reverse_push : {X : Type 0} (xs : List X) (x : X) → reverse (xs ++ x ∷ []) ≡ x ∷ reverse xs
reverse_push xs x = reverse-append xs (x ∷ [])

pub take_set_below : {X : Type 0} (n : ℕ) (xs : List X) (i : ℕ) (y : X) → i < n → take n (set xs i y) ≡ set (take n xs) i y
take_set_below zero xs i y lt = absurd (omega arith)
take_set_below (suc n) [] i y lt = refl
take_set_below (suc n) (x ∷ xs) zero y lt = refl
take_set_below (suc n) (x ∷ xs) (suc i) y lt = ap (λ ys. x ∷ ys) (take_set_below n xs i y (omega arith))

-- the last element stands first from the end
pub last_read : {X : Type 0} (xs below : List X) (x : X) → reverse xs ≡ x ∷ below → (0 < length xs) × (x ≡ get_or xs (length xs - 1) x)
last_read xs below x e =
    let some : 0 < length xs = omega (arith, ap length e, length-reverse xs) in
    let place : length xs - 1 - 0 ≡ length xs - 1 = omega arith in
    (some, sym (sym (get_or-reverse xs 0 x some) ∙ ap (λ ys. get_or ys 0 x) e) ∙ ap (λ j. get_or xs j x) place)

length-put_mid : {X : Type 0} (a k : ℕ) (xs ys : List X) → a + k ≤ length xs → length ys ≡ k → length (put_mid a k xs ys) ≡ length xs
length-put_mid a k xs ys le e =
    omega (arith, le, e, length-append (take a xs) (ys ++ drop k (drop a xs)), length-append ys (drop k (drop a xs)), length-take a xs, length-drop k (drop a xs), length-drop a xs)

-- a list after a write to a part of it
part_written : {X : Type 0} (a e n : ℕ) (xs ys zs : List X) → a ≤ e → e ≤ length xs → length ys ≡ e - a → n ≡ length xs → take n (put_mid a (e - a) xs ys ++ zs) ≡ put_mid a (e - a) xs ys
part_written a e n xs ys zs le up long all =
    take_at (put_mid a (e - a) xs ys) zs n (length-put_mid a (e - a) xs ys (omega (arith, le, up)) long ∙ sym all)

-- .. and to the part behind that
pub parts_written : {X : Type 0} (a e k n : ℕ) (vs xs ys ws os us zs : List X) → a ≤ e → e ≤ k → k ≤ length vs → n ≡ length vs → xs ≡ vs → length ys ≡ e - a → length os ≡ k - e → ws ≡ take n (put_mid a (e - a) xs ys ++ us) → take k (take n (put_mid e (k - e) ws os ++ zs)) ≡ take a vs ++ (ys ++ os)
parts_written a e k n vs xs ys ws os us zs le less up all was long more is =
    let same : length xs ≡ length vs = ap length was in
    let first : ws ≡ put_mid a (e - a) xs ys = is ∙ part_written a e n xs ys us le (omega (arith, less, up, same)) long (omega (arith, all, same)) in
    let whole : length ws ≡ length vs = ap length first ∙ (length-put_mid a (e - a) xs ys (omega (arith, le, less, up, same)) long ∙ same) in
    let second : take n (put_mid e (k - e) ws os ++ zs) ≡ put_mid e (k - e) ws os = part_written e k n ws os zs less (omega (arith, up, whole)) more (omega (arith, all, whole)) in
    let last : take k (put_mid e (k - e) ws os) ≡ take e ws ++ os = take-put_mid e (k - e) ws os k (omega (arith, less, more)) (omega (arith, less, up, whole)) in
    let front : take e ws ≡ take a vs ++ ys = ap (λ zs. take e zs) first ∙ (take-put_mid a (e - a) xs ys e (omega (arith, le, long)) (omega (arith, le, less, up, same)) ∙ ap (λ zs. take a zs ++ ys) was) in
    ap (λ zs. take k zs) second ∙ (last ∙ (ap (λ zs. zs ++ os) front ∙ append_assoc (take a vs) ys os))

-- ONE FRAME

abbrev pub frame_with : FrameHead → List Value → List Value → FrameState
frame_with h ls os = record { method = h.method; stage = h.stage; lock = h.lock; pc = h.pc; room = h.room; locals = ls; operands = os }

-- a frame with these locals and operands
frame_is : (h : FrameHead) (xs ls os : List Value) → take h.locals xs ≡ ls → reverse (drop h.locals xs) ≡ os → frame_in h xs ≡ frame_with h ls os
frame_is h xs ls os a b = ap (λ l. frame_with h l (reverse (drop h.locals xs))) a ∙ ap (λ o. frame_with h ls o) b

pushed_in : (h : FrameHead) (xs : List Value) (v : Value) → h.locals ≤ length xs → frame_in h (xs ++ v ∷ []) ≡ pushed v (frame_in h xs)
pushed_in h xs v le =
    frame_is h (xs ++ v ∷ []) (take h.locals xs) (v ∷ reverse (drop h.locals xs))
    (take-append-le h.locals xs (v ∷ []) le)
    (ap reverse (drop-append-le h.locals xs (v ∷ []) le) ∙ reverse_push (drop h.locals xs) v)

cleared_in : (h : FrameHead) (xs : List Value) → frame_in h (take h.locals xs) ≡ without_operands (frame_in h xs)
cleared_in h xs =
    frame_is h (take h.locals xs) (take h.locals xs) []
    (take-take h.locals h.locals xs (omega arith))
    (ap reverse (drop_all h.locals (take h.locals xs) (omega (arith, length-take h.locals xs))))

local_in : (h : FrameHead) (xs : List Value) (i : ℕ) (v : Value) → i < h.locals → frame_in h (set xs i v) ≡ with_local i v (frame_in h xs)
local_in h xs i v lt =
    frame_is h (set xs i v) (set (take h.locals xs) i v) (reverse (drop h.locals xs))
    (take_set_below h.locals xs i v lt)
    (ap reverse (drop-set-lt h.locals xs i v lt))

new_in : (h : FrameHead) (xs : List Value) → length xs ≡ h.locals → frame_in h xs ≡ frame_with h xs []
new_in h xs e =
    frame_is h xs xs [] (take_all h.locals xs (omega (arith, e))) (ap reverse (drop_all h.locals xs (omega (arith, e))))

-- ALL FRAMES

pub length-frames_in : (hs : List FrameHead) (vs : List Value) → length (frames_in hs vs) ≡ length hs
length-frames_in [] vs = refl
length-frames_in (h ∷ below) vs = ap (λ n. suc n) (length-frames_in below (take h.base vs))

-- more room is enough
pub frames_room : (m n : ℕ) → m ≤ n → (hs : List FrameHead) (vs : List Value) → AreFrames m hs vs → AreFrames n hs vs
frames_room m n le [] vs a = tt
frames_room m n le (h ∷ below) vs a = (record { base = a.0.base; frame = a.0.frame; room = omega (arith, a.0.room, le) }, frames_room m n le below (take h.base vs) a.1)

-- the topmost frame has these values, and those below it these
frames_are : (h : FrameHead) (below : List FrameHead) (ws own front : List Value) → drop h.base ws ≡ own → take h.base ws ≡ front → frames_in (h ∷ below) ws ≡ frame_in h own ∷ frames_in below front
frames_are h below ws own front d t = ap (λ xs. frame_in h xs ∷ frames_in below (take h.base ws)) d ∙ ap (λ xs. frame_in h own ∷ frames_in below xs) t

stand : (n : ℕ) (h : FrameHead) (below : List FrameHead) (ws own front : List Value) → drop h.base ws ≡ own → take h.base ws ≡ front → h.base ≤ length ws → IsFrame h own → h.base + (h.locals + h.room) ≤ n → AreFrames n below front → AreFrames n (h ∷ below) ws
stand n h below ws own front d t le f room a = (record { base = le; frame = subst (λ xs. IsFrame h xs) (sym d) f; room = room }, subst (λ xs. AreFrames n below xs) (sym t) a)

-- an operand is pushed
pub push_frames : (h : FrameHead) (below : List FrameHead) (vs : List Value) (v : Value) (n : ℕ) → AreFrames n (h ∷ below) vs → frames_in (h ∷ below) (vs ++ v ∷ []) ≡ pushed v (frame_in h (drop h.base vs)) ∷ frames_in below (take h.base vs)
push_frames h below vs v n a =
    frames_are h below (vs ++ v ∷ []) (drop h.base vs ++ v ∷ []) (take h.base vs) (drop-append-le h.base vs (v ∷ []) a.0.base) (take-append-le h.base vs (v ∷ []) a.0.base)
    ∙ ap (λ f. f ∷ frames_in below (take h.base vs)) (pushed_in h (drop h.base vs) v a.0.frame.locals)

pub push_stands : (h : FrameHead) (below : List FrameHead) (vs : List Value) (v : Value) (n : ℕ) → AreFrames n (h ∷ below) vs → length (frame_in h (drop h.base vs)).operands < h.room → AreFrames n (h ∷ below) (vs ++ v ∷ [])
push_stands h below vs v n a few =
    let own : List Value = drop h.base vs in
    let count : length (frame_in h own).operands ≡ length own - h.locals = length-reverse (drop h.locals own) ∙ length-drop h.locals own in
    let more : length (own ++ v ∷ []) ≡ length own + 1 = length-append own (v ∷ []) in
    let all : length (vs ++ v ∷ []) ≡ length vs + 1 = length-append vs (v ∷ []) in
    stand n h below (vs ++ v ∷ []) (own ++ v ∷ []) (take h.base vs) (drop-append-le h.base vs (v ∷ []) a.0.base) (take-append-le h.base vs (v ∷ []) a.0.base)
    (omega (arith, a.0.base, all))
    (record { locals = omega (arith, a.0.frame.locals, more); few = omega (arith, few, count, more, a.0.frame.locals); narrow = a.0.frame.narrow })
    a.0.room a.1

-- there is room for one operand more
pub push_fits : (h : FrameHead) (below : List FrameHead) (vs : List Value) (n : ℕ) → AreFrames n (h ∷ below) vs → length (frame_in h (drop h.base vs)).operands < h.room → length vs < n
push_fits h below vs n a few =
    let own : List Value = drop h.base vs in
    let count : length (frame_in h own).operands ≡ length own - h.locals = length-reverse (drop h.locals own) ∙ length-drop h.locals own in
    omega (arith, few, count, a.0.frame.locals, a.0.base, a.0.room, length-drop h.base vs)

-- the topmost operand is popped
popped_stack : (h : FrameHead) (below : List FrameHead) (front : List Value) (v : Value) (n : ℕ) → AreFrames n (h ∷ below) (front ++ v ∷ []) → h.base + h.locals ≤ length front → AreFrames n (h ∷ below) front × (frames_in (h ∷ below) front ≡ popped 1 (frame_in h (drop h.base (front ++ v ∷ []))) ∷ frames_in below (take h.base (front ++ v ∷ [])))
popped_stack h below front v n a le =
    let own : List Value = drop h.base front in
    let base : h.base ≤ length front = omega (arith, le) in
    let count : length own ≡ length front - h.base = length-drop h.base front in
    let locals : h.locals ≤ length own = omega (arith, le, count) in
    let d : drop h.base (front ++ v ∷ []) ≡ own ++ v ∷ [] = drop-append-le h.base front (v ∷ []) base in
    let t : take h.base (front ++ v ∷ []) ≡ take h.base front = take-append-le h.base front (v ∷ []) base in
    let more : length (own ++ v ∷ []) ≡ length own + 1 = length-append own (v ∷ []) in
    let was : IsFrame h (own ++ v ∷ []) = subst (λ xs. IsFrame h xs) d a.0.frame in (
      stand n h below front own (take h.base front) refl refl base (record { locals = locals; few = omega (arith, was.few, more); narrow = was.narrow }) a.0.room (subst (λ xs. AreFrames n below xs) t a.1),
      sym (ap (λ xs. popped 1 (frame_in h xs) ∷ frames_in below (take h.base (front ++ v ∷ []))) d
          ∙ (ap (λ xs. popped 1 (frame_in h (own ++ v ∷ [])) ∷ frames_in below xs) t
          ∙ ap (λ f. popped 1 f ∷ frames_in below (take h.base front)) (pushed_in h own v locals))),
    )

pub pop_frames : (h : FrameHead) (below : List FrameHead) (vs ws : List Value) (n : ℕ) → AreFrames n (h ∷ below) vs → 0 < length (frame_in h (drop h.base vs)).operands → ws ≡ take (length vs - 1) vs → AreFrames n (h ∷ below) ws × (frames_in (h ∷ below) ws ≡ popped 1 (frame_in h (drop h.base vs)) ∷ frames_in below (take h.base vs))
pop_frames h below vs ws n a some e =
    let own : List Value = drop h.base vs in
    let count : length (frame_in h own).operands ≡ length own - h.locals = length-reverse (drop h.locals own) ∙ length-drop h.locals own in
    let whole : length own ≡ length vs - h.base = length-drop h.base vs in
    let r = last_split vs (omega (arith, some, count, whole)) in
    let l : length r.0 ≡ length vs - 1 = length_front vs r.0 r.1 r.2 in
    let is : ws ≡ r.0 = e ∙ (ap (λ xs. take (length vs - 1) xs) r.2 ∙ take_at r.0 (r.1 ∷ []) (length vs - 1) l) in
    let p = popped_stack h below r.0 r.1 n (subst (λ xs. AreFrames n (h ∷ below) xs) r.2 a) (omega (arith, some, count, whole, l, a.0.frame.locals, a.0.base)) in (
      subst (λ xs. AreFrames n (h ∷ below) xs) (sym is) p.0,
      ap (λ xs. frames_in (h ∷ below) xs) is ∙ (p.1 ∙ sym (ap (λ xs. popped 1 (frame_in h (drop h.base xs)) ∷ frames_in below (take h.base xs)) r.2)),
    )

-- all operands are taken away
pub clear_frames : (h : FrameHead) (below : List FrameHead) (vs ws : List Value) (n : ℕ) → AreFrames n (h ∷ below) vs → ws ≡ take (h.base + h.locals) vs → AreFrames n (h ∷ below) ws × (frames_in (h ∷ below) ws ≡ without_operands (frame_in h (drop h.base vs)) ∷ frames_in below (take h.base vs))
clear_frames h below vs ws n a e =
    let own : List Value = drop h.base vs in
    let whole : length own ≡ length vs - h.base = length-drop h.base vs in
    let d : drop h.base ws ≡ take h.locals own = ap (λ xs. drop h.base xs) e ∙ drop-take h.base h.locals vs in
    let t : take h.base ws ≡ take h.base vs = ap (λ xs. take h.base xs) e ∙ take-take h.base (h.base + h.locals) vs (omega arith) in
    let left : length (take h.locals own) ≡ h.locals = length-take-le h.locals own a.0.frame.locals in
    let all : length ws ≡ h.base + h.locals = ap length e ∙ length-take-le (h.base + h.locals) vs (omega (arith, whole, a.0.frame.locals, a.0.base)) in (
      stand n h below ws (take h.locals own) (take h.base vs) d t (omega (arith, all)) (record { locals = omega (arith, left); few = omega (arith, left); narrow = a.0.frame.narrow }) a.0.room a.1,
      frames_are h below ws (take h.locals own) (take h.base vs) d t ∙ ap (λ f. f ∷ frames_in below (take h.base vs)) (cleared_in h own),
    )

-- a local is written
pub local_frames : (h : FrameHead) (below : List FrameHead) (vs : List Value) (i : ℕ) (v : Value) (n : ℕ) → AreFrames n (h ∷ below) vs → i < length (frame_in h (drop h.base vs)).locals → AreFrames n (h ∷ below) (set vs (h.base + i) v) × (frames_in (h ∷ below) (set vs (h.base + i) v) ≡ with_local i v (frame_in h (drop h.base vs)) ∷ frames_in below (take h.base vs))
local_frames h below vs i v n a lt =
    let own : List Value = drop h.base vs in
    let d : drop h.base (set vs (h.base + i) v) ≡ set own i v = drop-set-add h.base vs i v in
    let t : take h.base (set vs (h.base + i) v) ≡ take h.base vs = take-set-le h.base vs (h.base + i) v (omega arith) in
    let same : length (set own i v) ≡ length own = length-set own i v in
    let all : length (set vs (h.base + i) v) ≡ length vs = length-set vs (h.base + i) v in
    let below_locals : i < h.locals = omega (arith, lt, length-take h.locals own) in (
      stand n h below (set vs (h.base + i) v) (set own i v) (take h.base vs) d t (omega (arith, all, a.0.base)) (record { locals = omega (arith, same, a.0.frame.locals); few = omega (arith, same, a.0.frame.few); narrow = a.0.frame.narrow }) a.0.room a.1,
      frames_are h below (set vs (h.base + i) v) (set own i v) (take h.base vs) d t ∙ ap (λ f. f ∷ frames_in below (take h.base vs)) (local_in h own i v below_locals),
    )

pub length-locals_with : (count : ℕ) (args : List Value) → length args ≤ count → length (locals_with count args) ≡ count
length-locals_with count args le = omega (arith, length-append args (replicate (count - length args) Unset), length-replicate (count - length args) Unset, le)

-- a frame begins on top of these values
pub new_frames : (h : FrameHead) (below : List FrameHead) (vs args ws : List Value) (n : ℕ) → AreFrames n below vs → length args ≤ h.locals → h.base ≡ length vs → h.room < 2 ^ 16 → h.base + (h.locals + h.room) ≤ n → ws ≡ vs ++ locals_with h.locals args
    → AreFrames n (h ∷ below) ws × (frames_in (h ∷ below) ws ≡ frame_with h (locals_with h.locals args) [] ∷ frames_in below vs)
new_frames h below vs args ws n a le base narrow room e =
    let own : List Value = locals_with h.locals args in
    let count : length own ≡ h.locals = length-locals_with h.locals args le in
    let d : drop h.base ws ≡ own = ap (λ xs. drop h.base xs) e ∙ drop_at vs own h.base (sym base) in
    let t : take h.base ws ≡ vs = ap (λ xs. take h.base xs) e ∙ take_at vs own h.base (sym base) in
    let all : length ws ≡ length vs + length own = ap length e ∙ length-append vs own in (
      stand n h below ws own vs d t (omega (arith, all, base)) (record { locals = omega (arith, count); few = omega (arith, count); narrow = narrow }) room a,
      frames_are h below ws own vs d t ∙ ap (λ f. f ∷ frames_in below vs) (new_in h own count),
    )

-- the heads up to a place, seen from the end
heads_to : (hs : List FrameHead) (k : ℕ) (h : FrameHead) → k < length hs → h ≡ get_or hs k h → reverse (take (k + 1) hs) ≡ h ∷ reverse (take k hs)
heads_to hs k h lt g = ap reverse (take_more hs k h lt) ∙ (reverse_push (take k hs) (get_or hs k h) ∙ ap (λ y. y ∷ reverse (take k hs)) (sym g))

-- THE STACK

-- the topmost frame of a stack: its head, the heads below it from the top down, and what a contract sees of them
pub record IsTopHead (n : ℕ) (hs : List FrameHead) (vs : List Value) (x : List FrameState) (h : FrameHead) : Type 0 where
  pub below : List FrameHead
  pub heads : reverse hs ≡ h ∷ below
  pub written : (g : FrameHead) → reverse (set hs (length hs - 1) g) ≡ g ∷ below
  pub frames : AreFrames n (h ∷ below) vs
  pub first : first_frame x ≡ frame_in h (drop h.base vs)
  pub rest : rest_of x ≡ frames_in below (take h.base vs)

some_heads : (hs : List FrameHead) (vs : List Value) (x : List FrameState) → frames_in (reverse hs) vs ≡ x → 0 < length x → 0 < length hs
some_heads hs vs x v some = omega (arith, some, ap length v, length-frames_in (reverse hs) vs, length-reverse hs)

-- the head that was read there
pub top_head : (n : ℕ) (hs : List FrameHead) (vs : List Value) (x : List FrameState) (h : FrameHead) (i : ℕ) → frames_in (reverse hs) vs ≡ x → AreFrames n (reverse hs) vs → 0 < length x → i ≡ length hs - 1 → h ≡ get_or hs i h → IsTopHead n hs vs x h
top_head n hs vs x h i v a some e g =
    let r = from_end hs i h e (some_heads hs vs x v some) g in
    let w : frames_in (h ∷ r.0) vs ≡ x = sym (ap (λ gs. frames_in gs vs) r.1) ∙ v in
    record {
      below = r.0;
      heads = r.1;
      written = λ k. ap (λ j. reverse (set hs j k)) (sym e) ∙ r.2 k;
      frames = subst (λ gs. AreFrames n gs vs) r.1 a;
      first = sym (ap first_frame w);
      rest = sym (ap rest_of w);
    }

-- what is shown of the topmost frame, by the values from its base up to their end
pub top_shown : (n : ℕ) (hs : List FrameHead) (values : List Value) (top : ℕ) (x : List FrameState) (h : FrameHead) → top ≤ length values → IsTopHead n hs (take top values) x h → IsFrame h (take (top - h.base) (drop h.base values)) × (frame_in h (take (top - h.base) (drop h.base values)) ≡ first_frame x)
top_shown n hs values top x h le t =
    let base : h.base ≤ top = omega (arith, t.frames.0.base, length-take-le top values le) in
    let whole : h.base + (top - h.base) ≡ top = omega (arith, base) in
    let own : take (top - h.base) (drop h.base values) ≡ drop h.base (take top values) = sym (drop-take h.base (top - h.base) values) ∙ ap (λ j. drop h.base (take j values)) whole in
    (subst (λ zs. IsFrame h zs) (sym own) t.frames.0.frame, ap (λ zs. frame_in h zs) own ∙ sym t.first)

-- .. or was not
any_head : (n : ℕ) (hs : List FrameHead) (vs : List Value) (x : List FrameState) → frames_in (reverse hs) vs ≡ x → AreFrames n (reverse hs) vs → 0 < length x → (h : FrameHead) × IsTopHead n hs vs x h
any_head n hs vs x v a some =
    let r = last_split hs (some_heads hs vs x v some) in
    let g : r.1 ≡ get_or hs (length hs - 1) r.1 = sym (ap (λ ys. get_or ys (length hs - 1) r.1) r.2 ∙ get_or_at r.0 r.1 [] r.1 (length hs - 1) (length_front hs r.0 r.1 r.2)) in
    (r.1, top_head n hs vs x r.1 (length hs - 1) v a some refl g)

-- what is kept after a change, and what a contract sees of it
pub record Keeps (hs : List FrameHead) (values : List Value) (top : ℕ) (x : List FrameState) : Type 0 where
  pub stands : IsStacked hs values top
  pub view : frames_in (reverse hs) (take top values) ≡ x

-- the topmost frame has made a step
stepped : (step : FrameState → FrameState) (gs : List FrameHead) (g : FrameHead) (below : List FrameHead) (values : List Value) (top : ℕ) (ws front : List Value) (f : FrameState) (x : List FrameState) → reverse gs ≡ g ∷ below → top ≤ length values → take top values ≡ ws → AreFrames (length values) (g ∷ below) ws → frames_in (g ∷ below) ws ≡ step f ∷ frames_in below front → first_frame x ≡ f → rest_of x ≡ frames_in below front → Keeps gs values top (step (first_frame x) ∷ rest_of x)
stepped step gs g below values top ws front f x e le is a v first rest = record {
  stands = record {
    within = le;
    frames = subst (λ hs. AreFrames (length values) hs (take top values)) (sym e) (subst (λ ys. AreFrames (length values) (g ∷ below) ys) (sym is) a);
  };
  view = ap (λ hs. frames_in hs (take top values)) e ∙ (ap (λ ys. frames_in (g ∷ below) ys) is ∙ (v ∙ sym (ap (λ k. step k ∷ rest_of x) first ∙ ap (λ r. step f ∷ r) rest)));
}

has_room : (vs : List Value) (x : List FrameState) (h : FrameHead) → first_frame x ≡ frame_in h (drop h.base vs) → length (first_frame x).operands < (first_frame x).room → length (frame_in h (drop h.base vs)).operands < h.room
has_room vs x h e lt = subst (λ (f : FrameState). length f.operands < f.room) e lt

-- one operand more has room
pub room_to_push : (hs : List FrameHead) (values : List Value) (top : ℕ) (x : List FrameState) → frames_in (reverse hs) (take top values) ≡ x → IsStacked hs values top → 0 < length x → length (first_frame x).operands < (first_frame x).room → top < length values
room_to_push hs values top x v a some lt =
    let vs : List Value = take top values in
    let t = any_head (length values) hs vs x v a.frames some in
    omega (arith, push_fits t.0 t.1.below vs (length values) t.1.frames (has_room vs x t.0 t.1.first lt), length-take-le top values a.within)

pub keeps_pushed : (hs : List FrameHead) (values : List Value) (top : ℕ) (x : List FrameState) (o : Value) → frames_in (reverse hs) (take top values) ≡ x → IsStacked hs values top → 0 < length x → length (first_frame x).operands < (first_frame x).room → Keeps hs (set values top o) (top + 1) (pushed o (first_frame x) ∷ rest_of x)
keeps_pushed hs values top x o v a some lt =
    let vs : List Value = take top values in
    let t = any_head (length values) hs vs x v a.frames some in
    let h : FrameHead = t.0 in
    let fits : top < length values = room_to_push hs values top x v a some lt in
    let same : length (set values top o) ≡ length values = length-set values top o in
    let s : AreFrames (length values) (h ∷ t.1.below) (vs ++ o ∷ []) = push_stands h t.1.below vs o (length values) t.1.frames (has_room vs x h t.1.first lt) in
    stepped (pushed o) hs h t.1.below (set values top o) (top + 1) (vs ++ o ∷ []) (take h.base vs) (frame_in h (drop h.base vs)) x t.1.heads
    (omega (arith, fits, same)) (take_more_set values top o fits)
    (subst (λ m. AreFrames m (h ∷ t.1.below) (vs ++ o ∷ [])) (sym same) s)
    (push_frames h t.1.below vs o (length values) t.1.frames)
    t.1.first t.1.rest

-- the values up to a place, and fewer of them
fewer : (values : List Value) (top k : ℕ) → k ≤ top → take k values ≡ take k (take top values)
fewer values top k le = sym (take-take k top values le)

-- where the topmost frame begins and ends
top_within : (n : ℕ) (values : List Value) (top : ℕ) (h : FrameHead) (below : List FrameHead) → top ≤ length values → AreFrames n (h ∷ below) (take top values) → h.base + h.locals ≤ top
top_within n values top h below le a =
    omega (arith, a.0.base, a.0.frame.locals, length-drop h.base (take top values), length-take-le top values le)

-- a value counts where there is an operand
pub some_values : (hs : List FrameHead) (values : List Value) (top : ℕ) (x : List FrameState) → frames_in (reverse hs) (take top values) ≡ x → IsStacked hs values top → 0 < length x → 0 < length (first_frame x).operands → 0 < top
some_values hs values top x v a some lt =
    let vs : List Value = take top values in
    let t = any_head (length values) hs vs x v a.frames some in
    let own : List Value = drop t.0.base vs in
    let count : length (frame_in t.0 own).operands ≡ length own - t.0.locals = length-reverse (drop t.0.locals own) ∙ length-drop t.0.locals own in
    omega (arith, subst (λ (f : FrameState). 0 < length f.operands) t.1.first lt, count, length-drop t.0.base vs, length-take-le top values a.within)

pub keeps_popped : (hs : List FrameHead) (values : List Value) (top k : ℕ) (x : List FrameState) → frames_in (reverse hs) (take top values) ≡ x → IsStacked hs values top → 0 < length x → 0 < length (first_frame x).operands → k ≡ top - 1 → Keeps hs values k (popped 1 (first_frame x) ∷ rest_of x)
keeps_popped hs values top k x v a some lt last =
    let vs : List Value = take top values in
    let t = any_head (length values) hs vs x v a.frames some in
    let h : FrameHead = t.0 in
    let all : length vs ≡ top = length-take-le top values a.within in
    let less : k ≤ top = omega (arith, last) in
    let is : take k values ≡ take (length vs - 1) vs = fewer values top k less ∙ ap (λ j. take j vs) (omega (arith, last, all)) in
    let p = pop_frames h t.1.below vs (take k values) (length values) t.1.frames (subst (λ (f : FrameState). 0 < length f.operands) t.1.first lt) is in
    stepped (popped 1) hs h t.1.below values k (take k values) (take h.base vs) (frame_in h (drop h.base vs)) x t.1.heads
    (omega (arith, less, a.within)) refl p.0 p.1 t.1.first t.1.rest

pub keeps_cleared : (hs : List FrameHead) (values : List Value) (top : ℕ) (x : List FrameState) (h : FrameHead) (i : ℕ) → frames_in (reverse hs) (take top values) ≡ x → IsStacked hs values top → 0 < length x → i ≡ length hs - 1 → h ≡ get_or hs i h → Keeps hs values (h.base + h.locals) (without_operands (first_frame x) ∷ rest_of x)
keeps_cleared hs values top x h i v a some k g =
    let vs : List Value = take top values in
    let t = top_head (length values) hs vs x h i v a.frames some k g in
    let less : h.base + h.locals ≤ top = top_within (length values) values top h t.below a.within t.frames in
    let p = clear_frames h t.below vs (take (h.base + h.locals) values) (length values) t.frames (fewer values top (h.base + h.locals) less) in
    stepped without_operands hs h t.below values (h.base + h.locals) (take (h.base + h.locals) values) (take h.base vs) (frame_in h (drop h.base vs)) x t.heads
    (omega (arith, less, a.within)) refl p.0 p.1 t.first t.rest

pub keeps_local : (hs : List FrameHead) (values : List Value) (top : ℕ) (x : List FrameState) (h : FrameHead) (i j : ℕ) (o : Value) → frames_in (reverse hs) (take top values) ≡ x → IsStacked hs values top → 0 < length x → i ≡ length hs - 1 → h ≡ get_or hs i h → j < length (first_frame x).locals → Keeps hs (set values (h.base + j) o) top (with_local j o (first_frame x) ∷ rest_of x)
keeps_local hs values top x h i j o v a some k g lt =
    let vs : List Value = take top values in
    let t = top_head (length values) hs vs x h i v a.frames some k g in
    let own : j < length (frame_in h (drop h.base vs)).locals = subst (λ (f : FrameState). j < length f.locals) t.first lt in
    let p = local_frames h t.below vs j o (length values) t.frames own in
    let below_top : h.base + j < top = omega (arith, own, length-take h.locals (drop h.base vs), top_within (length values) values top h t.below a.within t.frames) in
    let same : length (set values (h.base + j) o) ≡ length values = length-set values (h.base + j) o in
    stepped (with_local j o) hs h t.below (set values (h.base + j) o) top (set vs (h.base + j) o) (take h.base vs) (frame_in h (drop h.base vs)) x t.heads
    (omega (arith, same, a.within)) (take_set_below top values (h.base + j) o below_top)
    (subst (λ m. AreFrames m (h ∷ t.below) (set vs (h.base + j) o)) (sym same) p.0) p.1 t.first t.rest

pub keeps_pc : (hs : List FrameHead) (values : List Value) (top : ℕ) (x : List FrameState) (h : FrameHead) (i pc : ℕ) → frames_in (reverse hs) (take top values) ≡ x → IsStacked hs values top → 0 < length x → i ≡ length hs - 1 → h ≡ get_or hs i h → Keeps (set hs i (record h { pc = pc })) values top (at_pc pc (first_frame x) ∷ rest_of x)
keeps_pc hs values top x h i pc v a some k g =
    let vs : List Value = take top values in
    let t = top_head (length values) hs vs x h i v a.frames some k g in
    let f : IsFrame h (drop h.base vs) = t.frames.0.frame in
    stepped (at_pc pc) (set hs i (record h { pc = pc })) (record h { pc = pc }) t.below values top vs (take h.base vs) (frame_in h (drop h.base vs)) x
    (ap (λ j. reverse (set hs j (record h { pc = pc }))) k ∙ t.written (record h { pc = pc }))
    a.within refl
    (record { base = t.frames.0.base; frame = record { locals = f.locals; few = f.few; narrow = f.narrow }; room = t.frames.0.room }, t.frames.1)
    refl t.first t.rest

pub keeps_dropped : (hs gs : List FrameHead) (values : List Value) (top : ℕ) (x : List FrameState) (h : FrameHead) (i : ℕ) → frames_in (reverse hs) (take top values) ≡ x → IsStacked hs values top → 0 < length x → i ≡ length hs - 1 → h ≡ get_or hs i h → gs ≡ take i hs → Keeps gs values h.base (rest_of x)
keeps_dropped hs gs values top x h i v a some k g e =
    let vs : List Value = take top values in
    let some_head : 0 < length hs = some_heads hs vs x v some in
    let whole : take (i + 1) hs ≡ hs = take_all (i + 1) hs (omega (arith, k, some_head)) in
    let r : reverse hs ≡ h ∷ reverse gs = ap reverse (sym whole) ∙ (heads_to hs i h (omega (arith, k, some_head)) g ∙ ap (λ ks. h ∷ reverse ks) (sym e)) in
    let b : AreFrames (length values) (h ∷ reverse gs) vs = subst (λ ks. AreFrames (length values) ks vs) r a.frames in
    let y : frames_in (h ∷ reverse gs) vs ≡ x = sym (ap (λ ks. frames_in ks vs) r) ∙ v in
    let less : h.base ≤ top = omega (arith, b.0.base, length-take-le top values a.within) in
    let w : take h.base values ≡ take h.base vs = fewer values top h.base less in
    record {
      stands = record {
        within = omega (arith, less, a.within);
        frames = subst (λ ys. AreFrames (length values) (reverse gs) ys) (sym w) b.1;
      };
      view = ap (λ ys. frames_in (reverse gs) ys) w ∙ ap rest_of y;
    }

-- the values that count, where there are more behind them
pub counted : (values grown : List Value) (top k : ℕ) → top ≤ length values → k ≤ top → take (length values) grown ≡ values → take k grown ≡ take k (take top values)
counted values grown top k le less kept =
    fewer grown (length values) k (omega (arith, le, less)) ∙ (ap (λ ys. take k ys) kept ∙ fewer values top k less)

-- more room was taken
pub keeps_room : (hs gs : List FrameHead) (values grown : List Value) (top : ℕ) → IsStacked hs values top → gs ≡ hs → length values ≤ length grown → take (length values) grown ≡ values → IsStacked gs grown top
keeps_room hs gs values grown top a e le kept =
    let w : take top grown ≡ take top values = counted values grown top top a.within (omega arith) kept ∙ take-take top top values (omega arith) in
    let f : AreFrames (length grown) (reverse hs) (take top grown) = subst (λ ys. AreFrames (length grown) (reverse hs) ys) (sym w) (frames_room (length values) (length grown) le (reverse hs) (take top values) a.frames) in
    record {
      within = omega (arith, le, a.within);
      frames = subst (λ ks. AreFrames (length grown) (reverse ks) (take top grown)) (sym e) f;
    }

-- a frame begins, after more room was taken and its locals were written
pub keeps_entered : (hs gs : List FrameHead) (values grown written args : List Value) (top k : ℕ) (x : List FrameState) (h : FrameHead) → frames_in (reverse hs) (take top values) ≡ x → IsStacked hs values top → gs ≡ hs ++ h ∷ [] → length args ≤ h.locals → h.base ≡ top → h.room < 2 ^ 16 → k ≡ h.base + h.locals → k + h.room ≤ length grown → length values ≤ length grown → take (length values) grown ≡ values → length written ≡ length grown → take k written ≡ take h.base grown ++ locals_with h.locals args
    → Keeps gs written k (frame_with h (locals_with h.locals args) [] ∷ x)
keeps_entered hs gs values grown written args top k x h v a e few base narrow split room le kept long is =
    let vs : List Value = take top values in
    let m : ℕ = length written in
    let all : length vs ≡ top = length-take-le top values a.within in
    let r : reverse gs ≡ h ∷ reverse hs = ap reverse e ∙ reverse_push hs h in
    let front : take h.base grown ≡ vs = ap (λ j. take j grown) base ∙ (counted values grown top top a.within (omega arith) kept ∙ take-take top top values (omega arith)) in
    let put : take k written ≡ vs ++ locals_with h.locals args = is ∙ ap (λ ys. ys ++ locals_with h.locals args) front in
    let more : length values ≤ m = omega (arith, le, long) in
    let p = new_frames h (reverse hs) vs args (take k written) m (frames_room (length values) m more (reverse hs) vs a.frames) few (base ∙ sym all) narrow (omega (arith, split, room, long)) put in
    record {
      stands = record {
        within = omega (arith, room, long);
        frames = subst (λ ks. AreFrames m ks (take k written)) (sym r) p.0;
      };
      view = ap (λ ks. frames_in ks (take k written)) r ∙ (p.1 ∙ ap (λ y. frame_with h (locals_with h.locals args) [] ∷ y) v);
    }

-- SO MANY OPERANDS BECOME THE LOCALS OF ANOTHER FRAME

-- the first so many elements from the end are the last ones
ends_same : {X : Type 0} (xs : List X) (count : ℕ) → count ≤ length xs → reverse (take count (reverse xs)) ≡ drop (length xs - count) xs
ends_same xs count le =
    let at : ℕ = length xs - count in
    let back : reverse xs ≡ reverse (drop at xs) ++ reverse (take at xs) = ap reverse (sym (take-append-drop at xs)) ∙ reverse-append (take at xs) (drop at xs) in
    let long : length (reverse (drop at xs)) ≡ count = omega (arith, length-reverse (drop at xs), length-drop at xs, le) in
    ap (λ ys. reverse (take count ys)) back
    ∙ (ap reverse (take_at (reverse (drop at xs)) (reverse (take at xs)) count long) ∙ reverse-reverse (drop at xs))

-- so many operands are popped
pub keeps_pops : (count : ℕ) (hs : List FrameHead) (values : List Value) (top k : ℕ) (x : List FrameState) → frames_in (reverse hs) (take top values) ≡ x → IsStacked hs values top → 0 < length x → count ≤ length (first_frame x).operands → k ≡ top - count → Keeps hs values k (popped count (first_frame x) ∷ rest_of x)
keeps_pops zero hs values top k [] v a some le e = absurd (omega (arith, some))
keeps_pops zero hs values top k (f ∷ below) v a some le e =
    subst (λ j. Keeps hs values j (f ∷ below)) (omega (arith, e)) (record { stands = a; view = v })
keeps_pops (suc count) hs values top k x v a some le e =
    let few : 0 < length (first_frame x).operands = omega (arith, le) in
    let p = keeps_popped hs values top (top - 1) x v a some few refl in
    let left : count ≤ length (drop 1 (first_frame x).operands) = omega (arith, le, length-drop 1 (first_frame x).operands) in
    let q = keeps_pops count hs values (top - 1) k (popped 1 (first_frame x) ∷ rest_of x) p.view p.stands (omega arith) left (omega (arith, e)) in
    let one : 1 + count ≡ suc count = omega arith in
    let same : drop count (drop 1 (first_frame x).operands) ≡ drop (suc count) (first_frame x).operands = drop-drop count 1 (first_frame x).operands ∙ ap (λ j. drop j (first_frame x).operands) one in
    subst (λ os. Keeps hs values k (record (first_frame x) { operands = os } ∷ rest_of x)) same q

-- .. and these are they
pub popped_values : (count : ℕ) (hs : List FrameHead) (values : List Value) (top k : ℕ) (x : List FrameState) → frames_in (reverse hs) (take top values) ≡ x → IsStacked hs values top → 0 < length x → count ≤ length (first_frame x).operands → k ≡ top - count → (count ≤ top) × (reverse (take count (first_frame x).operands) ≡ drop k (take top values))
popped_values count hs values top k x v a some le e =
    let vs : List Value = take top values in
    let t = any_head (length values) hs vs x v a.frames some in
    let h : FrameHead = t.0 in
    let own : List Value = drop h.base vs in
    let os : List Value = drop h.locals own in
    let all : length vs ≡ top = length-take-le top values a.within in
    let inside : h.base + h.locals ≤ top = top_within (length values) values top h t.1.below a.within t.1.frames in
    let long : length os ≡ top - h.base - h.locals = omega (arith, length-drop h.locals own, length-drop h.base vs, all) in
    let first : (first_frame x).operands ≡ reverse os = ap (λ (f : FrameState). f.operands) t.1.first in
    let few : count ≤ length os = omega (arith, le, ap length first, length-reverse os) in
    let place : h.base + (h.locals + (length os - count)) ≡ k = omega (arith, e, long, few, inside) in
    (omega (arith, few, long), ap (λ ys. reverse (take count ys)) first ∙ (ends_same os count few ∙ (drop-drop (length os - count) h.locals own ∙ (drop-drop (h.locals + (length os - count)) h.base vs ∙ ap (λ j. drop j vs) place))))

-- a frame begins over them, after more room was taken and its other locals were emptied
pub keeps_over : (count : ℕ) (hs gs : List FrameHead) (values grown written : List Value) (top base k : ℕ) (x : List FrameState) (h : FrameHead) → frames_in (reverse hs) (take top values) ≡ x → IsStacked hs values top → 0 < length x → count ≤ length (first_frame x).operands → base ≡ top - count → gs ≡ hs ++ h ∷ [] → count ≤ h.locals → h.base ≡ base → h.room < 2 ^ 16 → k ≡ base + h.locals → k + h.room ≤ length grown → length values ≤ length grown → take (length values) grown ≡ values → length written ≡ length grown → take k written ≡ take top grown ++ replicate (k - top) Unset
    → Keeps gs written k (frame_with h (locals_with h.locals (reverse (take count (first_frame x).operands))) [] ∷ popped count (first_frame x) ∷ rest_of x)
keeps_over count hs gs values grown written top base k x h v a some le e pushed few stands narrow split room more kept long is =
    let vs : List Value = take top values in
    let args : List Value = reverse (take count (first_frame x).operands) in
    let p = keeps_pops count hs values top base x v a some le e in
    let q = popped_values count hs values top base x v a some le e in
    let all : length vs ≡ top = length-take-le top values a.within in
    let whole : take top grown ≡ vs = counted values grown top top a.within (omega arith) kept ∙ take-take top top values (omega arith) in
    let front : take base grown ≡ take base vs = counted values grown top base a.within (omega (arith, e)) kept in
    let parts : vs ≡ take base grown ++ args = sym (take-append-drop base vs) ∙ (ap (λ ys. ys ++ drop base vs) (sym front) ∙ ap (λ ys. take base grown ++ ys) (sym q.1)) in
    let count_args : length args ≡ count = omega (arith, ap length q.1, length-drop base vs, all, e, q.0) in
    let rest : k - top ≡ h.locals - length args = omega (arith, split, e, q.0, count_args, few) in
    let put : take k written ≡ take h.base grown ++ locals_with h.locals args =
    is ∙ (ap (λ ys. ys ++ replicate (k - top) Unset) (whole ∙ parts)
    ∙ (append_assoc (take base grown) args (replicate (k - top) Unset)
    ∙ (ap (λ j. take base grown ++ (args ++ replicate j Unset)) rest ∙ ap (λ j. take j grown ++ locals_with h.locals args) (sym stands)))) in
    keeps_entered hs gs values grown written args base k (popped count (first_frame x) ∷ rest_of x) h p.view p.stands pushed (omega (arith, count_args, few)) stands narrow (omega (arith, split, stands)) room more kept long put

-- the topmost frame begins anew under another head
pub keeps_begun : (step : FrameState → FrameState) (hs : List FrameHead) (values grown written : List Value) (top k : ℕ) (x : List FrameState) (h g : FrameHead) (i : ℕ) → frames_in (reverse hs) (take top values) ≡ x → IsStacked hs values top → 0 < length x → i ≡ length hs - 1 → h ≡ get_or hs i h → g.base ≡ h.base → g.room < 2 ^ 16 → k ≡ g.base + g.locals → k + g.room ≤ length grown → length values ≤ length grown → take (length values) grown ≡ values → length written ≡ length grown → take k written ≡ take g.base grown ++ locals_with g.locals [] → frame_with g (locals_with g.locals []) [] ≡ step (frame_in h (drop h.base (take top values)))
    → Keeps (set hs i g) written k (step (first_frame x) ∷ rest_of x)
keeps_begun step hs values grown written top k x h g i v a some j read base narrow split room le kept long put is =
    let vs : List Value = take top values in
    let m : ℕ = length written in
    let t = top_head (length values) hs vs x h i v a.frames some j read in
    let front : List Value = take h.base vs in
    let less : h.base ≤ top = omega (arith, t.frames.0.base, length-take-le top values a.within) in
    let below : take g.base grown ≡ front = ap (λ z. take z grown) base ∙ counted values grown top h.base a.within less kept in
    let whole : take k written ≡ front ++ locals_with g.locals [] = put ∙ ap (λ ys. ys ++ locals_with g.locals []) below in
    let count : g.base ≡ length front = base ∙ sym (length-take-le h.base vs t.frames.0.base) in
    let more : length values ≤ m = omega (arith, le, long) in
    let p = new_frames g t.below front [] (take k written) m (frames_room (length values) m more t.below front t.frames.1) (omega arith) count narrow (omega (arith, split, room, long)) whole in
    stepped step (set hs i g) g t.below written k (take k written) front (frame_in h (drop h.base vs)) x (ap (λ z. reverse (set hs z g)) j ∙ t.written g)
    (omega (arith, room, long)) refl p.0 (p.1 ∙ ap (λ f. f ∷ frames_in t.below front) is) t.first t.rest

-- ROOTS

-- the roots of the frames from the top down to a place are listed, and these values are left of those below it
pub record IsListed (n : ℕ) (hs : List FrameHead) (vs : List Value) (start room : List ℕ) (left : ℕ) (ws : List Value) : Type 0 where
  pub within : left ≤ length hs
  pub frames : AreFrames n (reverse (take left hs)) ws
  pub roots : room ++ flat_map frame_roots (frames_in (reverse (take left hs)) ws) ≡ start ++ flat_map frame_roots (frames_in (reverse hs) vs)

pub listed_none : (n : ℕ) (hs : List FrameHead) (vs : List Value) (start : List ℕ) (left : ℕ) (ws : List Value) → left ≡ length hs → ws ≡ vs → AreFrames n (reverse hs) vs → IsListed n hs vs start start left ws
listed_none n hs vs start left ws e w a =
    let all : take left hs ≡ hs = take_all left hs (omega (arith, e)) in
    record {
      within = omega (arith, e);
      frames = subst (λ ys. AreFrames n (reverse (take left hs)) ys) (sym w) (subst (λ ks. AreFrames n (reverse ks) vs) (sym all) a);
      roots = ap (λ ys. start ++ flat_map frame_roots (frames_in (reverse (take left hs)) ys)) w ∙ ap (λ ks. start ++ flat_map frame_roots (frames_in (reverse ks) vs)) all;
    }

-- the head above a place, and those below it
head_above : (hs : List FrameHead) (left k : ℕ) (h : FrameHead) → left ≤ length hs → 0 < left → k ≡ left - 1 → h ≡ get_or hs k h → reverse (take left hs) ≡ h ∷ reverse (take k hs)
head_above hs left k h le some e g = ap (λ j. reverse (take j hs)) (omega (arith, e, some)) ∙ heads_to hs k h (omega (arith, le, e, some)) g

pub listed_top : (n : ℕ) (hs : List FrameHead) (vs : List Value) (start room : List ℕ) (left k : ℕ) (ws : List Value) (h : FrameHead) → IsListed n hs vs start room left ws → 0 < left → k ≡ left - 1 → h ≡ get_or hs k h → IsTopmost n h ws
listed_top n hs vs start room left k ws h is some e g = (subst (λ ks. AreFrames n ks ws) (head_above hs left k h is.within some e g) is.frames).0

pub listed_more : (n : ℕ) (hs : List FrameHead) (vs : List Value) (start room room' : List ℕ) (left k : ℕ) (ws own below : List Value) (h : FrameHead) → IsListed n hs vs start room left ws → 0 < left → k ≡ left - 1 → h ≡ get_or hs k h → own ≡ drop h.base ws → below ≡ take h.base ws → room' ≡ room ++ frame_roots (frame_in h own) → IsListed n hs vs start room' k below
listed_more n hs vs start room room' left k ws own below h is some e g o b more =
    let heads : reverse (take left hs) ≡ h ∷ reverse (take k hs) = head_above hs left k h is.within some e g in
    let rest : List ℕ = flat_map frame_roots (frames_in (reverse (take k hs)) (take h.base ws)) in
    let a : AreFrames n (h ∷ reverse (take k hs)) ws = subst (λ ks. AreFrames n ks ws) heads is.frames in
    let now : room' ++ rest ≡ room ++ (frame_roots (frame_in h (drop h.base ws)) ++ rest) = ap (λ ys. ys ++ rest) more ∙ (ap (λ ys. (room ++ frame_roots (frame_in h ys)) ++ rest) o ∙ append_assoc room (frame_roots (frame_in h (drop h.base ws))) rest) in
    let was : room ++ flat_map frame_roots (frames_in (reverse (take left hs)) ws) ≡ room ++ (frame_roots (frame_in h (drop h.base ws)) ++ rest) = ap (λ ks. room ++ flat_map frame_roots (frames_in ks ws)) heads in
    record {
      within = omega (arith, is.within, e);
      frames = subst (λ ys. AreFrames n (reverse (take k hs)) ys) (sym b) a.1;
      roots = ap (λ ys. room' ++ flat_map frame_roots (frames_in (reverse (take k hs)) ys)) b ∙ (now ∙ (sym was ∙ is.roots));
    }

pub listed_all : (n : ℕ) (hs : List FrameHead) (vs : List Value) (start room : List ℕ) (left : ℕ) (ws : List Value) (x : List FrameState) → IsListed n hs vs start room left ws → left ≡ 0 → frames_in (reverse hs) vs ≡ x → room ≡ start ++ flat_map frame_roots x
listed_all n hs vs start room left ws x is e v =
    sym (append-nil room) ∙ (sym (ap (λ j. room ++ flat_map frame_roots (frames_in (reverse (take j hs)) ws)) e) ∙ (is.roots ∙ ap (λ fs. start ++ flat_map frame_roots fs) v))
