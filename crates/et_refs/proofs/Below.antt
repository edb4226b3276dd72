-- What stands so far below the top.
use Rattle.std.proofs.Common.{◌≡◌, ℕ, zero, suc, ◌+◌, ◌<◌, ◌≤◌, ℤ, List, [], ◌∷◌, length, drop, get_or, Option, Some, None, refl, sym, ◌∙◌, ap, subst, arith, Contains, inl, inr}
use Rattle.et_base.specs.declared.value.Value.{Value}
use Rattle.et_base.specs.declared.value.Value.TheVariants.{Unset, Int, Long, LongHigh, Null, Ref}
use Rattle.et_base.proofs.Lists.{Contains-here, Contains-none, Contains-cons}
use Rattle.et_heap.specs.Objects.{referent_value}
use Rattle.et_heap.specs.Refs.{refs_of_value}
use Rattle.et_state.specs.Threads.{FrameState, operand_of}
use Rattle.et_state.specs.ThreadRoots.{frame_roots}
use Rattle.et_state.specs.State.{MachineState, kept_of}
use Rattle.et_state.specs.Words.{HasFrame, top}
use Rattle.et_state.specs.Sound.{IsSound}
use Rattle.et_state.proofs.Places.{top_root}
use Rattle.et_event.specs.Checks.{Reference, with_int, with_long, with_reference}
use Rattle.et_event.specs.Tops.{int_of, long_of, entry_reference}
use Rattle.et_event.proofs.Groups.{operand_is_in}
use Rattle.et_refs.specs.Changes.{IsNamedReference}

-- WHAT STANDS SO FAR DOWN, as it is read off an entry
module _ {X A : Type 0} (of : Value → Option X) (refused : A) (go : X → List Value → A) (read : List Value → A) (there : (v : Value) (ops : List Value) (x : X) → of v ≡ Some x → read (v ∷ ops) ≡ go x ops)
    (none : (v : Value) (ops : List Value) → of v ≡ None → read (v ∷ ops) ≡ refused) (nothing : read [] ≡ refused) (unset : of Unset ≡ None) where
  at_depth : (ops : List Value) (k : ℕ) (x : X) → of (get_or ops k Unset) ≡ Some x → read (drop k ops) ≡ go x (drop (suc k) ops)
  at_depth [] zero x e = cc
  at_depth [] (suc k) x e = cc
  at_depth (v ∷ ops) zero x e = there v ops x e
  at_depth (v ∷ ops) (suc k) x e = at_depth ops k x e

  found_below : (ops : List Value) (k : ℕ) (x : X) → Some x ≡ of (get_or ops k Unset) → read (drop k ops) ≡ go x (drop (k + 1) ops)
  found_below ops k x e =
      let one : suc k ≡ k + 1 = omega arith in
      at_depth ops k x (sym e) ∙ ap (λ (j : ℕ). go x (drop j ops)) one

  none_below : (ops : List Value) (k : ℕ) → None ≡ of (get_or ops k Unset) → read (drop k ops) ≡ refused
  none_below [] zero e = nothing
  none_below [] (suc k) e = nothing
  none_below (v ∷ ops) zero e = none v ops (sym e)
  none_below (v ∷ ops) (suc k) e = none_below ops k e

deep_enough : {X : Type 0} (of : Value → Option X) → of Unset ≡ None → (ops : List Value) (k : ℕ) (x : X) → Some x ≡ of (get_or ops k Unset) → k < length ops
deep_enough of unset [] zero x e = cc
deep_enough of unset [] (suc k) x e = cc
deep_enough of unset (v ∷ ops) zero x e = omega arith
deep_enough of unset (v ∷ ops) (suc k) x e = let h : k < length ops = deep_enough of unset ops k x e in omega arith

-- INTS

int_first : {A : Type 0} (v : Value) (ops : List Value) (n : ℤ) (refused : A) (go : ℤ → List Value → A) → int_of v ≡ Some n → with_int refused (v ∷ ops) go ≡ go n ops
int_first Unset ops n refused go e = cc
int_first (Int m) ops n refused go e = let same : m ≡ n = cc in ap (λ (k : ℤ). go k ops) same
int_first (Long m) ops n refused go e = cc
int_first LongHigh ops n refused go e = cc
int_first Null ops n refused go e = cc
int_first (Ref o) ops n refused go e = cc

no_int_first : {A : Type 0} (v : Value) (ops : List Value) (refused : A) (go : ℤ → List Value → A) → int_of v ≡ None → with_int refused (v ∷ ops) go ≡ refused
no_int_first Unset ops refused go e = refl
no_int_first (Int m) ops refused go e = cc
no_int_first (Long m) ops refused go e = refl
no_int_first LongHigh ops refused go e = refl
no_int_first Null ops refused go e = refl
no_int_first (Ref o) ops refused go e = refl

pub int_there : {A : Type 0} (ops : List Value) (k : ℕ) (n : ℤ) (refused : A) (go : ℤ → List Value → A) → Some n ≡ int_of (get_or ops k Unset) → with_int refused (drop k ops) go ≡ go n (drop (k + 1) ops)
int_there ops k n refused go = found_below int_of refused go (λ xs. with_int refused xs go) (λ v xs x. int_first v xs x refused go) (λ v xs. no_int_first v xs refused go) refl refl ops k n

pub no_int : {A : Type 0} (ops : List Value) (k : ℕ) (refused : A) (go : ℤ → List Value → A) → None ≡ int_of (get_or ops k Unset) → with_int refused (drop k ops) go ≡ refused
no_int ops k refused go = none_below int_of refused go (λ xs. with_int refused xs go) (λ v xs x. int_first v xs x refused go) (λ v xs. no_int_first v xs refused go) refl refl ops k

pub int_deep : (ops : List Value) (k : ℕ) (n : ℤ) → Some n ≡ int_of (get_or ops k Unset) → k < length ops
int_deep = deep_enough int_of refl

-- LONGS

long_first : {A : Type 0} (v w : Value) (ops : List Value) (n : ℤ) (refused : A) (go : ℤ → List Value → A) → long_of v w ≡ Some n → with_long refused (v ∷ w ∷ ops) go ≡ go n ops
long_first Unset w ops n refused go e = cc
long_first (Int m) w ops n refused go e = cc
long_first (Long m) w ops n refused go e = cc
long_first LongHigh Unset ops n refused go e = cc
long_first LongHigh (Int m) ops n refused go e = cc
long_first LongHigh (Long m) ops n refused go e = let same : m ≡ n = cc in ap (λ (k : ℤ). go k ops) same
long_first LongHigh LongHigh ops n refused go e = cc
long_first LongHigh Null ops n refused go e = cc
long_first LongHigh (Ref o) ops n refused go e = cc
long_first Null w ops n refused go e = cc
long_first (Ref o) w ops n refused go e = cc

no_long_first : {A : Type 0} (v w : Value) (ops : List Value) (refused : A) (go : ℤ → List Value → A) → long_of v w ≡ None → with_long refused (v ∷ w ∷ ops) go ≡ refused
no_long_first Unset w ops refused go e = refl
no_long_first (Int m) w ops refused go e = refl
no_long_first (Long m) w ops refused go e = refl
no_long_first LongHigh Unset ops refused go e = refl
no_long_first LongHigh (Int m) ops refused go e = refl
no_long_first LongHigh (Long m) ops refused go e = cc
no_long_first LongHigh LongHigh ops refused go e = refl
no_long_first LongHigh Null ops refused go e = refl
no_long_first LongHigh (Ref o) ops refused go e = refl
no_long_first Null w ops refused go e = refl
no_long_first (Ref o) w ops refused go e = refl

long_single : (v : Value) → long_of v Unset ≡ None
long_single Unset = refl
long_single (Int m) = refl
long_single (Long m) = refl
long_single LongHigh = refl
long_single Null = refl
long_single (Ref o) = refl

none_single : {A : Type 0} (v : Value) (refused : A) (go : ℤ → List Value → A) → with_long refused (v ∷ []) go ≡ refused
none_single Unset refused go = refl
none_single (Int m) refused go = refl
none_single (Long m) refused go = refl
none_single LongHigh refused go = refl
none_single Null refused go = refl
none_single (Ref o) refused go = refl

pub long_there : {A : Type 0} (ops : List Value) (n : ℤ) (refused : A) (go : ℤ → List Value → A) → Some n ≡ long_of (get_or ops 0 Unset) (get_or ops 1 Unset) → with_long refused ops go ≡ go n (drop 2 ops)
long_there [] n refused go e = cc
long_there (v ∷ []) n refused go e = let f : long_of v Unset ≡ None = long_single v in cc
long_there (v ∷ w ∷ ops) n refused go e = long_first v w ops n refused go (sym e)

pub no_long : {A : Type 0} (ops : List Value) (refused : A) (go : ℤ → List Value → A) → None ≡ long_of (get_or ops 0 Unset) (get_or ops 1 Unset) → with_long refused ops go ≡ refused
no_long [] refused go e = refl
no_long (v ∷ []) refused go e = none_single v refused go
no_long (v ∷ w ∷ ops) refused go e = no_long_first v w ops refused go (sym e)

pub long_deep : (ops : List Value) (n : ℤ) → Some n ≡ long_of (get_or ops 0 Unset) (get_or ops 1 Unset) → 2 ≤ length ops
long_deep [] n e = cc
long_deep (v ∷ []) n e = let f : long_of v Unset ≡ None = long_single v in cc
long_deep (v ∷ w ∷ ops) n e = omega arith

-- REFERENCES

reference_first : {A : Type 0} (v : Value) (ops : List Value) (r : Reference) (refused : A) (go : Reference → List Value → A) → entry_reference v ≡ Some r → with_reference refused (v ∷ ops) go ≡ go r ops
reference_first Unset ops r refused go e = cc
reference_first (Int m) ops r refused go e = cc
reference_first (Long m) ops r refused go e = cc
reference_first LongHigh ops r refused go e = cc
reference_first Null ops r refused go e = let same : None ≡ r = cc in ap (λ (k : Reference). go k ops) same
reference_first (Ref o) ops r refused go e = let same : Some o ≡ r = cc in ap (λ (k : Reference). go k ops) same

no_reference_first : {A : Type 0} (v : Value) (ops : List Value) (refused : A) (go : Reference → List Value → A) → entry_reference v ≡ None → with_reference refused (v ∷ ops) go ≡ refused
no_reference_first Unset ops refused go e = refl
no_reference_first (Int m) ops refused go e = refl
no_reference_first (Long m) ops refused go e = refl
no_reference_first LongHigh ops refused go e = refl
no_reference_first Null ops refused go e = cc
no_reference_first (Ref o) ops refused go e = cc

pub reference_there : {A : Type 0} (ops : List Value) (k : ℕ) (r : Reference) (refused : A) (go : Reference → List Value → A) → Some r ≡ entry_reference (get_or ops k Unset) → with_reference refused (drop k ops) go ≡ go r (drop (k + 1) ops)
reference_there ops k r refused go =
    found_below entry_reference refused go (λ xs. with_reference refused xs go) (λ v xs x. reference_first v xs x refused go) (λ v xs. no_reference_first v xs refused go) refl refl ops k r

pub no_reference : {A : Type 0} (ops : List Value) (k : ℕ) (refused : A) (go : Reference → List Value → A) → None ≡ entry_reference (get_or ops k Unset) → with_reference refused (drop k ops) go ≡ refused
no_reference ops k refused go =
    none_below entry_reference refused go (λ xs. with_reference refused xs go) (λ v xs x. reference_first v xs x refused go) (λ v xs. no_reference_first v xs refused go) refl refl ops k

pub reference_deep : (ops : List Value) (k : ℕ) (r : Reference) → Some r ≡ entry_reference (get_or ops k Unset) → k < length ops
reference_deep = deep_enough entry_reference refl

-- an object that a reference names stands in the value
named_by : (v : Value) (r : Reference) (o : ℕ) → Some r ≡ entry_reference v → r ≡ Some o → Contains (refs_of_value v) o
named_by Unset r o e f = cc
named_by (Int m) r o e f = cc
named_by (Long m) r o e f = cc
named_by LongHigh r o e f = cc
named_by Null r o e f = cc
named_by (Ref x) r o e f = let same : x ≡ o = cc in subst (λ (k : ℕ). Contains (x ∷ []) k) same (Contains-here x [])

pub reference_in : (f : FrameState) (k : ℕ) (r : Reference) → Some r ≡ entry_reference (operand_of f k) → (o : ℕ) → r ≡ Some o → Contains (frame_roots f) o
reference_in f k r e o named = operand_is_in f k (reference_deep f.operands k r e) o (named_by (operand_of f k) r o e named)

pub reference_named : (m : MachineState) (t k : ℕ) (r : Reference) → HasFrame m.guest t → IsSound (kept_of m) → Some r ≡ entry_reference (operand_of (top m.guest t) k) → IsNamedReference m (top m.guest t) r
reference_named m t k r has sound e =
    let f = top m.guest t in
    λ o named.
    let inside : Contains (frame_roots f) o = reference_in f k r e o named in
    (sound.roots o (top_root m.guest t o has inside), inside)

-- .. and as a value it refers to that object alone
pub referent_in : (f : FrameState) (r : Reference) → ((o : ℕ) → r ≡ Some o → Contains (frame_roots f) o) → (o : ℕ) → Contains (refs_of_value (referent_value r)) o → Contains (frame_roots f) o
referent_in f None there o c = absurd (Contains-none o c)
referent_in f (Some x) there o c = there o (only x o c)
  where
    only : (x o : ℕ) → Contains (x ∷ []) o → Some x ≡ Some o
    only x o c = elim (Contains-cons x [] o c) [ inl same ↦ ap (λ (k : ℕ). Some k) same | inr d ↦ absurd (Contains-none o d) ]

pub named_in : (m : MachineState) (f : FrameState) (r : Reference) → IsNamedReference m f r → (o : ℕ) → Contains (refs_of_value (referent_value r)) o → Contains (frame_roots f) o
named_in m f r named o c = referent_in f r (λ u is. (named u is).1) o c

pub int_in : (f : FrameState) (n : ℤ) (o : ℕ) → Contains (refs_of_value (Int n)) o → Contains (frame_roots f) o
int_in f n o c = absurd (Contains-none o c)

pub long_in : (f : FrameState) (n : ℤ) (o : ℕ) → Contains (refs_of_value (Long n)) o → Contains (frame_roots f) o
long_in f n o c = absurd (Contains-none o c)
