-- What instructions are, by their rows, and what they name.
use Rattle.std.proofs.Common.{◌≡◌, ℕ, ◌<◌, ◌≤◌, ◌^◌, ℤ, Bool, true, false, cond, not, ◌||◌, ◌==◌, List, [], ◌∷◌, length, Option, None, Some, refl, sym, ◌∙◌, ap, subst, inl, inr, arith}
use mathlib.Core.Logic.{⊎_elim}
use Rattle.std.specs.Prelude.{pos, negsuc, nat_lt, option_map, option_and_then}
use Rattle.std.specs.List.{list_all}
use Rattle.std.proofs.lemmas.Bool.{and_parts, or_cases, both_ways, cases_lt, eqb-true, ltb-false, not-true}
use Rattle.et_pool.specs.Entries.{Item}
use Rattle.et_pool.specs.Looks.{utf8_at, class_name_at, named_by, name_and_type_at, member_at, pair_of_slot, is_member_tag}
use Rattle.et_pool.specs.declared.tags.TheConstants.{CLASS}
use Rattle.et_class.specs.Codes.{index_of, member_name, names_member}
use Rattle.et_event.specs.declared.rows.CallKind.{CallKind}
use Rattle.et_event.specs.declared.rows.CallRow.TheVariants.{Invoke, Return}
use Rattle.et_event.specs.declared.rows.HeapRow.TheVariants.{GetStatic, PutStatic, GetField, PutField, LoadElement, StoreElement, New, NewArray, NewReferenceArray, NewMultiArray, ArrayLength, CheckCast, InstanceOf}
use Rattle.et_event.specs.declared.rows.Row.{Row}
use Rattle.et_event.specs.declared.rows.Row.TheVariants.{Frame, PoolConstant, Divide, Heap, Call, Throw, Monitor}
use Rattle.et_event.specs.Sites.{Site, Member, site_member, natural_of}
use Rattle.et_event.specs.Table.{rows, row_among, row_of}
use Rattle.et_history.proofs.programs.Classes.{past}

-- ROWS: the opcodes of the rows that pass a test

abbrev passes : (Row → Bool) → (ℕ → Bool) → ℕ × Row → Bool
passes test good r = not (test r.1) || good r.0

pub good_if : (a b : Bool) → (not a || b) ≡ true → a ≡ true → b ≡ true
good_if a b h e = ⊎_elim (λ n. absurd (both_ways a (not-true a n) e)) (λ y. y) (or_cases (not a) b h)

among : (test : Row → Bool) (good : ℕ → Bool) (rs : List (ℕ × Row)) → list_all (passes test good) rs ≡ true → (opcode : ℕ) (row : Row) → row_among rs opcode ≡ Some row → test row ≡ true → good opcode ≡ true
among test good [] h opcode row e t = absurd (nothing e)
  where
    nothing : None ≡ Some row → ⊥
    nothing q = cc
among test good (r ∷ rs) h opcode row e t =
    let parts = and_parts (passes test good r) (list_all (passes test good) rs) h in
    by (r.0 == opcode) refl parts.0 (λ f. among test good rs parts.1 opcode row f t) e
  where
    same : Some r.1 ≡ Some row → r.1 ≡ row
    same q = cc

    by : (b : Bool) → (r.0 == opcode) ≡ b → passes test good r ≡ true → (row_among rs opcode ≡ Some row → good opcode ≡ true) → cond b (Some r.1) (row_among rs opcode) ≡ Some row → good opcode ≡ true
    by true y here rest q =
        subst (λ (n : ℕ). good n ≡ true) (eqb-true r.0 opcode y) (good_if (test r.1) (good r.0) here (subst (λ (x : Row). test x ≡ true) (sym (same q)) t))
    by false n here rest q = rest q

abbrev calls : Row → Bool
calls (Frame x) = false
calls PoolConstant = false
calls (Divide a b) = false
calls (Heap x) = false
calls (Call (Invoke kind)) = true
calls (Call (Return x)) = false
calls Throw = false
calls (Monitor x) = false

-- which of the instructions that make arrays a row is of
abbrev makes : ℕ → Row → Bool
makes n (Frame x) = false
makes n PoolConstant = false
makes n (Divide a b) = false
makes n (Heap GetStatic) = false
makes n (Heap PutStatic) = false
makes n (Heap GetField) = false
makes n (Heap PutField) = false
makes n (Heap (LoadElement x)) = false
makes n (Heap (StoreElement x)) = false
makes n (Heap New) = false
makes n (Heap NewArray) = n == 0
makes n (Heap NewReferenceArray) = n == 1
makes n (Heap NewMultiArray) = n == 2
makes n (Heap ArrayLength) = false
makes n (Heap CheckCast) = false
makes n (Heap InstanceOf) = false
makes n (Call x) = false
makes n Throw = false
makes n (Monitor x) = false

abbrev is_opcode : ℕ → ℕ → Bool
is_opcode n opcode = opcode == n

all_calls : list_all (passes calls names_member) rows ≡ true
all_calls = refl

all_base : list_all (passes (makes 0) (is_opcode 0xbc)) rows ≡ true
all_base = refl

all_single : list_all (passes (makes 1) (is_opcode 0xbd)) rows ≡ true
all_single = refl

all_multi : list_all (passes (makes 2) (is_opcode 0xc5)) rows ≡ true
all_multi = refl

pub call_opcode : (opcode : ℕ) (kind : CallKind) → row_of opcode ≡ Some (Call (Invoke kind)) → names_member opcode ≡ true
unfolding row_of
call_opcode opcode kind e = among calls names_member rows all_calls opcode (Call (Invoke kind)) e refl

pub base_opcode : (opcode : ℕ) → row_of opcode ≡ Some (Heap NewArray) → opcode ≡ 0xbc
unfolding row_of
base_opcode opcode e = eqb-true opcode 0xbc (among (makes 0) (is_opcode 0xbc) rows all_base opcode (Heap NewArray) e refl)

pub single_opcode : (opcode : ℕ) → row_of opcode ≡ Some (Heap NewReferenceArray) → opcode ≡ 0xbd
unfolding row_of
single_opcode opcode e = eqb-true opcode 0xbd (among (makes 1) (is_opcode 0xbd) rows all_single opcode (Heap NewReferenceArray) e refl)

pub multi_opcode : (opcode : ℕ) → row_of opcode ≡ Some (Heap NewMultiArray) → opcode ≡ 0xc5
unfolding row_of
multi_opcode opcode e = eqb-true opcode 0xc5 (among (makes 2) (is_opcode 0xc5) rows all_multi opcode (Heap NewMultiArray) e refl)

-- INDICES of a pool that isn't longer than an index can tell

index_is : (n : ℤ) (slots : List (Option Item)) → length slots < 2 ^ 16 → natural_of n < length slots → index_of n ≡ natural_of n
index_is (pos n) slots few lt = by (nat_lt n (2 ^ 16)) refl
  where
    by : (b : Bool) → nat_lt n (2 ^ 16) ≡ b → cond b n 0 ≡ n
    by true e = refl
    by false e = let out : 2 ^ 16 ≤ n = ltb-false n (2 ^ 16) e in absurd (omega arith)
index_is (negsuc n) slots few lt = refl

no_name : (slots : List (Option Item)) (name : List ℕ) → named_by slots CLASS None ≡ Some name → ⊥
no_name slots name e = cc

no_pair : (x : ℕ × ℕ) → pair_of_slot is_member_tag None ≡ Some x → ⊥
no_pair x e = cc

pub class_index : (slots : List (Option Item)) (n : ℤ) (name : List ℕ) → length slots < 2 ^ 16 → class_name_at slots (natural_of n) ≡ Some name → index_of n ≡ natural_of n
class_index slots n name few e =
    elim (cases_lt (natural_of n) (length slots)) [
      | inl lt ↦ index_is n slots few lt
      | inr le ↦ absurd (no_name slots name (sym (ap (λ (s : Option Item). named_by slots CLASS s) (past slots (natural_of n) None le)) ∙ e))
    ]

pub member_index : (slots : List (Option Item)) (n : ℤ) (x : ℕ × ℕ) → length slots < 2 ^ 16 → member_at slots (natural_of n) ≡ Some x → index_of n ≡ natural_of n
member_index slots n x few e =
    elim (cases_lt (natural_of n) (length slots)) [
      | inl lt ↦ index_is n slots few lt
      | inr le ↦ absurd (no_pair x (sym (ap (λ (s : Option Item). pair_of_slot is_member_tag s) (past slots (natural_of n) None le)) ∙ e))
    ]

-- THE NAME of a member

record HasThen {X Y : Type 0} (f : X → Option Y) (o : Option X) (y : Y) : Type 0 where
  value : X
  is : o ≡ Some value
  then : f value ≡ Some y

some_then : {X Y : Type 0} (f : X → Option Y) (o : Option X) (y : Y) → option_and_then f o ≡ Some y → HasThen f o y
some_then f None y e = absurd (nothing e)
  where
    nothing : None ≡ Some y → ⊥
    nothing q = cc
some_then f (Some x) y e = record { value = x; is = refl; then = e }

pub record NamesMember (slots : List (Option Item)) (n : ℤ) (name : List ℕ) : Type 0 where
  pub pair : ℕ × ℕ
  pub is : member_at slots (natural_of n) ≡ Some pair
  pub named : member_name slots (natural_of n) ≡ Some name

mapped_name : (owner name : List ℕ) (o : Option (List ℕ)) (m : Member) → option_map (λ descriptor. record { owner = owner; name = name; descriptor = descriptor }) o ≡ Some m → name ≡ m.name
mapped_name owner name None m e = absurd (nothing e)
  where
    nothing : None ≡ Some m → ⊥
    nothing q = cc
mapped_name owner name (Some d) m e = ap (λ (x : Member). x.name) (same (record { owner = owner; name = name; descriptor = d }) e)
  where
    same : (it : Member) → Some it ≡ Some m → it ≡ m
    same it q = cc

pub member_named : (at : Site) (m : Member) → site_member at ≡ Some m → NamesMember at.pool at.instr.first m.name
member_named at m e =
    let i : ℕ = natural_of at.instr.first in
    let pair = some_then _ (member_at at.pool i) m e in
    let owner = some_then _ (class_name_at at.pool pair.value.0) m pair.then in
    let both = some_then _ (name_and_type_at at.pool pair.value.1) m owner.then in
    let name = some_then _ (utf8_at at.pool both.value.0) m both.then in
    record {
      pair = pair.value;
      is = pair.is;
      named =
          ap (λ (o : Option (ℕ × ℕ)). option_and_then (λ x. option_and_then (λ y. utf8_at at.pool y.0) (name_and_type_at at.pool x.1)) o) pair.is
          ∙ (ap (λ (o : Option (ℕ × ℕ)). option_and_then (λ y. utf8_at at.pool y.0) o) both.is
          ∙ (name.is ∙ ap Some (mapped_name owner.value name.value (utf8_at at.pool both.value.1) m name.then)));
    }
