-- Arguments, from left to right.
use Rattle.std.proofs.Common.{◌≡◌, ℕ, zero, suc, ◌+◌, ◌<◌, ◌≤◌, Bool, false, eqb, List, [], ◌∷◌, length, get_or, drop, Option, Some, None, refl, sym, ◌∙◌, ap, arith}
use Rattle.std.specs.Option.{option_map_or}
use Rattle.std.proofs.lemmas.Bool.Decides.{nat_tests}
use Rattle.std.proofs.lemmas.List.{at_drop_more, drop_all}
use Rattle.et_base.specs.declared.value.Value.{Value}
use Rattle.et_base.specs.declared.value.Value.TheVariants.{Unset, Int, Long, LongHigh, Null, Ref}
use Rattle.et_event.specs.PoolOperands.Operand.{Operand}
use Rattle.et_event.specs.PoolOperands.Operand.TheVariants as operand
use Rattle.et_event.specs.Calls.{begin_with, is_empty, are_of, are_passed}
use Rattle.et_builtins.specs.Arguments.{entries_in}

-- ONE ARGUMENT

begins_here : (kind : Option Operand) (g : List Value → Bool) (vs : List Value) → begin_with kind g vs ≡ option_map_or (λ n. g (drop n vs)) (entries_in kind (get_or vs 0 Unset) (get_or vs 1 Unset)) false
begins_here None g vs = refl
begins_here (Some operand.Int) g [] = refl
begins_here (Some operand.Int) g (Int n ∷ vs) = refl
begins_here (Some operand.Int) g (v ∷ vs) = refl
begins_here (Some operand.Long) g [] = refl
begins_here (Some operand.Long) g (Long n ∷ []) = refl
begins_here (Some operand.Long) g (Long n ∷ LongHigh ∷ vs) = refl
begins_here (Some operand.Long) g (Long n ∷ v ∷ vs) = refl
begins_here (Some operand.Long) g (v ∷ vs) = refl
begins_here (Some operand.Reference) g [] = refl
begins_here (Some operand.Reference) g (Null ∷ vs) = refl
begins_here (Some operand.Reference) g (Ref o ∷ vs) = refl
begins_here (Some operand.Reference) g (v ∷ vs) = refl

dropped_at : (vs : List Value) (k j : ℕ) → get_or (drop k vs) j Unset ≡ get_or vs (k + j) Unset
dropped_at vs zero j = let e : zero + j ≡ j = omega arith in ap (λ (i : ℕ). get_or vs i Unset) (sym e)
dropped_at [] (suc k) zero = refl
dropped_at [] (suc k) (suc j) = let e : suc k + suc j ≡ suc (k + suc j) = omega arith in sym (ap (λ (i : ℕ). get_or [] i Unset) e)
dropped_at (v ∷ vs) (suc k) j = let e : suc k + j ≡ suc (k + j) = omega arith in dropped_at vs k j ∙ sym (ap (λ (i : ℕ). get_or (v ∷ vs) i Unset) e)

drop_none : (k : ℕ) → drop {A = Value} k [] ≡ []
drop_none zero = refl
drop_none (suc k) = refl

dropped_twice : (vs : List Value) (k j : ℕ) → drop j (drop k vs) ≡ drop (k + j) vs
dropped_twice vs zero j = let e : zero + j ≡ j = omega arith in ap (λ (i : ℕ). drop i vs) (sym e)
dropped_twice [] (suc k) j = drop_none j ∙ sym (drop_none (suc k + j))
dropped_twice (v ∷ vs) (suc k) j = let e : suc k + j ≡ suc (k + j) = omega arith in dropped_twice vs k j ∙ sym (ap (λ (i : ℕ). drop i (v ∷ vs)) e)

begins_from : (kind : Option Operand) (g : List Value → Bool) (vs : List Value) (k : ℕ)
    → begin_with kind g (drop k vs) ≡ option_map_or (λ n. g (drop (k + n) vs)) (entries_in kind (get_or vs k Unset) (get_or vs (k + 1) Unset)) false
begins_from kind g vs k =
    let zero_more : k + 0 ≡ k = omega arith in
    begins_here kind g (drop k vs)
    ∙ (ap (λ (v : Value). option_map_or (λ n. g (drop n (drop k vs))) (entries_in kind v (get_or (drop k vs) 1 Unset)) false) (dropped_at vs k 0 ∙ ap (λ (i : ℕ). get_or vs i Unset) zero_more)
    ∙ (ap (λ (v : Value). option_map_or (λ n. g (drop n (drop k vs))) (entries_in kind (get_or vs k Unset) v) false) (dropped_at vs k 1)
    ∙ mapped (entries_in kind (get_or vs k Unset) (get_or vs (k + 1) Unset))))
  where
    mapped : (o : Option ℕ) → option_map_or (λ n. g (drop n (drop k vs))) o false ≡ option_map_or (λ n. g (drop (k + n) vs)) o false
    mapped None = refl
    mapped (Some n) = ap g (dropped_twice vs k n)

-- THE KINDS

-- the arguments from `at` on are values of the kinds from the i-th on exactly where those from `from` on are values of all kinds
pub record Passing (kinds : List (Option Operand)) (vs : List Value) (from i at : ℕ) : Type 0 where
  pub same : are_of (drop i kinds) (drop at vs) ≡ are_of kinds (drop from vs)
  pub within : at ≤ length vs

ended : (vs : List Value) (at : ℕ) → at ≤ length vs → is_empty (drop at vs) ≡ eqb at (length vs)
ended [] zero le = refl
ended [] (suc at) le = absurd (omega arith)
ended (v ∷ vs) zero le = grind (arith, nat_tests)
ended (v ∷ vs) (suc at) le = ended vs at (omega arith) ∙ grind (arith, nat_tests)

pub kinds_end : (kinds : List (Option Operand)) (vs : List Value) (from i at : ℕ) → Passing kinds vs from i at → length kinds ≤ i → are_of kinds (drop from vs) ≡ eqb at (length vs)
kinds_end kinds vs from i at b all =
    sym b.same ∙ (ap (λ (ks : List (Option Operand)). are_of ks (drop at vs)) (drop_all i kinds all) ∙ ended vs at b.within)

one_kind : (kinds : List (Option Operand)) (vs : List Value) (from i at : ℕ) → Passing kinds vs from i at → i < length kinds
    → are_of kinds (drop from vs) ≡ option_map_or (λ n. are_of (drop (i + 1) kinds) (drop (at + n) vs)) (entries_in (get_or kinds i None) (get_or vs at Unset) (get_or vs (at + 1) Unset)) false
one_kind kinds vs from i at b lt =
    sym b.same ∙ (at_drop_more (λ (ks : List (Option Operand)). are_of ks (drop at vs)) kinds i None lt ∙ begins_from (get_or kinds i None) (are_of (drop (i + 1) kinds)) vs at)

pub kinds_refused : (kinds : List (Option Operand)) (vs : List Value) (from i at : ℕ) → Passing kinds vs from i at → i < length kinds
    → None ≡ entries_in (get_or kinds i None) (get_or vs at Unset) (get_or vs (at + 1) Unset) → false ≡ are_of kinds (drop from vs)
kinds_refused kinds vs from i at b lt none =
    sym (one_kind kinds vs from i at b lt ∙ ap (λ (o : Option ℕ). option_map_or (λ n. are_of (drop (i + 1) kinds) (drop (at + n) vs)) o false) (sym none))

nothing_in : (kind : Option Operand) (n : ℕ) → entries_in kind Unset Unset ≡ Some n → ⊥
nothing_in None n e = cc
nothing_in (Some operand.Int) n e = cc
nothing_in (Some operand.Long) n e = cc
nothing_in (Some operand.Reference) n e = cc

two_in : (kind : Option Operand) (v w : Value) (n : ℕ) → entries_in kind v w ≡ Some n → n ≤ 2
two_in None v w n e = cc
two_in (Some operand.Int) (Int k) w n e = let h : 1 ≡ n = cc in omega arith
two_in (Some operand.Int) v w n e = cc
two_in (Some operand.Long) (Long k) LongHigh n e = let h : 2 ≡ n = cc in omega arith
two_in (Some operand.Long) (Long k) w n e = cc
two_in (Some operand.Long) v w n e = cc
two_in (Some operand.Reference) Null w n e = let h : 1 ≡ n = cc in omega arith
two_in (Some operand.Reference) (Ref o) w n e = let h : 1 ≡ n = cc in omega arith
two_in (Some operand.Reference) v w n e = cc

one_in : (kind : Option Operand) (v : Value) (n : ℕ) → entries_in kind v Unset ≡ Some n → 0 + n ≤ length (v ∷ [])
one_in None v n e = cc
one_in (Some operand.Int) (Int k) n e = let h : 1 ≡ n = cc in omega arith
one_in (Some operand.Int) v n e = cc
one_in (Some operand.Long) (Long k) n e = cc
one_in (Some operand.Long) v n e = cc
one_in (Some operand.Reference) Null n e = let h : 1 ≡ n = cc in omega arith
one_in (Some operand.Reference) (Ref o) n e = let h : 1 ≡ n = cc in omega arith
one_in (Some operand.Reference) v n e = cc

entries_deep : (kind : Option Operand) (vs : List Value) (at n : ℕ) → at ≤ length vs → entries_in kind (get_or vs at Unset) (get_or vs (at + 1) Unset) ≡ Some n → at + n ≤ length vs
entries_deep kind [] zero n le e = absurd (nothing_in kind n e)
entries_deep kind [] (suc at) n le e = absurd (omega arith)
entries_deep kind (v ∷ []) zero n le e = one_in kind v n e
entries_deep kind (v ∷ w ∷ vs) zero n le e = let h : n ≤ 2 = two_in kind v w n e in omega arith
entries_deep kind (v ∷ vs) (suc at) n le e =
    let k : suc at + 1 ≡ suc (at + 1) = omega arith in
    let h : at + n ≤ length vs = entries_deep kind vs at n (omega arith) (ap (λ (i : ℕ). entries_in kind (get_or vs at Unset) (get_or (v ∷ vs) i Unset)) (sym k) ∙ e) in omega arith

pub kinds_more : (kinds : List (Option Operand)) (vs : List Value) (from i at n : ℕ) → Passing kinds vs from i at → i < length kinds
    → Some n ≡ entries_in (get_or kinds i None) (get_or vs at Unset) (get_or vs (at + 1) Unset) → Passing kinds vs from (i + 1) (at + n)
kinds_more kinds vs from i at n b lt one = record {
  same = sym (one_kind kinds vs from i at b lt ∙ ap (λ (o : Option ℕ). option_map_or (λ n. are_of (drop (i + 1) kinds) (drop (at + n) vs)) o false) (sym one));
  within = entries_deep (get_or kinds i None) vs at n b.within (sym one);
}

-- THE RECEIVER

receiver_entries : (v w : Value) (n : ℕ) → entries_in (Some operand.Reference) v w ≡ Some n → n ≡ 1
receiver_entries Null w n e = let h : 1 ≡ n = cc in sym h
receiver_entries (Ref o) w n e = let h : 1 ≡ n = cc in sym h
receiver_entries v w n e = cc

pub receiver_deep : (vs : List Value) (n : ℕ) → entries_in (Some operand.Reference) (get_or vs 0 Unset) (get_or vs (0 + 1) Unset) ≡ Some n → n ≤ length vs
receiver_deep vs n e = let h : 0 + n ≤ length vs = entries_deep (Some operand.Reference) vs 0 n (omega arith) e in omega arith

pub received : (kinds : List (Option Operand)) (vs : List Value) → are_passed false kinds vs ≡ option_map_or (λ n. are_of kinds (drop n vs)) (entries_in (Some operand.Reference) (get_or vs 0 Unset) (get_or vs (0 + 1) Unset)) false
received kinds vs = begins_here (Some operand.Reference) (are_of kinds) vs
