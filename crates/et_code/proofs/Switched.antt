-- A switch that was decoded has its rows in the code.
use Rattle.std.proofs.Common.{◌≡◌, ℕ, suc, ◌+◌, ◌-◌, ◌<◌, ◌≤◌, true, false, cond, eqb, List, [], ◌∷◌, find, Option, Some, None, refl, sym, ap, ◌∙◌, arith, ◌⊎◌, inl, inr}
use Rattle.std.specs.Prelude.{ℤ}
use Rattle.std.specs.Option.{option_map_or}
use Rattle.std.proofs.lemmas.Bool.{eq-eqb, ne_eqb}
use Rattle.et_code.specs.declared.instr.Instr.{Instr}
use Rattle.et_code.specs.Decoding.{bits_at, code_word_at, Fits}
use Rattle.et_code.specs.Switches.{IsSwitch, rows_from, switch_pairs_from}
use Rattle.et_code.proofs.Decoded.{decoded_fits}

pub switch_fits : (code : List ℕ) (i : Instr) → (s : IsSwitch code i) → Fits code s.pc i s.next
switch_fits code i s = decoded_fits code s.pc i s.next s.decoded

by_kind : (n : ℕ) → (n ≡ 0xaa → ⊥) → (n ≡ 0xaa) ⊎ (n ≡ 0xab) → n ≡ 0xab
by_kind n h (inl e) = absurd (h e)
by_kind n h (inr e) = e

pub is_lookup : (code : List ℕ) (i : Instr) → IsSwitch code i → (i.opcode ≡ 0xaa → ⊥) → i.opcode ≡ 0xab
is_lookup code i s h = by_kind i.opcode h s.kind

-- how many are left: one more than behind the next, and none at the end
one_left : (count i : ℕ) → i < count → count - i ≡ suc (count - (i + 1))
one_left count i lt = omega arith

none_left : (count i : ℕ) → count ≤ i → count - i ≡ 0
none_left count i le = omega arith

-- one pair more, and none
pub pairs_more : (code : List ℕ) (count i at : ℕ) → i < count → switch_pairs_from code (count - i) at ≡ (bits_at code at, code_word_at code (at + 4)) ∷ switch_pairs_from code (count - (i + 1)) (at + 8)
unfolding switch_pairs_from
pairs_more code count i at lt = rw (one_left count i lt) refl

pub pairs_none : (code : List ℕ) (count i at : ℕ) → count ≤ i → switch_pairs_from code (count - i) at ≡ []
unfolding switch_pairs_from
pairs_none code count i at le = rw (none_left count i le) refl

-- one row more, and none
pub rows_more : (code : List ℕ) (count i at : ℕ) → i < count → rows_from code (count - i) at ≡ code_word_at code at ∷ rows_from code (count - (i + 1)) (at + 4)
unfolding rows_from
rows_more code count i at lt = rw (one_left count i lt) refl

pub rows_none : (code : List ℕ) (count i at : ℕ) → count ≤ i → rows_from code (count - i) at ≡ []
unfolding rows_from
rows_none code count i at le = rw (none_left count i le) refl

-- the offset beside the first key that is this one, among the pairs behind the first i
abbrev beside : List ℕ → ℕ → ℕ → ℕ → Option (ℕ × ℤ)
beside code key n at = find (λ p. eqb p.0 key) (switch_pairs_from code n at)

beside_more : (code : List ℕ) (key count i at : ℕ) → i < count → beside code key (count - i) at ≡ cond (eqb (bits_at code at) key) (Some (bits_at code at, code_word_at code (at + 4))) (beside code key (count - (i + 1)) (at + 8))
beside_more code key count i at lt = ap (find (λ p. eqb p.0 key)) (pairs_more code count i at lt)

pub beside_this : (code : List ℕ) (key count i at start : ℕ) → i < count → beside code key (count - i) at ≡ beside code key count start → bits_at code at ≡ key → (d : ℤ) → code_word_at code (at + 4) ≡ option_map_or (λ p. p.1) (beside code key count start) d
beside_this code key count i at start lt same is_key d =
    let here = beside_more code key count i at lt in
    let yes : eqb (bits_at code at) key ≡ true = eq-eqb _ _ is_key in
    let found : beside code key count start ≡ Some (bits_at code at, code_word_at code (at + 4)) = sym same ∙ (here ∙ ap (λ b. cond b (Some (bits_at code at, code_word_at code (at + 4))) (beside code key (count - (i + 1)) (at + 8))) yes) in
    rw found refl

pub beside_next : (code : List ℕ) (key count i at start next : ℕ) → i < count → beside code key (count - i) at ≡ beside code key count start → (bits_at code at ≡ key → ⊥) → next ≡ at + 8 → beside code key (count - (i + 1)) next ≡ beside code key count start
beside_next code key count i at start next lt same other e =
    let here = beside_more code key count i at lt in
    let no : eqb (bits_at code at) key ≡ false = ne_eqb _ _ other in
    rw e (sym (sym same ∙ (here ∙ ap (λ b. cond b (Some (bits_at code at, code_word_at code (at + 4))) (beside code key (count - (i + 1)) (at + 8))) no)))

pub beside_none : (code : List ℕ) (key count i at start : ℕ) → count ≤ i → beside code key (count - i) at ≡ beside code key count start → (d : ℤ) → d ≡ option_map_or (λ p. p.1) (beside code key count start) d
beside_none code key count i at start le same d =
    let found : beside code key count start ≡ None = sym same ∙ ap (find (λ p. eqb p.0 key)) (pairs_none code count i at le) in
    rw found refl
