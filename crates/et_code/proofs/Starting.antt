-- Instruction starts: the list of them has enough room, and its members are the places of IsStart.
use Rattle.std.proofs.Common.{◌≡◌, ℕ, zero, suc, ◌+◌, ◌-◌, ◌<◌, ◌≤◌, Bool, true, false, ◌||◌, cond, eqb, ltb, List, [], ◌∷◌, length, get_or, set, replicate, Result, Ok, Err, IsTrue, ◌↔◌, refl, sym, ap, subst, ◌∙◌, arith, rules, inl, inr}
use Rattle.std.specs.List.{list_any}
use Rattle.std.proofs.Math.Dec.{eqb-zero-suc, eqb-suc-zero, eqb-suc-suc}
use Rattle.std.proofs.lemmas.Bool.{ltb-false, cases_lt, cases_eq, eq-eqb, ne_eqb, lt-ltb, or_right}
use mathlib.Core.Bool.{or_assoc, or-false}
use Rattle.et_code.specs.declared.instr.CodeFault.{CodeFault}
use Rattle.et_code.specs.declared.instr.Instr.{Instr}
use Rattle.et_code.specs.Decoding.{instruction_at}
use Rattle.et_code.specs.Starts.{IsStart, Begins, Follows, bytes_behind, starts_from, starts, is_start}
use Rattle.et_code.specs.Rules.{flag}
use Rattle.et_code.proofs.Decoded.{decoded_fits}

behind_same : (code : List ℕ) (p q : ℕ → List ℕ) (pc : ℕ) (r : Result (Instr × ℕ) CodeFault) → instruction_at code pc ≡ r → ((next : ℕ) → pc < next → p next ≡ q next) → bytes_behind p r ≡ bytes_behind q r
behind_same code p q pc (Ok x) e h = h x.1 (decoded_fits code pc x.0 x.1 e).advances
behind_same code p q pc (Err f) e h = refl

true_cond : {A : Type 0} (b : Bool) (x y : A) → b ≡ true → cond b x y ≡ x
true_cond b x y e = rw e refl

false_cond : {A : Type 0} (b : Bool) (x y : A) → b ≡ false → cond b x y ≡ y
false_cond b x y e = rw e refl

le_false : (a b : ℕ) → b ≤ a → ltb a b ≡ false
le_false a b le = search (arith, ltb-false)

-- behind the code there is none
past : (code : List ℕ) (f pc : ℕ) → length code ≤ pc → starts_from code f pc ≡ []
unfolding starts_from
past code zero pc le = refl
past code (suc f) pc le = false_cond _ _ _ (le_false pc (length code) le)

here : (code : List ℕ) (f pc : ℕ) → pc < length code → starts_from code (suc f) pc ≡ pc ∷ bytes_behind (starts_from code f) (instruction_at code pc)
unfolding starts_from
here code f pc lt = true_cond _ _ _ (lt-ltb pc (length code) lt)

-- with enough room, how much there is doesn't matter
enough : (code : List ℕ) (f g pc : ℕ) → length code - pc ≤ f → length code - pc ≤ g → starts_from code f pc ≡ starts_from code g pc
enough code zero g pc a b = past code zero pc (omega arith) ∙ sym (past code g pc (omega arith))
enough code (suc f) zero pc a b = past code (suc f) pc (omega arith) ∙ sym (past code zero pc (omega arith))
enough code (suc f) (suc g) pc a b =
    elim (cases_lt pc (length code)) [
      | inl lt ↦ here code f pc lt ∙ (ap (λ xs. pc ∷ xs) (behind_same code (starts_from code f) (starts_from code g) pc (instruction_at code pc) refl (λ next after. enough code f g next (omega arith) (omega arith))) ∙ sym (here code g pc lt))
      | inr le ↦ past code (suc f) pc le ∙ sym (past code (suc g) pc le)
    ]

-- the starts from a place on
abbrev pub rest : List ℕ → ℕ → List ℕ
rest code pc = starts_from code (length code - pc) pc

pub rest_all : (code : List ℕ) → rest code 0 ≡ starts code
rest_all code = enough code (length code - 0) (length code) 0 (omega arith) (omega arith)

pub rest_none : (code : List ℕ) (pc : ℕ) → length code ≤ pc → rest code pc ≡ []
rest_none code pc le = past code (length code - pc) pc le

rest_more : (code : List ℕ) (pc : ℕ) → pc < length code → rest code pc ≡ pc ∷ bytes_behind (rest code) (instruction_at code pc)
rest_more code pc lt =
    let k : length code - pc ≡ suc (length code - (pc + 1)) = omega arith in
    let a : starts_from code (length code - pc) pc ≡ starts_from code (suc (length code - (pc + 1))) pc = ap (λ n. starts_from code n pc) k in
    a ∙ (here code (length code - (pc + 1)) pc lt ∙ ap (λ xs. pc ∷ xs) (behind_same code (starts_from code (length code - (pc + 1))) (rest code) pc (instruction_at code pc) refl (λ next after. enough code (length code - (pc + 1)) (length code - next) next (omega arith) (omega arith))))

pub rest_next : (code : List ℕ) (pc : ℕ) (i : Instr) (next : ℕ) → pc < length code → instruction_at code pc ≡ Ok (i, next) → rest code pc ≡ pc ∷ rest code next
rest_next code pc i next lt e = rest_more code pc lt ∙ ap (λ r. pc ∷ bytes_behind (rest code) r) e

pub rest_last : (code : List ℕ) (pc : ℕ) (f : CodeFault) → pc < length code → instruction_at code pc ≡ Err f → rest code pc ≡ pc ∷ []
rest_last code pc f lt e = rest_more code pc lt ∙ ap (λ r. pc ∷ bytes_behind (rest code) r) e

-- FLAGS OF THE STARTS

abbrev pub has : List ℕ → ℕ → Bool
has xs place = list_any (λ s. eqb s place) xs

-- a flag is set, or the place is a start from pc on
abbrev pub Flagged : List ℕ → List Bool → ℕ → Type 0
Flagged code flags pc = (place : ℕ) → (flag flags place || has (rest code pc) place) ≡ is_start code place

flag-replicate : (n place : ℕ) → flag (replicate n false) place ≡ false
flag-replicate zero place = refl
flag-replicate (suc n) zero = refl
flag-replicate (suc n) (suc place) = flag-replicate n place

flag-set : (flags : List Bool) (pc place : ℕ) → pc < length flags → flag (set flags pc true) place ≡ (flag flags place || eqb pc place)
flag-set [] pc place lt = absurd (omega arith)
flag-set (x ∷ xs) zero zero lt = sym (or_right x true refl)
flag-set (x ∷ xs) zero (suc place) lt = sym (ap (λ b. get_or xs place false || b) (eqb-zero-suc place) ∙ or-false (get_or xs place false))
flag-set (x ∷ xs) (suc pc) zero lt = sym (ap (λ b. x || b) (eqb-suc-zero pc) ∙ or-false x)
flag-set (x ∷ xs) (suc pc) (suc place) lt = flag-set xs pc place (omega arith) ∙ ap (λ b. get_or xs place false || b) (sym (eqb-suc-suc pc place))

pub flags_begin : (code : List ℕ) → Flagged code (replicate (length code) false) 0
flags_begin code place = ap (λ b. b || has (rest code 0) place) (flag-replicate (length code) place) ∙ ap (λ xs. has xs place) (rest_all code)

pub flags_more : (code : List ℕ) (flags : List Bool) (pc : ℕ) (i : Instr) (next : ℕ) → pc < length code → length flags ≡ length code → instruction_at code pc ≡ Ok (i, next) → Flagged code flags pc → Flagged code (set flags pc true) next
flags_more code flags pc i next lt same e all place =
    ap (λ b. b || has (rest code next) place) (flag-set flags pc place (omega arith))
    ∙ (or_assoc (flag flags place) (eqb pc place) (has (rest code next) place) ∙ (ap (λ xs. flag flags place || has xs place) (sym (rest_next code pc i next lt e)) ∙ all place))

pub flags_last : (code : List ℕ) (flags : List Bool) (pc : ℕ) (f : CodeFault) → pc < length code → length flags ≡ length code → instruction_at code pc ≡ Err f → Flagged code flags pc → (place : ℕ) → flag (set flags pc true) place ≡ is_start code place
flags_last code flags pc f lt same e all place =
    flag-set flags pc place (omega arith)
    ∙ (ap (λ b. flag flags place || b) (sym (or-false (eqb pc place))) ∙ (ap (λ xs. flag flags place || has xs place) (sym (rest_last code pc f lt e)) ∙ all place))

pub flags_end : (code : List ℕ) (flags : List Bool) (pc : ℕ) → length code ≤ pc → Flagged code flags pc → (place : ℕ) → flag flags place ≡ is_start code place
flags_end code flags pc le all place = sym (or-false (flag flags place)) ∙ (ap (λ xs. flag flags place || has xs place) (sym (rest_none code pc le)) ∙ all place)

-- THE LIST HAS EXACTLY THE STARTS

abbrev Members : List ℕ → (ℕ → Bool) → Type 0
Members code p = (place : ℕ) → p place ≡ true → IsStart code place

behind_members : (code : List ℕ) (f pc : ℕ) (r : Result (Instr × ℕ) CodeFault) → IsStart code pc → instruction_at code pc ≡ r → ((next : ℕ) → (next < length code → IsStart code next) → Members code (has (starts_from code f next))) → Members code (has (bytes_behind (starts_from code f) r))
behind_members code f pc (Ok x) s e h place t = h x.1 (λ lt. Follows pc x.0 x.1 s e lt) place t
behind_members code f pc (Err g) s e h place t = cc

one_or : (code : List ℕ) (pc place : ℕ) (b : Bool) → IsStart code pc → (b ≡ true → IsStart code place) → (eqb pc place || b) ≡ true → IsStart code place
one_or code pc place b s h e =
    elim (cases_eq pc place) [
      | inl same ↦ subst (λ p. IsStart code p) same s
      | inr other ↦ h (ap (λ a. a || b) (sym (ne_eqb pc place other)) ∙ e)
    ]

members : (code : List ℕ) (f pc : ℕ) → (pc < length code → IsStart code pc) → Members code (has (starts_from code f pc))
unfolding starts_from
members code zero pc s place e = cc
members code (suc f) pc s place e =
    elim (cases_lt pc (length code)) [
      | inl lt ↦ one_or code pc place (has (bytes_behind (starts_from code f) (instruction_at code pc)) place) (s lt) (λ t. behind_members code f pc (instruction_at code pc) (s lt) refl (λ next s' p t'. members code f next s' p t') place t) (ap (λ xs. has xs place) (sym (here code f pc lt)) ∙ e)
      | inr le ↦ let none : has (starts_from code (suc f) pc) place ≡ false = ap (λ xs. has xs place) (past code (suc f) pc le) in cc
    ]

-- what is a start behind a start is one
inward : (code : List ℕ) (pc : ℕ) → IsStart code pc → (place : ℕ) → has (rest code pc) place ≡ true → is_start code place ≡ true
inward code _ (Begins some) place e = ap (λ xs. has xs place) (sym (rest_all code)) ∙ e
inward code _ (Follows pc i next s e lt) place t =
    let before : pc < length code = omega (arith, (decoded_fits code pc i next e).advances) in
    inward code pc s place (ap (λ xs. has xs place) (rest_next code pc i next before e) ∙ or_right (eqb pc place) (has (rest code next) place) t)

pub in_code : (code : List ℕ) (pc : ℕ) → IsStart code pc → pc < length code
in_code code _ (Begins some) = some
in_code code _ (Follows pc i next s e lt) = lt

own : (code : List ℕ) (pc : ℕ) → pc < length code → has (rest code pc) pc ≡ true
own code pc lt = ap (λ xs. has xs pc) (rest_more code pc lt) ∙ ap (λ b. b || has (bytes_behind (rest code) (instruction_at code pc)) pc) (eq-eqb pc pc refl)

pub starts_are_all : (code : List ℕ) (pc : ℕ) → IsTrue (is_start code pc) ↔ IsStart code pc
starts_are_all code pc = (λ t. members code (length code) 0 (λ some. Begins some) pc (search (rules, t)), λ s. search (rules, inward code pc s pc (own code pc (in_code code pc s))))
