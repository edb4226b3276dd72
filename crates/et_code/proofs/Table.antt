-- The table of forms has for each opcode the form of its run.
use Rattle.std.proofs.Common.{◌≡◌, ℕ, zero, suc, ◌+◌, ◌<◌, Bool, true, ◌&&◌, eqb, List, [], ◌∷◌, length, get_or, refl, sym, ap, ◌∙◌, arith}
use Rattle.std.proofs.lemmas.Bool.{eqb-true, and_parts}
use Rattle.et_code.specs.declared.form.Form.{Form}
use Rattle.et_code.specs.declared.form.Form.TheVariants.{Plain, U1, S1, U2, S2, S4, Increment, LongIncrement, Interface, Dimensions, Wide, Table, Lookup, Refused, Unknown}
use Rattle.et_code.specs.declared.form.TheConstants.{FORMS}
use Rattle.et_code.specs.Forms.{run_of, form_runs, form_of}

-- a number for each form, and the form of a number
abbrev number : Form → ℕ
number Plain = 0
number U1 = 1
number S1 = 2
number U2 = 3
number S2 = 4
number S4 = 5
number Increment = 6
number LongIncrement = 7
number Interface = 8
number Dimensions = 9
number Wide = 10
number Table = 11
number Lookup = 12
number Refused = 13
number Unknown = 14

nth : List Form → ℕ → Form
nth fs n = get_or fs n Unknown

abbrev all_forms : List Form
all_forms = Plain ∷ U1 ∷ S1 ∷ U2 ∷ S2 ∷ S4 ∷ Increment ∷ LongIncrement ∷ Interface ∷ Dimensions ∷ Wide ∷ Table ∷ Lookup ∷ Refused ∷ Unknown ∷ []

nth-number : (f : Form) → nth all_forms (number f) ≡ f
unfolding nth
nth-number Plain = refl
nth-number U1 = refl
nth-number S1 = refl
nth-number U2 = refl
nth-number S2 = refl
nth-number S4 = refl
nth-number Increment = refl
nth-number LongIncrement = refl
nth-number Interface = refl
nth-number Dimensions = refl
nth-number Wide = refl
nth-number Table = refl
nth-number Lookup = refl
nth-number Refused = refl
nth-number Unknown = refl

same_form : (f g : Form) → eqb (number f) (number g) ≡ true → f ≡ g
same_form f g e = sym (nth-number f) ∙ (ap (nth all_forms) (eqb-true (number f) (number g) e) ∙ nth-number g)

-- these are the forms of the opcodes from k on
agrees : List Form → ℕ → Bool
agrees [] k = true
agrees (f ∷ fs) k = eqb (number f) (number (run_of form_runs k)) && agrees fs (suc k)

agrees_at : (fs : List Form) (k n m : ℕ) → agrees fs k ≡ true → n < length fs → m ≡ n + k → get_or fs n Unknown ≡ run_of form_runs m
unfolding agrees
agrees_at [] k n m e lt s = absurd (omega arith)
agrees_at (f ∷ fs) k zero m e lt s = let s' : m ≡ k = omega arith in rw s' (same_form f (run_of form_runs k) (and_parts _ _ e).0)
agrees_at (f ∷ fs) k (suc n) m e lt s = agrees_at fs (suc k) n m (and_parts _ _ e).1 (omega arith) (omega arith)

table_agrees : agrees FORMS 0 ≡ true
unfolding agrees
table_agrees = refl

table_length : length FORMS ≡ 256
table_length = refl

pub form_at : (opcode : ℕ) → opcode < 256 → get_or FORMS opcode Unknown ≡ form_of opcode
unfolding form_of
form_at opcode lt = agrees_at FORMS 0 opcode opcode table_agrees (omega (arith, table_length)) (omega arith)
