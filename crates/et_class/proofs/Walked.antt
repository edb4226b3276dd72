-- Instructions, as the loop over them comes to them.
use Rattle.std.proofs.Common.{◌≡◌, ℕ, zero, suc, ◌+◌, ◌-◌, ◌<◌, ◌≤◌, List, [], ◌∷◌, length, Option, Ok, Err, refl, sym, ap, ◌∙◌, arith}
use Rattle.std.specs.List.{flat_map}
use Rattle.std.proofs.lemmas.Bool.{le-ltb, lt-ltb}
use Rattle.et_base.specs.Marks.{first_from}
use Rattle.et_base.proofs.Firsts.{first_from-append}
use Rattle.et_pool.specs.Entries.{Item}
use Rattle.et_code.specs.declared.instr.Instr.{Instr}
use Rattle.et_code.specs.declared.instr.CodeFault.{CodeFault}
use Rattle.et_code.specs.Decoding.{instruction_at}
use Rattle.et_code.specs.Starts.{starts, starts_from, bytes_behind}
use Rattle.et_class.specs.Codes.{instruction_marks, decoding_marks, named_marks}

module _ (slots : List (Option Item)) (place : ℕ) (code : List ℕ) where
  -- the rules on the instructions from pc on
  abbrev pub rules_from : Option (ℕ × ℕ) → List ℕ → Option (ℕ × ℕ)
  rules_from acc pcs = first_from acc (flat_map (named_marks slots place code) pcs)

  -- the instructions before pc were looked at
  pub record Walked (first found : Option (ℕ × ℕ)) (pc : ℕ) : Type 0 where
    pub most : ℕ
    pub enough : length code ≤ pc + most
    pub found_is : rules_from found (starts_from code most pc) ≡ rules_from first (starts code)

  pub walked_start : (first : Option (ℕ × ℕ)) → Walked first first 0
  walked_start first = record { most = length code; enough = omega arith; found_is = refl }

  -- the starts from pc on, where one stands there
  front : (most pc : ℕ) → pc < length code → length code ≤ pc + most → starts_from code most pc ≡ pc ∷ bytes_behind (starts_from code (most - 1)) (instruction_at code pc)
  unfolding starts_from
  front zero pc lt le = absurd (omega arith)
  front (suc most) pc lt le =
      let k : suc most - 1 ≡ most = omega arith in
      rw (lt-ltb pc (length code) lt, k) refl

  past : (most pc : ℕ) → length code ≤ pc → starts_from code most pc ≡ []
  unfolding starts_from
  past zero pc le = refl
  past (suc most) pc le = rw (le-ltb pc (length code) le) refl

  split : (acc : Option (ℕ × ℕ)) (pc : ℕ) (pcs : List ℕ) → rules_from acc (pc ∷ pcs) ≡ rules_from (first_from acc (named_marks slots place code pc)) pcs
  split acc pc pcs = first_from-append acc (named_marks slots place code pc) (flat_map (named_marks slots place code) pcs)

  pub walked_more : (first found found' : Option (ℕ × ℕ)) (pc : ℕ) (i : Instr) (next : ℕ) → Walked first found pc → pc < length code → instruction_at code pc ≡ Ok (i, next) → pc < next
      → found' ≡ first_from found (instruction_marks slots (place + pc) i) → Walked first found' next
  walked_more first found found' pc i next w lt e up h =
      record {
        most = w.most - 1;
        enough = omega (arith, w.enough, lt, up);
        found_is =
            ap (λ acc. rules_from acc (starts_from code (w.most - 1) next)) (h ∙ ap (λ r. first_from found (decoding_marks slots (place + pc) r)) (sym e))
            ∙ (sym (split found pc (starts_from code (w.most - 1) next))
            ∙ (ap (λ r. rules_from found (pc ∷ bytes_behind (starts_from code (w.most - 1)) r)) (sym e)
            ∙ (ap (rules_from found) (sym (front w.most pc lt w.enough)) ∙ w.found_is)));
      }

  pub walked_err : (first found : Option (ℕ × ℕ)) (pc : ℕ) (f : CodeFault) → Walked first found pc → pc < length code → instruction_at code pc ≡ Err f → found ≡ rules_from first (starts code)
  unfolding first_from
  walked_err first found pc f w lt e =
      ap (λ r. first_from found (decoding_marks slots (place + pc) r)) (sym e)
      ∙ (sym (split found pc [])
      ∙ (ap (λ r. rules_from found (pc ∷ bytes_behind (starts_from code (w.most - 1)) r)) (sym e)
      ∙ (ap (rules_from found) (sym (front w.most pc lt w.enough)) ∙ w.found_is)))

  pub walked_end : (first found : Option (ℕ × ℕ)) (pc : ℕ) → Walked first found pc → length code ≤ pc → found ≡ rules_from first (starts code)
  unfolding first_from
  walked_end first found pc w le = ap (rules_from found) (sym (past w.most pc le)) ∙ w.found_is
