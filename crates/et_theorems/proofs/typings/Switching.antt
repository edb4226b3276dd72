-- The targets of branches and switches are places to which they lead.
use Rattle.std.proofs.Common.{inl, inr, ◌≡◌, ℕ, ◌==◌, ◌||◌, Bool, true, false, List, [], ◌∷◌, Some, refl, ◌∙◌, ap, subst, Contains}
use Rattle.std.specs.Prelude.{ℤ, pos, negsuc, if◌then◌else◌, map}
use Rattle.std.specs.List.{list_all}
use Rattle.std.proofs.lemmas.Bool.{eqb-true, eq-eqb, false≢true, or_right, or_left, or_cases, and_from}
use Rattle.std.proofs.lemmas.List.Elements.{Contains-append_right}
use Rattle.et_base.proofs.Lists.{Contains-here, Contains-there}
use Rattle.et_code.specs.Rules.{is_branch, offsets}
use Rattle.et_code.specs.Switches.{target_of}
use Rattle.et_event.specs.Moments.{Moment}
use Rattle.et_event.specs.Sites.{Site, target}
use Rattle.et_event.specs.Table.{row_of}
use Rattle.et_event.specs.declared.rows.Condition.{Condition}
use Rattle.et_event.specs.declared.rows.FrameRow.{FrameRow}
use Rattle.et_event.specs.declared.rows.FrameRow.TheVariants as row
use Rattle.et_event.specs.declared.rows.Row.{Row}
use Rattle.et_event.specs.declared.rows.Row.TheVariants as rows
use Rattle.et_event.proofs.FrameRows.{opcode_of_switch}
use Rattle.et_history.proofs.soundness.Going.{opcode_of_branch, switch_passes}
use Rattle.et_history.specs.soundness.Places.{IsAtRow}
use Rattle.et_verify.specs.Leads.{goes_past, next_places}

-- NUMBERS in a list

abbrev same_int : ℤ → ℤ → Bool
same_int (pos a) (pos b) = a == b
same_int (negsuc a) (negsuc b) = a == b
same_int a b = false

int_same : (a b : ℤ) → same_int a b ≡ true → a ≡ b
int_same (pos a) (pos b) e = ap (λ (n : ℕ). pos n) (eqb-true a b e)
int_same (pos a) (negsuc b) e = absurd (false≢true e)
int_same (negsuc a) (pos b) e = absurd (false≢true e)
int_same (negsuc a) (negsuc b) e = ap (λ (n : ℕ). negsuc n) (eqb-true a b e)

same_itself : (a : ℤ) → same_int a a ≡ true
same_itself (pos a) = eq-eqb a a refl
same_itself (negsuc a) = eq-eqb a a refl

abbrev is_among : ℤ → List ℤ → Bool
is_among z [] = false
is_among z (o ∷ os) = same_int o z || is_among z os

all_among : (f : ℤ → Bool) (xs : List ℤ) → ((z : ℤ) → is_among z xs ≡ true → f z ≡ true) → list_all f xs ≡ true
all_among f [] h = refl
all_among f (x ∷ xs) h =
    and_from (f x) (list_all f xs) (h x (or_left (same_int x x) (is_among x xs) (same_itself x))) (all_among f xs (λ z in_it. h z (or_right (same_int x z) (is_among z xs) in_it)))

target_among : (pc : ℕ) (z : ℤ) (os : List ℤ) → is_among z os ≡ true → Contains (map (target pc) os) (target pc z)
target_among pc z [] e = absurd (false≢true e)
target_among pc z (o ∷ os) e = elim (or_cases (same_int o z) (is_among z os) e) [
  | inl same ↦ subst (λ (x : ℤ). Contains (target pc o ∷ map (target pc) os) (target pc x)) (int_same o z same) (Contains-here (target pc o) (map (target pc) os))
  | inr more ↦ Contains-there (target pc o) (map (target pc) os) (target pc z) (target_among pc z os more)
]

leads_to : (pc : ℕ) (at : Site) (r : Row) (z : ℤ) → is_among z (offsets at.code at.instr) ≡ true → Contains (next_places pc at r) (target pc z)
leads_to pc at r z h = Contains-append_right (if goes_past r then at.next ∷ [] else []) (map (target pc) (offsets at.code at.instr)) (target pc z) (target_among pc z (offsets at.code at.instr) h)

-- THE INSTRUCTION

opcode_at : (e : Moment) (at : Site) (r : FrameRow) → IsAtRow e at (rows.Frame r) → row_of at.instr.opcode ≡ Some (rows.Frame r)
opcode_at e at r here = ap (λ (s : Site). row_of s.instr.opcode) here.site ∙ here.row

pub branch_there : (e : Moment) (pc : ℕ) (at : Site) (r : FrameRow) (c : Condition) → r ≡ row.Branch c → IsAtRow e at (rows.Frame r) → Contains (next_places pc at (rows.Frame r)) (target pc at.instr.first)
branch_there e pc at r c is here =
    leads_to pc at (rows.Frame r) at.instr.first
    (by (is_branch at.instr.opcode) (opcode_of_branch at.instr.opcode c (opcode_at e at r here ∙ ap (λ (x : FrameRow). Some (rows.Frame x)) is)) _)
  where
    by : (b : Bool) → b ≡ true → (others : List ℤ) → is_among at.instr.first (if b then at.instr.first ∷ [] else others) ≡ true
    by true q others = or_left (same_int at.instr.first at.instr.first) false (same_itself at.instr.first)
    by false q others = absurd (false≢true q)

pub switch_there : (e : Moment) (pc : ℕ) (at : Site) (r : FrameRow) → r ≡ row.Switch → (key : ℤ) → IsAtRow e at (rows.Frame r) → Contains (next_places pc at (rows.Frame r)) (target pc (target_of at.code at.instr key))
switch_there e pc at r is key here =
    let os : List ℤ = offsets at.code at.instr in
    leads_to pc at (rows.Frame r) (target_of at.code at.instr key)
    (switch_passes (λ z. is_among z (offsets at.code at.instr)) at.code at.instr key (opcode_of_switch at.instr.opcode (opcode_at e at r here ∙ ap (λ (x : FrameRow). Some (rows.Frame x)) is))
    (all_among (λ z. is_among z (offsets at.code at.instr)) os (λ z in_it. in_it)))
