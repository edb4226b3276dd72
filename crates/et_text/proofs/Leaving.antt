-- What a line leaves, by the rules of the lines.
use Rattle.std.proofs.Common.{◌≡◌, ℕ, ◌+◌, ◌≤◌, Bool, true, false, cond, not, eqb, List, ◌∷◌, length, Option, Some, None, refl, sym, ap, subst, ◌∙◌, arith}
use Rattle.std.proofs.lemmas.Bool.{leb-true, not-true, eqb-true}
use Rattle.et_base.specs.declared.line.TraceLine.{TraceLine}
use Rattle.et_base.specs.declared.line.TraceLine.TheVariants.{Header, Class, Method, Alloc, Update, Enter, Exit, Unwind, Flush, Death, Finish}
use Rattle.et_base.proofs.Tests.{and_second}
use Rattle.et_text.specs.Ranges.{IsInRange}
use Rattle.et_text.specs.Rules.{order, unknown, twice, after, has_ended, keeps_order, is_known, keeps_lives, is_new, next_fault}
use Rattle.et_text.specs.declared.standing.Standing.{Standing}
use Rattle.et_text.specs.ByStanding.{is_open_in, order_in, known_in, lives_in, dies_once_in, fault_in}
use Rattle.et_text.specs.StandsFor.{Said, StandsForLines}
use Rattle.et_text.specs.Follows.{Notes}
use Rattle.et_text.proofs.Faults.{dies_once, fault_but_names, fault_is}
use Rattle.et_text.proofs.Standings.{stands_header, stands_class, stands_method, stands_object, stands_update, stands_enter, stands_exit, stands_unwind, stands_flush, stands_death, stands_finish, class_is_new, method_is_new}

abbrev chain : Bool → Bool → Bool → Bool → Bool → Option ℕ
chain e o k l d = cond e (Some after) (cond (not o) (Some order) (cond (not k) (Some unknown) (cond (not l) (Some order) (cond (not d) (Some twice) None))))

record ArePassed (e o k l d : Bool) : Type 0 where
  pub goes_on : e ≡ false
  pub ordered : o ≡ true
  pub known : k ≡ true
  pub lives : l ≡ true
  pub once : d ≡ true

passed : (e o k l d : Bool) → chain e o k l d ≡ None → ArePassed e o k l d
passed true o k l d h = absurd cc
passed false false k l d h = absurd cc
passed false true false l d h = absurd cc
passed false true true false d h = absurd cc
passed false true true true false h = absurd cc
passed false true true true true h = record { goes_on = refl; ordered = refl; known = refl; lives = refl; once = refl }

still : (e o k l d n : Bool) (kind : ℕ) → (d ≡ false → n ≡ false) → chain e o k l d ≡ Some kind → chain e o k l n ≡ Some kind
still true o k l d n kind f h = h
still false false k l d n kind f h = h
still false true false l d n kind f h = h
still false true true false d n kind f h = h
still false true true true false n kind f h = rw (f refl) h
still false true true true true n kind f h = absurd cc

at_last : (e o k l d n : Bool) → ArePassed e o k l d → chain e o k l n ≡ cond (not n) (Some twice) None
at_last e o k l d n p = rw (p.goes_on, p.ordered, p.known, p.lives) refl

new_falls : (past : List TraceLine) (line : TraceLine) → dies_once past line ≡ false → is_new past line ≡ false
new_falls past (Header v n) e = absurd cc
new_falls past (Class number name) e = absurd cc
new_falls past (Method number class name descriptor) e = absurd cc
new_falls past (Alloc event thread object class size len) e = absurd cc
new_falls past (Update event thread object slot old new) e = absurd cc
new_falls past (Enter event thread method receiver) e = absurd cc
new_falls past (Exit event thread method) e = absurd cc
new_falls past (Unwind event thread method exception) e = absurd cc
new_falls past (Flush event deaths) e = absurd cc
new_falls past (Death object time) e = e
new_falls past (Finish event how) e = absurd cc

pub some_found : (s : Standing) (past : List TraceLine) (line : TraceLine) (kind : ℕ) → StandsForLines s past → Some kind ≡ fault_in s line → Some kind ≡ next_fault past line
some_found s past line kind h e =
    let f : fault_but_names past line ≡ Some kind = sym (fault_is s past line h) ∙ sym e in
    sym (still (has_ended past) (keeps_order past line) (is_known past line) (keeps_lives past line) (dies_once past line) (is_new past line) kind (new_falls past line) f)

-- whether the line is new
new_by : (s s' : Standing) (past : List TraceLine) (line : TraceLine) (added : Bool) → Notes s s' line added → StandsForLines s past → dies_once past line ≡ true → is_new past line ≡ added
new_by s s' past (Header v every) added n h d = sym n.0
new_by s s' past (Class number name) added n h d = sym (class_is_new s s' past number name added n h)
new_by s s' past (Method number class name descriptor) added n h d = sym (method_is_new s s' past number class name descriptor added n h)
new_by s s' past (Alloc event thread object class size len) added n h d = sym n.0
new_by s s' past (Update event thread object slot old new) added n h d = sym n.0
new_by s s' past (Enter event thread method receiver) added n h d = sym n.0
new_by s s' past (Exit event thread method) added n h d = sym n.0
new_by s s' past (Unwind event thread method exception) added n h d = sym n.0
new_by s s' past (Flush event deaths) added n h d = sym n.0
new_by s s' past (Death object time) added n h d = d ∙ sym n.0
new_by s s' past (Finish event how) added n h d = sym n.0

pub stands_on : (version : ℕ) (s s' : Standing) (past : List TraceLine) (line : TraceLine) (added : Bool) → s.ended ≡ false → order_in s line ≡ true → known_in s line ≡ true → IsInRange version line → Notes s s' line added → StandsForLines s past → StandsForLines s' (line ∷ past)
stands_on version s s' past (Header v every) added unended o k r n h = subst (λ (t : Standing). StandsForLines t (Header v every ∷ past)) (sym n.1) (stands_header s past v every unended (ap (λ (k : Said). k.begun) (sym h.said_is) ∙ not-true s.begun o) h)
stands_on version s s' past (Class number name) added unended o k r n h = stands_class s s' past number name added unended (eqb-true number (s.classes + 1) (and_second (is_open_in s) (eqb number (s.classes + 1)) o)) n h
stands_on version s s' past (Method number class name descriptor) added unended o k r n h = stands_method s s' past number class name descriptor added unended (eqb-true number (s.methods + 1) (and_second (is_open_in s) (eqb number (s.methods + 1)) o)) n h
stands_on version s s' past (Alloc event thread object class size len) added unended o k r n h = stands_object s s' past event thread object class size len unended n.1 h
stands_on version s s' past (Update event thread object slot old new) added unended o k r n h = subst (λ (t : Standing). StandsForLines t (Update event thread object slot old new ∷ past)) (sym n.1) (stands_update s past event unended h thread object slot old new)
stands_on version s s' past (Enter event thread method receiver) added unended o k r n h = subst (λ (t : Standing). StandsForLines t (Enter event thread method receiver ∷ past)) (sym n.1) (stands_enter s past event unended h thread method receiver)
stands_on version s s' past (Exit event thread method) added unended o k r n h = subst (λ (t : Standing). StandsForLines t (Exit event thread method ∷ past)) (sym n.1) (stands_exit s past event unended h thread method)
stands_on version s s' past (Unwind event thread method exception) added unended o k r n h = subst (λ (t : Standing). StandsForLines t (Unwind event thread method exception ∷ past)) (sym n.1) (stands_unwind s past event unended h thread method exception)
stands_on version s s' past (Flush event deaths) added unended o k r n h = subst (λ (t : Standing). StandsForLines t (Flush event deaths ∷ past)) (sym n.1) (stands_flush s past event deaths unended h)
stands_on version s s' past (Death object time) added unended o k r n h = let le : object ≤ length s.births.items = leb-true object (length s.births.items) k in let as_many = h.as_many in stands_death s s' past object time unended r.0.0 (omega arith) n.1 h
stands_on version s s' past (Finish event how) added unended o k r n h = subst (λ (t : Standing). StandsForLines t (Finish event how ∷ past)) (sym n.1) (stands_finish s past event how h)

at_past : (s : Standing) (past : List TraceLine) (line : TraceLine) → StandsForLines s past → None ≡ fault_in s line → ArePassed (has_ended past) (keeps_order past line) (is_known past line) (keeps_lives past line) (dies_once past line)
at_past s past line h e = passed (has_ended past) (keeps_order past line) (is_known past line) (keeps_lives past line) (dies_once past line) (sym (fault_is s past line h) ∙ sym e)

next_by : (s s' : Standing) (past : List TraceLine) (line : TraceLine) (added : Bool) → StandsForLines s past → None ≡ fault_in s line → Notes s s' line added → next_fault past line ≡ cond (not added) (Some twice) None
next_by s s' past line added h e n =
    let p = at_past s past line h e in
    at_last (has_ended past) (keeps_order past line) (is_known past line) (keeps_lives past line) (dies_once past line) (is_new past line) p
    ∙ ap (λ (b : Bool). cond (not b) (Some twice) None) (new_by s s' past line added n h p.once)

pub noted : (version : ℕ) (s s' : Standing) (past : List TraceLine) (line : TraceLine) (added : Bool) → None ≡ fault_in s line → Notes s s' line added → added ≡ true → StandsForLines s past → IsInRange version line → (None ≡ next_fault past line) × StandsForLines s' (line ∷ past)
noted version s s' past line added e n yes_added h r =
    let p = passed s.ended (order_in s line) (known_in s line) (lives_in s line) (dies_once_in s line) (sym e) in
    (sym (next_by s s' past line added h e n ∙ ap (λ (b : Bool). cond (not b) (Some twice) None) yes_added), stands_on version s s' past line added p.goes_on p.ordered p.known r n h)

pub refused : (s s' : Standing) (past : List TraceLine) (line : TraceLine) (added : Bool) → None ≡ fault_in s line → Notes s s' line added → added ≡ false → StandsForLines s past → Some 4 ≡ next_fault past line
refused s s' past line added e n not_added h = sym (next_by s s' past line added h e n ∙ ap (λ (b : Bool). cond (not b) (Some twice) None) not_added)
