-- The version of the lines so far, and the lines that go on from them.
use Rattle.std.proofs.Common.{◌≡◌, ℕ, Bool, true, false, cond, List, [], ◌∷◌, ◌++◌, length, ◌+◌, Option, Some, None, refl, sym, ap, subst, ◌∙◌, arith, inl, inr}
use Rattle.std.specs.Prelude.{reverse}
use Rattle.std.proofs.lemmas.List.{reverse-append}
use Rattle.et_base.specs.declared.line.TraceLine.{TraceLine}
use Rattle.et_base.specs.declared.line.TraceLine.TheVariants.{Header, Class, Method, Alloc, Update, Enter, Exit, Unwind, Flush, Death, Finish}
use Rattle.et_text.specs.Ranges.{IsVersion, IsInRange, HasShortNames}
use Rattle.et_text.specs.Rules.{has_begun, version_of, next_fault, AreFine, IsGoodTrace, has_ended}
use Rattle.et_text.specs.Taken.{Taken, IsInSomeRange, IsShortBehind, AreKept, TakesLine, BreaksRule}
use Rattle.et_text.specs.Follows.{Follows, StandsOn}
use Rattle.et_text.specs.declared.fault.TraceFault.{TraceFault}
use Rattle.et_text.specs.declared.fault.TraceFault.TheVariants as faults
use Rattle.et_text.specs.StandsFor.{StandsForLines}
use Rattle.et_text.specs.declared.standing.Standing.{Standing}

-- a line in range in some trace is in range in the trace in which it stands
pub range_on : (past : List TraceLine) (line : TraceLine) → IsInSomeRange line → (version_of past ≡ 2 → HasShortNames line) → IsInRange (version_of (line ∷ past)) line
range_on past (Header v n) (inl r) s = (refl, r.1)
range_on past (Header v n) (inr r) s = (refl, r.1)
range_on past (Class number name) (inl r) s = (r.0, r.1, s)
range_on past (Class number name) (inr r) s = (r.0, r.1, s)
range_on past (Method number class name descriptor) (inl r) s = (r.0, r.1, r.2, r.3, λ e. (s e).0, λ e. (s e).1)
range_on past (Method number class name descriptor) (inr r) s = (r.0, r.1, r.2, r.3, λ e. (s e).0, λ e. (s e).1)
range_on past (Alloc event thread object class size len) r s = elim r [ inl x ↦ x | inr x ↦ x ]
range_on past (Update event thread object slot old new) r s = elim r [ inl x ↦ x | inr x ↦ x ]
range_on past (Enter event thread method receiver) r s = elim r [ inl x ↦ x | inr x ↦ x ]
range_on past (Exit event thread method) r s = elim r [ inl x ↦ x | inr x ↦ x ]
range_on past (Unwind event thread method exception) r s = elim r [ inl x ↦ x | inr x ↦ x ]
range_on past (Flush event deaths) r s = elim r [ inl x ↦ x | inr x ↦ x ]
range_on past (Death object time) r s = elim r [ inl x ↦ x | inr x ↦ x ]
range_on past (Finish event how) r s = elim r [ inl x ↦ x | inr x ↦ x ]

refused_twice : (b : Bool) → cond {A = Option ℕ} b (Some 6) (Some 2) ≡ None → ⊥
refused_twice true e = absurd cc
refused_twice false e = absurd cc

-- a header stands first
pub one_header : (x : TraceLine) (past : List TraceLine) (v n : ℕ) → next_fault (x ∷ past) (Header v n) ≡ None → ⊥
one_header x past v n e = refused_twice (has_ended (x ∷ past)) e

-- .. and nothing else does
pub begins : (line : TraceLine) → next_fault [] line ≡ None → (v n : ℕ) × (line ≡ Header v n)
begins (Header v n) e = (v, n, refl)
begins (Class number name) e = absurd cc
begins (Method number class name descriptor) e = absurd cc
begins (Alloc event thread object class size len) e = absurd cc
begins (Update event thread object slot old new) e = absurd cc
begins (Enter event thread method receiver) e = absurd cc
begins (Exit event thread method) e = absurd cc
begins (Unwind event thread method exception) e = absurd cc
begins (Flush event deaths) e = absurd cc
begins (Death object time) e = absurd cc
begins (Finish event how) e = absurd cc

same_version : (x : TraceLine) (past : List TraceLine) (line : TraceLine) → next_fault (x ∷ past) line ≡ None → version_of (line ∷ x ∷ past) ≡ version_of (x ∷ past)
same_version x past (Header v n) e = absurd (one_header x past v n e)
same_version x past (Class number name) e = refl
same_version x past (Method number class name descriptor) e = refl
same_version x past (Alloc event thread object class size len) e = refl
same_version x past (Update event thread object slot old new) e = refl
same_version x past (Enter event thread method receiver) e = refl
same_version x past (Exit event thread method) e = refl
same_version x past (Unwind event thread method exception) e = refl
same_version x past (Flush event deaths) e = refl
same_version x past (Death object time) e = refl
same_version x past (Finish event how) e = refl

fine_on : (past : List TraceLine) (line : TraceLine) → AreFine (version_of past) past → IsInSomeRange line → (version_of past ≡ 2 → HasShortNames line) → next_fault past line ≡ None → AreFine (version_of (line ∷ past)) (line ∷ past)
fine_on [] line h r s e = (tt, range_on [] line r s, e)
fine_on (x ∷ past) line h r s e = (subst (λ (v : ℕ). AreFine v (x ∷ past)) (sym (same_version x past line e)) h, range_on (x ∷ past) line r s, e)

header_known : (v n : ℕ) → IsInSomeRange (Header v n) → IsVersion v
header_known v n (inl r) = inl r.0
header_known v n (inr r) = inr r.0

known_on : (past : List TraceLine) (line : TraceLine) → (has_begun past ≡ true → IsVersion (version_of past)) → IsInSomeRange line → next_fault past line ≡ None → IsVersion (version_of (line ∷ past))
known_on [] line k r e =
    let b = begins line e in
    subst (λ (l : TraceLine). IsVersion (version_of (l ∷ []))) (sym b.2) (header_known b.0 b.1 (subst IsInSomeRange b.2 r))
known_on (x ∷ past) line k r e = subst IsVersion (sym (same_version x past line e)) (k refl)

turned : (lines : List TraceLine) (line : TraceLine) → reverse (lines ++ line ∷ []) ≡ line ∷ reverse lines
turned lines line = reverse-append lines (line ∷ [])

-- what is kept of the lines, with one more
kept_on : (s s' : Standing) (lines : List TraceLine) (line : TraceLine) → AreKept s lines → StandsForLines s' (line ∷ reverse lines) → IsInSomeRange line → IsShortBehind lines line → next_fault (reverse lines) line ≡ None → AreKept s' (lines ++ line ∷ [])
kept_on s s' lines line k h r short e =
    let back = sym (turned lines line) in
    record {
      stands = subst (StandsForLines s') back h;
      fine = subst (λ (past : List TraceLine). AreFine (version_of past) past) back (fine_on (reverse lines) line k.fine r short e);
      known = λ b. subst (λ (past : List TraceLine). IsVersion (version_of past)) back (known_on (reverse lines) line k.known r e);
    }

pub begun_where_ended : (past : List TraceLine) → has_ended past ≡ true → has_begun past ≡ true
begun_where_ended [] e = absurd cc
begun_where_ended (x ∷ past) e = refl

-- the lines of a whole trace are good
pub good_where_ended : (s : Standing) (lines : List TraceLine) → AreKept s lines → s.ended ≡ true → IsGoodTrace lines
good_where_ended s lines k e =
    let ended : has_ended (reverse lines) ≡ true = sym k.stands.ended_is ∙ e in
    record {
      version = version_of (reverse lines);
      known = k.known (begun_where_ended (reverse lines) ended);
      good = record { fine = k.fine; ended = ended };
    }

-- in a trace of version 1 no header says 2
pub not_two : (past : List TraceLine) → AreFine 1 past → version_of past ≡ 2 → ⊥
not_two [] h e = absurd cc
not_two (Header v n ∷ past) h e = let one : v ≡ 1 = h.1.0 in omega arith
not_two (Class number name ∷ past) h e = not_two past h.0 e
not_two (Method number class name descriptor ∷ past) h e = not_two past h.0 e
not_two (Alloc event thread object class size len ∷ past) h e = not_two past h.0 e
not_two (Update event thread object slot old new ∷ past) h e = not_two past h.0 e
not_two (Enter event thread method receiver ∷ past) h e = not_two past h.0 e
not_two (Exit event thread method ∷ past) h e = not_two past h.0 e
not_two (Unwind event thread method exception ∷ past) h e = not_two past h.0 e
not_two (Flush event deaths ∷ past) h e = not_two past h.0 e
not_two (Death object time ∷ past) h e = not_two past h.0 e
not_two (Finish event how ∷ past) h e = not_two past h.0 e

-- WHAT THE RULES ANSWER

abbrev taken : List TraceLine → Option TraceFault → Taken
taken lines fault = record { lines = lines; fault = fault }

-- the answer is the fault of the line by the lines so far
followed : (s s' : Standing) (lines : List TraceLine) (line : TraceLine) (found : Option ℕ) → AreKept s lines → IsInSomeRange line → IsShortBehind lines line → ((version : ℕ) (past : List TraceLine) → Follows s s' version past line found)
    → (found ≡ next_fault (reverse lines) line) × StandsOn s' (reverse lines) line found
followed s s' lines line found k r short f = f (version_of (line ∷ reverse lines)) (reverse lines) k.stands (range_on (reverse lines) line r short)

-- what is kept of a line that breaks no rule
pub kept_behind : (s s' : Standing) (lines more : List TraceLine) (line : TraceLine) (found : Option ℕ) (old : Taken) (f : Option TraceFault) → taken lines f ≡ old → AreKept s lines → IsInSomeRange line → IsShortBehind old.lines line
    → ((version : ℕ) (past : List TraceLine) → Follows s s' version past line found) → found ≡ None → more ≡ lines ++ line ∷ [] → AreKept s' more
kept_behind s s' lines more line found old f e k r short follows none m =
    let own : IsShortBehind lines line = subst (λ (t : Taken). IsShortBehind t.lines line) (sym e) short in
    let a = followed s s' lines line found k r own follows in
    let stands : StandsForLines s' (line ∷ reverse lines) = subst (λ (x : Option ℕ). StandsOn s' (reverse lines) line x) none a.1 in
    subst (AreKept s') (sym m) (kept_on s s' lines line k stands r own (sym a.0 ∙ none))

-- .. and it is taken
pub takes_behind : (s s' : Standing) (lines more : List TraceLine) (line : TraceLine) (found : Option ℕ) (old : Taken) (f : Option TraceFault) → taken lines f ≡ old → f ≡ None → AreKept s lines → IsInSomeRange line → IsShortBehind old.lines line
    → ((version : ℕ) (past : List TraceLine) → Follows s s' version past line found) → found ≡ None → more ≡ lines ++ line ∷ [] → TakesLine old (taken more None) line
takes_behind s s' lines more line found old f e n k r short follows none m =
    let own : IsShortBehind lines line = subst (λ (t : Taken). IsShortBehind t.lines line) (sym e) short in
    let a = followed s s' lines line found k r own follows in
    subst (λ (t : Taken). TakesLine t (taken more None) line) e (record {
      unharmed = n;
      follows = sym a.0 ∙ none;
      taken = ap (λ (ls : List TraceLine). taken ls None) m ∙ ap (λ (x : Option TraceFault). taken (lines ++ line ∷ []) x) (sym n);
    })

-- a line that breaks a rule is refused
pub breaks_behind : (s s' : Standing) (lines : List TraceLine) (line : TraceLine) (found : Option ℕ) (old new : Taken) (f : Option TraceFault) (kind number : ℕ) → taken lines f ≡ old → AreKept s lines → IsInSomeRange line → IsShortBehind old.lines line
    → ((version : ℕ) (past : List TraceLine) → Follows s s' version past line found) → found ≡ Some kind → number ≡ length lines + 1 → new ≡ taken lines (Some (faults.At kind number)) → BreaksRule old new line kind number
breaks_behind s s' lines line found old new f kind number e k r short follows some at kept =
    let own : IsShortBehind lines line = subst (λ (t : Taken). IsShortBehind t.lines line) (sym e) short in
    let a = followed s s' lines line found k r own follows in
    subst (λ (t : Taken). BreaksRule t new line kind number) e (record { breaks = sym a.0 ∙ some; at = at; kept = kept })
