-- What the next line changes keeps what is kept in step with the lines.
use Rattle.std.proofs.Common.{◌≡◌, ◌≢◌, ℕ, zero, suc, ◌+◌, ◌-◌, ◌<◌, ◌≤◌, Bool, true, false, cond, not, ◌&&◌, ◌||◌, eqb, List, [], ◌∷◌, ◌++◌, length, get_or, set, Option, Some, None, refl, sym, ap, ◌∙◌, arith, get_or-set_same, get_or-set_other, length-append, inl, inr}
use Rattle.std.proofs.Math.ListN.{length-set}
use Rattle.et_base.specs.declared.line.TraceLine.{TraceLine}
use Rattle.et_base.specs.declared.line.TraceLine.TheVariants.{Header, Class, Method, Alloc, Update, Enter, Exit, Unwind, Flush, Death, Finish}
use Rattle.et_text.specs.Rules.{has_begun, interval, newest_flush, is_final, is_reported, has_class, has_method}
use Rattle.std.specs.Prelude.{bytes_eq}
use Rattle.std.proofs.lemmas.Bool.{ne_eqb}
use Rattle.et_base.proofs.Tests.{cases_eqb}
use Rattle.et_text.specs.NameSets.{has_name, has_key, same_method}
use Rattle.et_text.specs.declared.standing.Standing.{Standing}
use Rattle.et_text.specs.ByStanding.{flag_at, reported_in}
use Rattle.et_text.specs.StandsFor.{last_due, Said, said, kept, StandsForLines, NotesObject, NotesDeath, NotesClass, NotesMethod}

-- WHAT A LINE CHANGES

-- no flush stands behind it
abbrev goes_on : Said → Said
goes_on k = record k { begun = true; standing = None; awaited = 0; last_dead = 0 }

abbrev at_event : ℕ → Said → Said
at_event event k = record (goes_on k) { latest = event }

abbrev begins_with : ℕ → Said → Said
begins_with every k = record (goes_on k) { interval = every }

abbrev names_class : ℕ → Said → Said
names_class number k = record (goes_on k) { classes = number }

abbrev names_method : ℕ → Said → Said
names_method number k = record (goes_on k) { methods = number }

abbrev makes : ℕ → List ℕ → Said → Said
makes event births k = record (at_event event k) { births = births }

abbrev flushes : ℕ → ℕ → Said → Said
flushes event deaths k = record k { begun = true; latest = event; flushed = Some event; is_last = is_final k.interval (Some event); last_due = last_due k.interval (Some event); standing = Some event; awaited = deaths; last_dead = 0 }

abbrev reports : ℕ → Said → Said
reports object k = record k { begun = true; awaited = k.awaited - 1; last_dead = object }

-- A LINE THAT MAKES AND NAMES NOTHING AND REPORTS NO DEATH: what is kept of these is as it was

-- where there is no flush yet, the interval doesn't matter
same_at_first : {X : Type 0} (at : ℕ → Option ℕ → X) (past : List TraceLine) (i n : ℕ) → has_begun past ≡ false → at i None ≡ at n None → at i (newest_flush past) ≡ at n (newest_flush past)
same_at_first at [] i n fresh e = e
same_at_first at (line ∷ past) i n fresh e = absurd cc

pub stands_header : (s : Standing) (past : List TraceLine) (v n : ℕ) → s.ended ≡ false → has_begun past ≡ false → StandsForLines s past → StandsForLines (record s { begun = true; interval = n; stands = false; awaited = 0; last_dead = 0 }) (Header v n ∷ past)
stands_header s past v n unended fresh h =
    let found = same_at_first (λ i f. record (begins_with n (said past)) { is_last = is_final i f; last_due = last_due i f }) past (interval past) n fresh refl in
    record { said_is = ap (begins_with n) h.said_is ∙ found; ended_is = unended; as_many = h.as_many; reported_is = h.reported_is; class_names_are = h.class_names_are; method_names_are = h.method_names_are }

-- what a thread did
module _ (s : Standing) (past : List TraceLine) (event : ℕ) (unended : s.ended ≡ false) (h : StandsForLines s past) where
  abbrev behind : Standing
  behind = record s { begun = true; latest = event; stands = false; awaited = 0; last_dead = 0 }

  pub stands_update : (thread object slot old new : ℕ) → StandsForLines behind (Update event thread object slot old new ∷ past)
  stands_update thread object slot old new = record { said_is = ap (at_event event) h.said_is; ended_is = unended; as_many = h.as_many; reported_is = h.reported_is; class_names_are = h.class_names_are; method_names_are = h.method_names_are }

  pub stands_enter : (thread method receiver : ℕ) → StandsForLines behind (Enter event thread method receiver ∷ past)
  stands_enter thread method receiver = record { said_is = ap (at_event event) h.said_is; ended_is = unended; as_many = h.as_many; reported_is = h.reported_is; class_names_are = h.class_names_are; method_names_are = h.method_names_are }

  pub stands_exit : (thread method : ℕ) → StandsForLines behind (Exit event thread method ∷ past)
  stands_exit thread method = record { said_is = ap (at_event event) h.said_is; ended_is = unended; as_many = h.as_many; reported_is = h.reported_is; class_names_are = h.class_names_are; method_names_are = h.method_names_are }

  pub stands_unwind : (thread method exception : ℕ) → StandsForLines behind (Unwind event thread method exception ∷ past)
  stands_unwind thread method exception = record { said_is = ap (at_event event) h.said_is; ended_is = unended; as_many = h.as_many; reported_is = h.reported_is; class_names_are = h.class_names_are; method_names_are = h.method_names_are }

pub stands_flush : (s : Standing) (past : List TraceLine) (event deaths : ℕ) → s.ended ≡ false → StandsForLines s past → StandsForLines (record s { begun = true; latest = event; flushed = Some event; is_last = is_final s.interval (Some event); last_due = last_due s.interval (Some event); stands = true; awaited = deaths; last_dead = 0 }) (Flush event deaths ∷ past)
stands_flush s past event deaths unended h = record { said_is = ap (flushes event deaths) h.said_is; ended_is = unended; as_many = h.as_many; reported_is = h.reported_is; class_names_are = h.class_names_are; method_names_are = h.method_names_are }

pub stands_finish : (s : Standing) (past : List TraceLine) (event how : ℕ) → StandsForLines s past → StandsForLines (record s { begun = true; ended = true; stands = false; awaited = 0; last_dead = 0 }) (Finish event how ∷ past)
stands_finish s past event how h = record { said_is = ap goes_on h.said_is; ended_is = refl; as_many = h.as_many; reported_is = h.reported_is; class_names_are = h.class_names_are; method_names_are = h.method_names_are }

-- A LINE THAT MAKES AN OBJECT

-- past the end of a list, its default stands
get_or_grown : (xs : List Bool) (i : ℕ) → get_or (xs ++ false ∷ []) i false ≡ get_or xs i false
get_or_grown [] zero = refl
get_or_grown [] (suc i) = refl
get_or_grown (x ∷ xs) zero = refl
get_or_grown (x ∷ xs) (suc i) = get_or_grown xs i

pub stands_object : (s s' : Standing) (past : List TraceLine) (event thread object class size len : ℕ) → s.ended ≡ false → NotesObject s s' event → StandsForLines s past → StandsForLines s' (Alloc event thread object class size len ∷ past)
stands_object s s' past event thread object class size len unended n h = record {
  said_is = ap kept n.others ∙ (ap (λ (b : List ℕ). makes event b (kept s)) n.births ∙ ap (λ (k : Said). makes event (k.births ++ event ∷ []) k) h.said_is);
  ended_is = ap (λ (t : Standing). t.ended) n.others ∙ unended;
  as_many = omega (arith, h.as_many, ap length n.births, ap length n.reported, length-append s.births.items (event ∷ []), length-append s.reported.items (false ∷ []));
  reported_is = λ o. ap (λ (xs : List Bool). flag_at xs o) n.reported ∙ (ap (cond (eqb o 0) false) (get_or_grown s.reported.items (o - 1)) ∙ h.reported_is o);
  class_names_are = λ q. ap (λ (t : Standing). has_name t.class_names q) n.others ∙ h.class_names_are q;
  method_names_are = λ q. ap (λ (t : Standing). has_key t.method_names q) n.others ∙ h.method_names_are q;
}

-- A LINE THAT REPORTS A DEATH

reported_now : (flags : List Bool) (past : List TraceLine) (object time o : ℕ) → 1 ≤ object → object ≤ length flags → flag_at flags o ≡ is_reported past o → flag_at (set flags (object - 1) true) o ≡ is_reported (Death object time ∷ past) o
reported_now flags past object time o made known so_far =
    elim (cases_eqb o 0) [
      | inl z ↦ let none : o ≡ 0 = z.1 in rw (z.0, ne_eqb object o (omega arith)) (rw z.0 at so_far)
      | inr z ↦
          let some : o ≢ 0 = z.1 in
          rw z.0 (elim (cases_eqb object o) [
            | inl t ↦
                let same : object ≡ o = t.1 in
                let lt : object - 1 < length flags = omega arith in
                let place : o - 1 ≡ object - 1 = omega arith in
                rw (t.0, place) (let e : get_or (set flags (object - 1) true) (object - 1) false ≡ true = rw get_or-set_same refl in e)
            | inr t ↦
                let ne : object ≢ o = t.1 in
                let apart : o - 1 ≢ object - 1 = omega arith in
                rw t.0 (let e : get_or (set flags (object - 1) true) (o - 1) false ≡ get_or flags (o - 1) false = rw get_or-set_other refl in e ∙ (rw z.0 at so_far))
          ])
    ]

pub stands_death : (s s' : Standing) (past : List TraceLine) (object time : ℕ) → s.ended ≡ false → 1 ≤ object → object ≤ length s.reported.items → NotesDeath s s' object → StandsForLines s past → StandsForLines s' (Death object time ∷ past)
stands_death s s' past object time unended made known n h = record {
  said_is = ap kept n.others ∙ ap (reports object) h.said_is;
  ended_is = ap (λ (t : Standing). t.ended) n.others ∙ unended;
  as_many = ap length n.reported ∙ length-set _ _ _ ∙ h.as_many ∙ sym (ap (λ (t : Standing). length t.births.items) n.others);
  reported_is = λ o. ap (λ (xs : List Bool). flag_at xs o) n.reported ∙ reported_now s.reported.items past object time o made known (h.reported_is o);
  class_names_are = λ q. ap (λ (t : Standing). has_name t.class_names q) n.others ∙ h.class_names_are q;
  method_names_are = λ q. ap (λ (t : Standing). has_key t.method_names q) n.others ∙ h.method_names_are q;
}

-- A LINE THAT NAMES

or_is : (a b c : Bool) → b ≡ c → cond a true b ≡ (a || c)
or_is true b c e = refl
or_is false b c e = e

pub stands_class : (s s' : Standing) (past : List TraceLine) (number : ℕ) (name : List ℕ) (added : Bool) → s.ended ≡ false → number ≡ s.classes + 1 → NotesClass s s' number name added → StandsForLines s past → StandsForLines s' (Class number name ∷ past)
stands_class s s' past number name added unended e n h = record {
  said_is = ap kept n.others ∙ (ap (λ (m : ℕ). names_class m (kept s)) e ∙ ap (λ (k : Said). names_class (k.classes + 1) k) h.said_is);
  ended_is = ap (λ (t : Standing). t.ended) n.others ∙ unended;
  as_many = ap (λ (t : Standing). length t.reported.items) n.others ∙ h.as_many ∙ sym (ap (λ (t : Standing). length t.births.items) n.others);
  reported_is = λ o. ap (λ (t : Standing). reported_in t o) n.others ∙ h.reported_is o;
  class_names_are = λ q. n.names q ∙ (or_is (bytes_eq n.key.items q.items) (has_name s.class_names q) (has_class past q.items) (h.class_names_are q) ∙ ap (λ (x : List ℕ). bytes_eq x q.items || has_class past q.items) n.key_is);
  method_names_are = λ q. ap (λ (t : Standing). has_key t.method_names q) n.others ∙ h.method_names_are q;
}

pub class_is_new : (s s' : Standing) (past : List TraceLine) (number : ℕ) (name : List ℕ) (added : Bool) → NotesClass s s' number name added → StandsForLines s past → added ≡ not (has_class past name)
class_is_new s s' past number name added n h = n.added_is ∙ ap not (h.class_names_are n.key ∙ ap (λ (x : List ℕ). has_class past x) n.key_is)

pub stands_method : (s s' : Standing) (past : List TraceLine) (number class : ℕ) (name descriptor : List ℕ) (added : Bool) → s.ended ≡ false → number ≡ s.methods + 1 → NotesMethod s s' number class name descriptor added → StandsForLines s past → StandsForLines s' (Method number class name descriptor ∷ past)
stands_method s s' past number class name descriptor added unended e n h = record {
  said_is = ap kept n.others ∙ (ap (λ (m : ℕ). names_method m (kept s)) e ∙ ap (λ (k : Said). names_method (k.methods + 1) k) h.said_is);
  ended_is = ap (λ (t : Standing). t.ended) n.others ∙ unended;
  as_many = ap (λ (t : Standing). length t.reported.items) n.others ∙ h.as_many ∙ sym (ap (λ (t : Standing). length t.births.items) n.others);
  reported_is = λ o. ap (λ (t : Standing). reported_in t o) n.others ∙ h.reported_is o;
  class_names_are = λ q. ap (λ (t : Standing). has_name t.class_names q) n.others ∙ h.class_names_are q;
  method_names_are = λ q. n.names q ∙ (or_is (same_method n.key q) (has_key s.method_names q) (has_method past q.0 q.1.items q.2.items) (h.method_names_are q)
      ∙ (ap (λ (x : ℕ). (eqb x q.0 && bytes_eq n.key.1.items q.1.items && bytes_eq n.key.2.items q.2.items) || has_method past q.0 q.1.items q.2.items) n.class_is
      ∙ (ap (λ (x : List ℕ). (eqb class q.0 && bytes_eq x q.1.items && bytes_eq n.key.2.items q.2.items) || has_method past q.0 q.1.items q.2.items) n.name_is
      ∙ ap (λ (x : List ℕ). (eqb class q.0 && bytes_eq name q.1.items && bytes_eq x q.2.items) || has_method past q.0 q.1.items q.2.items) n.descriptor_is)));
}

pub method_is_new : (s s' : Standing) (past : List TraceLine) (number class : ℕ) (name descriptor : List ℕ) (added : Bool) → NotesMethod s s' number class name descriptor added → StandsForLines s past → added ≡ not (has_method past class name descriptor)
method_is_new s s' past number class name descriptor added n h =
    n.added_is ∙ ap not (h.method_names_are n.key ∙ (ap (λ (x : ℕ). has_method past x n.key.1.items n.key.2.items) n.class_is ∙ (ap (λ (x : List ℕ). has_method past class x n.key.2.items) n.name_is ∙ ap (λ (x : List ℕ). has_method past class name x) n.descriptor_is)))
