-- What the lines of a trace so far say, where each keeps the rules after those before it; and one line more.
use Rattle.std.proofs.Common.{◌≡◌, ℕ, ◌+◌, ◌-◌, ◌<◌, ◌≤◌, ◌^◌, ◌==◌, ◌⊎◌, Bool, true, false, not, ◌&&◌, List, [], ◌∷◌, ◌++◌, length, Option, None, refl, sym, ◌∙◌, ap, subst, inl, inr, arith, length-append}
use Rattle.std.specs.Prelude.{nat_le, if◌then◌else◌, slice_index}
use Rattle.std.specs.List.{list_any, flat_map}
use Rattle.std.proofs.lemmas.Bool.{cases_lt, le-leb, eq-eqb, and_from, not_from_false}
use Rattle.std.proofs.lemmas.List.{get_or_append_left}
use Rattle.std.proofs.Math.Seq.{get_or-append_seam}
use Rattle.et_base.specs.declared.line.TraceLine.{TraceLine}
use Rattle.et_base.specs.declared.line.TraceLine.TheVariants as line
use Rattle.et_state.specs.Naming.{Names, Mentions, number_in, with_new, class_line, method_line}
use Rattle.et_text.specs.Rules.{AreFine, awaited, births, classes, newest_flush, has_begun, has_class, has_ended, has_method, interval, is_before, is_final, is_known, is_new, is_open, is_reported, is_timely, keeps_lives, keeps_order, latest, methods, misses_no_flush, next_fault, objects}
use Rattle.et_theorems.proofs.traces.Numbering.{AreTellable, IsIn, AreNamed, number_within, class_is_new, class_in_range, named_class, class_number, method_is_new, method_in_range, named_method, method_number}

-- LINES BEHIND THE LINES SO FAR, of which the newest stands first
abbrev pub behind : List TraceLine → List TraceLine → List TraceLine
behind past [] = past
behind past (l ∷ ls) = behind (l ∷ past) ls

pub behind_both : (past xs ys : List TraceLine) → behind past (xs ++ ys) ≡ behind (behind past xs) ys
behind_both past [] ys = refl
behind_both past (x ∷ xs) ys = behind_both (x ∷ past) xs ys

-- THE PARTS

-- a line that is no D or Z may come next
abbrev pub Rests : List TraceLine → Type 0
Rests past = (has_begun past ≡ true) × (has_ended past ≡ false) × (awaited past ≡ 0)

-- a line of event e may come next
pub record Flows (every e within latest : ℕ) (newest : Option ℕ) : Type 0 where
  pub interval_is : within ≡ every
  pub latest_within : latest ≤ e
  pub later : is_before newest e ≡ true
  pub not_final : is_final every newest ≡ false
  pub none_missing : misses_no_flush every newest e ≡ true

-- The objects below the next number were made, and those that may be named weren't reported. No object was made later than
-- this last event.
pub record AreObjects (next : ℕ) (live : ℕ → Type 0) (last : ℕ → ℕ) (births : List ℕ) (reported : ℕ → Bool) : Type 0 where
  pub made : length births + 1 ≡ next
  pub few : next ≤ 2 ^ 24
  pub unreported : (o : ℕ) → live o → reported o ≡ false
  pub none_reported : reported 0 ≡ false
  pub reported_made : (o : ℕ) → reported o ≡ true → o < next
  pub births_within : (o : ℕ) → 0 < o → o < next → slice_index births (o - 1) ≤ last o

pub record Stands (names : Names) (version every e next : ℕ) (live : ℕ → Type 0) (last : ℕ → ℕ) (m : Mentions) (past : List TraceLine) : Type 0 where
  pub fine : AreFine version past
  pub rests : Rests past
  pub flows : Flows every e (interval past) (latest past) (newest_flush past)
  pub named : AreNamed names m (classes past) (methods past) (λ name. has_class past name) (λ c name descriptor. has_method past c name descriptor)
  pub objects_are : AreObjects next live last (births past) (λ o. is_reported past o)

-- RULES

pub both : {a b : Bool} → a ≡ true → b ≡ true → (a && b) ≡ true
both {a} {b} e f = and_from a b e f

pub fault_free : (past : List TraceLine) (l : TraceLine) → has_ended past ≡ false → keeps_order past l ≡ true → is_known past l ≡ true → keeps_lives past l ≡ true → is_new past l ≡ true → next_fault past l ≡ None
fault_free past l unended order known lives new = rw (unended, order, known, lives, new) refl

pub open_is : (every e : ℕ) (past : List TraceLine) → Rests past → Flows every e (interval past) (latest past) (newest_flush past) → is_open past ≡ true
open_is every e past rests flows =
    both (both rests.0 (eq-eqb (awaited past) 0 rests.2))
    (not_from_false (is_final (interval past) (newest_flush past)) (subst (λ (n : ℕ). is_final n (newest_flush past) ≡ false) (sym flows.interval_is) flows.not_final))

pub timely : (every e : ℕ) (past : List TraceLine) → Rests past → Flows every e (interval past) (latest past) (newest_flush past) → is_timely past e ≡ true
timely every e past rests flows =
    both (both (both (open_is every e past rests flows) (le-leb (latest past) e flows.latest_within)) flows.later)
    (subst (λ (n : ℕ). misses_no_flush n (newest_flush past) e ≡ true) (sym flows.interval_is) flows.none_missing)

-- .. and behind a line of this event
pub flows_on : (every e within latest : ℕ) (newest : Option ℕ) → Flows every e within latest newest → Flows every e within e newest
flows_on every e within latest newest h = record {
  interval_is = h.interval_is;
  latest_within = omega arith;
  later = h.later;
  not_final = h.not_final;
  none_missing = h.none_missing;
}

-- WHAT A LINE NAMES: no object, or one that was made and may be named
abbrev pub IsNamed : ℕ → (ℕ → Type 0) → ℕ → Type 0
IsNamed next live o = (o ≡ 0) ⊎ ((o < next) × live o)

module _ (next : ℕ) (live : ℕ → Type 0) (last : ℕ → ℕ) (bs : List ℕ) (reported : ℕ → Bool) (h : AreObjects next live last bs reported) where
  pub named_known : (o : ℕ) → IsNamed next live o → nat_le o (length bs) ≡ true
  named_known o (inl none) = le-leb o (length bs) (omega arith)
  named_known o (inr some) = le-leb o (length bs) (let a = some.0 in let b = h.made in omega arith)

  pub named_here : (o : ℕ) → IsNamed next live o → not (reported o) ≡ true
  named_here o (inl none) = not_from_false (reported o) (ap (λ (x : ℕ). reported x) none ∙ h.none_reported)
  named_here o (inr some) = not_from_false (reported o) (h.unreported o some.1)

  pub named_range : (o : ℕ) → IsNamed next live o → o < 2 ^ 24
  named_range o (inl none) = omega arith
  named_range o (inr some) = let a = some.0 in let b = h.few in omega arith

-- A LINE MORE
module _ (names : Names) (fit : AreTellable names) (version every e : ℕ) (within : e ≤ 2 ^ 40) (live : ℕ → Type 0) (last : ℕ → ℕ) where
  abbrev pub At : ℕ → Mentions → List TraceLine → Type 0
  At next m past = Stands names version every e next live last m past

  -- a class that a record mentions
  pub stands_class : (next c : ℕ) (m : Mentions) (past : List TraceLine) → c < names.class_count → At next m past
      → At next (record { classes = with_new m.classes c; methods = m.methods }) (behind past (flat_map (class_line names m.classes) (c ∷ [])))
  stands_class next c m past inside h = by (list_any (λ y. c == y) m.classes) refl
    where
      by : (b : Bool) → list_any (λ y. c == y) m.classes ≡ b
          → At next (record { classes = if b then m.classes else m.classes ++ c ∷ []; methods = m.methods }) (behind past ((if b then [] else line.Class (length m.classes + 1) (names.class_name c) ∷ []) ++ []))
      by true there = record { fine = h.fine; rests = h.rests; flows = h.flows; named = h.named; objects_are = h.objects_are }
      by false new =
          let n = h.named in
          let l : TraceLine = line.Class (length m.classes + 1) (names.class_name c) in
          let number : (length m.classes + 1 == classes past + 1) ≡ true = eq-eqb (length m.classes + 1) (classes past + 1) (let same = n.classes_are in omega arith) in
          let none : has_class past (names.class_name c) ≡ false = class_is_new names fit m _ _ _ _ n c inside new in
          let free : next_fault past l ≡ None = fault_free past l h.rests.1 (both (open_is every e past h.rests h.flows) number) refl refl (not_from_false (has_class past (names.class_name c)) none) in
          record {
            fine = (h.fine, (class_in_range names fit m _ _ _ _ n c inside new, fit.apart.class_texts c inside, λ is. fit.short.class_names c inside), free);
            rests = (refl, refl, refl);
            flows = h.flows;
            named = named_class names fit m _ _ _ _ n c inside new;
            objects_are = h.objects_are;
          }

  -- a method that a record mentions, whose class was mentioned before
  pub stands_method : (next k : ℕ) (m : Mentions) (past : List TraceLine) → k < names.method_count → IsIn m.classes (names.method_class k) → At next m past
      → At next (record { classes = m.classes; methods = with_new m.methods k }) (behind past (flat_map (method_line names m.classes m.methods) (k ∷ [])))
  stands_method next k m past inside owner h = by (list_any (λ y. k == y) m.methods) refl
    where
      by : (b : Bool) → list_any (λ y. k == y) m.methods ≡ b
          → At next (record { classes = m.classes; methods = if b then m.methods else m.methods ++ k ∷ [] })
          (behind past ((if b then [] else line.Method (length m.methods + 1) (number_in m.classes (names.method_class k)) (names.method_name k) (names.method_descriptor k) ∷ []) ++ []))
      by true there = record { fine = h.fine; rests = h.rests; flows = h.flows; named = h.named; objects_are = h.objects_are }
      by false new =
          let n = h.named in
          let c : ℕ = number_in m.classes (names.method_class k) in
          let l : TraceLine = line.Method (length m.methods + 1) c (names.method_name k) (names.method_descriptor k) in
          let number : (length m.methods + 1 == methods past + 1) ≡ true = eq-eqb (length m.methods + 1) (methods past + 1) (let same = n.methods_are in omega arith) in
          let known : nat_le c (classes past) ≡ true = le-leb c (classes past) (let le = number_within m.classes (names.method_class k) owner in let same = n.classes_are in omega arith) in
          let none : has_method past c (names.method_name k) (names.method_descriptor k) ≡ false = method_is_new names fit m _ _ _ _ n k inside new owner in
          let free : next_fault past l ≡ None = fault_free past l h.rests.1 (both (open_is every e past h.rests h.flows) number) known refl (not_from_false (has_method past c (names.method_name k) (names.method_descriptor k)) none) in
          record {
            fine = (h.fine, (method_in_range names fit m _ _ _ _ n k inside new owner, class_number names fit m _ _ _ _ n (names.method_class k) owner, fit.apart.method_texts k inside, fit.apart.descriptor_texts k inside, λ is. fit.short.method_names k inside, λ is. fit.short.descriptors k inside), free);
            rests = (refl, refl, refl);
            flows = h.flows;
            named = named_method names fit m _ _ _ _ n k inside new owner;
            objects_are = h.objects_are;
          }

  method_known : (next k : ℕ) (m : Mentions) (past : List TraceLine) → IsIn m.methods k → At next m past → nat_le (number_in m.methods k) (methods past) ≡ true
  method_known next k m past there h = le-leb (number_in m.methods k) (methods past) (let le = number_within m.methods k there in let same = h.named.methods_are in omega arith)

  -- THE LINE OF A RECORD, of which all is mentioned
  pub stands_alloc : (next thread c size elements : ℕ) (m : Mentions) (past : List TraceLine) → thread < 64 → next < 2 ^ 24 → 16 ≤ size → size ≤ 2 ^ 30 → elements ≤ 2 ^ 26 → e ≤ last next → IsIn m.classes c → At next m past
      → At (next + 1) m (line.Alloc e thread next (number_in m.classes c) size elements ∷ past)
  stands_alloc next thread c size elements m past few_threads few_objects least most long born there h =
      let n = h.named in
      let o = h.objects_are in
      let l : TraceLine = line.Alloc e thread next (number_in m.classes c) size elements in
      let number : (next == objects past + 1) ≡ true = eq-eqb next (objects past + 1) (sym o.made) in
      let known : nat_le (number_in m.classes c) (classes past) ≡ true = le-leb (number_in m.classes c) (classes past) (let le = number_within m.classes c there in let same = n.classes_are in omega arith) in
      let free : next_fault past l ≡ None = fault_free past l h.rests.1 (both (timely every e past h.rests h.flows) number) known refl refl in
      let some : 1 ≤ next = (let e = o.made in omega arith) in
      record {
        fine = (h.fine, (within, few_threads, (some, few_objects), class_number names fit m _ _ _ _ n c there, least, most, long), free);
        rests = (refl, refl, refl);
        flows = flows_on every e _ _ _ h.flows;
        named = h.named;
        objects_are = record {
          made = (let a = length-append (births past) (e ∷ []) in let b = o.made in omega arith);
          few = omega arith;
          unreported = o.unreported;
          none_reported = o.none_reported;
          reported_made = λ x is. (let lt = o.reported_made x is in omega arith);
          births_within = λ x some lt. elim (cases_lt x next) [
            | inl old ↦ (let place : x - 1 < length (births past) = (let a = o.made in omega arith) in
                subst (λ (y : ℕ). y ≤ last x) (sym (get_or_append_left (births past) (e ∷ []) 0 (x - 1) place)) (o.births_within x some old))
            | inr ge ↦ (let same : x ≡ next = omega arith in
                let place : x - 1 ≡ length (births past) = (let a = o.made in omega arith) in
                subst (λ (y : ℕ). slice_index (births past ++ e ∷ []) y ≤ last x) (sym place)
                (subst (λ (y : ℕ). y ≤ last x) (sym (get_or-append_seam (births past) e [] 0)) (subst (λ (y : ℕ). e ≤ last y) (sym same) born)))
          ];
        };
      }

  pub stands_update : (next thread object slot old new : ℕ) (m : Mentions) (past : List TraceLine) → thread < 64 → slot < 2 ^ 28 → IsNamed next live object → IsNamed next live old → IsNamed next live new → At next m past
      → At next m (line.Update e thread object slot old new ∷ past)
  stands_update next thread object slot old new m past few_threads few_slots a b c h =
      let o = h.objects_are in
      let l : TraceLine = line.Update e thread object slot old new in
      let known : is_known past l ≡ true = both (both (named_known next live last _ _ o object a) (named_known next live last _ _ o old b)) (named_known next live last _ _ o new c) in
      let lives : keeps_lives past l ≡ true = both (both (named_here next live last _ _ o object a) (named_here next live last _ _ o old b)) (named_here next live last _ _ o new c) in
      let free : next_fault past l ≡ None = fault_free past l h.rests.1 (timely every e past h.rests h.flows) known lives refl in
      record {
        fine = (h.fine, (within, few_threads, named_range next live last _ _ o object a, few_slots, named_range next live last _ _ o old b, named_range next live last _ _ o new c), free);
        rests = (refl, refl, refl);
        flows = flows_on every e _ _ _ h.flows;
        named = h.named;
        objects_are = h.objects_are;
      }

  pub stands_enter : (next thread k receiver : ℕ) (m : Mentions) (past : List TraceLine) → thread < 64 → IsIn m.methods k → IsNamed next live receiver → At next m past
      → At next m (line.Enter e thread (number_in m.methods k) receiver ∷ past)
  stands_enter next thread k receiver m past few_threads there a h =
      let n = h.named in
      let o = h.objects_are in
      let l : TraceLine = line.Enter e thread (number_in m.methods k) receiver in
      let method : nat_le (number_in m.methods k) (methods past) ≡ true = method_known next k m past there h in
      let free : next_fault past l ≡ None = fault_free past l h.rests.1 (timely every e past h.rests h.flows) (both method (named_known next live last _ _ o receiver a)) (named_here next live last _ _ o receiver a) refl in
      record {
        fine = (h.fine, (within, few_threads, method_number names fit m _ _ _ _ n k there, named_range next live last _ _ o receiver a), free);
        rests = (refl, refl, refl);
        flows = flows_on every e _ _ _ h.flows;
        named = h.named;
        objects_are = h.objects_are;
      }

  pub stands_exit : (next thread k : ℕ) (m : Mentions) (past : List TraceLine) → thread < 64 → IsIn m.methods k → At next m past
      → At next m (line.Exit e thread (number_in m.methods k) ∷ past)
  stands_exit next thread k m past few_threads there h =
      let n = h.named in
      let l : TraceLine = line.Exit e thread (number_in m.methods k) in
      let method : nat_le (number_in m.methods k) (methods past) ≡ true = method_known next k m past there h in
      let free : next_fault past l ≡ None = fault_free past l h.rests.1 (timely every e past h.rests h.flows) method refl refl in
      record {
        fine = (h.fine, (within, few_threads, method_number names fit m _ _ _ _ n k there), free);
        rests = (refl, refl, refl);
        flows = flows_on every e _ _ _ h.flows;
        named = h.named;
        objects_are = h.objects_are;
      }

  pub stands_unwind : (next thread k exception : ℕ) (m : Mentions) (past : List TraceLine) → thread < 64 → IsIn m.methods k → 1 ≤ exception → (exception < next) × live exception → At next m past
      → At next m (line.Unwind e thread (number_in m.methods k) exception ∷ past)
  stands_unwind next thread k exception m past few_threads there some a h =
      let n = h.named in
      let o = h.objects_are in
      let l : TraceLine = line.Unwind e thread (number_in m.methods k) exception in
      let method : nat_le (number_in m.methods k) (methods past) ≡ true = method_known next k m past there h in
      let free : next_fault past l ≡ None = fault_free past l h.rests.1 (timely every e past h.rests h.flows) (both method (named_known next live last _ _ o exception (inr a))) (named_here next live last _ _ o exception (inr a)) refl in
      record {
        fine = (h.fine, (within, few_threads, method_number names fit m _ _ _ _ n k there, (some, named_range next live last _ _ o exception (inr a))), free);
        rests = (refl, refl, refl);
        flows = flows_on every e _ _ _ h.flows;
        named = h.named;
        objects_are = h.objects_are;
      }
