-- THE ONE CLASS of some bytes or their one fault, and the same of a trace.
use Rattle.std.proofs.Common.{◌≡◌, ℕ, ◌+◌, ◌<◌, suc, inl, inr, List, [], ◌∷◌, ◌++◌, map, Result, Ok, Err, IfErr, refl, sym, ◌∙◌, ap, subst, append-nil, append_assoc, length, drop, get_or, string_bytes, add-one}
use Rattle.std.proofs.Math.Seq.{drop-cons}
use Rattle.std.specs.declared.string.String.{String}
use Rattle.std.specs.declared.alloc.Global.{Global}
use Rattle.et_io.specs.Files.{Held}
use Rattle.std.specs.Prelude.{Option, None, Some}
use Rattle.et_base.specs.Marks.{Mark, MarksAre, IsFirstBroken, IsTheOne}
use Rattle.et_asm.specs.Listings.{marks_of, assembled_bytes}
use Rattle.et_base.specs.declared.line.TraceLine.{TraceLine}
use Rattle.et_class.specs.Layout.{ClassOf}
use Rattle.et_class.specs.Classes.{IsClassFile, ShowsFirstFault, ClassIs, HasOneClass}
use Rattle.et_convert.specs.Spellings.{SpellsTrace, HasSpellingFault}
use Rattle.et_files.specs.Faults.{Fault, BadClass, BadText, BadTrace}
use Rattle.et_files.specs.Loaded.{IsClassOf, IsListingOf, IsTraceOf, AreFirstAnd, AreClassesOf, file_bytes, most_of_class, before}
use Rattle.et_files.specs.Told.{Cause, File, Reading, Memory, Other, Tells, IsCause, IsOfBytes, IsFileRefusal, cause_of}
use Rattle.et_files.specs.declared.refusal.Refusal.{Refusal}

or_class : Result ClassOf (ℕ × ℕ) → ClassOf → ClassOf
or_class (Ok c) other = c
or_class (Err f) other = other

or_fault : Result ClassOf (ℕ × ℕ) → ℕ × ℕ → ℕ × ℕ
or_fault (Ok c) other = other
or_fault (Err f) other = f

IsClass : Result ClassOf (ℕ × ℕ) → Type 0
IsClass (Ok c) = Unit {0}
IsClass (Err f) = ⊥

module _ (bytes : List ℕ) (one : HasOneClass bytes) (class : Result ClassOf Fault) where
  same : (x y : Result ClassOf (ℕ × ℕ)) → ClassIs bytes x → ClassIs bytes y → x ≡ y
  same x y hx hy = one.only x hx ∙ sym (one.only y hy)

  not_both : (c : ClassOf) (f : ℕ × ℕ) → IsClassFile bytes c → ShowsFirstFault bytes f → ⊥
  unfolding IsClass
  not_both c f is has = subst IsClass (same (Ok c) (Err f) is has) tt

  pub class_found : (c : ClassOf) → IsClassFile bytes c → IsClassOf (Ok bytes) class → class ≡ Ok c
  unfolding or_class
  class_found c is (inl (fault, has, e)) = absurd (not_both c fault is has)
  class_found c is (inr (other, was, e)) = e ∙ ap (λ x. Ok (or_class x c)) (same (Ok other) (Ok c) was is)

  pub fault_found : (f : ℕ × ℕ) → ShowsFirstFault bytes f → IsClassOf (Ok bytes) class → class ≡ Err (BadClass f.1 f.0)
  unfolding or_fault
  fault_found f has (inl (fault, had, e)) = e ∙ ap (λ x. Err (BadClass (or_fault x f).1 (or_fault x f).0)) (same (Err fault) (Err f) had has)
  fault_found f has (inr (c, is, e)) = absurd (not_both c f is has)

pub lines_found : (bytes : List ℕ) → ((a b : List TraceLine) (bs : List ℕ) → SpellsTrace a bs → SpellsTrace b bs → a ≡ b)
    → ((lines : List TraceLine) (bs : List ℕ) (kind number : ℕ) → SpellsTrace lines bs → HasSpellingFault bs kind number → ⊥)
    → (trace : Result (List TraceLine) Fault) (lines : List TraceLine) → SpellsTrace lines bytes → IsTraceOf (Ok bytes) trace → trace ≡ Ok lines
lines_found bytes one apart trace lines is (inl (kind, line, has, e)) = absurd (apart lines bytes kind line is has)
lines_found bytes one apart trace lines is (inr (other, was, e)) = e ∙ ap (λ x. Ok x) (one other lines bytes was is)

pub line_found : (bytes : List ℕ) → ((bs : List ℕ) (k n l m : ℕ) → HasSpellingFault bs k n → HasSpellingFault bs l m → (k ≡ l) × (n ≡ m))
    → ((lines : List TraceLine) (bs : List ℕ) (kind number : ℕ) → SpellsTrace lines bs → HasSpellingFault bs kind number → ⊥)
    → (trace : Result (List TraceLine) Fault) (kind line : ℕ) → HasSpellingFault bytes kind line → IsTraceOf (Ok bytes) trace → trace ≡ Err (BadTrace kind line)
line_found bytes one apart trace kind line has (inl (k, l, had, e)) =
    let same = one bytes k l kind line had has in
    e ∙ (ap (λ x. Err (BadTrace x l)) same.0 ∙ ap (λ x. Err (BadTrace kind x)) same.1)
line_found bytes one apart trace kind line has (inr (lines, is, e)) = absurd (apart lines bytes kind line is has)

-- the one answer of a list of rules
or_place : Option (ℕ × ℕ) → ℕ × ℕ → ℕ × ℕ
or_place (Some x) y = x
or_place None y = y

IsBroken : Option (ℕ × ℕ) → Type 0
IsBroken (Some x) = Unit {0}
IsBroken None = ⊥

module _ (text : List ℕ) (one : (marks : List Mark) → IsTheOne marks) (class : Result (List ℕ) Fault) where
  one_answer : (x y : Option (ℕ × ℕ)) → MarksAre (marks_of text) x → MarksAre (marks_of text) y → x ≡ y
  one_answer x y hx hy = (one (marks_of text)).only x hx ∙ sym ((one (marks_of text)).only y hy)

  not_broken : (x : ℕ × ℕ) → MarksAre (marks_of text) None → MarksAre (marks_of text) (Some x) → ⊥
  unfolding IsBroken
  not_broken x kept broken = subst IsBroken (one_answer (Some x) None broken kept) tt

  pub listing_found : (bytes : List ℕ) → MarksAre (marks_of text) None → bytes ≡ assembled_bytes text → IsListingOf (Ok text) class → class ≡ Ok bytes
  listing_found bytes kept are (inl (line, kind, first, e)) = absurd (not_broken (line, kind) kept first)
  listing_found bytes kept are (inr (kept', e)) = e ∙ ap (λ x. Ok x) (sym are)

  pub listing_fault_found : (line kind : ℕ) → IsFirstBroken (marks_of text) line kind → IsListingOf (Ok text) class → class ≡ Err (BadText kind line)
  unfolding or_place
  listing_fault_found line kind first (inl (l, k, other, e)) =
      let same = one_answer (Some (l, k)) (Some (line, kind)) other first in
      e ∙ ap (λ x. Err (BadText (or_place x (line, kind)).1 (or_place x (line, kind)).0)) same
  listing_fault_found line kind first (inr (kept, e)) = absurd (not_broken (line, kind) kept first)

-- what is told where no read can fail is told where one can
cause_more : {A : Type 0} (read : Type 0) (found : Result A Fault) (cause : Cause) → IsCause ⊥ found cause → IsCause read found cause
cause_more read found (File fault) h = h
cause_more read found Reading h = absurd h
cause_more read found Memory h = tt
cause_more read found Other h = absurd h

pub tells_more : {A B : Type 0} (read : Type 0) (view : A → B) (found : Result B Fault) (r : Result A Refusal) → Tells ⊥ view found r → Tells read view found r
tells_more read view found (Ok a) h = h
tells_more read view found (Err r) h = cause_more read found (cause_of r) h

-- a file that was not read has no class and no trace
pub class_not_read : (read : Type 0) (file : Result (List ℕ) Fault) (cause : Cause) (class : Result ClassOf Fault) → IsCause read file cause → IsClassOf file class → IsCause read class cause
class_not_read read file (File fault) class e is = subst (λ f. IsClassOf f class) e is
class_not_read read file Reading class h is = h
class_not_read read file Memory class h is = tt
class_not_read read file Other class h is = absurd h

pub listing_not_read : (read : Type 0) (file : Result (List ℕ) Fault) (cause : Cause) (class : Result (List ℕ) Fault) → IsCause read file cause → IsListingOf file class → IsCause read class cause
listing_not_read read file (File fault) class e is = subst (λ f. IsListingOf f class) e is
listing_not_read read file Reading class h is = h
listing_not_read read file Memory class h is = tt
listing_not_read read file Other class h is = absurd h

pub trace_not_read : (read : Type 0) (file : Result (List ℕ) Fault) (cause : Cause) (trace : Result (List TraceLine) Fault) → IsCause read file cause → IsTraceOf file trace → IsCause read trace cause
trace_not_read read file (File fault) trace e is = subst (λ f. IsTraceOf f trace) e is
trace_not_read read file Reading trace h is = h
trace_not_read read file Memory trace h is = tt
trace_not_read read file Other trace h is = absurd h

-- what speaks of bytes speaks of a file
pub of_file : (cause : Cause) → IsOfBytes cause → IsFileRefusal cause
of_file (File fault) of = tt
of_file Reading of = tt
of_file Memory of = tt
of_file Other of = absurd of

pub file_refusal : {A : Type 0} (r : Result A Refusal) → IfErr r (λ refusal. IsOfBytes (cause_of refusal)) → IfErr r (λ refusal. IsFileRefusal (cause_of refusal))
file_refusal (Ok a) h = tt
file_refusal (Err r) h = of_file (cause_of r) h

-- CLASSES ONE AFTER ANOTHER

-- classes behind those that were read
abbrev pub behind : List ClassOf → Result (List ClassOf) Fault → Result (List ClassOf) Fault
behind some (Ok more) = Ok (some ++ more)
behind some (Err fault) = Err fault

pub behind_before : (some : List ClassOf) (c : ClassOf) (rest : Result (List ClassOf) Fault) → behind some (before c rest) ≡ behind (some ++ c ∷ []) rest
behind_before some c (Ok more) = ap (λ xs. Ok xs) (sym (append_assoc some (c ∷ []) more))
behind_before some c (Err fault) = refl

-- the files from here on have these classes behind those that were read
pub record AreBehind (some : List ClassOf) (files : List (Option (List ℕ))) (classes : Result (List ClassOf) Fault) : Type 0 where
  pub rest : Result (List ClassOf) Fault
  pub are : AreClassesOf files rest
  pub parts : classes ≡ behind some rest

pub begin_behind : (files : List (Option (List ℕ))) (classes : Result (List ClassOf) Fault) → AreClassesOf files classes → AreBehind [] files classes
begin_behind files classes are = record { rest = classes; are = are; parts = none classes }
  where
    none : (classes : Result (List ClassOf) Fault) → classes ≡ behind [] classes
    none (Ok cs) = refl
    none (Err fault) = refl

pub end_behind : (some : List ClassOf) (classes : Result (List ClassOf) Fault) → AreBehind some [] classes → classes ≡ Ok some
end_behind some classes b = b.parts ∙ (ap (behind some) b.are ∙ ap (λ xs. Ok xs) (append-nil some))

-- one more class
pub next_behind : (some : List ClassOf) (file : Option (List ℕ)) (files : List (Option (List ℕ))) (classes : Result (List ClassOf) Fault) (c : ClassOf) → AreBehind some (file ∷ files) classes
    → ((class : Result ClassOf Fault) → IsClassOf (file_bytes most_of_class file) class → class ≡ Ok c) → AreBehind (some ++ c ∷ []) files classes
next_behind some file files classes c b found = by b.are.0 (found b.are.0 b.are.1) b.are.2
  where
    by : (first : Result ClassOf Fault) → first ≡ Ok c → AreFirstAnd first (AreClassesOf files) b.rest → AreBehind (some ++ c ∷ []) files classes
    by (Ok d) e (rest, are, is) = record {
      rest = rest;
      are = are;
      parts = b.parts ∙ (ap (behind some) is ∙ (behind_before some d rest ∙ ap (λ (x : Result ClassOf Fault). behind (some ++ or x d ∷ []) rest) e));
    }
      where
        or : Result ClassOf Fault → ClassOf → ClassOf
        or (Ok x) y = x
        or (Err f) y = y
    by (Err f) e h = cc

-- the class that comes next has a cause to be refused, and so have all
pub behind_refused : (read : Type 0) (some : List ClassOf) (file : Option (List ℕ)) (files : List (Option (List ℕ))) (classes : Result (List ClassOf) Fault) (cause : Cause) → AreBehind some (file ∷ files) classes
    → ((class : Result ClassOf Fault) → IsClassOf (file_bytes most_of_class file) class → IsCause read class cause) → IsCause read classes cause
behind_refused read some file files classes (File fault) b found = by b.are.0 (found b.are.0 b.are.1) b.are.2
  where
    by : (first : Result ClassOf Fault) → first ≡ Err fault → AreFirstAnd first (AreClassesOf files) b.rest → classes ≡ Err fault
    by (Ok d) e h = cc
    by (Err f) e is = b.parts ∙ (ap (behind some) is ∙ cc)
behind_refused read some file files classes Reading b found = found b.are.0 b.are.1
behind_refused read some file files classes Memory b found = tt
behind_refused read some file files classes Other b found = absurd (found b.are.0 b.are.1)

-- THE NEXT FILE

pub next_path : (held : Held) (paths : List (String Global)) (i : ℕ) (item d : String Global) (path : List ℕ) → i < length paths → item ≡ get_or paths i d → path ≡ string_bytes item
    → map held (map string_bytes (drop i paths)) ≡ held path ∷ map held (map string_bytes (drop (i + 1) paths))
next_path held paths i item d path lt is value =
    rw add-one (ap (λ xs. map held (map string_bytes xs)) (drop-cons paths i d lt)
    ∙ ap (λ p. held p ∷ map held (map string_bytes (drop (suc i) paths))) (sym (value ∙ ap string_bytes is)))
