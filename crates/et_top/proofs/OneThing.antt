-- EXACTLY ONE THING is defined by the words and the files.
use Rattle.std.proofs.Common.{◌≡◌, ℕ, ◌<◌, inl, inr, List, [], ◌∷◌, length, map, Option, Some, None, Result, Ok, Err, refl, sym, subst, arith}
use Rattle.std.proofs.lemmas.List.{length-map}
use Rattle.et_base.specs.Marks.{Mark, MarksAre, IsTheOne}
use Rattle.et_base.specs.declared.line.TraceLine.{TraceLine}
use Rattle.et_asm.specs.Listings.{marks_of, assembled_bytes}
use Rattle.et_class.specs.Layout.{ClassOf}
use Rattle.et_class.specs.Classes.{ClassIs, HasOneClass}
use Rattle.et_io.specs.Files.{Held}
use Rattle.et_program.specs.Entries.{Linked}
use Rattle.et_program.specs.Loaded.{LoadedClass, loaded_class}
use Rattle.et_program.specs.declared.fault.LinkFaultKind.{LinkFaultKind}
use Rattle.et_link.specs.Refusals.{LinkIs, RefusesLink}
use Rattle.et_link.specs.declared.fault.LinkFault.TheVariants as link
use Rattle.et_convert.specs.Spellings.{SpellsTrace, HasSpellingFault, HasSpellingAnswer, IsSpelledTrace, IsRefusedTrace}
use Rattle.et_replay.specs.declared.model.Kind.{Kind}
use Rattle.et_command.specs.Command.{Asked, Trace, Run, Assemble, Verify, Replay, Convert, Curve, Bench, command, Snapshot}
use Rattle.et_files.specs.Faults.{Fault, BadClass, BadText, BadTrace, LinkFault}
use Rattle.et_files.specs.Loaded.{file_bytes, before, most_of_class, most_of_trace, IsClassOf, IsListingOf, IsTraceOf, AreFirstAnd, AreClassesOf, IsLinkedOf, IsProgramOfFiles, IsListingProgram, class_alone}
use Rattle.et_bench.specs.Listing.{bench_listing}
use Rattle.et_top.specs.Top.{Usage, IsAskedDefined, IsDefined, traces, prints, verifies, benches}
use Rattle.et_files.proofs.Found.{class_found, fault_found, lines_found, line_found, listing_found, listing_fault_found}
use Rattle.et_files.proofs.LinkLemmas.{linked_found, link_fault_found}
use Rattle.et_command.proofs.PathLemmas.{HasPaths, paths_of_trace, paths_of_run, paths_of_verify, command_has}

-- exactly one
abbrev One : {A : Type 0} → (A → Type 0) → Type 0
One {A} P = (x : A) × P x × ((y : A) → P y → y ≡ x)

the_one : {A : Type 0} (x : A) → One (λ y. y ≡ x)
the_one x = (x, refl, λ y is. is)

-- what the one thing decides is one
decided : {A B : Type 0} (P : A → Type 0) (Q : A → B → Type 0) → One P → ((a : A) → P a → One (Q a)) → One (λ (b : B). (a : A) × P a × Q a b)
decided P Q one each =
    let b = each one.0 one.1 in
    (b.0, (one.0, one.1, b.1), λ y h. b.2 y (subst (λ x. Q x y) (one.2 h.0 h.1) h.2))

-- A FILE

module _ (class_is_one : (bytes : List ℕ) → HasOneClass bytes) where
  class_by : (bytes : List ℕ) (found : Result ClassOf (ℕ × ℕ)) → ClassIs bytes found → One (IsClassOf (Ok bytes))
  class_by bytes (Ok c) is = (Ok c, inr (c, is, refl), λ y h. class_found bytes (class_is_one bytes) y c is h)
  class_by bytes (Err f) has = (Err (BadClass f.1 f.0), inl (f, has, refl), λ y h. fault_found bytes (class_is_one bytes) y f has h)

  one_class : (file : Result (List ℕ) Fault) → One (IsClassOf file)
  one_class (Err fault) = the_one (Err fault)
  one_class (Ok bytes) = class_by bytes (class_is_one bytes).answer (class_is_one bytes).holds

  -- CLASSES ONE AFTER ANOTHER

  one_first_and : (first : Result ClassOf Fault) (Others : Result (List ClassOf) Fault → Type 0) → One Others → One (AreFirstAnd first Others)
  one_first_and (Err fault) Others one = the_one (Err fault)
  one_first_and (Ok c) Others one = decided Others (λ rest classes. classes ≡ before c rest) one (λ rest is. the_one (before c rest))

  one_classes : (files : List (Option (List ℕ))) → One (AreClassesOf files)
  one_classes [] = the_one (Ok [])
  one_classes (file ∷ files) =
      decided (IsClassOf (file_bytes most_of_class file)) (λ first. AreFirstAnd first (AreClassesOf files)) (one_class (file_bytes most_of_class file))
      (λ first is. one_first_and first (AreClassesOf files) (one_classes files))

module _ (marks_are_one : (marks : List Mark) → IsTheOne marks) where
  listing_by : (text : List ℕ) (found : Option (ℕ × ℕ)) → MarksAre (marks_of text) found → One (IsListingOf (Ok text))
  listing_by text None kept = (Ok (assembled_bytes text), inr (kept, refl), λ y h. listing_found text marks_are_one y (assembled_bytes text) kept refl h)
  listing_by text (Some x) first = (Err (BadText x.1 x.0), inl (x.0, x.1, first, refl), λ y h. listing_fault_found text marks_are_one y x.0 x.1 first h)

  one_listing : (file : Result (List ℕ) Fault) → One (IsListingOf file)
  one_listing (Err fault) = the_one (Err fault)
  one_listing (Ok text) = listing_by text (marks_are_one (marks_of text)).answer (marks_are_one (marks_of text)).holds

module _ (some_answer : (bytes : List ℕ) → HasSpellingAnswer bytes)
    (no_fault : (lines : List TraceLine) (bytes : List ℕ) (kind number : ℕ) → SpellsTrace lines bytes → HasSpellingFault bytes kind number → ⊥)
    (one_list : (a b : List TraceLine) (bytes : List ℕ) → SpellsTrace a bytes → SpellsTrace b bytes → a ≡ b)
    (one_fault : (bytes : List ℕ) (k n l m : ℕ) → HasSpellingFault bytes k n → HasSpellingFault bytes l m → (k ≡ l) × (n ≡ m)) where
  trace_by : (bytes : List ℕ) → HasSpellingAnswer bytes → One (IsTraceOf (Ok bytes))
  trace_by bytes (IsSpelledTrace lines is) = (Ok lines, inr (lines, is, refl), λ y h. lines_found bytes one_list no_fault y lines is h)
  trace_by bytes (IsRefusedTrace kind line has) = (Err (BadTrace kind line), inl (kind, line, has, refl), λ y h. line_found bytes one_fault no_fault y kind line has h)

  one_trace : (file : Result (List ℕ) Fault) → One (IsTraceOf file)
  one_trace (Err fault) = the_one (Err fault)
  one_trace (Ok bytes) = trace_by bytes (some_answer bytes)

-- THE PROGRAM

-- there is a class, or a fault
abbrev HasClasses : Result (List ClassOf) Fault → Type 0
HasClasses (Ok classes) = 0 < length classes
HasClasses (Err fault) = Unit {0}

before_some : (c : ClassOf) (rest : Result (List ClassOf) Fault) → HasClasses (before c rest)
before_some c (Ok classes) = let some : 0 < length (c ∷ classes) = omega arith in some
before_some c (Err fault) = tt

first_some : (first : Result ClassOf Fault) (Others : Result (List ClassOf) Fault → Type 0) (classes : Result (List ClassOf) Fault) → AreFirstAnd first Others classes → HasClasses classes
first_some (Err fault) Others classes is = subst HasClasses (sym is) tt
first_some (Ok c) Others classes are = subst HasClasses (sym are.2) (before_some c are.0)

-- one file or more are one class or more
files_some : (files : List (Option (List ℕ))) (classes : Result (List ClassOf) Fault) → 0 < length files → AreClassesOf files classes → HasClasses classes
files_some [] classes some are = absurd (omega arith)
files_some (file ∷ files) classes some are = first_some are.0 (AreClassesOf files) classes are.2

module _ (link_is_some : (files : List LoadedClass) → 0 < length files → (answer : Result Linked (LinkFaultKind × ℕ)) × LinkIs files answer)
    (link_is_one : (files : List LoadedClass) (answer other : Result Linked (LinkFaultKind × ℕ)) → LinkIs files answer → LinkIs files other → answer ≡ other) where
  linked_by : (classes : List ClassOf) (found : Result Linked (LinkFaultKind × ℕ)) → LinkIs (map loaded_class classes) found → One (IsLinkedOf (Ok classes))
  linked_by classes (Ok p) is = (Ok p, inr (is.0, (p, is.1, refl)), λ y h. linked_found classes (link_is_one (map loaded_class classes)) y p is.0 is.1 h)
  linked_by classes (Err f) at =
      let shows : (name : List ℕ) × RefusesLink (map loaded_class classes) (link.At f.0 name) = (_, (f.1, at, refl)) in
      (Err (LinkFault f.0 shows.0), inl (f.0, (shows.0, shows.1, refl)), λ y h. link_fault_found classes (link_is_one (map loaded_class classes)) y f.0 shows.0 shows.1 h)

  one_linked : (classes : Result (List ClassOf) Fault) → HasClasses classes → One (IsLinkedOf classes)
  one_linked (Err fault) some = the_one (Err fault)
  one_linked (Ok classes) some =
      let many : 0 < length (map loaded_class classes) = subst (λ n. 0 < n) (sym (length-map classes loaded_class)) some in
      let found = link_is_some (map loaded_class classes) many in
      linked_by classes found.0 found.1

-- WHAT IS DEFINED

module _ (class_is_one : (bytes : List ℕ) → HasOneClass bytes)
    (marks_are_one : (marks : List Mark) → IsTheOne marks)
    (some_answer : (bytes : List ℕ) → HasSpellingAnswer bytes)
    (no_fault : (lines : List TraceLine) (bytes : List ℕ) (kind number : ℕ) → SpellsTrace lines bytes → HasSpellingFault bytes kind number → ⊥)
    (one_list : (a b : List TraceLine) (bytes : List ℕ) → SpellsTrace a bytes → SpellsTrace b bytes → a ≡ b)
    (one_fault : (bytes : List ℕ) (k n l m : ℕ) → HasSpellingFault bytes k n → HasSpellingFault bytes l m → (k ≡ l) × (n ≡ m))
    (link_is_some : (files : List LoadedClass) → 0 < length files → (answer : Result Linked (LinkFaultKind × ℕ)) × LinkIs files answer)
    (link_is_one : (files : List LoadedClass) (answer other : Result Linked (LinkFaultKind × ℕ)) → LinkIs files answer → LinkIs files other → answer ≡ other) where
  one_program : (files : List (Option (List ℕ))) → 0 < length files → One (IsProgramOfFiles files)
  one_program files some =
      decided (AreClassesOf files) IsLinkedOf (one_classes class_is_one files) (λ classes are. one_linked link_is_some link_is_one classes (files_some files classes some are))

  alone_some : (class : Result ClassOf Fault) → HasClasses (class_alone class)
  alone_some (Ok c) = let some : 0 < length (c ∷ []) = omega arith in some
  alone_some (Err fault) = tt

  -- the class of a listing, and its program alone
  one_alone : (bytes : Result (List ℕ) Fault) → One (λ (program : Result Linked Fault). (class : Result ClassOf Fault) × IsClassOf bytes class × IsLinkedOf (class_alone class) program)
  one_alone bytes = decided (IsClassOf bytes) (λ class program. IsLinkedOf (class_alone class) program) (one_class class_is_one bytes) (λ class is. one_linked link_is_some link_is_one (class_alone class) (alone_some class))

  one_of_listing : (listing : List ℕ) → One (IsListingProgram listing)
  one_of_listing listing =
      let one = decided (IsListingOf (Ok listing)) (λ bytes (program : Result Linked Fault). (class : Result ClassOf Fault) × IsClassOf bytes class × IsLinkedOf (class_alone class) program) (one_listing marks_are_one (Ok listing)) (λ bytes is. one_alone bytes) in
      let h = one.1 in
      (one.0, (h.0, h.2.0, h.1, h.2.1, h.2.2), λ y g. one.2 y (g.0, g.2, (g.1, g.3, g.4)))

  trace_of_file : (file : Result (List ℕ) Fault) → One (IsTraceOf file)
  trace_of_file = one_trace some_answer no_fault one_list one_fault

  one_asked : (kinds : List Kind) (o : Option Asked) (held : Held) → HasPaths o → One (IsAskedDefined kinds o held)
  one_asked kinds None held has = the_one Usage
  one_asked kinds (Some (Trace options paths)) held has =
      let some : 0 < length (map held paths) = subst (λ n. 0 < n) (sym (length-map paths held)) (paths_of_trace options paths has) in
      decided (IsProgramOfFiles (map held paths)) (λ program d. d ≡ traces options program) (one_program (map held paths) some) (λ program is. the_one (traces options program))
  one_asked kinds (Some (Run options paths)) held has =
      let some : 0 < length (map held paths) = subst (λ n. 0 < n) (sym (length-map paths held)) (paths_of_run options paths has) in
      decided (IsProgramOfFiles (map held paths)) (λ program d. d ≡ prints options program) (one_program (map held paths) some) (λ program is. the_one (prints options program))
  one_asked kinds (Some (Assemble path)) held has = decided (IsListingOf (file_bytes most_of_class (held path))) _ (one_listing marks_are_one (file_bytes most_of_class (held path))) (λ class is. the_one _)
  one_asked kinds (Some (Verify paths)) held has =
      let some : 0 < length (map held paths) = subst (λ n. 0 < n) (sym (length-map paths held)) (paths_of_verify paths has) in
      decided (IsProgramOfFiles (map held paths)) (λ program d. d ≡ verifies program) (one_program (map held paths) some) (λ program is. the_one (verifies program))
  one_asked kinds (Some (Replay models path)) held has = decided (IsTraceOf (file_bytes most_of_trace (held path))) _ (trace_of_file (file_bytes most_of_trace (held path))) (λ trace is. the_one _)
  one_asked kinds (Some (Convert path)) held has = decided (IsTraceOf (file_bytes most_of_trace (held path))) _ (trace_of_file (file_bytes most_of_trace (held path))) (λ trace is. the_one _)
  one_asked kinds (Some (Curve path)) held has = decided (IsTraceOf (file_bytes most_of_trace (held path))) _ (trace_of_file (file_bytes most_of_trace (held path))) (λ trace is. the_one _)
  one_asked kinds (Some (Snapshot path event)) held has = decided (IsTraceOf (file_bytes most_of_trace (held path))) _ (trace_of_file (file_bytes most_of_trace (held path))) (λ trace is. the_one _)
  one_asked kinds (Some (Bench number)) held has = decided (IsListingProgram (bench_listing number 50000 40000)) _ (one_of_listing (bench_listing number 50000 40000)) (λ program is. the_one (benches program))

  pub one_thing : (kinds : List Kind) (words : List (List ℕ)) (held : Held) → One (IsDefined kinds words held)
  one_thing kinds words held = one_asked kinds (command words) held (command_has words)
