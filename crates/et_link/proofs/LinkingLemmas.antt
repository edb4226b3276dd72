-- From what the files declare to the program.
use Rattle.std.proofs.Common.{◌≡◌, ℕ, ◌+◌, ◌<◌, ◌≤◌, ◌^◌, Bool, false, cond, List, [], ◌∷◌, ◌++◌, length, Option, None, Some, refl, sym, ◌∙◌, ap, subst, arith}
use mathlib.Core.Path.{fun_ext}
use Rattle.std.specs.Prelude.{All, sum_by, count_by, unwrap_or}
use Rattle.std.specs.List.{slice_index_or}
use Rattle.std.proofs.lemmas.List.{length-map}
use Rattle.std.proofs.lemmas.List.Elements.{All-head, All-tail}
use Rattle.std.proofs.lemmas.List.Sums.{sum_by-cons}
use Rattle.et_pool.specs.Entries.{Constants}
use Rattle.et_program.specs.Loaded.{LoadedClass}
use Rattle.et_hierarchy.specs.Outline.{Outline, outline_at, class_place}
use Rattle.et_hierarchy.specs.Links.{LinkEntry, links, links_of, HasLinksWithin, IsAncestor}
use Rattle.et_hierarchy.specs.Faults.{IsLinkFault, IsFaultless, kind_number}
use Rattle.et_hierarchy.specs.declared.fault.FaultKind.{FaultKind}
use Rattle.et_hierarchy.specs.declared.fault.FaultKind.TheVariants as set
use Rattle.et_hierarchy.specs.Ancestry.{Ancestry, ancestry_at, IsAncestry, IsBelow}
use Rattle.et_hierarchy.specs.Initialization.{class_order}
use Rattle.et_hierarchy.proofs.LinkLemmas.{are_within}
use Rattle.et_program.specs.declared.info.MethodInfo.{MethodInfo}
use Rattle.et_program.specs.declared.info.FieldInfo.{FieldInfo}
use Rattle.et_program.specs.Entries.{ClassEntry, Linked}
use Rattle.et_program.specs.Tables.{IsTabled}
use Rattle.et_program.specs.declared.fault.LinkFaultKind.{LinkFaultKind}
use Rattle.et_program.specs.declared.fault.LinkFaultKind.TheVariants.{Duplicate, NoSuper, Cycle, FinalSuper, CrossPackage, NoMain, TooMany}
use Rattle.et_link.specs.declared.fault.LinkFault.{LinkFault}
use Rattle.et_link.specs.declared.fault.LinkFault.TheVariants as fault
use Rattle.et_program.specs.Files.{boots, set_of, file_flags}
use Rattle.et_program.specs.MembersOf.{numbered, methods_of, fields_of}
use Rattle.et_program.specs.Slots.{own_slots, slots_above, field_slots, placed_behind, slot_of_field, places_from, is_static_field, is_instance_of}
use Rattle.et_program.specs.Heads.{has_to_run, initializer_of, constants_of}
use Rattle.et_program.specs.ArrayTypes.{arrays_met, array_names, array_at}
use Rattle.et_program.specs.Classes.{Heads, set_class, array_class}
use Rattle.et_link.specs.Crossing.{crosses, AnswersLeast}
use Rattle.et_link.specs.Declaring.{AreRows}
use Rattle.et_program.specs.ProgramOf.{heads_of, class_names_of, classes_by, main_of, is_of_file, program_with}
use Rattle.et_program.specs.LinkFaults.{link_number, IsLinkFree, IsFaultAt, IsLinkable}
use Rattle.et_link.specs.Refusals.{NamesFault, link_kind, RefusesSet, IsLate, linked_by, RefusesLink}
use Rattle.et_link.proofs.CrossLemmas.{no_crossing, first_crosses, none_crosses_before}
use Rattle.et_link.proofs.TabledLemmas.{length-set, methods_within, fields_within, length-classes, tabled}

-- FAULTS

free_below : (files : List LoadedClass) (kind : FaultKind) (k : ℕ) → IsLinkFault (set_of files) kind k → (other : LinkFaultKind) → link_number other < kind_number kind → IsLinkFree files other
free_below files kind k h Duplicate lt = h.least set.Duplicate lt
free_below files kind k h NoSuper lt = h.least set.NoSuper lt
free_below files kind k h Cycle lt = h.least set.Cycle lt
free_below files kind k h FinalSuper lt = h.least set.FinalSuper lt
free_below files kind k h CrossPackage lt = absurd (high kind lt)
  where
    high : (x : FaultKind) → 5 < kind_number x → ⊥
    high set.Duplicate l = omega arith
    high set.NoSuper l = omega arith
    high set.Cycle l = omega arith
    high set.FinalSuper l = omega arith
free_below files kind k h NoMain lt = absurd (high kind lt)
  where
    high : (x : FaultKind) → 6 < kind_number x → ⊥
    high set.Duplicate l = omega arith
    high set.NoSuper l = omega arith
    high set.Cycle l = omega arith
    high set.FinalSuper l = omega arith
free_below files kind k h TooMany lt = absurd (high kind lt)
  where
    high : (x : FaultKind) → 7 < kind_number x → ⊥
    high set.Duplicate l = omega arith
    high set.NoSuper l = omega arith
    high set.Cycle l = omega arith
    high set.FinalSuper l = omega arith

pub set_fault : (files : List LoadedClass) (kind : FaultKind) (k : ℕ) → IsLinkFault (set_of files) kind k → IsFaultAt files (link_kind kind) k
set_fault files set.Duplicate k h = record { inside = h.found.inside; shows = h.found.shows; first = h.found.first; least = free_below files set.Duplicate k h }
set_fault files set.NoSuper k h = record { inside = h.found.inside; shows = h.found.shows; first = h.found.first; least = free_below files set.NoSuper k h }
set_fault files set.Cycle k h = record { inside = h.found.inside; shows = h.found.shows; first = h.found.first; least = free_below files set.Cycle k h }
set_fault files set.FinalSuper k h = record { inside = h.found.inside; shows = h.found.shows; first = h.found.first; least = free_below files set.FinalSuper k h }

pub set_refused : (files : List LoadedClass) (set : List Outline) (e : LinkFault) → set ≡ set_of files → RefusesSet set e → RefusesLink files e
set_refused files set (fault.At kind name) is (sort, (k, h, e, n)) = (
  k,
  subst (λ (x : LinkFaultKind). IsFaultAt files x k) (sym e) (set_fault files sort k (subst (λ (s : List Outline). IsLinkFault s sort k) is h)),
  n ∙ ap (λ (s : List Outline). (outline_at s k).name) is,
)
set_refused files set fault.NoMemory is h = tt

-- what is free of the faults of names
early : (files : List LoadedClass) → IsFaultless (set_of files) → (other : LinkFaultKind) → link_number other < 5 → IsLinkFree files other
early files h Duplicate lt = h set.Duplicate
early files h NoSuper lt = h set.NoSuper
early files h Cycle lt = h set.Cycle
early files h FinalSuper lt = h set.FinalSuper
early files h CrossPackage lt = absurd (omega arith)
early files h NoMain lt = absurd (omega arith)
early files h TooMany lt = absurd (omega arith)

module _ (files : List LoadedClass) (rows : List Ancestry) (ancestry : IsAncestry (links (set_of files)) rows) (faultless : IsFaultless (set_of files)) where
  size : length (links (set_of files)) ≡ length (set_of files)
  size = length-map (set_of files) (links_of (set_of files))

  inner : HasLinksWithin (length (links (set_of files))) (links (set_of files))
  inner = subst (λ n. HasLinksWithin n (links (set_of files))) (sym size) (are_within (set_of files))

  own : All (λ (m : MethodInfo). m.class < length (links (set_of files))) (methods_of files)
  own = subst (λ n. All (λ (m : MethodInfo). m.class < n) (methods_of files)) (sym size) (methods_within files)

  Least : Option ℕ → Type 0
  Least o = AnswersLeast (crosses (set_of files) rows (methods_of files)) (methods_of files) (length (methods_of files)) o

  none_crosses : AnswersLeast (crosses (set_of files) rows (methods_of files)) (methods_of files) (length (methods_of files)) None → IsLinkFree files CrossPackage
  none_crosses h k lt c = no_crossing (set_of files) rows (methods_of files) ancestry inner own h k c

  before_main : AnswersLeast (crosses (set_of files) rows (methods_of files)) (methods_of files) (length (methods_of files)) None → (other : LinkFaultKind) → link_number other < 6 → IsLinkFree files other
  before_main h Duplicate lt = faultless set.Duplicate
  before_main h NoSuper lt = faultless set.NoSuper
  before_main h Cycle lt = faultless set.Cycle
  before_main h FinalSuper lt = faultless set.FinalSuper
  before_main h CrossPackage lt = none_crosses h
  before_main h NoMain lt = absurd (omega arith)
  before_main h TooMany lt = absurd (omega arith)

  has_main : (m : ℕ) → main_of (methods_of files) ≡ Some m → IsLinkFree files NoMain
  has_main m e k lt (at, none) = let z : None ≡ Some m = sym none ∙ e in absurd (cc)

  pub late_fault : (kind : LinkFaultKind) (k : ℕ) → 0 < length files → IsLate (set_of files) rows (methods_of files) (length files) kind k → k < length (set_of files) → IsFaultAt files kind k
  late_fault Duplicate k some h lt = absurd h
  late_fault NoSuper k some h lt = absurd h
  late_fault Cycle k some h lt = absurd h
  late_fault FinalSuper k some h lt = absurd h
  late_fault CrossPackage k some h lt = record {
    inside = lt;
    shows = first_crosses (set_of files) rows (methods_of files) ancestry inner own k h;
    first = none_crosses_before (set_of files) rows (methods_of files) ancestry inner own k h;
    least = early files faultless;
  }
  late_fault NoMain k some (none, no_main, at) lt = record {
    inside = lt;
    shows = (at, no_main);
    first = λ j below shown. (let e : j ≡ length boots = shown.0 in omega arith);
    least = before_main none;
  }
  late_fault TooMany k some (none, main, many, at) lt = record {
    inside = lt;
    shows = at;
    first = λ j below e. omega arith;
    least = before_many;
  }
    where
      before_many : (other : LinkFaultKind) → link_number other < 7 → IsLinkFree files other
      before_many Duplicate l = faultless set.Duplicate
      before_many NoSuper l = faultless set.NoSuper
      before_many Cycle l = faultless set.Cycle
      before_many FinalSuper l = faultless set.FinalSuper
      before_many CrossPackage l = none_crosses none
      before_many NoMain l = has_main main.0 main.1
      before_many TooMany l = absurd (omega arith)

  crossing_inside : (k : ℕ) → AnswersLeast (crosses (set_of files) rows (methods_of files)) (methods_of files) (length (methods_of files)) (Some k) → k < length (set_of files)
  crossing_inside k h = subst (λ (x : ℕ). x < length (set_of files)) h.of_class (methods_within files h.at _ h.within)

  pub late_inside : (kind : LinkFaultKind) (k : ℕ) → 0 < length files → IsLate (set_of files) rows (methods_of files) (length files) kind k → k < length (set_of files)
  late_inside Duplicate k some h = absurd h
  late_inside NoSuper k some h = absurd h
  late_inside Cycle k some h = absurd h
  late_inside FinalSuper k some h = absurd h
  late_inside CrossPackage k some h = crossing_inside k h
  late_inside NoMain k some (none, no_main, at) = let n = length-set files in omega arith
  late_inside TooMany k some (none, main, many, at) = let n = length-set files in omega arith

  pub late_refused : (kind : LinkFaultKind) (k : ℕ) (set' : List Outline) (e : LinkFault) → 0 < length files → IsLate (set_of files) rows (methods_of files) (length files) kind k → set' ≡ set_of files → NamesFault set' kind k e → RefusesLink files e
  late_refused kind k set' (fault.At other name) some h is (same, named) = (
    k,
    subst (λ (x : LinkFaultKind). IsFaultAt files x k) (sym same) (late_fault kind k some h (late_inside kind k some h)),
    named ∙ ap (λ (s : List Outline). (outline_at s k).name) is,
  )
  late_refused kind k set' fault.NoMemory some h is named = tt

  pub linkable : (m : ℕ) → AnswersLeast (crosses (set_of files) rows (methods_of files)) (methods_of files) (length (methods_of files)) None → main_of (methods_of files) ≡ Some m → length files ≤ 4096 → IsLinkable files
  linkable m none main few Duplicate = faultless set.Duplicate
  linkable m none main few NoSuper = faultless set.NoSuper
  linkable m none main few Cycle = faultless set.Cycle
  linkable m none main few FinalSuper = faultless set.FinalSuper
  linkable m none main few CrossPackage = none_crosses none
  linkable m none main few NoMain = has_main m main
  linkable m none main few TooMany = λ k lt e. (let n = length-set files in omega arith)

-- WHAT IS KNOWN

sum_by_same : (f g : ℕ → ℕ) (n : ℕ) (xs : List ℕ) → ((j : ℕ) → j < n → f j ≡ g j) → All (λ j. j < n) xs → sum_by f xs ≡ sum_by g xs
sum_by_same f g n [] h all = refl
sum_by_same f g n (x ∷ xs) h all =
    let e : f x ≡ g x = h x (All-head (λ j. j < n) x xs all) in
    let r : sum_by f xs ≡ sum_by g xs = sum_by_same f g n xs h (All-tail (λ j. j < n) x xs all) in
    sum_by-cons f x xs ∙ (ap (λ a. a + sum_by f xs) e ∙ (ap (λ b. g x + b) r ∙ sym (sum_by-cons g x xs)))

pub rows_below : (n : ℕ) (own own' : List ℕ) (r r' : List Ancestry) → own' ≡ own → length own ≡ n → r' ≡ r → length r ≡ n → ((k : ℕ) → k < n → IsBelow n (ancestry_at r k)) → (k : ℕ) → k < length r' → IsBelow (length own') (ancestry_at r' k)
rows_below n own own' r r' e l f m h k lt =
    let a : length own' ≡ n = ap length e ∙ l in
    let b : length r' ≡ n = ap length f ∙ m in
    let below : k < n = omega arith in
    subst (λ x. IsBelow x (ancestry_at r' k)) (sym a) (subst (λ (x : List Ancestry). IsBelow n (ancestry_at x k)) (sym f) (h k below))

pub above_known : (fields : List FieldInfo) (n : ℕ) (own own' : List ℕ) (r r' : List Ancestry) → own' ≡ own → r' ≡ r → length r ≡ n → ((k : ℕ) → k < n → IsBelow n (ancestry_at r k)) → ((j : ℕ) → j < n → slice_index_or own j 0 ≡ own_slots fields j)
    → (above : List ℕ) → ((k : ℕ) → k < length r' → slice_index_or above k 0 ≡ sum_by (λ j. slice_index_or own' j 0) (ancestry_at r' k).supers) → (k : ℕ) → k < n → slice_index_or above k 0 ≡ slots_above fields r k
above_known fields n own own' r r' e f m below known above sums k lt =
    let b : length r' ≡ n = ap length f ∙ m in
    let inside : k < length r' = omega arith in
    sums k inside
    ∙ (ap (λ (x : List ℕ). sum_by (λ j. slice_index_or x j 0) (ancestry_at r' k).supers) e
    ∙ (ap (λ (x : List Ancestry). sum_by (λ j. slice_index_or own j 0) (ancestry_at x k).supers) f
    ∙ sum_by_same (λ j. slice_index_or own j 0) (own_slots fields) n (ancestry_at r k).supers known (below k lt).supers))

pub parts_are : (classes classes' : List ClassEntry) (methods : List MethodInfo) (fields fields' : List FieldInfo) (statics statics' found found' : List ℕ) (main : ℕ) (pools : List Constants) (p : Linked)
    → p ≡ record { classes = classes; methods = methods; fields = fields; statics = statics; file_methods = found; main = main; pools = pools } → classes ≡ classes' → fields ≡ fields' → statics ≡ statics' → found ≡ found'
    → p ≡ record { classes = classes'; methods = methods; fields = fields'; statics = statics'; file_methods = found'; main = main; pools = pools }
parts_are classes classes' methods fields fields' statics statics' found found' main pools p e a b c d =
    let made : List ClassEntry → List FieldInfo → List ℕ → List ℕ → Linked = λ w x y z. record { classes = w; methods = methods; fields = x; statics = y; file_methods = z; main = main; pools = pools } in
    e ∙ (ap (λ w. made w fields statics found) a ∙ (ap (λ x. made classes' x statics found) b ∙ (ap (λ y. made classes' fields' y found) c ∙ ap (λ z. made classes' fields' statics' z) d)))

-- ALONG WHAT WAS READ

pub acyclic_along : (classes : List Outline) (table : List LinkEntry) → table ≡ links classes → IsFaultless classes → (k : ℕ) → k < length table → IsAncestor table k k → ⊥
acyclic_along classes table e faultless k lt h =
    let size : length table ≡ length classes = ap length e ∙ length-map classes (links_of classes) in
    faultless set.Cycle k (omega arith) (subst (λ (t : List LinkEntry). IsAncestor t k k) e h)

pub rows_within : (files : List LoadedClass) (table : List LinkEntry) (rows : List Ancestry) → table ≡ links (set_of files) → ((k : ℕ) → k < length table → IsBelow (length table) (ancestry_at rows k)) → AreRows files rows
rows_within files table rows e h =
    let n : length table ≡ length (set_of files) = ap length e ∙ length-map (set_of files) (links_of (set_of files)) in
    record { within = are_within (set_of files); below = subst (λ m. (k : ℕ) → k < m → IsBelow m (ancestry_at rows k)) n h }

pub own_along : (files : List LoadedClass) (set : List Outline) (methods : List MethodInfo) → set ≡ set_of files → methods ≡ methods_of files → All (λ (m : MethodInfo). m.class < length set) methods
own_along files set methods e f =
    subst (λ (s : List Outline). All (λ (m : MethodInfo). m.class < length s) methods) (sym e) (subst (λ (ms : List MethodInfo). All (λ (m : MethodInfo). m.class < length (set_of files)) ms) (sym f) (methods_within files))

pub fields_along : (files : List LoadedClass) (set : List Outline) (fields : List FieldInfo) → set ≡ set_of files → fields ≡ fields_of files → All (λ (x : FieldInfo). x.class < length set) fields
fields_along files set fields e f =
    subst (λ (s : List Outline). All (λ (x : FieldInfo). x.class < length s) fields) (sym e) (subst (λ (xs : List FieldInfo). All (λ (x : FieldInfo). x.class < length (set_of files)) xs) (sym f) (fields_within files))

pub below_set : (files : List LoadedClass) (set : List Outline) (rows rows' : List Ancestry) → AreRows files rows → set ≡ set_of files → rows' ≡ rows → (k : ℕ) → k < length set → IsBelow (length set) (ancestry_at rows' k)
below_set files set rows rows' are e f =
    subst (λ (s : List Outline). (k : ℕ) → k < length s → IsBelow (length s) (ancestry_at rows' k)) (sym e)
    (subst (λ (r : List Ancestry). (k : ℕ) → k < length (set_of files) → IsBelow (length (set_of files)) (ancestry_at r k)) (sym f) are.below)

pub late_along : (files : List LoadedClass) (set : List Outline) (rows rows' : List Ancestry) (methods : List MethodInfo) (n : ℕ) (kind : LinkFaultKind) (k : ℕ) → set ≡ set_of files → rows' ≡ rows → methods ≡ methods_of files → n ≡ length files
    → IsLate set rows' methods n kind k → IsLate (set_of files) rows (methods_of files) (length files) kind k
late_along files set rows rows' methods n kind k a b c d h =
    subst (λ m. IsLate (set_of files) rows (methods_of files) m kind k) d
    (subst (λ (ms : List MethodInfo). IsLate (set_of files) rows ms n kind k) c
    (subst (λ (r : List Ancestry). IsLate (set_of files) r methods n kind k) b (subst (λ (s : List Outline). IsLate s rows' methods n kind k) a h)))

pub none_along : (files : List LoadedClass) (set : List Outline) (rows rows' : List Ancestry) (methods : List MethodInfo) → set ≡ set_of files → rows' ≡ rows → methods ≡ methods_of files
    → AnswersLeast (crosses set rows' methods) methods (length methods) None → AnswersLeast (crosses (set_of files) rows (methods_of files)) (methods_of files) (length (methods_of files)) None
none_along files set rows rows' methods a b c h =
    subst (λ (ms : List MethodInfo). AnswersLeast (crosses (set_of files) rows ms) ms (length ms) None) c
    (subst (λ (r : List Ancestry). AnswersLeast (crosses (set_of files) r methods) methods (length methods) None) b (subst (λ (s : List Outline). AnswersLeast (crosses s rows' methods) methods (length methods) None) a h))

-- THE SAME PROGRAM

numbered_same : {X Y : Type 0} (f g : ℕ → X → List Y) (m k : ℕ) (xs : List X) → k + length xs ≤ m → ((j : ℕ) (x : X) → j < m → f j x ≡ g j x) → numbered f k xs ≡ numbered g k xs
numbered_same f g m k [] le h = refl
numbered_same f g m k (x ∷ xs) le h = ap (λ l. l ++ numbered f (k + 1) xs) (h k x (omega arith)) ∙ ap (λ l. g k x ++ l) (numbered_same f g m (k + 1) xs (omega arith) h)

placed_same : (n : ℕ) (f g : ℕ → ℕ) (before fs : List FieldInfo) → ((k : ℕ) → k < n → f k ≡ g k) → All (λ (x : FieldInfo). x.class < n) fs → placed_behind f before fs ≡ placed_behind g before fs
placed_same n f g before [] h all = refl
placed_same n f g before (x ∷ fs) h all =
    let e : slot_of_field f before x ≡ slot_of_field g before x = ap (λ b. cond (is_static_field x) (count_by is_static_field before) (b + count_by (is_instance_of x.class) before)) (h x.class (All-head (λ (y : FieldInfo). y.class < n) x fs all)) in
    ap (λ s. record x { slot = s } ∷ placed_behind f (before ++ x ∷ []) fs) e
    ∙ ap (λ l. record x { slot = slot_of_field g before x } ∷ l) (placed_same n f g (before ++ x ∷ []) fs h (All-tail (λ (y : FieldInfo). y.class < n) x fs all))

abbrev heads_with : List LinkEntry → List Ancestry → List ℕ → ℕ → (ℕ → Bool) → Option ℕ → List ℕ → (List ℕ → Option ℕ) → (List ℕ → Option ℕ) → Heads
heads_with t r fl s nd ci co pl ar = record { table = t; rows = r; flags = fl; slots = λ k. s; needs = nd; clinit = λ k. ci; constants = λ k. co; place = pl; array = ar }

-- what is known is what the files say
pub record IsKnown (files : List LoadedClass) (rows : List Ancestry) (h : Heads) : Type 0 where
  pub table : h.table ≡ links (set_of files)
  pub rows_are : h.rows ≡ rows
  pub flags : h.flags ≡ file_flags files
  pub slots : (k : ℕ) → k < length (set_of files) → h.slots k ≡ field_slots (fields_of files) rows k
  pub needs : (k : ℕ) → h.needs k ≡ has_to_run (methods_of files) k
  pub clinit : (k : ℕ) → k < length (set_of files) → h.clinit k ≡ initializer_of (methods_of files) k
  pub constants : (k : ℕ) → k < length (set_of files) → h.constants k ≡ constants_of (fields_of files) k
  pub place : (name : List ℕ) → h.place name ≡ class_place (set_of files) name
  pub array : (name : List ℕ) → h.array name ≡ array_at (length (set_of files)) (class_names_of files) name

module _ (files : List LoadedClass) (rows : List Ancestry) (h : Heads) (is : IsKnown files rows h) where
  same_set_class : (k : ℕ) (c : Outline) → k < length (set_of files) → set_class h k c ≡ set_class (heads_of files rows) k c
  same_set_class k c lt =
      let g : Heads = heads_of files rows in
      let needs : h.needs ≡ g.needs = fun_ext is.needs in
      let array : h.array ≡ g.array = fun_ext is.array in
      ap (λ t. set_class (heads_with t h.rows h.flags (h.slots k) h.needs (h.clinit k) (h.constants k) h.place h.array) k c) is.table
      ∙ (ap (λ r. set_class (heads_with g.table r h.flags (h.slots k) h.needs (h.clinit k) (h.constants k) h.place h.array) k c) is.rows_are
      ∙ (ap (λ fl. set_class (heads_with g.table g.rows fl (h.slots k) h.needs (h.clinit k) (h.constants k) h.place h.array) k c) is.flags
      ∙ (ap (λ s. set_class (heads_with g.table g.rows g.flags s h.needs (h.clinit k) (h.constants k) h.place h.array) k c) (is.slots k lt)
      ∙ (ap (λ nd. set_class (heads_with g.table g.rows g.flags (g.slots k) nd (h.clinit k) (h.constants k) h.place h.array) k c) needs
      ∙ (ap (λ ci. set_class (heads_with g.table g.rows g.flags (g.slots k) g.needs ci (h.constants k) h.place h.array) k c) (is.clinit k lt)
      ∙ (ap (λ co. set_class (heads_with g.table g.rows g.flags (g.slots k) g.needs (g.clinit k) co h.place h.array) k c) (is.constants k lt)
      ∙ ap (λ ar. set_class (heads_with g.table g.rows g.flags (g.slots k) g.needs (g.clinit k) (g.constants k) h.place ar) k c) array))))))

  same_array_class : (k : ℕ) (name : List ℕ) → array_class h k name ≡ array_class (heads_of files rows) k name
  same_array_class k name =
      let g : Heads = heads_of files rows in
      let place : h.place ≡ g.place = fun_ext is.place in
      let array : h.array ≡ g.array = fun_ext is.array in
      ap (λ pl. array_class (heads_with [] [] [] 0 (λ j. false) None [] pl h.array) k name) place
      ∙ ap (λ ar. array_class (heads_with [] [] [] 0 (λ j. false) None [] g.place ar) k name) array

  pub same_classes : (names : List (List ℕ)) → classes_by h (set_of files) names ≡ classes_by (heads_of files rows) (set_of files) names
  same_classes names =
      let n : ℕ = length (set_of files) in
      ap (λ l. l ++ numbered (λ k name. array_class h k name ∷ []) n names) (numbered_same (λ k c. set_class h k c ∷ []) (λ k c. set_class (heads_of files rows) k c ∷ []) n 0 (set_of files) (omega arith) (λ j c lt. ap (λ x. x ∷ []) (same_set_class j c lt)))
      ∙ ap (λ l. numbered (λ k c. set_class (heads_of files rows) k c ∷ []) 0 (set_of files) ++ l) (numbered_same (λ k name. array_class h k name ∷ []) (λ k name. array_class (heads_of files rows) k name ∷ []) (n + length names) n names (omega arith) (λ j name lt. ap (λ x. x ∷ []) (same_array_class j name)))

  pub same_linked : (set : List Outline) (names : List (List ℕ)) (methods : List MethodInfo) (base : ℕ → ℕ) (fields : List FieldInfo) (main : ℕ) (pools : List Constants) → set ≡ set_of files → names ≡ class_names_of files → methods ≡ methods_of files → fields ≡ fields_of files
      → ((k : ℕ) → k < length (set_of files) → base k ≡ slots_above (fields_of files) rows k) → main_of (methods_of files) ≡ Some main → linked_by h set names methods base fields main pools ≡ program_with files rows pools
  same_linked set names methods base fields main pools a b c d e m =
      ap (λ (s : List Outline). linked_by h s names methods base fields main pools) a
      ∙ (ap (λ (x : List (List ℕ)). linked_by h (set_of files) x methods base fields main pools) b
      ∙ (ap (λ (x : List MethodInfo). linked_by h (set_of files) (class_names_of files) x base fields main pools) c
      ∙ (ap (λ (x : List FieldInfo). linked_by h (set_of files) (class_names_of files) (methods_of files) base x main pools) d
      ∙ (ap (λ (x : ℕ). linked_by h (set_of files) (class_names_of files) (methods_of files) base (fields_of files) x pools) (sym (ap (λ o. unwrap_or o 0) m))
      ∙ (ap (λ (x : List ClassEntry). record { classes = x; methods = methods_of files; fields = placed_behind base [] (fields_of files); statics = places_from is_static_field 0 (fields_of files); file_methods = places_from is_of_file 0 (methods_of files); main = unwrap_or (main_of (methods_of files)) 0; pools = pools }) (same_classes (class_names_of files))
      ∙ ap (λ (x : List FieldInfo). record { classes = classes_by (heads_of files rows) (set_of files) (class_names_of files); methods = methods_of files; fields = x; statics = places_from is_static_field 0 (fields_of files); file_methods = places_from is_of_file 0 (methods_of files); main = unwrap_or (main_of (methods_of files)) 0; pools = pools }) (placed_same (length (set_of files)) base (slots_above (fields_of files) rows) [] (fields_of files) e (fields_within files)))))))

-- what was known of the set, in the words of the files
pub names_known : (files : List LoadedClass) (set : List Outline) (place : List ℕ → Option ℕ) (names met : List (List ℕ)) → set ≡ set_of files → ((name : List ℕ) → place name ≡ class_place set name) → names ≡ array_names place met → met ≡ arrays_met files → names ≡ class_names_of files
names_known files set place names met e known is read =
    let p : place ≡ class_place (set_of files) = fun_ext known ∙ ap class_place e in
    is ∙ (ap (λ (q : List ℕ → Option ℕ). array_names q met) p ∙ ap (array_names (class_place (set_of files))) read)

pub tabled_program : (files : List LoadedClass) (rows : List Ancestry) (p : Linked) (main : ℕ) → AreRows files rows → main_of (methods_of files) ≡ Some main → p ≡ program_with files rows p.pools → length (set_of files) + length (class_names_of files) < 2 ^ 32 → length (methods_of files) < 2 ^ 32 → length (fields_of files) < 2 ^ 32 → IsTabled p
tabled_program files rows p main are m e few_c few_m few_f =
    let n = length-classes (heads_of files rows) (set_of files) (class_names_of files) in
    subst IsTabled (sym e) (tabled files rows p.pools main are m (omega arith) few_m few_f)

-- the orders of initialization, as they were found
pub orders_known : (needs : List Bool) (table : List LinkEntry) (rows : List Ancestry) (needs' : List Bool) (table' : List LinkEntry) (rows' : List Ancestry) (orders : List (List ℕ)) → needs' ≡ needs → table' ≡ table → rows' ≡ rows
    → ((k : ℕ) → k < length table' → slice_index_or orders k [] ≡ class_order (λ c. slice_index_or needs' c false) table' rows' k) → (k : ℕ) → k < length table → slice_index_or orders k [] ≡ class_order (λ c. slice_index_or needs c false) table rows k
orders_known needs table rows needs' table' rows' orders en et er found k lt =
    found k (subst (λ (t : List LinkEntry). k < length t) (sym et) lt)
    ∙ (ap (λ (ns : List Bool). class_order (λ c. slice_index_or ns c false) table' rows' k) en
    ∙ (ap (λ (t : List LinkEntry). class_order (λ c. slice_index_or needs c false) t rows' k) et ∙ ap (λ (r : List Ancestry). class_order (λ c. slice_index_or needs c false) table r k) er))
