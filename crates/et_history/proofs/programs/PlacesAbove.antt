-- Above a built-in class that declares no field, no class of a program declares one.
use Rattle.std.proofs.Common.{◌≡◌, ℕ, zero, suc, ◌+◌, ◌<◌, true, List, [], ◌∷◌, ◌++◌, length, map, Option, None, Some, refl, sym, ◌∙◌, ap, subst, arith}
use Rattle.std.specs.Prelude.{All, nat_lt}
use Rattle.std.specs.List.{slice_index_or, list_all, flat_map, filter_map, cons_option}
use Rattle.std.specs.Option.{option_map_or, option_and_then}
use Rattle.std.proofs.lemmas.Bool.{and_parts, ltb-true, false≢true}
use Rattle.std.proofs.lemmas.List.{length-map}
use Rattle.std.proofs.lemmas.List.Elements.{All-nil, All-cons, All-append, All-push}
use Rattle.et_boot.specs.Classes.{BootClassOf, no_boot_class}
use Rattle.et_hierarchy.specs.Outline.{class_place, no_outline}
use Rattle.et_hierarchy.specs.Links.{LinkEntry, links, links_of, no_links}
use Rattle.et_hierarchy.specs.Ancestry.{Ancestry, ancestry_at, ancestry_of, supers_over, superinterfaces_over, IsAncestry}
use Rattle.et_program.specs.Loaded.{LoadedClass}
use Rattle.et_program.specs.Files.{boots, set_of, boot_outline, file_outline}
use Rattle.et_program.proofs.Standing.{place_in_set}
use Rattle.et_link.proofs.TabledLemmas.{length-set}
use Rattle.et_history.proofs.programs.Places.{at_map, at_mapped}
use Rattle.et_history.proofs.programs.BuiltIn.{has_no_fields, no_fields_within, boot_place, is_before, above_in_table}
use Rattle.et_history.proofs.programs.Lists.{all_added, all_flat}

-- WHAT STANDS ABOVE

abbrev pub NoField : ℕ → Type 0
NoField q = has_no_fields boots q ≡ true

-- no class above declares a field
pub record AreFieldless (r : Ancestry) : Type 0 where
  pub supers : All NoField r.supers
  pub superinterfaces : All NoField r.superinterfaces

-- .. for class q, which declares none itself
pub record IsFree (rows : List Ancestry) (q : ℕ) : Type 0 where
  pub itself : NoField q
  pub above : AreFieldless (ancestry_at rows q)

-- .. for each right above
pub record AreFree (rows : List Ancestry) (l : LinkEntry) : Type 0 where
  pub superclass : (s : ℕ) → l.above ≡ Some s → IsFree rows s
  pub interfaces : All (IsFree rows) l.interfaces

row_by : (rows : List Ancestry) (k : ℕ) (o : Option ℕ) (ints : List ℕ) → ((s : ℕ) → o ≡ Some s → IsFree rows s) → All (IsFree rows) ints → AreFieldless (ancestry_of (record { above = o; interfaces = ints }) rows k)
row_by rows k o ints up free =
    let over : All NoField (flat_map (λ i. (ancestry_at rows i).superinterfaces ++ i ∷ []) ints) =
    all_flat NoField (λ i. (ancestry_at rows i).superinterfaces ++ i ∷ []) ints (λ j d lt. All-push NoField _ _ (free j d lt).above.superinterfaces (free j d lt).itself) in
    record {
      supers = supers_free o up;
      superinterfaces = all_added NoField [] _ (All-nil NoField) (All-append NoField (superinterfaces_over rows o) _ (interfaces_free o up) over);
    }
  where
    supers_free : (p : Option ℕ) → ((s : ℕ) → p ≡ Some s → IsFree rows s) → All NoField (supers_over rows p)
    supers_free None h = All-nil NoField
    supers_free (Some s) h = All-cons NoField s _ (h s refl).itself (h s refl).above.supers

    interfaces_free : (p : Option ℕ) → ((s : ℕ) → p ≡ Some s → IsFree rows s) → All NoField (superinterfaces_over rows p)
    interfaces_free None h = All-nil NoField
    interfaces_free (Some s) h = (h s refl).above.superinterfaces

row_of : (rows : List Ancestry) (k : ℕ) (l : LinkEntry) → AreFree rows l → AreFieldless (ancestry_of l rows k)
row_of rows k l h = row_by rows k l.above l.interfaces h.superclass h.interfaces

-- BY NAME: a name of the table is that of the same class in the set of a program

-- the class of this name stands before class k and declares no field
record IsNamedBefore (files : List LoadedClass) (k : ℕ) (name : List ℕ) : Type 0 where
  q : ℕ
  found : class_place (set_of files) name ≡ Some q
  before : q < k
  fieldless : NoField q

named_by : (files : List LoadedClass) (k : ℕ) (name : List ℕ) (o : Option ℕ) → boot_place name ≡ o → is_before boots k o ≡ true → IsNamedBefore files k name
named_by files k name None e h = absurd (false≢true h)
named_by files k name (Some q) e h =
    let parts = and_parts (nat_lt q k) (has_no_fields boots q) h in
    record { q = q; found = place_in_set files name q e; before = ltb-true q k parts.0; fieldless = parts.1 }

named_before : (files : List LoadedClass) (k : ℕ) (name : List ℕ) → is_before boots k (boot_place name) ≡ true → IsNamedBefore files k name
named_before files k name h = named_by files k name (boot_place name) refl h

superclass_before : (files : List LoadedClass) (rows : List Ancestry) (k : ℕ) (name : Option (List ℕ)) → option_map_or (λ n. is_before boots k (boot_place n)) name true ≡ true → ((q : ℕ) → q < k → NoField q → IsFree rows q)
    → (s : ℕ) → option_and_then (class_place (set_of files)) name ≡ Some s → IsFree rows s
superclass_before files rows k None h free s e = absurd (no_superclass s e)
  where
    no_superclass : (t : ℕ) → None ≡ Some t → ⊥
    no_superclass t x = cc
superclass_before files rows k (Some name) h free s e =
    let at = named_before files k name h in
    let same : at.q ≡ s = some_same at.q s (sym at.found ∙ e) in
    subst (IsFree rows) same (free at.q at.before at.fieldless)
  where
    some_same : (a b : ℕ) → Some a ≡ Some b → a ≡ b
    some_same a b x = cc

interfaces_before : (files : List LoadedClass) (rows : List Ancestry) (k : ℕ) (names : List (List ℕ)) → list_all (λ n. is_before boots k (boot_place n)) names ≡ true → ((q : ℕ) → q < k → NoField q → IsFree rows q)
    → All (IsFree rows) (filter_map (class_place (set_of files)) names)
interfaces_before files rows k [] h free = All-nil (IsFree rows)
interfaces_before files rows k (name ∷ names) h free =
    let parts = and_parts (is_before boots k (boot_place name)) (list_all (λ n. is_before boots k (boot_place n)) names) h in
    let at = named_before files k name parts.0 in
    let rest : List ℕ = filter_map (class_place (set_of files)) names in
    subst (λ (o : Option ℕ). All (IsFree rows) (cons_option o rest)) (sym at.found) (All-cons (IsFree rows) at.q rest (free at.q at.before at.fieldless) (interfaces_before files rows k names parts.1 free))

-- CLASS BY CLASS

pub link_at : (files : List LoadedClass) (k : ℕ) → k < length boots → slice_index_or (links (set_of files)) k no_links ≡ links_of (set_of files) (boot_outline (slice_index_or boots k no_boot_class))
link_at files k lt =
    let n : length (set_of files) ≡ length boots + length files = length-set files in
    at_mapped (links_of (set_of files)) (set_of files) k no_outline no_links (omega arith) ∙ ap (links_of (set_of files)) (at_map boot_outline boots (map file_outline files) k no_boot_class no_outline lt)

free_below : (files : List LoadedClass) (rows : List Ancestry) → IsAncestry (links (set_of files)) rows → (n k : ℕ) → k < n → NoField k → IsFree rows k
free_below files rows is zero k lt h = absurd (omega arith)
free_below files rows is (suc n) k lt h =
    let c : BootClassOf = slice_index_or boots k no_boot_class in
    let within : k < length boots = no_fields_within boots k h in
    let m : length (set_of files) ≡ length boots + length files = length-set files in
    let each : length (links (set_of files)) ≡ length (set_of files) = length-map (set_of files) (links_of (set_of files)) in
    let free : (q : ℕ) → q < k → NoField q → IsFree rows q = λ q l g. free_below files rows is n q (omega arith) g in
    let parts = and_parts (option_map_or (λ name. is_before boots k (boot_place name)) c.super_name true) (list_all (λ name. is_before boots k (boot_place name)) c.interfaces) (above_in_table k h) in
    let l : LinkEntry = links_of (set_of files) (boot_outline c) in
    let up : AreFree rows l = record { superclass = superclass_before files rows k c.super_name parts.0 free; interfaces = interfaces_before files rows k c.interfaces parts.1 free } in
    let row : ancestry_at rows k ≡ ancestry_of l rows k = is.row k (omega arith) ∙ ap (λ (x : LinkEntry). ancestry_of x rows k) (link_at files k within) in
    record { itself = h; above = subst AreFieldless (sym row) (row_of rows k l up) }

pub free_above : (files : List LoadedClass) (rows : List Ancestry) → IsAncestry (links (set_of files)) rows → (k : ℕ) → NoField k → IsFree rows k
free_above files rows is k h = free_below files rows is (suc k) k (omega arith) h
