-- The classes and the interfaces above each class of a set that can be linked (JVMS 5.3.5).
use Rattle.std.proofs.Common.{◌≡◌, ℕ, suc, ◌<◌, true, false, not, List, [], ◌∷◌, ◌++◌, length, Option, None, Some, refl, sym, ◌∙◌, ap, subst, arith}
use mathlib.Core.Logic.{⊎_elim}
use Rattle.std.specs.Prelude.{All}
use Rattle.std.specs.List.{slice_index_or, list_all, filter_map, cons_option}
use Rattle.std.specs.Option.{option_map_or, option_and_then, option_to_list}
use Rattle.std.proofs.lemmas.Bool.{cases_Bool, and_parts, not-true, false≢true}
use Rattle.std.proofs.lemmas.List.{length-map}
use Rattle.std.proofs.lemmas.List.Elements.{All-nil, All-cons, All-append, All-push}
use Rattle.et_hierarchy.specs.Outline.{Outline, outline_at, no_outline, class_place}
use Rattle.et_hierarchy.specs.Links.{LinkEntry, links, links_of, no_links, parents_of, parents, HasLinksWithin, IsAcyclic}
use Rattle.et_hierarchy.specs.Ancestry.{Ancestry, ancestry_at, ancestry_of, IsAncestry, IsBelow}
use Rattle.et_hierarchy.specs.Faults.{has_supers, names_class, is_interface_named}
use Rattle.et_hierarchy.proofs.BelowLemmas.{below_of}
use Rattle.et_hierarchy.proofs.LinkLemmas.{are_within}
use Rattle.et_hierarchy.proofs.Names.{place_within}
use Rattle.et_program.specs.Files.{set_of}
use Rattle.et_program.specs.Loaded.{LoadedClass}
use Rattle.et_program.specs.LinkFaults.{IsLinkable}
use Rattle.et_program.specs.declared.fault.LinkFaultKind.TheVariants.{NoSuper, Cycle}
use Rattle.et_history.proofs.programs.Places.{at_mapped}
use Rattle.et_history.proofs.programs.Ascending.{each}
use Rattle.et_history.proofs.programs.Lists.{all_added, all_flat}

-- class k of the set is no interface, or is one
pub record IsClass (set : List Outline) (k : ℕ) : Type 0 where
  pub within : k < length set
  pub kind : (outline_at set k).is_interface ≡ false

pub record IsInterface (set : List Outline) (k : ℕ) : Type 0 where
  pub within : k < length set
  pub kind : (outline_at set k).is_interface ≡ true

-- .. in what is above a class
pub record HasKinds (set : List Outline) (r : Ancestry) : Type 0 where
  pub supers : All (IsClass set) r.supers
  pub superinterfaces : All (IsInterface set) r.superinterfaces

module _ (set : List Outline) where
  superclass_is : (name : Option (List ℕ)) (s : ℕ) → option_map_or (names_class set) name true ≡ true → option_and_then (class_place set) name ≡ Some s → IsClass set s
  superclass_is None s h e = absurd (nothing e)
    where
      nothing : None ≡ Some s → ⊥
      nothing x = cc
  superclass_is (Some name) s h e =
      let there : not (outline_at set s).is_interface ≡ true = subst (λ (o : Option ℕ). option_map_or (λ k. not (outline_at set k).is_interface) o false ≡ true) e h in
      record { within = place_within set name (Some s) (sym e); kind = not-true (outline_at set s).is_interface there }

  interfaces_are : (names : List (List ℕ)) → list_all (is_interface_named set) names ≡ true → All (IsInterface set) (filter_map (class_place set) names)
  interfaces_are [] h = All-nil (IsInterface set)
  interfaces_are (name ∷ names) h =
      let parts = and_parts (is_interface_named set name) (list_all (is_interface_named set) names) h in
      by (class_place set name) refl parts.0 (interfaces_are names parts.1)
    where
      by : (o : Option ℕ) → class_place set name ≡ o → option_map_or (λ k. (outline_at set k).is_interface) o false ≡ true → All (IsInterface set) (filter_map (class_place set) names) → All (IsInterface set) (cons_option o (filter_map (class_place set) names))
      by None e k rest = absurd (false≢true k)
      by (Some q) e k rest = All-cons (IsInterface set) q _ (record { within = place_within set name (Some q) (sym e); kind = k }) rest

  row_kinds : (rows : List Ancestry) (k : ℕ) (o : Option ℕ) (ints : List ℕ) → ((s : ℕ) → o ≡ Some s → IsClass set s) → All (IsInterface set) ints → All (λ p. HasKinds set (ancestry_at rows p)) (option_to_list o ++ ints)
      → HasKinds set (ancestry_of (record { above = o; interfaces = ints }) rows k)
  row_kinds rows k None ints up faces g =
      let I = IsInterface set in
      record {
        supers = All-nil (IsClass set);
        superinterfaces = all_added I [] _ (All-nil I) (all_flat I (λ i. (ancestry_at rows i).superinterfaces ++ i ∷ []) ints (λ j d l. All-push I _ _ (g j d l).superinterfaces (faces j d l)));
      }
  row_kinds rows k (Some s) ints up faces g =
      let I = IsInterface set in
      let top : HasKinds set (ancestry_at rows s) = g 0 s (omega arith) in
      record {
        supers = All-cons (IsClass set) s _ (up s refl) top.supers;
        superinterfaces =
            all_added I [] _ (All-nil I)
            (All-append I (ancestry_at rows s).superinterfaces _ top.superinterfaces (all_flat I (λ i. (ancestry_at rows i).superinterfaces ++ i ∷ []) ints (λ j d l. All-push I _ _ (g (suc j) d (omega arith)).superinterfaces (faces j d l))));
      }

  row_of : (rows : List Ancestry) (k : ℕ) (l : LinkEntry) → ((s : ℕ) → l.above ≡ Some s → IsClass set s) → All (IsInterface set) l.interfaces → All (λ p. HasKinds set (ancestry_at rows p)) (parents_of l) → HasKinds set (ancestry_of l rows k)
  row_of rows k l up faces g = row_kinds rows k l.above l.interfaces up faces g

module _ (files : List LoadedClass) (rows : List Ancestry) (is : IsAncestry (links (set_of files)) rows) (linkable : IsLinkable files) where
  abbrev set : List Outline
  set = set_of files

  abbrev table : List LinkEntry
  table = links (set_of files)

  pub size : length (links (set_of files)) ≡ length (set_of files)
  size = length-map (set_of files) (links_of (set_of files))

  pub inner : HasLinksWithin (length (links (set_of files))) (links (set_of files))
  inner = subst (λ n. HasLinksWithin n table) (sym size) (are_within set)

  acyclic : IsAcyclic table
  acyclic k lt h = linkable Cycle k (subst (λ n. k < n) size lt) h

  fit : (k : ℕ) → k < length set → has_supers set (outline_at set k) ≡ true
  fit k lt = ⊎_elim (λ y. y) (λ n. absurd (linkable NoSuper k lt n)) (cases_Bool (has_supers set (outline_at set k)))

  -- the kinds of what a class names right above it
  pub superclass : (k s : ℕ) → k < length (set_of files) → (slice_index_or (links (set_of files)) k no_links).above ≡ Some s → IsClass (set_of files) s
  superclass k s lt e =
      let o : Outline = outline_at set k in
      let parts = and_parts (option_map_or (names_class set) o.super_name true) (list_all (is_interface_named set) o.interfaces) (fit k lt) in
      superclass_is set o.super_name s parts.0 (sym (ap (λ (l : LinkEntry). l.above) (at_mapped (links_of set) set k no_outline no_links lt)) ∙ e)

  pub interfaces : (k : ℕ) → k < length (set_of files) → All (IsInterface (set_of files)) (slice_index_or (links (set_of files)) k no_links).interfaces
  interfaces k lt =
      let o : Outline = outline_at set k in
      let parts = and_parts (option_map_or (names_class set) o.super_name true) (list_all (is_interface_named set) o.interfaces) (fit k lt) in
      subst (λ (l : LinkEntry). All (IsInterface set) l.interfaces) (sym (at_mapped (links_of set) set k no_outline no_links lt)) (interfaces_are set o.interfaces parts.1)

  kind_step : (u : ℕ) → u < length table → All (λ p. HasKinds set (ancestry_at rows p)) (parents table u) → HasKinds set (ancestry_at rows u)
  kind_step u lt g =
      let inside : u < length set = subst (λ n. u < n) size lt in
      subst (HasKinds set) (sym (is.row u lt)) (row_of set rows u (slice_index_or table u no_links) (λ s e. superclass u s inside e) (interfaces u inside) g)

  pub kinds : (k : ℕ) → k < length (set_of files) → HasKinds (set_of files) (ancestry_at rows k)
  kinds k lt = each table inner acyclic (λ u. HasKinds set (ancestry_at rows u)) kind_step k (subst (λ n. k < n) (sym size) lt)

  below_step : (u : ℕ) → u < length table → All (λ p. IsBelow (length table) (ancestry_at rows p)) (parents table u) → IsBelow (length table) (ancestry_at rows u)
  below_step u lt g = subst (IsBelow (length table)) (sym (is.row u lt)) (below_of (length table) (slice_index_or table u no_links) rows u lt (inner u no_links lt) g)

  pub below : (k : ℕ) → k < length (set_of files) → IsBelow (length (set_of files)) (ancestry_at rows k)
  below k lt = subst (λ n. IsBelow n (ancestry_at rows k)) size (each table inner acyclic (λ u. IsBelow (length table) (ancestry_at rows u)) below_step k (subst (λ n. k < n) (sym size) lt))
