-- The order in which classes are initialized (JVMS 5.5).
use Rattle.std.proofs.Common.{◌≡◌, ℕ, ◌+◌, ◌<◌, ◌≤◌, Bool, true, false, List, [], ◌∷◌, ◌++◌, length, reverse, refl, sym, ◌∙◌, ap, subst, inl, inr, arith, Contains}
use Rattle.std.specs.Prelude.{All}
use Rattle.std.specs.List.{slice_index_or, flat_map}
use Rattle.std.proofs.lemmas.List.Elements.{All-nil, All-cons, All-head, All-push, All-weaker, All-filter, All-contains, All-contains_itself, Contains-append_right}
use Rattle.std.proofs.lemmas.List.{length-map}
use Rattle.std.proofs.lemmas.Bool.{cases_lt}
use Rattle.et_base.proofs.Lists.{Contains-none, Contains-here, Contains-there, Contains-cons}
use Rattle.et_pool.specs.Entries.{Constants}
use Rattle.et_hierarchy.specs.Outline.{Outline, outline_at}
use Rattle.et_hierarchy.specs.Links.{links, links_of, no_links}
use Rattle.et_hierarchy.specs.Ancestry.{Ancestry, ancestry_at, supers_over, IsAncestry}
use Rattle.et_hierarchy.specs.Initialization.{interfaces_to_run, with_interfaces, init_order}
use Rattle.et_hierarchy.proofs.LinkLemmas.{are_within}
use Rattle.et_hierarchy.proofs.Repeats.{added_all_has, flat_has}
use Rattle.et_program.specs.Entries.{ClassEntry, Linked, class_at}
use Rattle.et_program.specs.Files.{set_of}
use Rattle.et_program.specs.Heads.{has_to_run}
use Rattle.et_program.specs.Loaded.{LoadedClass}
use Rattle.et_program.specs.LinkFaults.{IsLinkable}
use Rattle.et_program.specs.MembersOf.{methods_of}
use Rattle.et_program.specs.ProgramOf.{class_names_of, program_with}
use Rattle.et_link.proofs.TabledLemmas.{order_within, all_left}
use Rattle.et_history.proofs.programs.Making.{class_in}
use Rattle.et_history.proofs.programs.Classes.{length_all, class_cases, array_in}
use Rattle.et_history.proofs.programs.Supers.{IsClass, IsInterface, kinds, interfaces, below}
use Rattle.et_history.proofs.programs.Lists.{all_added, all_flat, reverse_all, reverse_has}
use Rattle.et_history.proofs.programs.Chains.{rest_by}

module _ (files : List LoadedClass) (rows : List Ancestry) (pools : List Constants) (is : IsAncestry (links (set_of files)) rows) (linkable : IsLinkable files) where
  abbrev set : List Outline
  set = set_of files

  abbrev p : Linked
  p = program_with files rows pools

  abbrev supers : ℕ → List ℕ
  supers k = (ancestry_at rows k).supers

  -- SUPERCLASSES

  -- what is above a superclass is above the class
  above_super : (k : ℕ) (xs : List ℕ) → k < length set → supers k ≡ xs → (t u : ℕ) → Contains xs t → Contains (supers t) u → Contains xs u
  above_super k [] lt e t u c d = absurd (Contains-none t c)
  above_super k (s ∷ ys) lt e t u c d =
      let n : length (links set) ≡ length set = length-map set (links_of set) in
      let row : supers k ≡ supers_over rows (slice_index_or (links set) k no_links).above = ap (λ (r : Ancestry). r.supers) (is.row k (omega arith)) in
      let rest : ys ≡ supers s = rest_by rows (slice_index_or (links set) k no_links).above s ys (sym row ∙ e) in
      let within : s < length set = (All-head (IsClass set) s ys (subst (All (IsClass set)) e (kinds files rows is linkable k lt).supers)).within in
      elim (Contains-cons s ys t c) [
        | inl same ↦ Contains-there s ys u (subst (λ (zs : List ℕ). Contains zs u) (sym rest) (subst (λ (i : ℕ). Contains (supers i) u) (sym same) d))
        | inr there ↦ Contains-there s ys u (above_super s ys within (sym rest) t u there d)
      ]

  up_from : (c t u : ℕ) → c < length set → Contains (c ∷ supers c) t → Contains (t ∷ supers t) u → Contains (c ∷ supers c) u
  up_from c t u lt h g =
      elim (Contains-cons c (supers c) t h) [
        | inl same ↦ subst (λ (i : ℕ). Contains (i ∷ supers i) u) (sym same) g
        | inr there ↦
            elim (Contains-cons t (supers t) u g) [
              | inl e ↦ subst (λ (i : ℕ). Contains (c ∷ supers c) i) e h
              | inr d ↦ Contains-there c (supers c) u (above_super c (supers c) lt refl t u there d)
            ]
      ]

  -- ORDERS

  abbrev needs : ℕ → Bool
  needs k = has_to_run (methods_of files) k

  abbrev order : Bool → ℕ → List ℕ
  order b k = init_order b (has_to_run (methods_of files)) (links (set_of files)) rows k

  abbrev run : ℕ → List ℕ
  run k = interfaces_to_run (has_to_run (methods_of files)) rows (slice_index_or (links (set_of files)) k no_links)

  abbrev ordered : ℕ → List ℕ
  ordered k = with_interfaces (has_to_run (methods_of files)) (links (set_of files)) rows k

  pub order_is : (k : ℕ) (b : Bool) → k < length (set_of files) → (outline_at (set_of files) k).is_interface ≡ b → (class_at (program_with files rows pools) k).init_order ≡ init_order b (has_to_run (methods_of files)) (links (set_of files)) rows k
  order_is k b lt e = ap (λ (x : ClassEntry). x.init_order) (class_in files rows pools k lt) ∙ ap (λ (face : Bool). order face k) e

  pub array_order : (c : ℕ) → length (set_of files) ≤ c → c < length (program_with files rows pools).classes → (class_at (program_with files rows pools) c).init_order ≡ c ∷ []
  array_order c le lt = ap (λ (x : ClassEntry). x.init_order) (array_in files rows pools c le lt)

  -- what is initialized at each superclass is in the order
  reached : (c t : ℕ) → Contains (c ∷ supers c) t → All (Contains (order false c)) (ordered t)
  reached c t h =
      let up : List ℕ = c ∷ supers c in
      All-weaker (Contains (ordered t)) (Contains (order false c)) (λ x d. added_all_has [] (flat_map ordered (reverse up)) x (flat_has ordered (reverse up) t x (reverse_has up t h) d)) (ordered t) (All-contains_itself (ordered t))

  -- of a list of what is initialized at each superclass
  all_ordered : (P : ℕ → Type 0) (c : ℕ) → ((t : ℕ) → Contains (c ∷ supers c) t → All P (ordered t)) → All P (order false c)
  all_ordered P c h =
      let up : List ℕ = c ∷ supers c in
      all_added P [] _ (All-nil P)
      (all_flat P ordered (reverse up) (reverse_all (λ t. All P (ordered t)) up (All-weaker (Contains up) (λ t. All P (ordered t)) h up (All-contains_itself up))))

  pub run_kinds : (t : ℕ) → t < length (set_of files) → All (IsInterface (set_of files)) (interfaces_to_run (has_to_run (methods_of files)) rows (slice_index_or (links (set_of files)) t no_links))
  run_kinds t lt =
      let I = IsInterface set in
      All-filter needs I _
      (all_added I [] _ (All-nil I)
      (all_flat I (λ i. (ancestry_at rows i).superinterfaces ++ i ∷ []) (slice_index_or (links set) t no_links).interfaces
      (λ j d l. let face : I (slice_index_or (slice_index_or (links set) t no_links).interfaces j d) = interfaces files rows is linkable t lt j d l in All-push I _ _ (kinds files rows is linkable _ face.within).superinterfaces face)))

  -- with what is initialized with class k, these are
  abbrev IsIn : List ℕ → ℕ → Type 0
  IsIn xs k = All (Contains xs) (class_at p k).init_order

  class_closed : (c : ℕ) → c < length set → (outline_at set c).is_interface ≡ false → All (IsIn (order false c)) (order false c)
  class_closed c lt plain = all_ordered (IsIn (order false c)) c (λ t h. All-push (IsIn (order false c)) (run t) t (faces t h) (itself t h))
    where
      within : (t : ℕ) → Contains (c ∷ supers c) t → IsClass set t
      within t h =
          elim (Contains-cons c (supers c) t h) [
            | inl same ↦ subst (IsClass set) same (record { within = lt; kind = plain })
            | inr there ↦ All-contains (IsClass set) (supers c) t (kinds files rows is linkable c lt).supers there
          ]

      face : (x : ℕ) → IsInterface set x → Contains (order false c) x → IsIn (order false c) x
      face x i d = subst (λ (xs : List ℕ). All (Contains (order false c)) xs) (sym (order_is x true i.within i.kind)) (All-cons (Contains (order false c)) x [] d (All-nil (Contains (order false c))))

      faces : (t : ℕ) → Contains (c ∷ supers c) t → All (IsIn (order false c)) (run t)
      faces t h =
          let known : All (IsInterface set) (run t) = run_kinds t (within t h).within in
          let there : All (Contains (order false c)) (run t) = all_left (Contains (order false c)) (run t) (t ∷ []) (reached c t h) in
          λ i d l. face (slice_index_or (run t) i d) (known i d l) (there i d l)

      itself : (t : ℕ) → Contains (c ∷ supers c) t → IsIn (order false c) t
      itself t h =
          let k : IsClass set t = within t h in
          subst (λ (xs : List ℕ). All (Contains (order false c)) xs) (sym (order_is t false k.within k.kind))
          (all_ordered (Contains (order false c)) t (λ u g. reached c u (up_from c t u lt h g)))

  one_closed : (c : ℕ) → (class_at p c).init_order ≡ c ∷ [] → All (IsIn (c ∷ [])) (c ∷ [])
  one_closed c e =
      let C = Contains (c ∷ []) in
      All-cons (IsIn (c ∷ [])) c [] (subst (λ (xs : List ℕ). All C xs) (sym e) (All-cons C c [] (Contains-here c []) (All-nil C))) (All-nil (IsIn (c ∷ [])))

  closed_by : (c : ℕ) (xs : List ℕ) → (class_at p c).init_order ≡ xs → All (IsIn xs) xs → All (IsIn (class_at p c).init_order) (class_at p c).init_order
  closed_by c xs e h = subst (λ (ys : List ℕ). All (IsIn ys) ys) (sym e) h

  closed : (c : ℕ) → c < length p.classes → All (IsIn (class_at p c).init_order) (class_at p c).init_order
  closed c inside =
      elim (cases_lt c (length set)) [
        | inl lt ↦ by (outline_at set c).is_interface refl lt
        | inr le ↦ closed_by c (c ∷ []) (array_order c le inside) (one_closed c (array_order c le inside))
      ]
    where
      by : (b : Bool) → (outline_at set c).is_interface ≡ b → c < length set → All (IsIn (class_at p c).init_order) (class_at p c).init_order
      by true e lt = closed_by c (c ∷ []) (order_is c true lt e) (one_closed c (order_is c true lt e))
      by false e lt = closed_by c (order false c) (order_is c false lt e) (class_closed c lt e)

  pub orders : (c k j : ℕ) → c < length (program_with files rows pools).classes → Contains (class_at (program_with files rows pools) c).init_order k → Contains (class_at (program_with files rows pools) k).init_order j → Contains (class_at (program_with files rows pools) c).init_order j
  orders c k j lt h g = All-contains (Contains (class_at p c).init_order) (class_at p k).init_order j (All-contains (IsIn (class_at p c).init_order) (class_at p c).init_order k (closed c lt) h) g

  -- .. and the class itself
  pub own : (c : ℕ) → c < length (program_with files rows pools).classes → Contains (class_at (program_with files rows pools) c).init_order c
  own c inside =
      elim (cases_lt c (length set)) [
        | inl lt ↦ by (outline_at set c).is_interface refl lt
        | inr le ↦ subst (λ (xs : List ℕ). Contains xs c) (sym (array_order c le inside)) (Contains-here c [])
      ]
    where
      by : (b : Bool) → (outline_at set c).is_interface ≡ b → c < length set → Contains (class_at p c).init_order c
      by true e lt = subst (λ (xs : List ℕ). Contains xs c) (sym (order_is c true lt e)) (Contains-here c [])
      by false e lt =
          subst (λ (xs : List ℕ). Contains xs c) (sym (order_is c false lt e))
          (All-contains (Contains (order false c)) (ordered c) c (reached c c (Contains-here c (supers c))) (Contains-append_right (run c) (c ∷ []) c (Contains-here c [])))

  -- .. which all are classes
  pub within_all : (c : ℕ) → All (λ k. k < length (program_with files rows pools).classes) (class_at (program_with files rows pools) c).init_order
  within_all c =
      let m : length p.classes ≡ length set + length (class_names_of files) = length_all files rows pools in
      let P = λ (k : ℕ). k < length p.classes in
      class_cases files rows pools (λ (x : ClassEntry). All P x.init_order) c
      (λ lt.
      All-weaker (λ k. k < length set) P (λ k l. omega arith) _
      (order_within (length set) (outline_at set c).is_interface (has_to_run (methods_of files)) (links set) rows c (length-map set (links_of set)) (are_within set) (below files rows is linkable) lt))
      (λ name le lt. All-cons P c [] lt (All-nil P))
      (All-nil P)
