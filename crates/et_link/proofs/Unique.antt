-- Files are one program, or have one fault.
use Rattle.std.proofs.Common.{◌≡◌, ℕ, ◌<◌, List, [], ◌∷◌, ◌++◌, get_or, map, Option, Result, Ok, Err, refl, sym, ◌∙◌, ap, subst}
use mathlib.Core.Logic.{⊎_elim}
use Rattle.std.proofs.lemmas.List.{length-map}
use Rattle.std.proofs.lemmas.Bool.{cases_order}
use Rattle.et_pool.specs.Broken.{Broken}
use Rattle.et_pool.specs.Entries.{Item, Constants}
use Rattle.et_pool.proofs.OneAnswer.{exactly_one}
use Rattle.et_boot.specs.Classes.{BootClassOf}
use Rattle.et_hierarchy.specs.Links.{links, links_of, IsAcyclic}
use Rattle.et_hierarchy.specs.Ancestry.{Ancestry}
use Rattle.et_hierarchy.proofs.LinkLemmas.{table_within}
use Rattle.et_hierarchy.proofs.Unique.{same_ancestries}
use Rattle.et_program.specs.Entries.{Linked}
use Rattle.et_program.specs.declared.fault.LinkFaultKind.{LinkFaultKind}
use Rattle.et_program.specs.declared.fault.LinkFaultKind.TheVariants.{Duplicate, NoSuper, Cycle, FinalSuper, CrossPackage, NoMain, TooMany}
use Rattle.et_program.specs.Loaded.{LoadedClass}
use Rattle.et_program.specs.Files.{boots, set_of}
use Rattle.et_program.specs.MembersOf.{IsBootPool, AreBootPools, HasPools, file_pool}
use Rattle.et_program.specs.ProgramOf.{program_with, IsProgramOf}
use Rattle.et_program.specs.LinkFaults.{link_number, IsFaultAt, IsLinkable}
use Rattle.et_link.specs.Refusals.{LinkIs}

-- POOLS

abbrev slots_in : Result (List (Option Item) × ℕ) Broken → List (Option Item)
slots_in (Ok x) = x.0
slots_in (Err b) = []

boot_pool_one : (c : BootClassOf) (p q : Constants) → IsBootPool c p → IsBootPool c q → p ≡ q
boot_pool_one c p q a b =
    let one = exactly_one c.pool 0 in
    let slots : p.slots ≡ q.slots = ap slots_in (one.only (Ok (p.slots, a.after)) a.spelled ∙ sym (one.only (Ok (q.slots, b.after)) b.spelled)) in
    ap (λ (n : ℕ). record { at = n; slots = p.slots }) (a.place ∙ sym b.place) ∙ ap (λ (s : List (Option Item)). record { at = q.at; slots = s }) slots

boot_pools_one : (cs : List BootClassOf) (ps qs : List Constants) → AreBootPools cs ps → AreBootPools cs qs → ps ≡ qs
boot_pools_one [] [] [] a b = refl
boot_pools_one [] [] (q ∷ qs) a b = absurd b
boot_pools_one [] (p ∷ ps) qs a b = absurd a
boot_pools_one (c ∷ cs) [] qs a b = absurd a
boot_pools_one (c ∷ cs) (p ∷ ps) [] a b = absurd b
boot_pools_one (c ∷ cs) (p ∷ ps) (q ∷ qs) a b = ap (λ x. x ∷ ps) (boot_pool_one c p q a.0 b.0) ∙ ap (λ l. q ∷ l) (boot_pools_one cs ps qs a.1 b.1)

pools_one : (files : List LoadedClass) (ps qs : List Constants) → HasPools files ps → HasPools files qs → ps ≡ qs
pools_one files ps qs a b = a.are ∙ (ap (λ l. l ++ map file_pool files) (boot_pools_one boots a.built_in b.built_in a.are_spelled b.are_spelled) ∙ sym b.are)

-- PROGRAMS

programs_one : (files : List LoadedClass) (p q : Linked) → IsLinkable files → IsProgramOf files p → IsProgramOf files q → p ≡ q
programs_one files p q linkable a b =
    let set = set_of files in
    let acyclic : IsAcyclic (links set) = λ k lt. linkable Cycle k (subst (λ n. k < n) (length-map set (links_of set)) lt) in
    let rows : a.rows ≡ b.rows = same_ancestries (links set) a.rows b.rows (table_within set (links set) refl) acyclic a.ancestry b.ancestry in
    a.tables ∙ (ap (λ (r : List Ancestry). program_with files r p.pools) rows ∙ (ap (λ (ps : List Constants). program_with files b.rows ps) (pools_one files p.pools q.pools a.pools b.pools) ∙ sym b.tables))

-- FAULTS

abbrev kind_numbered : ℕ → LinkFaultKind
kind_numbered n = get_or (Duplicate ∷ Duplicate ∷ NoSuper ∷ Cycle ∷ FinalSuper ∷ CrossPackage ∷ NoMain ∷ TooMany ∷ []) n TooMany

has_its_number : (kind : LinkFaultKind) → kind_numbered (link_number kind) ≡ kind
has_its_number Duplicate = refl
has_its_number NoSuper = refl
has_its_number Cycle = refl
has_its_number FinalSuper = refl
has_its_number CrossPackage = refl
has_its_number NoMain = refl
has_its_number TooMany = refl

same_number : (a b : LinkFaultKind) → link_number a ≡ link_number b → a ≡ b
same_number a b e = sym (has_its_number a) ∙ (ap kind_numbered e ∙ has_its_number b)

same_place : (files : List LoadedClass) (kind : LinkFaultKind) (k j : ℕ) → IsFaultAt files kind k → IsFaultAt files kind j → k ≡ j
same_place files kind k j a b =
    ⊎_elim (λ e. e) (λ o. ⊎_elim (λ lt. absurd (b.first k lt a.shows)) (λ lt. absurd (a.first j lt b.shows)) o) (cases_order k j)

faults_one : (files : List LoadedClass) (f g : LinkFaultKind × ℕ) → IsFaultAt files f.0 f.1 → IsFaultAt files g.0 g.1 → f ≡ g
faults_one files f g a b =
    ⊎_elim
    (λ e.
    let kinds : f.0 ≡ g.0 = same_number f.0 g.0 e in
    let places : f.1 ≡ g.1 = same_place files g.0 f.1 g.1 (subst (λ (kind : LinkFaultKind). IsFaultAt files kind f.1) kinds a) b in
    ap (λ (kind : LinkFaultKind). (kind, f.1)) kinds ∙ ap (λ (k : ℕ). (g.0, k)) places)
    (λ o. ⊎_elim (λ lt. absurd (b.least f.0 lt f.1 a.inside a.shows)) (λ lt. absurd (a.least g.0 lt g.1 b.inside b.shows)) o)
    (cases_order (link_number f.0) (link_number g.0))

-- ANSWERS

pub answers_one : (files : List LoadedClass) (a b : Result Linked (LinkFaultKind × ℕ)) → LinkIs files a → LinkIs files b → a ≡ b
answers_one files (Ok p) (Ok q) x y = ap (λ (r : Linked). Ok r) (programs_one files p q x.0 x.1 y.1)
answers_one files (Ok p) (Err g) x y = absurd (x.0 g.0 g.1 y.inside y.shows)
answers_one files (Err f) (Ok q) x y = absurd (y.0 f.0 f.1 x.inside x.shows)
answers_one files (Err f) (Err g) x y = ap (λ (h : LinkFaultKind × ℕ). Err h) (faults_one files f g x y)
