-- Files are a program, or have a fault.
use Rattle.std.proofs.Common.{◌≡◌, ℕ, ◌+◌, ◌<◌, ◌≤◌, List, [], ◌∷◌, ◌++◌, length, map, Option, None, Some, Result, Ok, Err, refl, arith}
use mathlib.Core.Logic.{⊎_elim}
use Rattle.std.specs.Prelude.{All}
use Rattle.std.proofs.lemmas.Bool.{cases_lt}
use Rattle.std.proofs.lemmas.List.Elements.{All-head, All-tail}
use Rattle.et_pool.specs.Entries.{Constants}
use Rattle.et_boot.specs.Classes.{BootClassOf}
use Rattle.et_boot.specs.Pools.{HasPool}
use Rattle.et_boot.proofs.PoolLemmas.{pools_are_read}
use Rattle.et_hierarchy.specs.Links.{links}
use Rattle.et_hierarchy.specs.Faults.{IsLinkFault, IsFaultless}
use Rattle.et_hierarchy.specs.Ancestry.{Ancestry, IsAncestry}
use Rattle.et_hierarchy.specs.declared.fault.FaultKind.{FaultKind}
use Rattle.et_hierarchy.proofs.LinkLemmas.{table_within}
use Rattle.et_hierarchy.proofs.Decided.{rows_exist, set_answer}
use Rattle.et_program.specs.Entries.{Linked}
use Rattle.et_program.specs.declared.fault.LinkFaultKind.{LinkFaultKind}
use Rattle.et_program.specs.declared.fault.LinkFaultKind.TheVariants.{CrossPackage, NoMain, TooMany}
use Rattle.et_program.specs.Loaded.{LoadedClass}
use Rattle.et_program.specs.Files.{boots, set_of}
use Rattle.et_program.specs.MembersOf.{methods_of, AreBootPools, file_pool}
use Rattle.et_program.specs.ProgramOf.{main_of, program_with}
use Rattle.et_link.specs.Crossing.{crosses, AnswersLeast}
use Rattle.et_link.specs.Refusals.{link_kind, IsLate, LinkIs}
use Rattle.et_link.proofs.CrossLemmas.{least_at}
use Rattle.et_link.proofs.LinkingLemmas.{set_fault, late_fault, late_inside, linkable, acyclic_along}

-- POOLS OF THE BUILT-IN CLASSES

boot_pools : (cs : List BootClassOf) → All HasPool cs → (ps : List Constants) × AreBootPools cs ps
boot_pools [] h = ([], tt)
boot_pools (c ∷ cs) h =
    let p : HasPool c = All-head HasPool c cs h in
    let r = boot_pools cs (All-tail HasPool c cs h) in
    (record { at = 0; slots = p.slots } ∷ r.0, (record { place = refl; after = length c.pool; spelled = p.read }, r.1))

are_read : All HasPool boots
unfolding boots
are_read = pools_are_read

-- ANSWERS

module _ (files : List LoadedClass) (some : 0 < length files) where
  abbrev Answer : Type 0
  Answer = (answer : Result Linked (LinkFaultKind × ℕ)) × LinkIs files answer

  of_set : (kind : FaultKind) (k : ℕ) → IsLinkFault (set_of files) kind k → Answer
  of_set kind k h = (Err (link_kind kind, k), set_fault files kind k h)

  module _ (faultless : IsFaultless (set_of files)) (rows : List Ancestry) (ancestry : IsAncestry (links (set_of files)) rows) where
    abbrev Least : Option ℕ → Type 0
    Least found = AnswersLeast (crosses (set_of files) rows (methods_of files)) (methods_of files) (length (methods_of files)) found

    of_late : (kind : LinkFaultKind) (k : ℕ) → IsLate (set_of files) rows (methods_of files) (length files) kind k → Answer
    of_late kind k h = (Err (kind, k), late_fault files rows ancestry faultless kind k some h (late_inside files rows ancestry faultless kind k some h))

    of_main : (m : ℕ) → Least None → main_of (methods_of files) ≡ Some m → length files ≤ 4096 → Answer
    of_main m none main few =
        let ps = boot_pools boots are_read in
        let pools : List Constants = ps.0 ++ map file_pool files in (
          Ok (program_with files rows pools),
          (linkable files rows ancestry faultless m none main few, record { rows = rows; ancestry = ancestry; pools = record { built_in = ps.0; are_spelled = ps.1; are = refl }; tables = refl }),
        )

    of_methods : (main : Option ℕ) → main_of (methods_of files) ≡ main → Least None → Answer
    of_methods None e none = of_late NoMain (length boots) (none, e, refl)
    of_methods (Some m) e none = ⊎_elim (λ many. of_late TooMany (length boots + 4096) (none, (m, e), many, refl)) (λ few. of_main m none e few) (cases_lt 4096 (length files))

    of_least : (found : Option ℕ) → Least found → Answer
    of_least None h = of_methods (main_of (methods_of files)) refl h
    of_least (Some k) h = of_late CrossPackage k h

  of_names : IsFaultless (set_of files) → Answer
  of_names faultless =
      let table = links (set_of files) in
      let r = rows_exist table (table_within (set_of files) table refl) (acyclic_along (set_of files) table refl faultless) in
      let least = least_at (crosses (set_of files) r.0 (methods_of files)) (methods_of files) (length (methods_of files)) (omega arith) in
      of_least faultless r.0 r.1 least.0 least.1

  pub answer : Answer
  answer = ⊎_elim of_names (λ (kind, k, h). of_set kind k h) (set_answer (set_of files))
