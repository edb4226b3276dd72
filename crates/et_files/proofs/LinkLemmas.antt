-- THE ONE PROGRAM of classes, or the one fault that keeps them from being linked.
use Rattle.std.proofs.Common.{◌≡◌, inl, inr, ℕ, List, map, Result, Ok, Err, ◌∙◌, ap, subst}
use Rattle.et_class.specs.Layout.{ClassOf}
use Rattle.et_program.specs.Loaded.{loaded_class}
use Rattle.et_program.specs.Entries.{Linked}
use Rattle.et_program.specs.LinkFaults.{IsLinkable}
use Rattle.et_program.specs.ProgramOf.{IsProgramOf}
use Rattle.et_link.specs.Refusals.{LinkIs, RefusesLink}
use Rattle.et_program.specs.declared.fault.LinkFaultKind.{LinkFaultKind}
use Rattle.et_link.specs.declared.fault.LinkFault.TheVariants as link
use Rattle.et_files.specs.Faults.{Fault, LinkFault}
use Rattle.et_files.specs.Loaded.{IsLinkedOf, class_alone}
use Rattle.et_files.specs.Told.{Cause, File, Reading, Memory, Other, IsCause}

or_fault : Result Linked (LinkFaultKind × ℕ) → LinkFaultKind × ℕ → LinkFaultKind × ℕ
or_fault (Ok p) f = f
or_fault (Err g) f = g

or_program : Result Linked (LinkFaultKind × ℕ) → Linked → Linked
or_program (Ok p) q = p
or_program (Err f) q = q

module _ (classes : List ClassOf) (one : (answer other : Result Linked (LinkFaultKind × ℕ)) → LinkIs (map loaded_class classes) answer → LinkIs (map loaded_class classes) other → answer ≡ other) (program : Result Linked Fault) where
  not_both : (kind : LinkFaultKind) (name : List ℕ) → IsLinkable (map loaded_class classes) → RefusesLink (map loaded_class classes) (link.At kind name) → ⊥
  not_both kind name linkable (k, at, is) = linkable kind k at.inside at.shows

  -- classes that link have no fault, and one program
  pub linked_found : (p : Linked) → IsLinkable (map loaded_class classes) → IsProgramOf (map loaded_class classes) p → IsLinkedOf (Ok classes) program → program ≡ Ok p
  unfolding or_program
  linked_found p linkable of (inl (kind, (name, refuses, e))) = absurd (not_both kind name linkable refuses)
  linked_found p linkable of (inr (links, (q, its, e))) =
      let same : q ≡ p = ap (λ x. or_program x p) (one (Ok q) (Ok p) (links, its) (linkable, of)) in
      e ∙ ap (λ x. Ok x) same

  -- .. and classes with a fault have no other, and don't link
  pub link_fault_found : (kind : LinkFaultKind) (name : List ℕ) → RefusesLink (map loaded_class classes) (link.At kind name) → IsLinkedOf (Ok classes) program → program ≡ Err (LinkFault kind name)
  unfolding or_fault
  link_fault_found kind name (k, at, is) (inl (other, (its, (j, found, was), e))) =
      let same : ◌≡◌ {A = LinkFaultKind × ℕ} (other, j) (kind, k) = ap (λ x. or_fault x (kind, k)) (one (Err (other, j)) (Err (kind, k)) found at) in
      let kinds : other ≡ kind = ap (λ (x : LinkFaultKind × ℕ). x.0) same in
      let places : j ≡ k = ap (λ (x : LinkFaultKind × ℕ). x.1) same in
      let names : its ≡ name = cc in
      e ∙ (ap (λ x. Err (LinkFault x its)) kinds ∙ ap (λ x. Err (LinkFault kind x)) names)
  link_fault_found kind name refuses (inr (linkable, e)) = absurd (not_both kind name linkable refuses)

-- classes that were not read make no program
pub program_not_read : (read : Type 0) (classes : Result (List ClassOf) Fault) (cause : Cause) (program : Result Linked Fault) → IsCause read classes cause → IsLinkedOf classes program → IsCause read program cause
program_not_read read classes (File fault) program e is = subst (λ c. IsLinkedOf c program) e is
program_not_read read classes Reading program h is = h
program_not_read read classes Memory program h is = tt
program_not_read read classes Other program h is = absurd h

-- a class that was not read is none alone
pub alone_not_read : (read : Type 0) (class : Result ClassOf Fault) (cause : Cause) → IsCause read class cause → IsCause read (class_alone class) cause
alone_not_read read class (File fault) is = ap class_alone is
alone_not_read read class Reading h = h
alone_not_read read class Memory h = tt
alone_not_read read class Other h = absurd h
