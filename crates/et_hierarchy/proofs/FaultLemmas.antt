-- The fault of the least kind.
use Rattle.std.proofs.Common.{◌≡◌, ℕ, ◌<◌, List, arith, Option, None, Some, sym, subst}
use Rattle.std.proofs.lemmas.List.{length-map}
use Rattle.et_hierarchy.specs.Outline.{Outline}
use Rattle.et_hierarchy.specs.Links.{LinkEntry, links, links_of, AnswersCycle}
use Rattle.et_hierarchy.specs.Faults.{IsFree, IsFirstToShow, IsLinkFault, IsFaultless, kind_number}
use Rattle.et_hierarchy.specs.Index.{NameMap, IsSetIndexed}
use Rattle.et_hierarchy.specs.declared.index.Indexed.{Indexed}
use Rattle.et_hierarchy.specs.declared.index.Indexed.TheVariants.{Places}
use Rattle.et_hierarchy.specs.declared.fault.FaultKind.{FaultKind}
use Rattle.et_hierarchy.specs.declared.fault.FaultKind.TheVariants.{Duplicate, NoSuper, Cycle, FinalSuper}

pub fault_duplicate : (set : List Outline) (k : ℕ) → IsFirstToShow set Duplicate k → IsLinkFault set Duplicate k
fault_duplicate set k f = record { found = f; least = λ other lt. below other lt }
  where
    below : (other : FaultKind) → kind_number other < 1 → IsFree set other
    below Duplicate lt = absurd (omega arith)
    below NoSuper lt = absurd (omega arith)
    below Cycle lt = absurd (omega arith)
    below FinalSuper lt = absurd (omega arith)

pub fault_no_super : (set : List Outline) (k : ℕ) → IsFree set Duplicate → IsFirstToShow set NoSuper k → IsLinkFault set NoSuper k
fault_no_super set k d f = record { found = f; least = λ other lt. below other lt }
  where
    below : (other : FaultKind) → kind_number other < 2 → IsFree set other
    below Duplicate lt = d
    below NoSuper lt = absurd (omega arith)
    below Cycle lt = absurd (omega arith)
    below FinalSuper lt = absurd (omega arith)

pub fault_cycle : (set : List Outline) (k : ℕ) → IsFree set Duplicate → IsFree set NoSuper → IsFirstToShow set Cycle k → IsLinkFault set Cycle k
fault_cycle set k d n f = record { found = f; least = λ other lt. below other lt }
  where
    below : (other : FaultKind) → kind_number other < 3 → IsFree set other
    below Duplicate lt = d
    below NoSuper lt = n
    below Cycle lt = absurd (omega arith)
    below FinalSuper lt = absurd (omega arith)

pub fault_final : (set : List Outline) (k : ℕ) → IsFree set Duplicate → IsFree set NoSuper → IsFree set Cycle → IsFirstToShow set FinalSuper k → IsLinkFault set FinalSuper k
fault_final set k d n c f = record { found = f; least = λ other lt. below other lt }
  where
    below : (other : FaultKind) → kind_number other < 4 → IsFree set other
    below Duplicate lt = d
    below NoSuper lt = n
    below Cycle lt = c
    below FinalSuper lt = absurd (omega arith)

pub faultless : (set : List Outline) → IsFree set Duplicate → IsFree set NoSuper → IsFree set Cycle → IsFree set FinalSuper → IsFaultless set
faultless set d n c f Duplicate = d
faultless set d n c f NoSuper = n
faultless set d n c f Cycle = c
faultless set d n c f FinalSuper = f

pub no_cycle : (set : List Outline) (t : List LinkEntry) (o : Option ℕ) → t ≡ links set → o ≡ None → AnswersCycle t o → IsFree set Cycle
no_cycle set t o e is h =
    let a : AnswersCycle (links set) None = subst (λ (p : Option ℕ). AnswersCycle (links set) p) is (subst (λ (s : List LinkEntry). AnswersCycle s o) e h) in
    λ k lt. a k (subst (λ n. k < n) (sym (length-map set (links_of set))) lt)

pub first_cycle : (set : List Outline) (t : List LinkEntry) (o : Option ℕ) (k : ℕ) → t ≡ links set → o ≡ Some k → AnswersCycle t o → IsFirstToShow set Cycle k
first_cycle set t o k e is h =
    let a : AnswersCycle (links set) (Some k) = subst (λ (p : Option ℕ). AnswersCycle (links set) p) is (subst (λ (s : List LinkEntry). AnswersCycle s o) e h) in
    record { inside = subst (λ n. k < n) (length-map set (links_of set)) a.0; shows = a.1; first = a.2 }

pub indexed_free : (set : List Outline) (r : Indexed) (m : NameMap) → r ≡ Places m → IsSetIndexed set r → IsFree set Duplicate
indexed_free set r m e h = let w : IsSetIndexed set (Places m) = subst (λ (i : Indexed). IsSetIndexed set i) e h in w.1
