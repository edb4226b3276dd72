-- Membership in lists of pairs.
use Rattle.std.proofs.Common.{◌≡◌, ℕ, ◌==◌, ◌&&◌, true, List, Contains, refl}
use Rattle.std.proofs.lemmas.Bool.{eqb-true, eq-eqb, and_parts, and_from}
use Rattle.et_base.proofs.Lists.{pair_from, any_contains, contains_any}
use Rattle.et_graph.specs.Edit.{has_pair}

pub has_pair_contains : (ps : List (ℕ × ℕ)) (p : ℕ × ℕ) → has_pair ps p ≡ true → Contains ps p
has_pair_contains ps p h =
    any_contains (λ q. (q.0 == p.0) && (q.1 == p.1)) p
    (λ q t. let both = and_parts (q.0 == p.0) (q.1 == p.1) t in pair_from q p (eqb-true q.0 p.0 both.0) (eqb-true q.1 p.1 both.1))
    ps h

pub contains_has_pair : (ps : List (ℕ × ℕ)) (p : ℕ × ℕ) → Contains ps p → has_pair ps p ≡ true
contains_has_pair ps p c =
    contains_any (λ q. (q.0 == p.0) && (q.1 == p.1)) p
    (and_from (p.0 == p.0) (p.1 == p.1) (eq-eqb p.0 p.0 refl) (eq-eqb p.1 p.1 refl)) ps c
