use Rattle.std.proofs.Common.{◌≡◌, ◌∷◌, Some, None, drop, Contains, ap, subst, sym, ◌∙◌}
use Rattle.et_base.proofs.Lists.{Contains-here, Contains-there}
use Rattle.et_heap.specs.Stored.{as_stored, IsStored}
use Rattle.et_heap.specs.Links.{next_of, IsLeft, StandOnce}
use Rattle.et_heap.proofs.Ways.{left-next, left-behind, first-behind}
use Rattle.et_heap.proofs.refs.WaitingRefsIterator.next.Goals as goal

pub invariant_of-self : goal.invariant_of-self
invariant_of-self c =
    let P = c.self.inside.store.now in
    let l = c.self.inside.last in
    let rs = c.self.inside.waiting.items in
    let n = left-next (next_of P) c.in-Some.before l rs c.self.invariant.once (subst (λ b. IsLeft (next_of P) b l rs) c.in-Some.is c.self.invariant.left) in
    let list : c.then-self-inside.result.items ≡ n.rest = c.then-self-inside.ensures ∙ ap (λ xs. drop 1 xs) n.is in
    let first : c.next-first.result ≡ Some n.first = c.next-first.ensures ∙ (ap (λ y. (as_stored y).next) c.object.ensures ∙ n.goes) in
    let once : StandOnce (n.first ∷ n.rest) = subst StandOnce n.is c.self.invariant.once in
    let ends : Some n.first ≡ l → c.unless_last-self-inside.result ≡ None = λ e. c.unless_last-self-inside.ensures.ends (first ∙ e) in
    let goes_on : (Some n.first ≡ l → ⊥) → c.unless_last-self-inside.result ≡ Some n.first = λ other. c.unless_last-self-inside.ensures.goes_on (λ e. other (sym first ∙ e)) ∙ first in
    record {
      left = subst (λ xs. IsLeft (next_of P) c.unless_last-self-inside.result l xs) (sym list) (left-behind (next_of P) c.in-Some.before l rs n c.unless_last-self-inside.result ends goes_on);
      once = subst StandOnce (sym list) once.1;
      stand = λ r e. c.self.invariant.stand r (subst (λ xs. Contains xs r) (sym n.is) (Contains-there n.first n.rest r (subst (λ xs. Contains xs r) list e)));
      before = λ p is.
          let e = first-behind n.first l c.unless_last-self-inside.result ends goes_on p is in
          subst (λ o. IsStored P o) e (c.self.invariant.stand n.first (subst (λ xs. Contains xs n.first) (sym n.is) (Contains-here n.first n.rest)));
    }
