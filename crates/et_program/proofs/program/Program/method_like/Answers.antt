use Rattle.std.proofs.Common.{◌∙◌, ℕ, ◌<◌, length, Some, sym, ap, subst}
use Rattle.std.specs.List.{position_from, slice_index_or}
use Rattle.et_program.specs.Entries.{Linked, no_method, method_at}
use Rattle.et_program.specs.Members.{is_method, method_in}
use Rattle.et_program.proofs.SignatureLemmas.{start_le_end, end_within, found_like}
use Rattle.et_program.proofs.program.Program.method_like.Goals as goal

pub find_among-requires-clause-start : goal.find_among-requires-clause-start
find_among-requires-clause-start c =
    start_le_end c.self.inside.classes.items c.self.inside.methods.items c.self.inside.method_order.entries.items c.self.inside.signatures.items c.self.invariant.1.methods_order c.self.invariant.0.methods c.self.invariant.3 c.number.result c.index-signature.result.now
    (subst (λ (p : Linked). c.number.result < length p.methods) (sym c.self.view_is) (rw c.number.ensures.value c.requires)) c.index-signature.ensures

pub find_among-requires-clause-end : goal.find_among-requires-clause-end
find_among-requires-clause-end c =
    end_within c.self.inside.classes.items c.self.inside.methods.items c.self.inside.method_order.entries.items c.self.inside.signatures.items c.self.invariant.1.methods_order c.self.invariant.0.methods c.self.invariant.3 c.number.result c.index-signature.result.now
    (subst (λ (p : Linked). c.number.result < length p.methods) (sym c.self.view_is) (rw c.number.ensures.value c.requires)) c.index-signature.ensures

pub returns-in_err-found : goal.returns-in_err-found
returns-in_err-found c =
    let methods = c.self.inside.methods.items in
    c.from_residual.ensures
    ∙ (sym c.in_err-found.was
    ∙ (found_like c.self.inside.classes.items methods c.self.inside.method_order.entries.items c.self.inside.signatures.items c.self.invariant.1.methods_order c.self.invariant.0.methods c.self.invariant.3 c.number.result c.index-signature.result.now
    (subst (λ (p : Linked). c.number.result < length p.methods) (sym c.self.view_is) (rw c.number.ensures.value c.requires)) c.index-signature.ensures c.number-2.result c.find_among.result c.find_among.ensures
    ∙ (ap (λ (k : ℕ). position_from (is_method (slice_index_or methods c.number.result no_method).name (slice_index_or methods c.number.result no_method).descriptor k) 0 methods) c.number-2.ensures.value
    ∙ (ap (λ (k : ℕ). position_from (is_method (slice_index_or methods k no_method).name (slice_index_or methods k no_method).descriptor c.args.class) 0 methods) c.number.ensures.value
    ∙ ap (λ (p : Linked). method_in p (method_at p c.args.method).name (method_at p c.args.method).descriptor c.args.class) c.self.view_is))))

pub returns : goal.returns
returns c =
    let methods = c.self.inside.methods.items in
    ap (λ (k : ℕ). Some k) c.new.ensures
    ∙ (sym c.in_ok-found.was
    ∙ (found_like c.self.inside.classes.items methods c.self.inside.method_order.entries.items c.self.inside.signatures.items c.self.invariant.1.methods_order c.self.invariant.0.methods c.self.invariant.3 c.number.result c.index-signature.result.now
    (subst (λ (p : Linked). c.number.result < length p.methods) (sym c.self.view_is) (rw c.number.ensures.value c.requires)) c.index-signature.ensures c.number-2.result c.find_among.result c.find_among.ensures
    ∙ (ap (λ (k : ℕ). position_from (is_method (slice_index_or methods c.number.result no_method).name (slice_index_or methods c.number.result no_method).descriptor k) 0 methods) c.number-2.ensures.value
    ∙ (ap (λ (k : ℕ). position_from (is_method (slice_index_or methods k no_method).name (slice_index_or methods k no_method).descriptor c.args.class) 0 methods) c.number.ensures.value
    ∙ ap (λ (p : Linked). method_in p (method_at p c.args.method).name (method_at p c.args.method).descriptor c.args.class) c.self.view_is))))
