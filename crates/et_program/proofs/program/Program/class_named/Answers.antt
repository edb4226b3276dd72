use Rattle.std.proofs.Common.{◌∙◌, ℕ, List, Some, sym, ap}
use Rattle.std.specs.List.{position_from}
use Rattle.std.specs.Str.{bytes_eq}
use Rattle.et_program.specs.Entries.{ClassEntry, Linked}
use Rattle.et_program.specs.Members.{class_named}
use Rattle.et_program.proofs.OrderLemmas.{class_by_name}
use Rattle.et_program.proofs.program.Program.class_named.Goals as goal

pub returns-in_err-class : goal.returns-in_err-class
returns-in_err-class c =
    let name : List ℕ = c.args.name.now in
    c.from_residual.ensures
    ∙ (sym c.in_err-class.was
    ∙ (c.find.ensures
    ∙ (class_by_name name c.as_slice.result.now
    ∙ (ap (λ (xs : List ClassEntry). position_from (λ (x : ClassEntry). bytes_eq name x.info.name) 0 xs) c.as_slice.ensures.value
    ∙ ap (λ (p : Linked). class_named p name) c.self.view_is))))

pub returns : goal.returns
returns c =
    let name : List ℕ = c.args.name.now in
    ap (λ (k : ℕ). Some k) c.new.ensures
    ∙ (sym c.in_ok-class.was
    ∙ (c.find.ensures
    ∙ (class_by_name name c.as_slice.result.now
    ∙ (ap (λ (xs : List ClassEntry). position_from (λ (x : ClassEntry). bytes_eq name x.info.name) 0 xs) c.as_slice.ensures.value
    ∙ ap (λ (p : Linked). class_named p name) c.self.view_is))))
