use Rattle.std.proofs.Common.{◌≡◌, ◌∙◌, ◌+◌, ◌++◌, ◌∷◌, [], ap, sym, length, arith, List, ℕ}
use Rattle.et_link.proofs.NameLemmas.{name_stays, name_goes, index_goes}
use Rattle.et_link.proofs.names.ArrayNames.add.Goals as goal

pub returns-then-is_some-clause-names : goal.returns-then-is_some-clause-names
returns-then-is_some-clause-names c =
    name_stays c.args.self.now.first c.args.self.now.names.items c.args.self.now.index c.args.name.now c.find.result c.requires c.find.ensures (sym c.is_some.ensures ∙ c.if-is_some.true)

pub returns-clause-names : goal.returns-clause-names
returns-clause-names c =
    name_goes c.args.self.now.first c.args.self.now.names.items _ c.args.self.now.index c.args.name.now c.find.result c.requires c.find.ensures (sym c.is_some.ensures ∙ c.if-is_some.false)
    (c.in_ok-push.ensures.items ∙ ap (λ (n : List ℕ). c.args.self.now.names.items ++ n ∷ []) c.in_ok-copy.ensures)

pub returns-clause-index : goal.returns-clause-index
returns-clause-index c =
    let n : c.number.result ≡ c.args.self.now.first + length c.args.self.now.names.items = omega (arith, c.number.ensures.value, c.in_ok-number.ensures, c.in-Some.ensures, c.len.ensures) in
    index_goes c.args.self.now.first c.number.result c.args.self.now.names.items _ c.args.self.now.index c.put.new.self c.args.name.now c.requires
    (c.in_ok-push.ensures.items ∙ ap (λ (n : List ℕ). c.args.self.now.names.items ++ n ∷ []) c.in_ok-copy.ensures) n c.in_ok-put.ensures.ok
