use Rattle.std.proofs.Common.{◌≡◌, ◌++◌, ℕ, List, Vec, Global, not, sym, ap, ◌∙◌, rules, arith}
use Rattle.std.proofs.lemmas.Bool.{eqb-true}
use Rattle.std.proofs.lemmas.Fn.{filter_same}
use Rattle.et_graph.specs.Edit.{has_pair}
use Rattle.et_graph.proofs.Cuts.{none_cut}
use Rattle.et_graph.proofs.pairs.edit.Goals as goal
use Rattle.et_graph.proofs.pairs.edit.Goals.{then-not-is_empty, else-not-is_empty}

pub returns : goal.returns
returns c =
    c.extend.ensures.items ∙
    ap (λ (ps : List (ℕ × ℕ)). ps ++ c.args.tied.now)
    (elim c.if-not-is_empty.branch [
      | then-not-is_empty w ↦
          ap (λ (v : Vec (ℕ × ℕ) Global). v.items) w.pairs-is
          ∙ filter_same _ (λ (p : ℕ × ℕ). not (has_pair c.args.cut.items p)) _
          (λ x b f' k.
          let says : b ≡ not (has_pair w.new-cut.result.pairs.items x) = search rules in (
            says ∙ ap not (w.new-cut.ensures x),
            search rules,
          ))
          _ _ w.retain.ensures.filtered
      | else-not-is_empty w ↦
          ap (λ (v : Vec (ℕ × ℕ) Global). v.items) w.pairs-is
          ∙ none_cut c.args.cut.items c.args.pairs.now.items (omega (arith, c.args.cut.ok.0, eqb-true _ _ (sym c.is_empty.ensures ∙ w.if-not-is_empty.false)))
    ])
