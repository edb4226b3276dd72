-- A step and a tie as a program writes them.
use Rattle.std.specs.Prelude.{ℕ, ◌+◌, ◌==◌, ◌&&◌, Bool, not, List, ◌++◌, length, filter}
use Rattle.std.specs.List.{list_any}
use Rattle.et_graph.specs.Graph.{Graph}
use Rattle.et_graph.specs.Steps.{Step}

-- its new and its lost objects, the roots after it, and the pairs that it takes away and puts in
pub record Edit : Type 0 where
  pub fresh : List ℕ
  pub lost : List ℕ
  pub roots : List ℕ
  pub cut : List (ℕ × ℕ)
  pub tied : List (ℕ × ℕ)

abbrev pub has_pair : List (ℕ × ℕ) → ℕ × ℕ → Bool
has_pair pairs p = list_any (λ q. (q.0 == p.0) && (q.1 == p.1)) pairs

-- the step from g: the pairs after it are those before that aren't cut, and those tied
abbrev pub step_of : Graph → Edit → Step
step_of g e = record {
  after = record {
    made = g.made + length e.fresh;
    roots = e.roots;
    pairs = filter (λ p. not (has_pair e.cut p)) g.pairs ++ e.tied;
    gone = g.gone;
  };
  fresh = e.fresh;
  lost = e.lost;
}

-- the graph once these pairs are tied as well
abbrev pub with_pairs : Graph → List (ℕ × ℕ) → Graph
with_pairs g tied = record g { pairs = g.pairs ++ tied }
