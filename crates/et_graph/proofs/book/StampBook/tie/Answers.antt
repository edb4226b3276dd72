use Rattle.std.proofs.Common.{◌≡◌, ◌++◌, ℕ, List, sym, subst, ap, ◌∙◌}
use Rattle.et_graph.specs.Graph.{IsReached}
use Rattle.et_graph.specs.Times.{ArePairsAmong}
use Rattle.et_graph.specs.Book.{Book, StandsFor}
use Rattle.et_graph.specs.Inside.{book_of}
use Rattle.et_graph.specs.Taken.{with_tie}
use Rattle.et_graph.specs.declared.book.StampBook.TheInside.{Inside}
use Rattle.et_graph.proofs.Books.{tie_stands}
use Rattle.et_graph.proofs.Insides.{tied_book}
use Rattle.et_graph.proofs.book.StampBook.tie.Goals as goal

-- what the book keeps in the end
abbrev tied_of : goal.After-drop-tied-2 → Inside
tied_of c = record c.self.inside { pairs = c.extend_from_slice.new.self }

pairs_are : (c : goal.After-drop-tied-2) → c.extend_from_slice.new.self.items ≡ c.self.inside.pairs.items ++ c.args.tied.items
pairs_are c = c.in_ok-extend_from_slice.ensures.items ∙ ap (λ (ps : List (ℕ × ℕ)). c.self.inside.pairs.items ++ ps) c.deref.ensures.value

among : (c : goal.After-drop-tied-2) → ArePairsAmong (IsReached (book_of c.self.inside).graph) c.args.tied.items
among c = subst (λ (b : Book). ArePairsAmong (IsReached b.graph) c.args.tied.items) (sym c.self.view_is) c.requires.reached

pub invariant_of-self-2 : goal.invariant_of-self-2
invariant_of-self-2 c = tied_book c.self.inside c.extend_from_slice.new.self c.args.tied.items (pairs_are c) (among c) c.self.invariant

pub returns-clause-ok : goal.returns-clause-ok
returns-clause-ok c = λ turns stands.
    let b : Book = book_of c.self.inside in
    subst (λ (ps : List (ℕ × ℕ)). StandsFor (record b { graph = record b.graph { pairs = ps } }) (with_tie turns c.args.tied.items)) (sym (pairs_are c))
    (tie_stands b turns c.args.tied.items (among c) (subst (λ (z : Book). StandsFor z turns) (sym c.self.view_is) stands))
