-- The history of the book is written out as far as each call, so that tests say that what comes next is legal there.
use Rattle.std.proofs.Common.{◌≡◌, ℕ, ◌<◌, ◌^◌, true, List, [], ◌∷◌, Contains, refl, sym, subst, arith}
use Rattle.et_base.proofs.Lists.{Contains-none}
use Rattle.et_graph.specs.Graph.{Graph, IsReached}
use Rattle.et_graph.specs.Steps.{IsLegalStep}
use Rattle.et_graph.specs.Edit.{Edit, step_of}
use Rattle.et_graph.specs.Times.{ArePairsAmong}
use Rattle.et_graph.specs.History.{Turn, graph_after, steps}
use Rattle.et_graph.specs.History.Turn.{Flushed}
use Rattle.et_graph.specs.Book.{Book, StandsFor}
use Rattle.et_graph.specs.Taken.{with_step, with_tie}
use Rattle.et_graph.proofs.Legality.{row, step_test, tie_test, tested_legal, tested_tie, legal_flushed}
use Rattle.et_part_tests.proofs.graphs.what_is_tied_dies_with_its_holder.Goals as goal

-- the steps and the tie
abbrev first : Edit
first = row (1 ∷ 2 ∷ []) [] (1 ∷ 2 ∷ []) [] []

abbrev second : Edit
second = row [] (2 ∷ []) (1 ∷ []) [] []

abbrev third : Edit
third = row [] (1 ∷ []) [] [] []

abbrev tied : List (ℕ × ℕ)
tied = (1, 2) ∷ []

-- the book once a step is taken, and once pairs are tied
stepped : (book after : Book) (turns : List Turn) (e f : Edit) → ((ts : List Turn) → StandsFor book ts → StandsFor after (with_step ts e)) → e ≡ f → StandsFor book turns → StandsFor after (with_step turns f)
stepped book after turns e f takes is stands = subst (λ (z : Edit). StandsFor after (with_step turns z)) is (takes turns stands)

joined : (book after : Book) (turns : List Turn) (ps qs : List (ℕ × ℕ)) → ((ts : List Turn) → StandsFor book ts → StandsFor after (with_tie ts ps)) → ps ≡ qs → StandsFor book turns → StandsFor after (with_tie turns qs)
joined book after turns ps qs ties is stands = subst (λ (z : List (ℕ × ℕ)). StandsFor after (with_tie turns z)) is (ties turns stands)

-- a step and a tie that pass the tests are legal for the book
legal_step : (book : Book) (turns : List Turn) (e f : Edit) → StandsFor book turns → e ≡ f → step_test (graph_after turns) (step_of (graph_after turns) f) ≡ true → IsLegalStep book.graph (step_of book.graph e)
legal_step book turns e f stands is test =
    subst (λ (z : Graph). IsLegalStep z (step_of z e)) (sym stands.graph)
    (subst (λ (z : Edit). IsLegalStep (graph_after turns) (step_of (graph_after turns) z)) (sym is) (tested_legal (graph_after turns) f test))

legal_tie : (book : Book) (turns : List Turn) (ps qs : List (ℕ × ℕ)) → StandsFor book turns → ps ≡ qs → tie_test (graph_after turns) qs ≡ true → ArePairsAmong (IsReached book.graph) ps
legal_tie book turns ps qs stands is test =
    subst (λ (z : Graph). ArePairsAmong (IsReached z) ps) (sym stands.graph)
    (subst (λ (z : List (ℕ × ℕ)). ArePairsAmong (IsReached (graph_after turns)) z) (sym is) (tested_tie (graph_after turns) qs test))

-- and so is a step after which there is no root, once the book is flushed
legal_after : (book : Book) (turns : List Turn) (dead : List ℕ) (e f : Edit) → StandsFor book (Flushed book.graph dead ∷ turns) → e ≡ f → f.roots ≡ [] → step_test (graph_after turns) (step_of (graph_after turns) f) ≡ true
    → IsLegalStep book.graph (step_of book.graph e)
legal_after book turns dead e f stands is none test =
    subst (λ (z : Edit). IsLegalStep book.graph (step_of book.graph z)) (sym is)
    (legal_flushed (graph_after turns) book.graph dead stands.history.1 f (tested_legal (graph_after turns) f test) (λ r c gone. Contains-none r (subst (λ (rs : List ℕ). Contains rs r) none c)))

few_after : (book : Book) (turns : List Turn) → StandsFor book turns → steps turns ≡ 2 → book.steps < 2 ^ 41
few_after book turns stands two = omega (arith, stands.steps_so_far)

pub take_step-requires-clause-legal : goal.take_step-requires-clause-legal
take_step-requires-clause-legal g c = legal_step _ [] _ first c.begin-book.ensures c.in_ok-step.ensures refl

pub tie-requires : goal.tie-requires
tie-requires g c =
    let one = stepped _ _ [] _ first c.in_ok-take_step.ensures.ok c.in_ok-step.ensures c.begin-book.ensures in
    record { reached = legal_tie _ _ _ tied one c.in_ok-pairs.ensures refl }

pub take_step-requires-2-clause-legal : goal.take_step-requires-2-clause-legal
take_step-requires-2-clause-legal g c =
    let one = stepped _ _ [] _ first c.in_ok-take_step.ensures.ok c.in_ok-step.ensures c.begin-book.ensures in
    let two = joined _ _ _ _ tied c.in_ok-tie.ensures.ok c.in_ok-pairs.ensures one in
    legal_step _ _ _ second two c.in_ok-step-2.ensures refl

pub take_step-requires-3-clause-legal : goal.take_step-requires-3-clause-legal
take_step-requires-3-clause-legal g c =
    let one = stepped _ _ [] _ first c.in_ok-take_step.ensures.ok c.in_ok-step.ensures c.begin-book.ensures in
    let two = joined _ _ _ _ tied c.in_ok-tie.ensures.ok c.in_ok-pairs.ensures one in
    let three = stepped _ _ _ _ second c.in_ok-take_step-2.ensures.ok c.in_ok-step-2.ensures two in
    legal_after _ _ _ _ third (c.flush.follows.holds-at-none _ three) c.in_ok-step-3.ensures refl refl

pub take_step-requires-3-clause-few : goal.take_step-requires-3-clause-few
take_step-requires-3-clause-few g c =
    let three = c.in_ok-take_step-2.ensures.ok _ (c.in_ok-tie.ensures.ok _ (c.in_ok-take_step.ensures.ok [] c.begin-book.ensures)) in
    few_after _ _ (c.flush.follows.holds-at-none _ three) refl
