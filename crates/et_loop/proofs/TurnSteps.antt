-- One turn of the loop.
use Rattle.std.proofs.Common.{◌≡◌, ℕ, Bool, true, false, List, ◌++◌, Some, None, refl, sym, ◌∙◌, ap, subst, get_or, Contains, arith}
use Rattle.et_base.specs.declared.line.TraceLine.{TraceLine}
use Rattle.et_base.specs.declared.value.End.{End}
use Rattle.et_graph.specs.Graph.{Graph, IsMade, IsReached}
use Rattle.et_graph.proofs.Walks.{walk_more}
use Rattle.et_graph.proofs.Ties.{tie_reached}
use Rattle.et_state.specs.Naming.{Mentions}
use Rattle.et_state.specs.History.{Setting, is_flush_point, flush_lines, deaths_to, is_gone}
use Rattle.et_binary.specs.Formats.{lines_written_in}
use Rattle.et_loop.specs.Run.{time_noted, flush_of, due_lines, due_state, last_lines, Goes, Turns}
use Rattle.et_loop.proofs.TurnLemmas.{turned_on, turned_last}
use Rattle.et_graph.specs.Listed.{AreListed}
use Rattle.et_loop.specs.Kept.{Settles}

-- what is reached after a flush was made
pub settled_made : (due : Bool) (g h : Graph) → Settles due g h → ((o : ℕ) → IsReached g o → IsMade g o) → (o : ℕ) → IsReached h o → IsMade h o
settled_made true g h c made o r =
    let middle : Graph = c.0 in
    let cleared = c.1 in
    let back : IsReached middle o = tie_reached middle h c.2 o r in
    let before : IsReached g o = (back.0, subst (λ (os : List ℕ). Contains os back.0) cleared.roots back.1, (back.2.0, walk_more middle.pairs g.pairs (λ u x p. ((cleared.pairs u x).0 p).0) back.0 back.2.0 o back.2.1)) in
    let m = made o before in
    (m.0, omega (arith, m.1, cleared.made, c.2.made))
settled_made false g h e made o r = subst (λ (x : Graph). IsMade x o) (sym e) (made o (subst (λ (x : Graph). IsReached x o) e r))

-- the deaths of a flush after event e, which left s
abbrev pub deaths_now : {S : Type 0} → (Graph → ℕ → Bool) → Setting S → ℕ → S → (ℕ → ℕ) → List (ℕ × ℕ)
deaths_now reached given e s last = let g = given.rule.graph s in deaths_to (reached g) (is_gone g) (time_noted (reached g) last e) g.made

module _ {S : Type 0} (reached : Graph → ℕ → Bool) (given : Setting S) (e : ℕ) (s s₁ s₂ : S) (last : ℕ → ℕ) (m m' : Mentions) (due : Bool) (out out₁ out₂ : List ℕ) where
  module _ (ed : due ≡ is_flush_point given.interval e) (el : out₁ ≡ out ++ lines_written_in given.format (due_lines due (flush_lines e (deaths_now reached given e s last)))) (es : s₁ ≡ due_state due (given.rule.flushed (reached (given.rule.graph s)) s) s) where
    pub goes_on : Goes given e s₁ m s₂ m' out₁ out₂ None → Turns reached given e s last m s₂ (time_noted (reached (given.rule.graph s)) last e) m' out out₂ None
    goes_on g = turned_on reached given e s s₁ s₂ (reached (given.rule.graph s)) last (time_noted (reached (given.rule.graph s)) last e) m m' due out out₁ out₂ refl ed (λ o. refl) el es g

    -- nothing was left out at the end
    last_same : (b : Bool) (end : End) → s₂ ≡ due_state b (given.rule.flushed (reached (given.rule.graph s)) s) s → last_lines b end e (flush_lines e (deaths_now reached given e s last)) ≡ last_lines b end e (flush_of (reached (given.rule.graph s)) (time_noted (reached (given.rule.graph s)) last e) e (given.rule.graph s₂))
    last_same true end same = refl
    last_same false end same = ap (λ (x : S). last_lines false end e (flush_of (reached (given.rule.graph s)) (time_noted (reached (given.rule.graph s)) last e) e (given.rule.graph x))) (sym same)

    pub goes_out : (end : End) (out₃ : List ℕ) → Goes given e s₁ m s₂ m' out₁ out₂ (Some end) → out₃ ≡ out₂ ++ lines_written_in given.format (last_lines due end e (flush_lines e (deaths_now reached given e s last))) → Turns reached given e s last m s₂ (time_noted (reached (given.rule.graph s)) last e) m' out out₃ (Some end)
    goes_out end out₃ g ec =
        turned_last reached given e s s₁ s₂ (reached (given.rule.graph s)) last (time_noted (reached (given.rule.graph s)) last e) m m' due out out₁ out₂ refl ed (λ o. refl) el es end out₃ g
        (ec ∙ ap (λ (ls : List TraceLine). out₂ ++ lines_written_in given.format ls) (last_same due end (g.state ∙ es)))

    -- where no flush was due, what the stamps show at the end is what they showed before
    pub still_listed : (end : End) (stamps stamps' : List ℕ) → Goes given e s₁ m s₂ m' out₁ out₂ (Some end) → stamps' ≡ stamps → AreListed (given.rule.graph s) (λ o. get_or stamps o 0) (deaths_now reached given e s last) → due ≡ false → AreListed (given.rule.graph s₂) (λ o. get_or stamps' o 0) (deaths_now reached given e s last)
    still_listed end stamps stamps' g same listed none =
        let state : s₂ ≡ s = g.state ∙ (es ∙ ap (λ (b : Bool). due_state b (given.rule.flushed (reached (given.rule.graph s)) s) s) none) in
        subst (λ (x : S). AreListed (given.rule.graph x) (λ o. get_or stamps' o 0) (deaths_now reached given e s last)) (sym state)
        (subst (λ (ss : List ℕ). AreListed (given.rule.graph s) (λ o. get_or ss o 0) (deaths_now reached given e s last)) (sym same) listed)
