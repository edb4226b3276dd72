-- One turn of the loop.
use Rattle.std.proofs.Common.{◌≡◌, ℕ, suc, Bool, true, false, List, [], ◌∷◌, ◌++◌, Some, None, refl, sym, ◌∙◌, ap, subst, if◌then◌else◌, append_assoc, append-nil}
use mathlib.Core.Path.{fun_ext}
use Rattle.std.proofs.lemmas.Grind.{flat_map-append}
use Rattle.et_base.specs.declared.line.TraceLine.{TraceLine}
use Rattle.et_base.specs.declared.line.TraceLine.TheVariants.{Finish}
use Rattle.et_base.specs.declared.value.End.{End}
use Rattle.et_graph.specs.Graph.{Graph}
use Rattle.et_state.specs.Outcome.{state_after, records_of}
use Rattle.et_state.specs.Naming.{Mentions, mentions_after, lines_of}
use Rattle.et_state.specs.History.{Setting, is_flush_point, how_of, ending, outcome_step, settled}
use Rattle.et_base.specs.declared.format.Format.{Format}
use Rattle.et_binary.specs.Formats.{written_in, lines_written_in}
use Rattle.et_loop.specs.Run.{time_noted, flush_of, due_lines, due_state, last_lines, Goes, Turns}

-- a flush where it is due leads to the settled state
pub settled_is : {S : Type 0} (reached : Graph → ℕ → Bool) (given : Setting S) (s : S) (b : Bool) → due_state b (given.rule.flushed (reached (given.rule.graph s)) s) s ≡ (if b then given.rule.flushed (reached (given.rule.graph s)) s else s)
settled_is reached given s true = refl
settled_is reached given s false = refl

-- at the end nothing is flushed twice, and nothing was left out
last_once : {S : Type 0} (f : Format) (b : Bool) (end : End) (e : ℕ) (after s : S) (fl : S → List TraceLine) (out : List ℕ) → (out ++ lines_written_in f (due_lines b (fl s))) ++ lines_written_in f (last_lines b end e (fl (due_state b after s))) ≡ out ++ lines_written_in f (fl s ++ Finish e (how_of end) ∷ [])
last_once f true end e after s fl out = append_assoc out (lines_written_in f (fl s)) (lines_written_in f (Finish e (how_of end) ∷ [])) ∙ ap (λ t. out ++ t) (sym (flat_map-append (written_in f) (fl s) (Finish e (how_of end) ∷ [])))
last_once f false end e after s fl out = rw (append-nil out) refl

module _ {S : Type 0} (reached : Graph → ℕ → Bool) (given : Setting S) (e : ℕ) (s s₁ s₂ : S) (here : ℕ → Bool) (last last' : ℕ → ℕ) (m m' : Mentions) (due : Bool) (out out₁ out₂ : List ℕ) (eh : here ≡ reached (given.rule.graph s)) (ed : due ≡ is_flush_point given.interval e) (en : (o : ℕ) → last' o ≡ time_noted here last e o) (el : out₁ ≡ out ++ lines_written_in given.format (due_lines due (flush_of here last' e (given.rule.graph s)))) (es : s₁ ≡ due_state due (given.rule.flushed here s) s) where
  settled_now : s₁ ≡ settled reached given e s
  settled_now = es ∙ (ap (λ h. due_state due (given.rule.flushed h s) s) eh ∙ (ap (λ b. due_state b (given.rule.flushed (reached (given.rule.graph s)) s) s) ed ∙ settled_is reached given s (is_flush_point given.interval e)))

  last_now : last' ≡ time_noted (reached (given.rule.graph s)) last e
  last_now = fun_ext en ∙ ap (λ h. time_noted h last e) eh

  flush_is : flush_of here last' e (given.rule.graph s) ≡ flush_of (reached (given.rule.graph s)) (time_noted (reached (given.rule.graph s)) last e) e (given.rule.graph s)
  flush_is = ap (λ h. flush_of h last' e (given.rule.graph s)) eh ∙ ap (λ f. flush_of (reached (given.rule.graph s)) f e (given.rule.graph s)) last_now

  pub turned_on : Goes given e s₁ m s₂ m' out₁ out₂ None → Turns reached given e s last m s₂ last' m' out out₂ None
  turned_on g =
      let fl = flush_of (reached (given.rule.graph s)) (time_noted (reached (given.rule.graph s)) last e) e (given.rule.graph s) in
      let more = λ (x : S). lines_of given.names m (records_of (outcome_step given (suc e) x)) in
      record {
        goes = subst (λ x. ending given e x ≡ None) settled_now g.goes;
        state = subst (λ x. s₂ ≡ state_after x (outcome_step given (suc e) x)) settled_now g.state;
        notes = λ o. en o ∙ ap (λ h. time_noted h last e o) eh;
        mentions = subst (λ x. m' ≡ mentions_after given.names m (records_of (outcome_step given (suc e) x))) settled_now g.mentions;
        lines =
            g.lines
            ∙ (ap (λ x. out₁ ++ lines_written_in given.format (more x)) settled_now
            ∙ (ap (λ t. t ++ lines_written_in given.format (more (settled reached given e s))) (el ∙ (ap (λ b. out ++ lines_written_in given.format (due_lines b (flush_of here last' e (given.rule.graph s)))) ed ∙ ap (λ f. out ++ lines_written_in given.format (due_lines (is_flush_point given.interval e) f)) flush_is))
            ∙ (append_assoc out (lines_written_in given.format (due_lines (is_flush_point given.interval e) fl)) (lines_written_in given.format (more (settled reached given e s)))
            ∙ ap (λ t. out ++ t) (sym (flat_map-append (written_in given.format) (due_lines (is_flush_point given.interval e) fl) (more (settled reached given e s)))))));
      }

  pub turned_last : (end : End) (out₃ : List ℕ) → Goes given e s₁ m s₂ m' out₁ out₂ (Some end) → out₃ ≡ out₂ ++ lines_written_in given.format (last_lines due end e (flush_of here last' e (given.rule.graph s₂))) → Turns reached given e s last m s₂ last' m' out out₃ (Some end)
  turned_last end out₃ g ec =
      let fl = λ (x : S). flush_of here last' e (given.rule.graph x) in
      let a : out₃ ≡ (out ++ lines_written_in given.format (due_lines due (fl s))) ++ lines_written_in given.format (last_lines due end e (fl (due_state due (given.rule.flushed here s) s))) =
      ec ∙ (ap (λ t. t ++ lines_written_in given.format (last_lines due end e (fl s₂))) (g.lines ∙ el) ∙ ap (λ x. (out ++ lines_written_in given.format (due_lines due (fl s))) ++ lines_written_in given.format (last_lines due end e (fl x))) (g.state ∙ es)) in
      record {
        ends = subst (λ x. ending given e x ≡ Some end) settled_now g.ends;
        lines = a ∙ (last_once given.format due end e (given.rule.flushed here s) s fl out ∙ ap (λ f. out ++ lines_written_in given.format (f ++ Finish e (how_of end) ∷ [])) flush_is);
      }
