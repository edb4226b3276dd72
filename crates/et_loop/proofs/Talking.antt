-- What the guest's sink took between two turns, and where a run is cut off.
use Rattle.std.proofs.Common.{◌≡◌, ℕ, zero, suc, ◌+◌, ◌<◌, ◌≤◌, Bool, if◌then◌else◌, List, [], ◌++◌, Option, Some, None, refl, sym, ◌∙◌, ap, subst, arith, inl, inr, ⊎_elim, append_assoc, append-nil}
use Rattle.std.proofs.lemmas.Bool.{cases_lt}
use Rattle.et_base.specs.declared.value.End.{End}
use Rattle.et_graph.specs.Graph.{Graph}
use Rattle.et_io.specs.Sink.{Log, with_more, TakesPrefix}
use Rattle.et_io.proofs.Taking.{nothing_taken, with_more-with_more}
use Rattle.et_state.specs.declared.records.Record.{Record}
use Rattle.et_state.specs.History.{Setting, ending, settled, left_by, picked_turn}
use Rattle.et_loop.specs.Quiet.{GoesQuietly}
use Rattle.et_loop.specs.Said.{said_at, said_to, SaysPrefix, SaysTurn, IsCutSaid}
use Rattle.et_loop.specs.Visits.{visits_to}
use Rattle.et_loop.proofs.Cuts.{cut_in_put}
use Rattle.et_loop.proofs.RunLemmas.{more_nothing, front_on, front_so_far, up_to_last}

module _ {S : Type 0} (reached : Graph → ℕ → Bool) (given : Setting S) (said : S → ℕ → List ℕ) (start : S) (made : List Record) where
  abbrev ends_at : ℕ → Option End
  ends_at e = ending given e (settled reached given e (left_by reached given start made e))

  -- the history goes on before event e
  abbrev pub GoesTo : ℕ → Type 0
  GoesTo e = (k : ℕ) → k < e → ends_at k ≡ None

  -- what is printed up to event e is the front of what is printed up to a later one
  said_within : (n e : ℕ) → e ≤ n → (r : List ℕ) × (said_to reached given said start made n ≡ said_to reached given said start made e ++ r)
  unfolding said_to
  said_within zero e le = ([], subst (λ j. said_to reached given said start made 0 ≡ said_to reached given said start made j ++ []) (let z : 0 ≡ e = omega arith in z) refl)
  said_within (suc n) e le =
      ⊎_elim (λ above. ([], subst (λ j. said_to reached given said start made (suc n) ≡ said_to reached given said start made j ++ []) (let z : suc n ≡ e = omega arith in z) (sym (append-nil _))))
      (λ below.
      let ext = said_within n e below in
      (ext.0 ++ said_at reached given said start made (suc n), ap (λ x. x ++ said_at reached given said start made (suc n)) ext.1 ∙ append_assoc (said_to reached given said start made e) ext.0 (said_at reached given said start made (suc n))))
      (cases_lt n e)

  -- what holds between two turns: all that was printed was taken
  pub record Talking (e : ℕ) (before now : Log) : Type 0 where
    pub taken : now ≡ with_more before (said_to reached given said start made e)

  pub talking_start : (before : Log) → Talking 0 before before
  unfolding said_to
  talking_start before = record { taken = more_nothing before }

  pub say_nothing : (before : Log) → SaysPrefix reached given said start made before before
  say_nothing before n end last = front_so_far before before [] _ (said_to reached given said start made n) (more_nothing before) refl

  module _ (e : ℕ) (before now : Log) (h : Talking e before now) (first : GoesTo e) where
    -- so far only a prefix of it was taken
    pub say_now : SaysPrefix reached given said start made before now
    say_now n end last =
        let ext = said_within n e (up_to_last reached given start made e n end last first) in
        front_so_far before now (said_to reached given said start made e) _ ext.0 h.taken ext.1

    module _ (flush_visits : (ℕ → Bool) → S → ℕ) (old new : ℕ) (few : new ≤ old + visits_to reached given flush_visits start made e) where
      pub said_here : IsCutSaid reached given said start made flush_visits before now old new
      said_here = inr (
        e,
        record {
          goes = first;
          rest = [];
          mid = now;
          taken = h.taken ∙ ap (λ (bytes : List ℕ). with_more before bytes) (sym (append-nil (said_to reached given said start made e)));
          left = [];
          stops = inl refl;
          visits = few;
        },
      )

      -- in a put of what the turn prints
      pub said_putting : (after : Log) (piece : List ℕ) → TakesPrefix now after piece → IsCutSaid reached given said start made flush_visits before after old new
      said_putting after piece t = inr (e, cut_in_put reached given flush_visits start made before old new (said_to reached given said start made e) e now after piece first h.taken t few)

    -- a quiet event prints nothing
    pub talking_quiet : (s s' : S) (old new : List ℕ) → s ≡ left_by reached given start made e → GoesQuietly given said e s s' old new → Talking (suc e) before now
    unfolding said_to
    talking_quiet s s' old new state q =
        let here : s ≡ settled reached given e s = sym (ap (λ (b : Bool). if b then given.rule.flushed (reached (given.rule.graph s)) s else s) q.between) in
        let at : s ≡ settled reached given e (left_by reached given start made e) = here ∙ ap (λ (x : S). settled reached given e x) state in
        let none : said_at reached given said start made (suc e) ≡ [] = subst (λ (x : S). said x (picked_turn given (suc e) x) ≡ []) at q.unsaid in
        record { taken = h.taken ∙ ap (λ (o : List ℕ). with_more before o) (sym (append-nil (said_to reached given said start made e)) ∙ ap (λ (o : List ℕ). said_to reached given said start made e ++ o) (sym none)) }

    module _ (s : S) (bytes : List ℕ) (state : s ≡ left_by reached given start made e) where
      turn_says : SaysTurn reached given said e s bytes None → bytes ≡ said_at reached given said start made (suc e)
      turn_says says = says ∙ ap (λ (x : S). said (settled reached given e x) (picked_turn given (suc e) (settled reached given e x))) state

      -- the next event was done, and all that it prints was put
      pub talking_on : (next : Option End) → next ≡ None → SaysTurn reached given said e s bytes next → (n : ℕ) (now' : Log) → n ≡ suc e → now' ≡ with_more now bytes → Talking n before now'
      unfolding said_to
      talking_on next is says n now' at en = subst (λ j. Talking j before now') (sym at) (record {
        taken = en ∙ (ap (λ t. with_more t bytes) h.taken ∙ (with_more-with_more before (said_to reached given said start made e) bytes ∙ ap (λ o. with_more before (said_to reached given said start made e ++ o)) (turn_says (subst (λ x. SaysTurn reached given said e s bytes x) is says))));
      })

      -- the history ended: nothing is printed
      pub talking_end : (next : Option End) (end : End) → next ≡ Some end → SaysTurn reached given said e s bytes next → (now' : Log) → now' ≡ with_more now bytes → now' ≡ with_more before (said_to reached given said start made e)
      talking_end next end is says now' en =
          en ∙ (ap (λ (o : List ℕ). with_more now o) (subst (λ x. SaysTurn reached given said e s bytes x) is says) ∙ (sym (more_nothing now) ∙ h.taken))

      say_next : (now' : Log) → GoesTo (suc e) → SaysTurn reached given said e s bytes None → TakesPrefix now now' bytes → SaysPrefix reached given said start made before now'
      unfolding said_to
      say_next now' goes says t n end last =
          let ext = said_within n (suc e) (up_to_last reached given start made (suc e) n end last goes) in
          front_on before now now' (said_to reached given said start made e) bytes _ ext.0 h.taken (ext.1 ∙ ap (λ o. (said_to reached given said start made e ++ o) ++ ext.0) (sym (turn_says says))) t

      say_last : (end : End) (now' : Log) → SaysTurn reached given said e s bytes (Some end) → TakesPrefix now now' bytes → SaysPrefix reached given said start made before now'
      say_last end now' says t =
          subst (λ x. SaysPrefix reached given said start made before x) (sym (nothing_taken now now' (subst (λ o. TakesPrefix now now' o) says t))) say_now

      -- only a prefix of what the turn prints was put
      pub say_turn : (next : Option End) (now' : Log) → (next ≡ None → GoesTo (suc e)) → SaysTurn reached given said e s bytes next → TakesPrefix now now' bytes → SaysPrefix reached given said start made before now'
      say_turn None now' goes says t = say_next now' (goes refl) says t
      say_turn (Some end) now' goes says t = say_last end now' says t
