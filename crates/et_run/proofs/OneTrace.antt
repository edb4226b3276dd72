-- A history has one trace and prints one thing, and the whole of it is a prefix of it.
use Rattle.std.proofs.Common.{◌≡◌, ℕ, ◌∙◌, Bool, List, refl, sym, subst}
use Rattle.et_graph.specs.Graph.{Graph}
use Rattle.et_history.proofs.Ends.{has_one_end}
use Rattle.et_io.specs.Sink.{Log, with_more}
use Rattle.et_io.proofs.Taking.{whole_prefix}
use Rattle.et_loop.specs.declared.options.Ran.{Ran}
use Rattle.et_loop.specs.Said.{said_to, Says, SaysPrefix}
use Rattle.et_loop.specs.Traced.{WritesTrace, WritesPrefix}
use Rattle.et_state.specs.declared.records.Record.{Record}
use Rattle.et_state.specs.History.{Setting}

-- a history has one end, and so one trace
pub whole_trace : {S : Type 0} (reached : Graph → ℕ → Bool) (given : Setting S) (start : S) (made : List Record) (ran : Ran) (before after : Log)
    → WritesTrace reached given start made ran before after → WritesPrefix reached given start made before after
whole_trace reached given start made ran before after wrote e end last =
    let one = has_one_end reached given start made in
    let here = one.only ran.event ran.end wrote.ends in
    let there = one.only e end last in
    let same : ran ≡ record { event = e; end = end } =
    subst (λ n. ran ≡ record { event = n; end = end }) (here.0 ∙ sym there.0)
    (subst (λ how. ran ≡ record { event = ran.event; end = how }) (here.1 ∙ sym there.1) refl) in
    whole_prefix before after _ (subst (λ (r : Ran). WritesTrace reached given start made r before after) same wrote).taken

-- .. and so prints one thing
pub whole_said_front : {S : Type 0} (reached : Graph → ℕ → Bool) (given : Setting S) (said : S → ℕ → List ℕ) (start : S) (made : List Record) (ran : Ran) (before after : Log)
    → Says reached given said start made ran before after → SaysPrefix reached given said start made before after
whole_said_front reached given said start made ran before after says e end last =
    let one = has_one_end reached given start made in
    let here = one.only ran.event ran.end says.ends in
    let there = one.only e end last in
    whole_prefix before after _ (subst (λ n. after ≡ with_more before (said_to reached given said start made n)) (here.0 ∙ sym there.0) says.taken)
