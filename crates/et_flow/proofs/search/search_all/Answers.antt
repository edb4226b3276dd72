use Rattle.std.proofs.Common.{◌≡◌, ℕ, ◌+◌, ◌*◌, ◌<◌, ◌≤◌, Bool, false, List, [], ◌∷◌, ◌++◌, length, None, sym, ◌∙◌, ap, subst, inl, inr, arith, vec_len, Contains}
use Rattle.std.proofs.lemmas.List.{length-append}
use Rattle.std.proofs.lemmas.List.Elements.{Contains-push, Contains-append_left}
use Rattle.et_base.proofs.Lists.{none_long}
use Rattle.et_flow.specs.Types.{TypesOf}
use Rattle.et_flow.specs.Flows.{heights}
use Rattle.et_flow.specs.Searching.{HasJoined, Searches}
use Rattle.et_flow.proofs.Places.{joined_among}
use Rattle.et_flow.proofs.Rounds.{first_found, all_found}
use Rattle.et_flow.proofs.search.search_all.Given.{Over}
use Rattle.et_flow.proofs.search.search_all.Goals.{After-follow}
use Rattle.et_flow.proofs.search.search_all.Goals as goal

pub loop-place-init : goal.loop-place-init
loop-place-init g c =
    let straight : ℕ → Bool = (g.F.Flow.straight c.args.flow.now) in
    let entry : TypesOf = c.args.entry.now in
    let locals : ℕ = length c.args.entry.now.locals in
    let few : length entry.locals ≤ locals = omega arith in
    let joined : HasJoined locals c.args.states.now [] 0 entry c.join_at.new.states c.join_at.new.work.items =
    subst (λ (w : List ℕ). HasJoined locals c.args.states.now w 0 entry c.join_at.new.states c.join_at.new.work.items) c.requires.idle
    (c.in_ok-join_at.ensures.joined c.if-not-branch.false locals few) in
    record {
      long = c.in_ok-join_at.ensures.long;
      searching = ((λ pc. None), first_found (g.F.Flow.leads c.args.flow.now) straight entry c.requires.code.monotone c.requires.code.straight c.args.states.now c.join_at.new.states c.join_at.new.work.items c.requires.some c.requires.none joined);
      noted = λ q m. elim (joined_among locals c.args.states.now [] 0 entry c.join_at.new.states c.join_at.new.work.items joined q m) [
        | inl none ↦ absurd (omega (arith, none.1))
        | inr same ↦ (subst (λ (k : ℕ). straight k ≡ false) same c.requires.code.straight.first, subst (λ (k : ℕ). k < length c.args.states.now) same c.requires.some)
      ];
    }

pub follow-requires-clause-place : goal.follow-requires-clause-place
follow-requires-clause-place g c =
    let front : List ℕ = c.pop.new.self.items in
    let there : Contains c.loop-place.work.items c.in-Some.place = subst (λ (w : List ℕ). Contains w c.in-Some.place) (sym c.in-Some.ensures.items) (Contains-push front c.in-Some.place) in
    omega (arith, (c.loop-place.invariant.noted c.in-Some.place there).1, c.loop-place.invariant.long)

pub follow-requires-clause-noted : goal.follow-requires-clause-noted
follow-requires-clause-noted g c = λ q m.
    let front : List ℕ = c.pop.new.self.items in
    let k = c.loop-place.invariant.noted q (subst (λ (w : List ℕ). Contains w q) (sym c.in-Some.ensures.items) (Contains-append_left front (c.in-Some.place ∷ []) q m)) in
    (k.0, omega (arith, k.1, c.loop-place.invariant.long))

-- the search has come to a place
searching : (g : Over) (c : After-follow g) → Searches (g.F.Flow.leads c.args.flow.now) (g.F.Flow.straight c.args.flow.now) c.args.entry.now (length c.args.entry.now.locals) c.loop-place.states (c.pop.new.self.items ++ c.in-Some.place ∷ [])
searching g c = subst (λ (w : List ℕ). Searches (g.F.Flow.leads c.args.flow.now) (g.F.Flow.straight c.args.flow.now) c.args.entry.now (length c.args.entry.now.locals) c.loop-place.states w) c.in-Some.ensures.items c.loop-place.invariant.searching

pub returns-then-not-branch-2-clause-none : goal.returns-then-not-branch-2-clause-none
returns-then-not-branch-2-clause-none g c = λ e has.
    c.in_ok-follow.ensures.none c.if-not-branch-2.true c.args.entry.now (length c.args.entry.now.locals) (searching g (goal.at.returns-then-not-branch-2-clause-none g c).After-follow) has

pub loop-place-smaller : goal.loop-place-smaller
loop-place-smaller g c =
    let on = c.in_ok-follow.ensures.followed c.if-not-branch-2.false c.args.entry.now (length c.args.entry.now.locals) (searching g (goal.at.loop-place-smaller g c).After-follow) in
    let popped : length c.loop-place.work.items ≡ length c.pop.new.self.items + 1 = ap length c.in-Some.ensures.items ∙ length-append c.pop.new.self.items (c.in-Some.place ∷ []) in
    let less : 2 * heights (length c.args.entry.now.locals) c.follow.new.states + vec_len c.follow.new.work < 2 * heights (length c.args.entry.now.locals) c.loop-place.states + vec_len c.loop-place.work =
    omega (arith, on.1, popped, c.loop-place.work.ok.0, c.pop.new.self.ok.0) in
    less

pub loop-place-preserved : goal.loop-place-preserved
loop-place-preserved g c =
    let h = searching g (goal.at.loop-place-preserved g c).After-follow in
    record {
      long = c.in_ok-follow.ensures.long ∙ c.loop-place.invariant.long;
      searching = (c.in_ok-follow.ensures.followed c.if-not-branch-2.false c.args.entry.now (length c.args.entry.now.locals) h).0;
      noted = λ q m.
          let k = c.in_ok-follow.ensures.noted c.if-not-branch-2.false c.args.entry.now (length c.args.entry.now.locals) h q m in
          (k.0, omega (arith, k.1, c.loop-place.invariant.long));
    }

pub returns-clause-found : goal.returns-clause-found
returns-clause-found g c =
    let empty : c.loop-place.work.items ≡ [] = none_long c.loop-place.work.items (omega (arith, c.loop-place.work.ok.0, c.in_default.ensures.cases)) in
    let s : Searches (g.F.Flow.leads c.args.flow.now) (g.F.Flow.straight c.args.flow.now) c.args.entry.now (length c.args.entry.now.locals) c.loop-place.states [] = subst (λ (w : List ℕ). Searches (g.F.Flow.leads c.args.flow.now) (g.F.Flow.straight c.args.flow.now) c.args.entry.now (length c.args.entry.now.locals) c.loop-place.states w) empty c.loop-place.invariant.searching in
    λ e. all_found (g.F.Flow.leads c.args.flow.now) (g.F.Flow.straight c.args.flow.now) c.args.entry.now c.requires.code.monotone c.requires.code.straight (length c.args.entry.now.locals) c.loop-place.states s.0 s.1
