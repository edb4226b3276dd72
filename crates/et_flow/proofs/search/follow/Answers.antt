use Rattle.std.proofs.Common.{◌≡◌, ℕ, ◌+◌, ◌*◌, ◌<◌, ◌≤◌, Bool, List, [], ◌∷◌, ◌++◌, length, Option, Some, None, refl, sym, ◌∙◌, subst, arith, Contains}
use Rattle.std.specs.Prelude.{IfSome}
use Rattle.et_flow.specs.declared.search.Lead.{Lead}
use Rattle.et_flow.specs.Types.{TypesOf}
use Rattle.et_flow.specs.Flows.{LeadOf, HasLed, IsLed, heights}
use Rattle.et_flow.specs.Searching.{States, HaveLocals, AreThere, Joins, Searches}
use Rattle.et_flow.proofs.Follows.{IsRunning, ahead, begins, refuses, nexts_within, handlers_within, on_inside, falls, no_handlers, no_nexts, runs_on, falls_on, noted_now}
use Rattle.et_flow.proofs.search.follow.Given.{Over}
use Rattle.et_flow.proofs.search.follow.Goals.{After-lead, After-as_slice, After-as_slice-in-Some}
use Rattle.et_flow.proofs.search.follow.Goals as goal

pub run-init : goal.run-init
run-init g c = record {
  long = refl;
  runs = λ entry locals h. begins (g.F.Flow.leads c.args.flow.now) (g.F.Flow.straight c.args.flow.now) c.requires.code.monotone c.requires.code.straight entry locals c.args.states.now c.args.work.now.items c.args.place c.read.new.types c.requires.kept (c.in_ok-read.ensures.some c.if-not-branch.false) h;
  falls = λ entry locals h. omega arith;
  noted = λ entry locals h. c.requires.noted;
  inside = c.requires.place;
}

-- the run has come to an instruction
running : (g : Over) (c : After-lead g) (entry : TypesOf) (locals : ℕ)
    → Searches (g.F.Flow.leads c.args.flow.now) (g.F.Flow.straight c.args.flow.now) entry locals c.args.states.now (c.args.work.now.items ++ c.args.place ∷ [])
    → IsRunning (g.F.Flow.leads c.args.flow.now) (g.F.Flow.straight c.args.flow.now) entry locals c.run.states c.run.work.items c.run.types (Some c.in-Some.pc)
running g c entry locals h = subst (λ (o : Option ℕ). IsRunning (g.F.Flow.leads c.args.flow.now) (g.F.Flow.straight c.args.flow.now) entry locals c.run.states c.run.work.items c.run.types o) c.in-Some.is (c.run.invariant.runs entry locals h)

pub returns-then-not-branch-2-clause-none : goal.returns-then-not-branch-2-clause-none
returns-then-not-branch-2-clause-none g c =
    let none : g.F.Flow.leads c.args.flow.now c.in-Some.pc c.run.types ≡ None = subst (λ (b : Bool). IsLed (g.F.Flow.straight c.args.flow.now) b c.lead.new.lead c.lead.new.types (g.F.Flow.leads c.args.flow.now c.in-Some.pc c.run.types)) c.if-not-branch-2.true c.in_ok-lead.ensures in
    λ e entry locals h.
    let run = running g (goal.at.returns-then-not-branch-2-clause-none g c).After-lead entry locals h in
    refuses (g.F.Flow.leads c.args.flow.now) (g.F.Flow.straight c.args.flow.now) c.requires.code.monotone c.requires.code.straight entry locals c.run.states c.run.work.items c.in-Some.pc c.run.types run none

-- .. which leads on
led : (g : Over) (c : After-as_slice g) → HasLed (g.F.Flow.straight c.args.flow.now) c.lead.new.lead c.lead.new.types (g.F.Flow.leads c.args.flow.now c.in-Some.pc c.run.types)
led g c = subst (λ (b : Bool). IsLed (g.F.Flow.straight c.args.flow.now) b c.lead.new.lead c.lead.new.types (g.F.Flow.leads c.args.flow.now c.in-Some.pc c.run.types)) c.if-not-branch-2.false c.in_ok-lead.ensures

pub join_each-requires : goal.join_each-requires
join_each-requires g c = λ q m.
    let at = goal.at.join_each-requires g c in
    let lt = handlers_within (g.F.Flow.leads c.args.flow.now) (g.F.Flow.straight c.args.flow.now) c.requires.code.monotone c.requires.code.straight (length c.args.states.now) c.requires.code.within c.in-Some.pc c.run.types c.lead.new.types c.lead.new.lead (led g at.After-as_slice) q (subst (λ (ps : List ℕ). Contains ps q) c.as_slice.ensures.value m) in
    omega (arith, lt, c.run.invariant.long)

pub returns-then-not-branch-3-clause-none : goal.returns-then-not-branch-3-clause-none
returns-then-not-branch-3-clause-none g c = λ e entry locals h.
    let at = goal.at.returns-then-not-branch-3-clause-none g c in
    no_handlers (g.F.Flow.leads c.args.flow.now) (g.F.Flow.straight c.args.flow.now) c.requires.code.monotone c.requires.code.straight (length c.args.states.now) c.requires.code.within c.in-Some.pc c.run.types c.lead.new.types c.lead.new.lead (led g at.After-as_slice) entry locals c.run.states c.join_each.new.states c.join_each.new.states c.run.work.items c.join_each.new.work.items c.join_each.new.work.items (running g at.After-lead entry locals h)
    (λ typing under there. c.in_ok-join_each.ensures.none c.if-not-branch-3.true typing under (subst (λ (ps : List ℕ). AreThere typing ps c.lead.new.lead.caught) (sym c.as_slice.ensures.value) there))

-- .. to its handlers
handlers : (g : Over) (c : After-as_slice-in-Some g) (n : ℕ) → ((q : ℕ) → Contains c.lead.new.lead.handlers.items q → length c.lead.new.lead.caught.locals ≤ n)
    → HaveLocals n c.run.states → Joins n c.run.states c.run.work.items c.lead.new.lead.handlers.items c.lead.new.lead.caught c.join_each.new.states c.join_each.new.work.items
handlers g c n le had =
    subst (λ (ps : List ℕ). Joins n c.run.states c.run.work.items ps c.lead.new.lead.caught c.join_each.new.states c.join_each.new.work.items) c.as_slice.ensures.value
    (c.in_ok-join_each.ensures.joined c.if-not-branch-3.false n (λ q m. le q (subst (λ (ps : List ℕ). Contains ps q) c.as_slice.ensures.value m)) had)

pub join_each-requires-in-Some : goal.join_each-requires-in-Some
join_each-requires-in-Some g c = λ q m.
    let at = goal.at.join_each-requires-in-Some g c in
    let lt = nexts_within (g.F.Flow.leads c.args.flow.now) (g.F.Flow.straight c.args.flow.now) c.requires.code.monotone c.requires.code.straight (length c.args.states.now) c.requires.code.within c.in-Some.pc c.run.types c.lead.new.types c.lead.new.lead (led g at.After-as_slice) q (subst (λ (ps : List ℕ). Contains ps q) c.as_slice-in-Some.ensures.value m) in
    omega (arith, lt, c.run.invariant.long, c.in_ok-join_each.ensures.long)

pub returns-then-not-branch-4-clause-none : goal.returns-then-not-branch-4-clause-none
returns-then-not-branch-4-clause-none g c = λ e entry locals h.
    let at = goal.at.returns-then-not-branch-4-clause-none g c in
    no_nexts (g.F.Flow.leads c.args.flow.now) (g.F.Flow.straight c.args.flow.now) c.requires.code.monotone c.requires.code.straight (length c.args.states.now) c.requires.code.within c.in-Some.pc c.run.types c.lead.new.types c.lead.new.lead (led g at.After-as_slice) entry locals c.run.states c.join_each.new.states c.join_each.new.states c.run.work.items c.join_each.new.work.items c.join_each.new.work.items (running g at.After-lead entry locals h) (handlers g at.After-as_slice-in-Some)
    (λ typing under there. c.in_ok-join_each-2.ensures.none c.if-not-branch-4.true typing under (subst (λ (ps : List ℕ). AreThere typing ps c.lead.new.types) (sym c.as_slice-in-Some.ensures.value) there))

pub run-smaller : goal.run-smaller
run-smaller g c =
    let inside : c.in-Some.pc < length c.args.states.now = subst (λ (o : Option ℕ). IfSome o (λ q. q < length c.args.states.now)) c.in-Some.is c.run.invariant.inside in
    subst (λ (o : Option ℕ). ahead (length c.args.states.now) c.lead.new.lead.on < ahead (length c.args.states.now) o) (sym c.in-Some.is)
    (falls (g.F.Flow.leads c.args.flow.now) (g.F.Flow.straight c.args.flow.now) c.requires.code.monotone c.requires.code.straight (length c.args.states.now) c.requires.code.within c.in-Some.pc c.run.types c.lead.new.types c.lead.new.lead (led g (goal.at.run-smaller g c).After-as_slice) inside)

pub run-preserved : goal.run-preserved
run-preserved g c =
    let leads : ℕ → TypesOf → Option LeadOf = (g.F.Flow.leads c.args.flow.now) in
    let straight : ℕ → Bool = (g.F.Flow.straight c.args.flow.now) in
    let count : ℕ = length c.args.states.now in
    let at = goal.at.run-preserved g c in
    let is = led g at.After-as_slice in
    let s0 : States = c.run.states in
    let w0 : List ℕ = c.run.work.items in
    let s1 : States = c.join_each.new.states in
    let w1 : List ℕ = c.join_each.new.work.items in
    let s2 : States = c.join_each-in-Some.new.states in
    let w2 : List ℕ = c.join_each-in-Some.new.work.items in
    let x : Lead = c.lead.new.lead in
    let nexts : (n : ℕ) → ((q : ℕ) → Contains x.nexts.items q → length c.lead.new.types.locals ≤ n) → HaveLocals n s1 → Joins n s1 w1 x.nexts.items c.lead.new.types s2 w2 = (λ (n : ℕ) le had. subst (λ (ps : List ℕ). Joins n s1 w1 ps c.lead.new.types s2 w2) c.as_slice-in-Some.ensures.value (c.in_ok-join_each-2.ensures.joined c.if-not-branch-4.false n (λ q m. le q (subst (λ (ps : List ℕ). Contains ps q) c.as_slice-in-Some.ensures.value m)) had)) in
    let long1 : length s1 ≡ count = c.in_ok-join_each.ensures.long ∙ c.run.invariant.long in
    record {
      long = c.in_ok-join_each-2.ensures.long ∙ long1;
      runs = λ entry locals h.
          runs_on leads straight c.requires.code.monotone c.requires.code.straight count c.requires.code.within c.in-Some.pc c.run.types c.lead.new.types x is entry locals s0 s1 s2 w0 w1 w2 (running g at.After-lead entry locals h) (handlers g at.After-as_slice-in-Some) nexts (c.run.invariant.noted entry locals h);
      falls = λ entry locals h.
          let less : 2 * heights locals s2 + length w2 ≤ 2 * heights locals s0 + length w0 = falls_on leads straight c.requires.code.monotone c.requires.code.straight count c.requires.code.within c.in-Some.pc c.run.types c.lead.new.types x is entry locals s0 s1 s2 w0 w1 w2 (running g at.After-lead entry locals h) (handlers g at.After-as_slice-in-Some) nexts (c.run.invariant.noted entry locals h) in
          omega (arith, less, c.run.invariant.falls entry locals h, c.run.work.ok.0, c.join_each-in-Some.new.work.ok.0);
      noted = λ entry locals h.
          noted_now leads straight c.requires.code.monotone c.requires.code.straight count c.requires.code.within c.in-Some.pc c.run.types c.lead.new.types x is entry locals s0 s1 s2 w0 w1 w2 (running g at.After-lead entry locals h) (handlers g at.After-as_slice-in-Some) nexts (c.run.invariant.noted entry locals h) long1 c.run.invariant.long;
      inside = on_inside leads straight c.requires.code.monotone c.requires.code.straight count c.requires.code.within c.in-Some.pc c.run.types c.lead.new.types x is;
    }

pub returns-clause-followed : goal.returns-clause-followed
returns-clause-followed g c = λ e entry locals h.
    (subst (λ (o : Option ℕ). IsRunning (g.F.Flow.leads c.args.flow.now) (g.F.Flow.straight c.args.flow.now) entry locals c.run.states c.run.work.items c.run.types o) c.in_default.is (c.run.invariant.runs entry locals h), c.run.invariant.falls entry locals h)
