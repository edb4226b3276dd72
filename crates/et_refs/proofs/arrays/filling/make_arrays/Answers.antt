use Rattle.std.proofs.Common.{◌≡◌, ◌+◌, ◌≤◌, List, [], ◌∷◌, ◌++◌, length, sym, ◌∙◌, ap, subst, arith}
use Rattle.std.proofs.lemmas.List.{length_push}
use Rattle.et_state.specs.State.{MachineState, kept_of}
use Rattle.et_event.specs.Heap.{naturals}
use Rattle.et_event.specs.Moments.{Moment, Doing, moment}
use Rattle.et_refs.specs.declared.arrays.filling.Filling.{Filling}
use Rattle.et_event.specs.Telling.{so_far}
use Rattle.et_refs.specs.Filling.{with_filled, inner_dimensions, AreFillings}
use Rattle.et_refs.proofs.Ascending.{parent_there, slot_there, ascended, ascended_fillings}
use Rattle.et_refs.proofs.Stacking.{last_filling}
use Rattle.et_refs.proofs.Finishing.{still_made}
use Rattle.et_refs.proofs.Starting.{start_fits, start_filling, started, start_made}
use Rattle.et_refs.proofs.arrays.filling.make_arrays.Goals as goal

pub open_array-requires-clause-room : goal.open_array-requires-clause-room
open_array-requires-clause-room g c =
    let m = c.args.machine.now in
    start_fits (moment c.args.program.now m c.args.thread) c.args.arrays.now.class c.args.arrays.now.lengths.now m c.args.out.now c.requires.some c.requires.heap (c.requires.fits (kept_of m))

pub elements-init : goal.elements-init
elements-init g c =
    let p = c.args.program.now in
    let t = c.args.thread in
    let m = c.args.machine.now in
    let class = c.args.arrays.now.class in
    let lengths = c.args.arrays.now.lengths.now in
    let m₁ = c.open_array.new.machine in
    let out₁ = c.open_array.new.out in
    let empty : c.new-stack.result.items ≡ [] = c.new-stack.ensures.items in
    let none : length c.new-stack.result.items ≡ 0 = ap (λ (xs : List Filling). length xs) empty in
    let grown : length m.heap ≤ length m₁.heap = c.in_ok-first.ensures.grown in
    record {
      same = λ b.
          let e : Moment = record { program = p; before = b; thread = t } in
          ap (λ (xs : List Filling). with_filled e (xs ++ c.in_ok-first.first ∷ []) (inner_dimensions (naturals lengths)) (so_far m₁ out₁)) empty
          ∙ started e class lengths m m₁ c.args.out.now out₁ c.in_ok-first.first c.requires.some (c.in_ok-first.ensures.filling b) c.in_ok-first.ensures.made;
      fillings = subst (λ (xs : List Filling). AreFillings m₁.heap (length lengths) 0 (xs ++ c.in_ok-first.first ∷ [])) (sym empty)
          (start_filling (moment p m t) class lengths m m₁ c.args.out.now out₁ c.in_ok-first.first (c.in_ok-first.ensures.filling (kept_of m)) c.in_ok-first.ensures.made);
      lost = ap (λ (z : MachineState). z.lost) c.in_ok-first.ensures.made.0;
      visits = omega (arith, none, grown);
    }

pub ascend-requires-clause-held : goal.ascend-requires-clause-held
ascend-requires-clause-held g c =
    (parent_there c.elements.machine.heap (length c.args.arrays.now.lengths.now) c.elements.stack.items c.pop.new.self.items c.in-Some.around c.elements.last c.in-Some.ensures.items c.elements.invariant.fillings).0.held

pub ascend-requires-clause-slot : goal.ascend-requires-clause-slot
ascend-requires-clause-slot g c =
    slot_there c.elements.machine.heap (length c.args.arrays.now.lengths.now) c.elements.stack.items c.pop.new.self.items c.in-Some.around c.elements.last c.in-Some.ensures.items c.elements.invariant.fillings

pub ascend-requires-clause-next : goal.ascend-requires-clause-next
ascend-requires-clause-next g c =
    (parent_there c.elements.machine.heap (length c.args.arrays.now.lengths.now) c.elements.stack.items c.pop.new.self.items c.in-Some.around c.elements.last c.in-Some.ensures.items c.elements.invariant.fillings).1

pub elements-preserved : goal.elements-preserved
elements-preserved g c =
    let p = c.args.program.now in
    let t = c.args.thread in
    let m = c.elements.machine in
    let m' = c.ascend.new.machine in
    let lengths = c.args.arrays.now.lengths.now in
    let ys = c.elements.stack.items in
    let xs = c.pop.new.self.items in
    let around = c.in-Some.around in
    let last = c.elements.last in
    let was : ys ≡ xs ++ around ∷ [] = c.in-Some.ensures.items in
    let many : length ys ≡ length xs + 1 = ap (λ (zs : List Filling). length zs) was ∙ length_push xs around in
    let few : last.next ≤ last.count = (last_filling m.heap (length lengths) 0 ys last c.elements.invariant.fillings).next in
    let whole : last.next ≡ last.count = omega (arith, few, c.if-last.false) in
    let now = c.in_ok-last-2.ensures.last in
    let long : length m'.heap ≡ length m.heap = c.in_ok-last-2.ensures.same in
    let visited : c.ascend.new.visits ≡ c.elements.visits + 1 = c.in_ok-last-2.ensures.visits in
    let before = c.elements.invariant.visits in
    let written = c.in_ok-last-2.ensures.written p in
    record {
      same = λ b.
          let e : Moment = record { program = p; before = b; thread = t } in
          ap (λ (f : Filling). with_filled e (xs ++ f ∷ []) (inner_dimensions (naturals lengths)) (so_far m' c.ascend.new.out)) now
          ∙ (ascended e (inner_dimensions (naturals lengths)) ys xs around last m m' c.elements.out c.ascend.new.out whole was (written b) ∙ c.elements.invariant.same b);
      fillings = subst (λ (f : Filling). AreFillings m'.heap (length lengths) 0 (xs ++ f ∷ [])) (sym now)
          (ascended_fillings (moment p c.args.machine.now t) (length lengths) ys xs around last m m' c.elements.out c.ascend.new.out was c.elements.invariant.fillings (written (kept_of c.args.machine.now)));
      lost = ap (λ (z : MachineState). z.lost) (written (kept_of c.args.machine.now)).0 ∙ c.elements.invariant.lost;
      visits = omega (arith, many, long, visited, before);
    }

pub returns-in_default-clause-first : goal.returns-in_default-clause-first
returns-in_default-clause-first g c = ap (λ (f : Filling). f.array) (c.in_ok-first.ensures.filling (kept_of c.args.machine.now))

-- whatever it answered, no more arrays were made than are made in the end
pub returns-in_err-first-clause-most : goal.returns-in_err-first-clause-most
returns-in_err-first-clause-most g c b =
    let one = c.in_err-first.ensures.one in
    let more = start_made (record { program = c.args.program.now; before = b; thread = c.args.thread }) c.args.arrays.now.class c.args.arrays.now.lengths.now c.args.machine.now c.args.out.now c.requires.some in
    omega (arith, one, more)

pub returns-in_err-last-clause-most : goal.returns-in_err-last-clause-most
returns-in_err-last-clause-most g c b =
    let most = c.in_err-last.ensures.most b in
    let same = ap (λ (d : Doing). length d.state.heap) (c.elements.invariant.same b) in
    omega (arith, most, same)

pub returns-in_err-last-2-clause-most : goal.returns-in_err-last-2-clause-most
returns-in_err-last-2-clause-most g c b =
    let as_many = c.in_err-last-2.ensures.same in
    let still = still_made (record { program = c.args.program.now; before = b; thread = c.args.thread }) (c.elements.stack.items ++ c.elements.last ∷ []) (inner_dimensions (naturals c.args.arrays.now.lengths.now)) (so_far c.elements.machine c.elements.out) in
    let same = ap (λ (d : Doing). length d.state.heap) (c.elements.invariant.same b) in
    omega (arith, as_many, still, same)

pub returns-in_default-clause-most : goal.returns-in_default-clause-most
returns-in_default-clause-most g c b =
    let still = still_made (record { program = c.args.program.now; before = b; thread = c.args.thread }) (c.elements.stack.items ++ c.elements.last ∷ []) (inner_dimensions (naturals c.args.arrays.now.lengths.now)) (so_far c.elements.machine c.elements.out) in
    let same = ap (λ (d : Doing). length d.state.heap) (c.elements.invariant.same b) in
    omega (arith, still, same)
