use Rattle.std.proofs.Common.{◌≡◌, ◌-◌, ◌<◌, [], ◌∷◌, ◌++◌, set, None, refl, subst, arith}
use Rattle.std.proofs.lemmas.Bool.{false≢true}
use Rattle.et_flow.specs.Flows.{types_at}
use Rattle.et_flow.specs.Searching.{States}
use Rattle.et_flow.specs.Slots.{shown}
use Rattle.et_flow.proofs.Places.{joined_new, joined_lower, joined_as}
use Rattle.et_flow.proofs.Slots.{IsTaken, IsShaped, IsJoinedIn, slot_read, slot_taken, free_in, taken_types, types_joined, same_shape, not_shaped}
use Rattle.et_flow.proofs.states.States.join.Goals.{After-index-slot, After-index_mut, After-join_locals}
use Rattle.et_flow.proofs.states.States.join.Goals as goal

pub returns-then-slot-eq0-clause-changed : goal.returns-then-slot-eq0-clause-changed
returns-then-slot-eq0-clause-changed c = λ e locals work le.
    let slot = slot_read c.args.self.now c.self.inside.found.items c.self.inside.slots.items c.args.place c.index-slot.result.now c.self.view_is c.requires c.index-slot.ensures in
    let none : types_at c.args.self.now c.args.place ≡ None = subst (λ (xs : States). types_at xs c.args.place ≡ None) c.self.view_is (free_in c.self.inside.found.items c.self.inside.slots.items c.args.place (omega (arith, slot, c.if-slot-eq0.true))) in
    joined_new locals c.args.self.now work c.args.place c.args.types.now c.put.new.self (work ++ c.args.place ∷ []) c.requires none le c.in_ok-put.ensures refl

-- TYPES WERE FOUND at the place
taken : (c : After-index-slot) → 0 < c.index-slot.result.now → IsTaken c.self.inside.found.items c.self.inside.slots.items c.args.place c.index-slot.result.now
taken c some = slot_taken c.args.self.now c.self.inside.found.items c.self.inside.slots.items c.self.inside.used c.args.place c.index-slot.result.now c.self.view_is c.self.invariant c.requires c.index-slot.ensures some

pub index-requires : goal.index-requires
index-requires c = omega (arith, (taken (goal.at.index-requires c).After-index-slot (omega (arith, c.if-slot-eq0.false))).within, c.self.inside.found.ok.0)

pub returns-then-not-has_shape_of-clause-other : goal.returns-then-not-has_shape_of-clause-other
returns-then-not-has_shape_of-clause-other c = λ e joinable.
    let there = taken (goal.at.returns-then-not-has_shape_of-clause-other c).After-index-slot (omega (arith, c.if-slot-eq0.false)) in
    let is = taken_types c.args.self.now c.self.inside.found.items c.self.inside.slots.items c.args.place c.index-slot.result.now c.index.result.now c.self.view_is there c.index.ensures in
    not_shaped c.index.result.now c.args.types.now (types_at c.args.self.now c.args.place) is (λ shape. absurd (false≢true (c.if-not-has_shape_of.ensures.1 shape))) joinable

pub index_mut-requires : goal.index_mut-requires
index_mut-requires c = omega (arith, (taken (goal.at.index_mut-requires c).After-index-slot (omega (arith, c.if-slot-eq0.false))).within, c.self.inside.found.ok.0)

-- .. of the same shape
shaped : (c : After-index_mut) → IsTaken c.self.inside.found.items c.self.inside.slots.items c.args.place c.index-slot.result.now → IsShaped c.index_mut.result.now c.args.types.now
shaped c there = same_shape c.self.inside.found.items (c.index-slot.result.now - 1) c.index.result.now c.index_mut.result.now c.args.types.now there.within c.index.ensures c.index_mut.ensures.value (c.if-not-has_shape_of.ensures.0 refl)

pub join_locals-requires : goal.join_locals-requires
join_locals-requires c =
    let at = goal.at.join_locals-requires c in
    (shaped at.After-index_mut (taken at.After-index-slot (omega (arith, c.if-slot-eq0.false)))).1

-- .. and were joined
joined : (c : After-join_locals) → IsTaken c.self.inside.found.items c.self.inside.slots.items c.args.place c.index-slot.result.now → IsShaped c.index_mut.result.now c.args.types.now → IsJoinedIn c.args.self.now c.self.inside.found.items c.self.inside.slots.items c.args.place c.index-slot.result.now c.index_mut.result.now c.args.types.now c.join_locals.new.self
joined c there shape = types_joined c.args.self.now c.self.inside.found.items c.self.inside.slots.items c.self.inside.used c.args.place c.index-slot.result.now c.index_mut.result.now c.args.types.now c.join_locals.new.self c.self.view_is c.self.invariant there c.index_mut.ensures.value shape c.join_locals.ensures.operands c.join_locals.ensures.joined

pub returns-then-join_locals-clause-changed : goal.returns-then-join_locals-clause-changed
returns-then-join_locals-clause-changed c = λ e locals work le.
    let at = goal.at.returns-then-join_locals-clause-changed c in
    let there = taken at.After-index-slot (omega (arith, c.if-slot-eq0.false)) in
    let is = joined at.After-join_locals there (shaped at.After-index_mut there) in
    joined_lower locals c.args.self.now work c.args.place c.args.types.now c.index_mut.result.now c.join_locals.new.self (shown (set c.self.inside.found.items (c.index-slot.result.now - 1) c.join_locals.new.self) c.self.inside.slots.items) (work ++ c.args.place ∷ []) c.requires is.there is.shape is.new is.shown_now (c.join_locals.ensures.less c.if-join_locals.true) refl

pub returns-clause-same : goal.returns-clause-same
returns-clause-same c = λ e locals work.
    let at = goal.at.returns-clause-same c in
    let there = taken at.After-index-slot (omega (arith, c.if-slot-eq0.false)) in
    let is = joined at.After-join_locals there (shaped at.After-index_mut there) in
    joined_as locals c.args.self.now work c.args.place c.args.types.now c.index_mut.result.now c.join_locals.new.self (shown (set c.self.inside.found.items (c.index-slot.result.now - 1) c.join_locals.new.self) c.self.inside.slots.items) work c.requires is.there is.shape is.new is.shown_now (c.join_locals.ensures.same c.if-join_locals.false) refl
