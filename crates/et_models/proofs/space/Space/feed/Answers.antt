use Rattle.std.proofs.Common.{◌≡◌, ℕ, ◌∷◌, ap, sym, subst, ◌∙◌, arith}
use Rattle.et_replay.specs.Feeding.{MayCome}
use Rattle.et_replay.specs.Tally.{space_after}
use Rattle.et_replay.specs.declared.item.Item.{Item}
use Rattle.et_replay.specs.declared.item.Item.TheVariants.{Alloc}
use Rattle.et_models.specs.Spaces.{View, view_of, roomy, object_placed, IsReplayedHeap, IsSpaceOf}
use Rattle.et_models.proofs.Totals.{CanTake, can_take, CanPlace, can_place, came_is, may_come, placed_capacity}
use Rattle.et_models.proofs.space.Space.feed.Goals as goal

takes : (c : goal.After-row_known-1) → CanTake (view_of c.args.self.now) c.requires.stands.0
takes c =
    let s = c.requires.stands in
    let may = subst (λ (i : Item). MayCome s.0 s.1 i) c.in-Alloc.is s.4 in
    can_take s.0 s.1 (view_of c.args.self.now) c.in-Alloc.event c.in-Alloc.object c.in-Alloc.size s.2.few s.2.fed may s.2.heap

pub make_room-requires-clause-fits : goal.make_room-requires-clause-fits
make_room-requires-clause-fits c =
    let s = c.requires.stands in
    let may = subst (λ (i : Item). MayCome s.0 s.1 i) c.in-Alloc.is s.4 in
    let small = may.small in
    let low = (takes c).low in
    omega (arith, small, low)

pub make_room-requires-clause-bytes : goal.make_room-requires-clause-bytes
make_room-requires-clause-bytes c = let sums = (takes c).sums in omega (arith, sums)

pub make_room-requires-clause-major : goal.make_room-requires-clause-major
make_room-requires-clause-major c = let major = (takes c).major in let few = c.requires.stands.2.few in omega (arith, major, few)

pub make_room-requires-clause-kept : goal.make_room-requires-clause-kept
make_room-requires-clause-kept c = let t = takes c in let kept = t.kept in let low = t.low in let major = t.major in let few = c.requires.stands.2.few in omega (arith, kept, low, major, few)

pub make_room-requires-clause-freed : goal.make_room-requires-clause-freed
make_room-requires-clause-freed c = let freed = (takes c).freed in omega (arith, freed)

places : (c : goal.After-row_known-in-Alloc-3-1) → CanPlace (view_of c.make_room.new.self) c.requires.stands.0 c.in-Alloc.size
places c =
    let s = c.requires.stands in
    let may = subst (λ (i : Item). MayCome s.0 s.1 i) c.in-Alloc.is s.4 in
    let t = can_take s.0 s.1 (view_of c.args.self.now) c.in-Alloc.event c.in-Alloc.object c.in-Alloc.size s.2.few s.2.fed may s.2.heap in
    subst (λ (v : View). CanPlace v s.0 c.in-Alloc.size) (sym c.make_room.ensures.view) (can_place (view_of c.args.self.now) s.0 c.in-Alloc.size may.small t)

pub place-requires-clause-bytes : goal.place-requires-clause-bytes
place-requires-clause-bytes c = (places c).fits

pub place-requires-clause-room : goal.place-requires-clause-room
place-requires-clause-room c = let short = (places c).short in let room = c.requires.stands.2.room in let same = c.make_room.ensures.room in omega (arith, short, room, same)

pub returns-in-Alloc-clause-stands : goal.returns-in-Alloc-clause-stands
returns-in-Alloc-clause-stands c = λ objects past t.
    (let s = c.requires.stands in
    let v = view_of c.args.self.now in
    let item = Alloc c.in-Alloc.event c.in-Alloc.object c.in-Alloc.size in
    let first = subst (λ (i : Item). MayCome s.0 s.1 i) c.in-Alloc.is s.4 in
    let may = may_come s.0 objects s.1 past v (space_after v.capacity s.1) (space_after v.capacity past) item s.2.heap t.heap first in
    let came = came_is objects past v c.in-Alloc.event c.in-Alloc.object c.in-Alloc.size t.few t.fed may s.3 t.heap in
    let now : view_of c.place.new.self ≡ object_placed c.in-Alloc.event c.in-Alloc.object c.in-Alloc.size (roomy c.in-Alloc.size v) = c.place.ensures.view ∙ ap (λ (u : View). object_placed c.in-Alloc.event c.in-Alloc.object c.in-Alloc.size u) c.make_room.ensures.view in
    let heap : IsReplayedHeap (view_of c.place.new.self) objects (item ∷ past) (space_after v.capacity (item ∷ past)) = subst (λ (u : View). IsReplayedHeap u objects (item ∷ past) (space_after v.capacity (item ∷ past))) (sym now) came in
    let cap : c.place.new.self.capacity ≡ v.capacity = ap (λ (u : View). u.capacity) now ∙ placed_capacity c.in-Alloc.event c.in-Alloc.object c.in-Alloc.size v in
    let stands : IsSpaceOf c.place.new.self objects (item ∷ past) = record {
      fed = (t.fed, may);
      few = t.few;
      heap = subst (λ (k : ℕ). IsReplayedHeap (view_of c.place.new.self) objects (item ∷ past) (space_after k (item ∷ past))) (sym cap) heap;
      room = (let a = t.room in let b = c.make_room.ensures.room in let d = c.place.ensures.room in omega (arith, a, b, d));
    } in
    subst (λ (i : Item). IsSpaceOf c.place.new.self objects (i ∷ past)) (sym c.in-Alloc.is) stands)
