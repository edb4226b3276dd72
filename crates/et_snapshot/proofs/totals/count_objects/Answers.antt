use Rattle.std.proofs.Common.{◌≡◌, ◌∙◌, ◌+◌, ◌-◌, ◌∷◌, ◌++◌, [], List, length, take, drop, set, sym, ap, subst, arith}
use Rattle.std.proofs.lemmas.List.{append-nil}
use Rattle.et_snapshot.specs.declared.totals.Total.{Total}
use Rattle.et_snapshot.specs.Heap.{Kept, body_of, objects_of, HasClass}
use Rattle.et_snapshot.proofs.Entries.{one_live, one_dead, objects_more, live_fits, live_split, few_objects}
use Rattle.et_snapshot.proofs.Counting.{Counts, counts_room, counts_room_all, counts_more}
use Rattle.et_snapshot.proofs.totals.count_objects.Goals as goal
use Rattle.et_snapshot.proofs.totals.count_objects.Goals.{in-Some, in_default}

pub overflow_sub-seen : goal.overflow_sub-seen
overflow_sub-seen c = (live_fits (HasClass (length c.args.totals.now)) c.args.objects.now c.loop-entry.entry-index c.entry-item.result c.in-Some.seen c.loop-entry-test.true c.entry-item.is c.in-Some.is c.requires.classes).0

pub bounds-totals-seen : goal.bounds-totals-seen
bounds-totals-seen c =
    let class = live_fits (HasClass (length c.args.totals.now)) c.args.objects.now c.loop-entry.entry-index c.entry-item.result c.in-Some.seen c.loop-entry-test.true c.entry-item.is c.in-Some.is c.requires.classes in
    let low = class.0 in
    let high = class.1 in
    let long = c.loop-entry.auto.totals in
    omega (arith, low, high, long)

pub add-requires : goal.add-requires
add-requires c =
    let es = c.args.objects.now in
    let i = c.loop-entry.entry-index in
    let x = c.entry-item.result in
    let s = c.in-Some.seen in
    let class = live_fits (HasClass (length c.args.totals.now)) es i x s c.loop-entry-test.true c.entry-item.is c.in-Some.is c.requires.classes in
    let low = class.0 in
    let high = class.1 in
    let long = c.loop-entry.auto.totals in
    let few = few_objects es in
    let room =
    counts_room (objects_of es) (objects_of (take i es)) (objects_of (drop (i + 1) es)) (x.object, body_of s) c.loop-entry.totals c.loop-entry.all (s.class - 1)
    (live_split es i x s c.loop-entry-test.true c.entry-item.is c.in-Some.is) c.loop-entry.invariant.counts (omega (arith, low, high, long)) (omega (arith, few)) c.requires.fits in
    record { count = room.count; bytes = room.bytes_fit }

pub add-requires-in-Some : goal.add-requires-in-Some
add-requires-in-Some c =
    let es = c.args.objects.now in
    let i = c.loop-entry.entry-index in
    let x = c.entry-item.result in
    let s = c.in-Some.seen in
    let few = few_objects es in
    let room =
    counts_room_all (objects_of es) (objects_of (take i es)) (objects_of (drop (i + 1) es)) (x.object, body_of s) c.loop-entry.totals c.loop-entry.all
    (live_split es i x s c.loop-entry-test.true c.entry-item.is c.in-Some.is) c.loop-entry.invariant.counts (omega (arith, few)) c.requires.fits in
    record { count = room.count; bytes = room.bytes_fit }

pub loop-entry-preserved : goal.loop-entry-preserved
loop-entry-preserved c =
    let es = c.args.objects.now in
    let i = c.loop-entry.entry-index in
    let x = c.entry-item.result in
    let totals = c.loop-entry.totals in
    let done = objects_of (take i es) in
    let next : objects_of (take (i + 1) es) ≡ done ++ objects_of (x ∷ []) = objects_more es i x c.loop-entry-test.true c.entry-item.is in
    record {
      counts = elim c.match-entry.branch [
        | in-Some w ↦
            let s = w.in-Some.seen in
            let k : Kept = (x.object, body_of s) in
            let class = live_fits (HasClass (length c.args.totals.now)) es i x s c.loop-entry-test.true c.entry-item.is w.in-Some.is c.requires.classes in
            let low = class.0 in
            let high = class.1 in
            let long = c.loop-entry.auto.totals in
            let more : objects_of (take (i + 1) es) ≡ done ++ k ∷ [] = next ∙ ap (λ (t : List Kept). done ++ t) (one_live x s w.in-Some.is) in
            subst (λ (l : List Kept). Counts l c.match-entry.totals c.match-entry.all) (sym more)
            (subst (λ (t : List Total). Counts (done ++ k ∷ []) t c.match-entry.all) (sym w.totals-is)
            (subst (λ (a : Total). Counts (done ++ k ∷ []) (set totals (s.class - 1) w.add.new.self) a) (sym w.all-is)
            (counts_more done k totals c.loop-entry.all w.add.new.self w.add-in-Some.new.self (s.class - 1) (omega (arith, low)) (omega (arith, low, high, long)) c.loop-entry.invariant.counts
            w.add.ensures.count w.add.ensures.bytes w.add-in-Some.ensures.count w.add-in-Some.ensures.bytes)))
        | in_default w ↦
            let more : objects_of (take (i + 1) es) ≡ done = next ∙ (ap (λ (t : List Kept). done ++ t) (one_dead x w.in_default.is) ∙ append-nil done) in
            subst (λ (l : List Kept). Counts l c.match-entry.totals c.match-entry.all) (sym more)
            (subst (λ (t : List Total). Counts done t c.match-entry.all) (sym w.totals-is)
            (subst (λ (a : Total). Counts done totals a) (sym w.all-is) c.loop-entry.invariant.counts))
      ];
    }
