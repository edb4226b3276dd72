use Rattle.std.proofs.Common.{◌∙◌, ◌∷◌, ◌++◌, [], ℕ, List, Some, sym, ap, subst}
use Rattle.std.proofs.lemmas.List.{map-append}
use Rattle.std.proofs.lemmas.List.Elements.{filter_map-append}
use Rattle.et_snapshot.specs.declared.objects.Entry.{Entry}
use Rattle.et_snapshot.specs.Heap.{Kept, body_of, kept_in, objects_of, numbers_of, RiseTo}
use Rattle.et_snapshot.proofs.Entries.{rise_push}
use Rattle.et_snapshot.proofs.objects.make.Goals as goal

pub returns-clause-kept : goal.returns-clause-kept
returns-clause-kept c =
    let room = c.make_room.new.entries.items in
    let one : Entry = record { object = c.args.object; seen = Some c.args.seen } in
    ap (λ (es : List Entry). objects_of es) c.in_ok-push.ensures.items
    ∙ (filter_map-append kept_in room (one ∷ []) ∙ ap (λ (ks : List Kept). ks ++ (c.args.object, body_of c.args.seen) ∷ []) c.in_ok-make_room.ensures.kept)

pub returns-clause-rise : goal.returns-clause-rise
returns-clause-rise c = λ top r lt.
    let room = c.make_room.new.entries.items in
    let one : Entry = record { object = c.args.object; seen = Some c.args.seen } in
    subst (λ (es : List Entry). RiseTo c.args.object 0 (numbers_of es)) (sym c.in_ok-push.ensures.items)
    (subst (λ (ns : List ℕ). RiseTo c.args.object 0 ns) (sym (map-append (λ (e : Entry). e.object) room (one ∷ []))) (rise_push top 0 c.args.object (numbers_of room) (c.in_ok-make_room.ensures.rise top r) lt))
