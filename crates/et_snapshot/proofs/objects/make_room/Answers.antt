use Rattle.std.proofs.Common.{◌≡◌, ◌∙◌, List, sym, ap, subst, rules}
use Rattle.std.specs.Prelude.{is_some, filter}
use Rattle.std.proofs.lemmas.List.Elements.{filter_from_retain}
use Rattle.et_snapshot.specs.declared.objects.Entry.{Entry}
use Rattle.et_snapshot.specs.Heap.{objects_of, numbers_of, RiseTo}
use Rattle.et_snapshot.proofs.Entries.{dead_given_up, rise_filter}
use Rattle.et_snapshot.proofs.objects.make_room.Goals as goal

pub returns-clause-kept : goal.returns-clause-kept
returns-clause-kept c =
    let left : c.retain.new.self.items ≡ filter (λ (e : Entry). is_some e.seen) c.args.entries.now.items = filter_from_retain _ (λ (e : Entry). is_some e.seen) (λ p x b q h. search rules) _ _ _ c.retain.ensures.filtered in
    ap (λ (es : List Entry). objects_of es) (c.in_ok-reserve.ensures.items ∙ left) ∙ dead_given_up c.args.entries.now.items

pub returns-clause-rise : goal.returns-clause-rise
returns-clause-rise c = λ top r.
    let left : c.retain.new.self.items ≡ filter (λ (e : Entry). is_some e.seen) c.args.entries.now.items = filter_from_retain _ (λ (e : Entry). is_some e.seen) (λ p x b q h. search rules) _ _ _ c.retain.ensures.filtered in
    subst (λ (es : List Entry). RiseTo top 0 (numbers_of es)) (sym (c.in_ok-reserve.ensures.items ∙ left)) (rise_filter top 0 (λ (e : Entry). is_some e.seen) c.args.entries.now.items r)
