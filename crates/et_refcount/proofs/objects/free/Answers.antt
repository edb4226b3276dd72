use Rattle.std.proofs.Common.{◌≡◌, ◌∙◌, List, Some, refl, sym, ap, inl}
use Rattle.std.specs.Vec.{with_items}
use Rattle.std.proofs.lemmas.List.{with_items_is}
use Rattle.et_refcount.specs.declared.objects.Place.{Place}
use Rattle.et_refcount.specs.Objects.{tables_of, held_at}
use Rattle.et_refcount.proofs.Slots.{own_low, freed_one}
use Rattle.et_refcount.proofs.objects.free.Goals as goal

pub release-requires : goal.release-requires
release-requires c =
    let o = c.args.objects.now in
    let was : held_at o.places.items c.args.object ≡ Some c.in-Some.size = sym (c.in-Some.ensures ∙ ap (λ (l : List Place). held_at l c.args.object) c.deref.ensures.value) in
    own_low (tables_of o) o.slots.items c.args.object c.in-Some.size c.index_mut-2.result.now c.replace-own.result c.deref_mut.result.now c.requires refl was c.index_mut-2.ensures.value c.replace-own.ensures.value c.deref_mut.ensures.value

pub returns : goal.returns
returns c =
    let o = c.args.objects.now in
    let was : held_at o.places.items c.args.object ≡ Some c.in-Some.size = sym (c.in-Some.ensures ∙ ap (λ (l : List Place). held_at l c.args.object) c.deref.ensures.value) in
    let last : (with_items o.counts c.release.new.counts).items ≡ c.release.new.counts = with_items_is o.counts c.release.new.counts (c.release.auto.counts ∙ c.deref_mut.ensures.len) in
    inl (freed_one (tables_of o) o.slots.items c.args.object c.in-Some.size c.index_mut-2.result.now c.replace-own.result c.replace-own.new.dest c.deref-2.result.now c.deref_mut.result.now c.release.new.counts (with_items o.counts c.release.new.counts).items c.args.work.now.items c.release.new.work.items
    c.requires refl was c.index_mut-2.ensures.value c.replace-own.ensures.value (ap (λ m. m.entries) c.replace-own.ensures.after ∙ c.new.ensures.empty) c.deref-2.ensures.value c.deref_mut.ensures.value last c.in_ok-release.ensures)
