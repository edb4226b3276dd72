use Rattle.std.proofs.Common.{◌≡◌, ℕ, ◌*◌, ◌<◌, ◌≤◌, List, length, sym, ◌∙◌, ap, subst, arith}
use Rattle.std.proofs.lemmas.List.{with_items_is, length-append, length-replicate, length-take}
use Rattle.et_flush.specs.declared.ranks.TheConstants.{BLOCK_SIZE}
use Rattle.et_flush.specs.Ranks.{rank_entry}
use Rattle.et_flush.proofs.Ranking.{entry_within, entries_apart, are_ranked}
use Rattle.et_flush.proofs.ranks.list_ranks.Goals as goal

pub list_blocks-requires-clause-within : goal.list_blocks-requires-clause-within
list_blocks-requires-clause-within c = λ o d. let w = c.requires.within o d in (w.0, omega (arith, w.1, ap length c.deref_mut.ensures.value))

pub write_ranks-requires-clause-within : goal.write_ranks-requires-clause-within
write_ranks-requires-clause-within c = λ o d.
    let w = c.requires.within o d in
    let runs : c.deref.result.now ≡ c.list_blocks.new.runs = c.deref.ensures.value ∙ with_items_is c.args.ranks.now.runs c.list_blocks.new.runs (c.list_blocks.auto.runs ∙ c.deref_mut.ensures.len) in
    (w.0, omega (arith, w.1, ap length runs, c.list_blocks.auto.runs, ap length c.deref_mut.ensures.value))

pub write_ranks-requires-clause-entries : goal.write_ranks-requires-clause-entries
write_ranks-requires-clause-entries c = λ o d.
    let runs : c.deref.result.now ≡ c.list_blocks.new.runs = c.deref.ensures.value ∙ with_items_is c.args.ranks.now.runs c.list_blocks.new.runs (c.list_blocks.auto.runs ∙ c.deref_mut.ensures.len) in
    let entry : rank_entry c.deref.result.now o ≡ rank_entry c.list_blocks.new.runs o = ap (λ (rs : List ℕ). rank_entry rs o) runs in
    let within : rank_entry c.list_blocks.new.runs o < length c.list_blocks.new.blocks.items * BLOCK_SIZE = entry_within c.list_blocks.new.runs c.list_blocks.new.blocks.items o c.list_blocks.ensures.runs (c.list_blocks.ensures.blocks o d) in
    let long : length c.list_blocks.new.blocks.items * BLOCK_SIZE ≤ length c.resize.new.v.items = omega (arith, ap length c.resize.ensures.items, length-append {A = ℕ}, length-replicate {A = ℕ}, length-take {A = ℕ}, c.len.ensures) in
    omega (arith, entry, within, long, ap length c.deref_mut-2.ensures.value)

pub write_ranks-requires-clause-apart : goal.write_ranks-requires-clause-apart
write_ranks-requires-clause-apart c = λ o u d e same.
    let runs : c.deref.result.now ≡ c.list_blocks.new.runs = c.deref.ensures.value ∙ with_items_is c.args.ranks.now.runs c.list_blocks.new.runs (c.list_blocks.auto.runs ∙ c.deref_mut.ensures.len) in
    entries_apart c.list_blocks.new.runs c.list_blocks.new.blocks.items c.list_blocks.ensures.runs o u (c.requires.within o d).0 (c.requires.within u e).0 (c.list_blocks.ensures.blocks o d) (c.list_blocks.ensures.blocks u e)
    (subst (λ (rs : List ℕ). rank_entry rs o ≡ rank_entry rs u) runs same)

pub returns-clause-ranked : goal.returns-clause-ranked
returns-clause-ranked c =
    let runs : c.deref.result.now ≡ c.list_blocks.new.runs = c.deref.ensures.value ∙ with_items_is c.args.ranks.now.runs c.list_blocks.new.runs (c.list_blocks.auto.runs ∙ c.deref_mut.ensures.len) in
    let long : length c.list_blocks.new.blocks.items * BLOCK_SIZE ≤ length c.resize.new.v.items = omega (arith, ap length c.resize.ensures.items, length-append {A = ℕ}, length-replicate {A = ℕ}, length-take {A = ℕ}, c.len.ensures) in
    are_ranked c.args.held.now c.deref.result.now c.write_ranks.new.ranks _ (sym c.deref.ensures.value) (with_items_is c.resize.new.v c.write_ranks.new.ranks (c.write_ranks.auto.ranks ∙ c.deref_mut-2.ensures.len))
    (λ o d. let w = c.requires.within o d in (w.0, omega (arith, w.1, ap length runs, c.list_blocks.auto.runs, ap length c.deref_mut.ensures.value)))
    (λ o d.
    let entry : rank_entry c.deref.result.now o ≡ rank_entry c.list_blocks.new.runs o = ap (λ (rs : List ℕ). rank_entry rs o) runs in
    let within : rank_entry c.list_blocks.new.runs o < length c.list_blocks.new.blocks.items * BLOCK_SIZE = entry_within c.list_blocks.new.runs c.list_blocks.new.blocks.items o c.list_blocks.ensures.runs (c.list_blocks.ensures.blocks o d) in
    omega (arith, entry, within, long, ap length c.deref_mut-2.ensures.value, c.write_ranks.auto.ranks))
    c.write_ranks.ensures
