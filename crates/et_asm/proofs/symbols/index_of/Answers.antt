use Rattle.std.proofs.Common.{◌≡◌, ◌<◌, length, ap, ◌∙◌, Some, None, position, take, arith}
use Rattle.std.proofs.lemmas.Grind.{get_or_default_zero}
use Rattle.std.specs.Option.{option_map_or}
use Rattle.et_asm.specs.Pool.{same_entry, index_behind, entry_index}
use Rattle.et_asm.proofs.Alike.{alike}
use Rattle.et_asm.proofs.symbols.index_of.Goals as goal

pub returns-in-Some : goal.returns-in-Some
unfolding entry_index
returns-in-Some c =
    let keys = c.symbols.inside.entries.keys in
    let found : Some c.in-Some.place ≡ position (same_entry c.args.e.now) keys = c.in-Some.ensures.index ∙ ap (λ eq. position (eq c.args.e.now) keys) alike in
    let within : c.in-Some.place < length keys = c.in-Some.ensures.within in
    let inside : c.in-Some.place < length c.symbols.inside.indices.items = omega (arith, c.symbols.invariant.counted) in
    c.index.ensures ∙ (get_or_default_zero c.symbols.inside.indices.items c.in-Some.place c.index.result.now inside
    ∙ (c.symbols.invariant.indices c.in-Some.place within ∙ (ap (λ o. option_map_or (λ i. index_behind (take i keys)) o 0) found ∙ ap (λ ks. entry_index ks c.args.e.now) c.symbols.view_is)))

pub returns-in-None : goal.returns-in-None
unfolding entry_index
returns-in-None c =
    let keys = c.symbols.inside.entries.keys in
    let found : None ≡ position (same_entry c.args.e.now) keys = c.in-None.ensures.index ∙ ap (λ eq. position (eq c.args.e.now) keys) alike in
    ap (λ o. option_map_or (λ i. index_behind (take i keys)) o 0) found ∙ ap (λ ks. entry_index ks c.args.e.now) c.symbols.view_is
