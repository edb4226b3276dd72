use Rattle.std.proofs.Common.{rules, ◌≡◌, List, Option, sym, ap, ◌∙◌}
use Rattle.et_class.specs.Entries.{Item}
use Rattle.et_program.specs.Referring.{member_described}
use Rattle.et_event.specs.Sites.{pool_index}
use Rattle.et_event.proofs.members.member_at.Goals as goal

pub returns-in-Some : goal.returns-in-Some
returns-in-Some c =
    let at = c.args.site.now in
    let pool : at.pool ≡ c.in-Some.pool.now.slots = search rules in
    c.member_at.ensures ∙ (ap (member_described c.in-Some.pool.now.slots) c.index_of.ensures ∙ ap (λ (s : List (Option Item)). member_described s (pool_index at)) (sym pool))
