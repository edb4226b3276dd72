use Rattle.std.proofs.Common.{◌≡◌, ◌++◌, ◌∷◌, [], ◌∙◌, List, ap, sym}
use Rattle.std.specs.Prelude.{reverse}
use Rattle.std.specs.List.{filter_map}
use Rattle.et_replay.specs.declared.item.Item.{Item}
use Rattle.et_replay.specs.Lives.{Sizes, born_with, died_with}
use Rattle.et_replay.specs.Parts.{item_of}
use Rattle.et_replay.proofs.Eventful.{both_ok, more_lines}
use Rattle.et_replay.proofs.by_time.Happenings.note.Goals as goal

pub returns : goal.returns
returns c = λ past h.
    let line = c.args.line.now in
    let items : c.push_item.new.items.items ≡ filter_map item_of (reverse (line ∷ past)) =
    c.in_ok-push_item.ensures ∙ (ap (λ (t : List Item). t ++ filter_map item_of (line ∷ [])) h.items ∙ sym (more_lines item_of past line)) in
    both_ok c.note.result
    (λ b d. record { items = items; born = b ∙ ap (λ (t : Sizes). born_with t line) h.born; died = d ∙ ap (λ (t : Sizes). died_with t line) h.died })
    c.note.ensures.born c.note.ensures.died
