-- The replay of a timeline.
use Rattle.std.specs.Prelude.{ℕ, Bool, List, [], ◌∷◌, ◌++◌, reverse}
use Rattle.std.specs.List.{flat_map}
use Rattle.et_graph.specs.Graph.{Graph}
use Rattle.et_replay.specs.declared.item.Item.{Item}
use Rattle.et_replay.specs.declared.model.Policy.{Policy}
use Rattle.et_replay.specs.Lines.{report_text}
use Rattle.et_replay.specs.Tally.{tally}

-- the line of a policy: its tally over all items, and LF (10). What is exhausted at an item keeps its tally from there on
abbrev pub replay_line : (Graph → ℕ → Bool) → List Item → Policy → List ℕ
replay_line reached items policy = report_text (tally reached policy (reverse items)) ++ 10 ∷ []

-- THE LINES: one for each policy, in order
abbrev pub replay_text : (Graph → ℕ → Bool) → List Item → List Policy → List ℕ
replay_text reached items policies = flat_map (replay_line reached items) policies
