-- Items that came as they may.
use Rattle.std.specs.Prelude.{List, [], ◌∷◌, ℕ}
use Rattle.et_replay.specs.declared.item.Item.{Item}
use Rattle.et_replay.specs.Feeding.{MayCome}

abbrev pub AreFed : ℕ → List Item → Type 0
AreFed objects [] = Unit {0}
AreFed objects (item ∷ past) = AreFed objects past × MayCome objects past item
