-- What is kept of the lines of a trace that come one by one. In each list of lines here the newest stands first.
use Rattle.std.specs.Prelude.{◌≡◌, List, reverse}
use Rattle.std.specs.List.{filter_map}
use Rattle.et_base.specs.declared.line.TraceLine.{TraceLine}
use Rattle.et_replay.specs.Curve.{curve_events}
use Rattle.et_replay.specs.Lives.{born_by, died_by}
use Rattle.et_replay.specs.Parts.{item_of}
use Rattle.et_replay.specs.declared.by_time.Happenings.{Happenings}
use Rattle.et_replay.specs.declared.curve.Curve.{Curve}

-- a curve keeps the events that have a row, and what is kept of the objects
pub record IsCurveOf (curve : Curve) (past : List TraceLine) : Type 0 where
  pub events : curve.events.items ≡ curve_events (reverse past)
  pub born : curve.lives.born.items ≡ born_by past
  pub died : curve.lives.died.items ≡ died_by past

-- a timeline's front keeps the items of the A and U lines, and what is kept of the objects
pub record AreHappenings (happenings : Happenings) (past : List TraceLine) : Type 0 where
  pub items : happenings.items.items ≡ filter_map item_of (reverse past)
  pub born : happenings.lives.born.items ≡ born_by past
  pub died : happenings.lives.died.items ≡ died_by past
