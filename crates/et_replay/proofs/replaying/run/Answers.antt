use Rattle.std.proofs.Common.{reverse}
use Rattle.et_replay.proofs.replaying.run.Goals as goal

pub text_of-requires : goal.text_of-requires
text_of-requires g c = let t = c.requires.sit in (t.0, reverse c.args.items.now, c.in_ok-feed_items.ensures t.0 t.1)

pub returns : goal.returns
returns g c = λ reached decides told z. c.text_of.ensures reached decides told (reverse c.args.items.now) (c.in_ok-feed_items.ensures told z)
