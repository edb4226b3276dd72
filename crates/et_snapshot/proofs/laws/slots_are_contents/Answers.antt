use Rattle.et_snapshot.proofs.Contents.{slots_rise, shown_holds, held_shows}
use Rattle.et_snapshot.proofs.laws.slots_are_contents.Goals as goal

pub returns-clause-rise : goal.returns-clause-rise
returns-clause-rise c lines e object = slots_rise lines e object

pub returns-clause-contents : goal.returns-clause-contents
returns-clause-contents c lines e object slot target = (shown_holds lines e object slot target, held_shows lines e object slot target)
