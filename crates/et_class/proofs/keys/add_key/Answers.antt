use Rattle.std.proofs.Common.{◌≡◌, ◌||◌, Bool, true, false, cond, refl, ◌∙◌}
use Rattle.et_class.specs.Names.{same_key}
use Rattle.et_class.specs.Keys.{has_member_key}
use Rattle.et_class.proofs.keys.add_key.Goals as goal

or_cond : (a b : Bool) → cond a true b ≡ (a || b)
or_cond true b = refl
or_cond false b = refl

pub returns-clause-keeps : goal.returns-clause-keeps
returns-clause-keeps c = λ q. c.in_ok-insert.ensures.updates.0 (record { ref_ptr = (0, 0); now = q.0 }, record { ref_ptr = (0, 0); now = q.1 }) ∙ or_cond (same_key (c.args.name.now, c.args.descriptor.now) q) (has_member_key c.args.keys.now q)
