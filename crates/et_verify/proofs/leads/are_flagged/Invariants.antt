-- What was looked at is flagged.
use Rattle.std.proofs.Common.{◌≡◌, drop}
use Rattle.std.specs.List.{list_all}
use Rattle.et_code.specs.Rules.{flag}
use Rattle.et_verify.proofs.leads.are_flagged.Given as goal

abbrev pub invariant-loop-place : goal.invariant-loop-place
invariant-loop-place l = list_all (flag l.flags) (drop l.place-index l.places) ≡ list_all (flag l.flags) l.places
