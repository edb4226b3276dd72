use Rattle.et_theorems.proofs.typings.Runs.{verified_kept, verified_whole}
use Rattle.et_theorems.proofs.typed_laws.verified_histories_end_by_check_7.Goals as goal

pub returns-clause-kept : goal.returns-clause-kept
returns-clause-kept c = λ reached p options pick e t m pc decides tabled linked verified are last. verified_kept reached p options pick decides tabled linked verified are e t m pc last

pub returns-clause-whole : goal.returns-clause-whole
returns-clause-whole c = λ reached p options pick e t m pc decides tabled linked verified are last. verified_whole reached p options pick decides tabled linked verified are e t m pc last
