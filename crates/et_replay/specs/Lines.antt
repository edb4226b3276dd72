-- The line of a report.
use Rattle.std.specs.Prelude.{ℕ, List, [], ◌++◌, codes, Option, Some, None}
use Rattle.std.specs.Fmt.{decimal}
use Rattle.et_replay.specs.declared.model.Kind.{Kind}
use Rattle.et_replay.specs.declared.model.Kind.TheVariants.{MarkSweep, SemiSpace, Generational, RefCount}
use Rattle.et_replay.specs.declared.model.Policy.{Policy}
use Rattle.et_replay.specs.declared.model.Report.{Report}
use Rattle.et_replay.specs.declared.model.Totals.{Totals}

abbrev pub exhausted_text : Option ℕ → List ℕ
exhausted_text None = []
exhausted_text (Some event) = codes " exhausted=" ++ decimal event

abbrev pub counts_text : Kind → Policy → Totals → List ℕ
counts_text MarkSweep policy totals = codes "mark-sweep capacity=" ++ decimal policy.first ++ codes " collections=" ++ decimal totals.major ++ codes " marked=" ++ decimal totals.kept ++ codes " swept=" ++ decimal totals.freed
counts_text SemiSpace policy totals = codes "semispace capacity=" ++ decimal policy.first ++ codes " collections=" ++ decimal totals.major ++ codes " copied=" ++ decimal totals.kept ++ codes " freed=" ++ decimal totals.freed
counts_text Generational policy totals = codes "generational nursery=" ++ decimal policy.first ++ codes " old=" ++ decimal policy.second ++ codes " minor=" ++ decimal totals.minor ++ codes " major=" ++ decimal totals.major ++ codes " promoted=" ++ decimal totals.kept ++ codes " swept=" ++ decimal totals.freed
counts_text RefCount policy totals = codes "refcount capacity=" ++ decimal policy.first ++ codes " leaked=" ++ decimal totals.kept ++ codes " freed=" ++ decimal totals.freed

abbrev pub report_text : Report → List ℕ
report_text r = counts_text r.policy.kind r.policy r.totals ++ codes " peak=" ++ decimal r.totals.peak ++ exhausted_text r.totals.exhausted
