use Rattle.et_link.proofs.KnownLemmas.{links_within}
use Rattle.et_link.proofs.linking.classes.prerequisites.Goals as goal

pub interfaces_to_run-requires : goal.interfaces_to_run-requires
interfaces_to_run-requires c = links_within c.args.known.now.table.items _ c.args.known.now.rows.items _ c.args.class c.index-table-class.result c.as_slice-table.ensures.value c.as_slice-rows.ensures.value c.requires.sized.rows c.requires.sized.within c.requires.class c.index-table-class.is
