use Rattle.et_convert.specs.Spellings.{format_in}
use Rattle.et_convert.proofs.SpellingLemmas.{one_list_in}
use Rattle.et_convert.proofs.laws.spelled_lists_differ.Goals as goal

pub returns : goal.returns
returns c a b bytes = one_list_in (format_in bytes) a b bytes (c.good_lists_differ.ensures a b bytes) (c.packed_lists_differ.ensures a b bytes)
