use Rattle.et_convert.specs.Spellings.{format_in}
use Rattle.et_convert.proofs.SpellingLemmas.{not_both_in}
use Rattle.et_convert.proofs.laws.spelled_traces_have_no_fault.Goals as goal

pub returns : goal.returns
returns c lines bytes kind number =
    not_both_in (format_in bytes) lines bytes kind number (c.good_texts_have_no_fault.ensures lines bytes kind number) (c.good_packs_have_no_fault.ensures lines bytes kind number)
