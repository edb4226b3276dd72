use Rattle.et_convert.proofs.EveryPack.{every_pack}
use Rattle.et_convert.proofs.SpellingLemmas.{some_spelling}
use Rattle.et_convert.proofs.laws.spelling_answers_exist.Goals as goal

pub returns : goal.returns
returns c bytes = some_spelling bytes (c.answers_exist.ensures bytes) (every_pack c.pack_answers_exist.ensures c.shown_pack_faults_stay.ensures bytes)
