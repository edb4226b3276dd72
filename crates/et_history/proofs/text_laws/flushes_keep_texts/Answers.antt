use Rattle.et_history.proofs.FlushedTexts.{texts_flushed as proof}
use Rattle.et_history.proofs.text_laws.flushes_keep_texts.Goals as goal

pub returns : goal.returns
returns c = proof
