use Rattle.std.proofs.Common.{◌≡◌, ℕ, ◌+◌, ◌<◌, List, [], length, get_or, take, sym, ap, ◌∙◌}
use Rattle.std.proofs.lemmas.List.Sums.{fold_more}
use Rattle.indexmap.specs.IndexSet.{insert_key, insert_all}
use Rattle.et_listing.specs.Words.{same_word}
use Rattle.et_listing.proofs.mnemonic.mnemonics.Goals as goal

next : (ws : List (List ℕ)) (i : ℕ) (w : List ℕ) (keys keys' : List (List ℕ)) → i < length ws → w ≡ get_or ws i w → keys' ≡ insert_key same_word keys w → keys ≡ insert_all same_word [] (take i ws) → keys' ≡ insert_all same_word [] (take (i + 1) ws)
next ws i w keys keys' lt e step before =
    step ∙ (ap (λ k. insert_key same_word k w) before ∙ (ap (λ x. insert_key same_word (insert_all same_word [] (take i ws)) x) e ∙ sym (fold_more (insert_key same_word) [] ws i w lt)))

pub loop-word-preserved : goal.loop-word-preserved
loop-word-preserved c =
    next c.deref-word-items.result.now c.loop-word.word-index c.word-item.result c.loop-word.names.keys c.insert.new.self.keys c.loop-word-test.true c.word-item.is
    (c.in_ok-insert.ensures.keys ∙ ap (insert_key same_word c.loop-word.names.keys) c.copy.ensures) c.loop-word.invariant
