use Rattle.std.proofs.Common.{Err, ◌∙◌, map, subst, sym}
use Rattle.std.specs.Prelude.{string_bytes}
use Rattle.et_top.specs.Process.{AnswersProcess, AnswersWords}
use Rattle.et_top.proofs.EndLemmas.{without_words, without_memory}
use Rattle.et_top.proofs.process.run_elephant.Goals as goal

pub returns-in-Ok-with_models : goal.returns-in-Ok-with_models
returns-in-Ok-with_models g c = rw c.in-Ok.is (record {
  words = subst (λ words. AnswersWords g.F.Files g.O.Sink c.args.files.now c.with_models.new.files c.args.out.now c.with_models.new.out (map string_bytes words) c.in-Ok-with_models.status) c.deref.ensures.value c.in-Ok-with_models.ensures.words;
  read_fault = c.in-Ok-with_models.ensures.read_fault;
  write_fault = c.in-Ok-with_models.ensures.write_fault;
  no_words = tt;
  no_file = tt;
  nothing = tt;
})

pub returns-in-Ok : goal.returns-in-Ok
returns-in-Ok g c = rw (c.in-Ok.is, c.in-Err-with_models.ensures.out, c.in-Err-with_models.ensures.files, c.refuse.ensures.status) (without_memory g.F.Files g.O.Sink _ _ c.in-Ok.words)

pub returns : goal.returns
returns g c =
    rw c.in-Err.is (subst (AnswersProcess g.F.Files g.O.Sink c.args.files.now c.args.files.now c.args.out.now c.args.out.now (Err c.in-Err.fault)) (sym (c.refuse-in-Err.ensures.status ∙ c.of_words.ensures)) (without_words g.F.Files g.O.Sink c.args.files.now c.args.out.now c.in-Err.fault))
