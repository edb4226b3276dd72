use Rattle.std.proofs.Common.{◌≡◌, refl, subst}
use Rattle.std.specs.Prelude.{OnOk, OnErr}
use Rattle.et_io.specs.Sink.{with_more, TakesPrefix}
use Rattle.et_command.specs.Command as words
use Rattle.et_files.specs.Loaded.{file_bytes, most_of_class, IsListingOf}
use Rattle.et_top.proofs.AnswerLemmas.{text_answers, text_refused}
use Rattle.et_top.proofs.commands.assemble.Goals as goal

pub returns : goal.returns
returns g c kinds visits =
    text_answers g.F.Files g.O.Sink _ _ kinds (words.Assemble c.args.path.now) c.args.path.now refl (λ held found. IsListingOf (file_bytes most_of_class (held c.args.path.now)) found) (λ reached bytes. bytes) (λ held d h. h) _ _ visits c.in_ok-bytes.bytes c.put_all.result _ c.written.ensures c.put_all.ensures.write c.in_ok-bytes.ensures.read
    (λ held told found is. (
      c.in_ok-bytes.bytes.items,
      c.in_ok-bytes.ensures.tells held told found is,
      λ reached decides. (
        subst (λ bytes. OnOk c.put_all.result (g.O.Sink.taken c.put_all.new.sink ≡ with_more (g.O.Sink.taken c.args.out.now) bytes)) c.as_slice.ensures.value c.put_all.ensures.ok,
        subst (λ bytes. OnErr c.put_all.result (TakesPrefix (g.O.Sink.taken c.args.out.now) (g.O.Sink.taken c.put_all.new.sink) bytes)) c.as_slice.ensures.value c.put_all.ensures.err,
      ),
    ))

pub returns-in_err-bytes : goal.returns-in_err-bytes
returns-in_err-bytes g c kinds visits = text_refused g.F.Files g.O.Sink _ _ kinds (words.Assemble c.args.path.now) c.args.path.now refl (λ held found. IsListingOf (file_bytes most_of_class (held c.args.path.now)) found) (λ reached bytes. bytes) (λ held d h. h) _ visits c.in_err-bytes.field-0.0 c.from_residual.result c.from_residual.ensures.1 c.in_err-bytes.ensures.read c.in_err-bytes.ensures.tells
