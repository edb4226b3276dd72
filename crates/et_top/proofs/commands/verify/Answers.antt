use Rattle.std.proofs.Common.{false, refl, sym, ◌∙◌, ap, subst, map, string_bytes}
use Rattle.et_io.specs.Faults.{Rose}
use Rattle.et_command.specs.Command as words
use Rattle.et_files.specs.Loaded.{most_of_class}
use Rattle.et_files.specs.Reads.{ReadsInOrder}
use Rattle.et_files.specs.Status.{is_read_status}
use Rattle.et_files.specs.declared.status.Status.{Status}
use Rattle.et_files.specs.declared.status.Status.TheVariants as status
use Rattle.et_files.proofs.FaultLemmas.{counted_as}
use Rattle.et_files.proofs.ReadLemmas.{reads_whole}
use Rattle.et_top.specs.Top.{verifies, GivesDefined}
use Rattle.et_top.proofs.AnswerLemmas.{refused_answers}
use Rattle.et_top.proofs.TopLemmas.{refused_verdict}
use Rattle.et_top.proofs.commands.verify.Goals as goal

pub returns-in-Ok : goal.returns-in-Ok
returns-in-Ok g c kinds visits = record {
  gives = λ held told d defined reached decides.
      let is = defined.2 ∙ ap verifies (c.in-Ok.ensures.tells held told defined.0 defined.1) in
      subst (λ x. GivesDefined reached (g.O.Sink.taken c.args.out.now) (g.O.Sink.taken c.tell_verdict.new.out) visits visits (Rose (g.F.Files.faults c.args.files.now) (g.F.Files.faults c.load_program.new.files)) (Rose (g.O.Sink.faults c.args.out.now) (g.O.Sink.faults c.tell_verdict.new.out)) x c.tell_verdict.result) (sym is)
      (c.tell_verdict.ensures.gives reached visits visits (g.F.Files.faults c.args.files.now) (g.F.Files.faults c.load_program.new.files));
  usage = c.tell_verdict.ensures.usage;
  read_fault = counted_as false (is_read_status c.tell_verdict.result) _ _ c.in-Ok.ensures.reads.faults c.tell_verdict.ensures.no_read;
  write_fault = c.tell_verdict.ensures.write_fault;
  reads = reads_whole _ _ _ _ _ status.Done _ refl c.in-Ok.ensures.reads.in_order;
  no_visits = λ without. refl;
  no_trace = λ held told d defined none. refl;
  unread = λ few. refl;
}

pub returns-in-Err : goal.returns-in-Err
returns-in-Err g c kinds visits =
    refused_answers g.F.Files g.O.Sink _ _ kinds (words.Verify (map string_bytes c.args.paths.now)) c.args.out.now visits c.in-Err.refusal c.refuse.result c.refuse.ensures.status c.in-Err.ensures.reads.file c.in-Err.ensures.reads.faults
    (subst (λ (s : Status). ReadsInOrder (g.F.Files.agrees c.load_program.new.files (g.F.Files.asked c.args.files.now)) (g.F.Files.asked c.args.files.now) (g.F.Files.asked c.load_program.new.files) most_of_class (map string_bytes c.args.paths.now) s) (sym c.refuse.ensures.status) c.in-Err.ensures.reads.in_order)
    (λ held told d defined reached. refused_verdict reached (g.O.Sink.taken c.args.out.now) visits visits (Rose (g.F.Files.faults c.args.files.now) (g.F.Files.faults c.load_program.new.files)) (Rose (g.O.Sink.faults c.args.out.now) (g.O.Sink.faults c.args.out.now)) defined.0 c.in-Err.refusal d c.refuse.result defined.2 (c.in-Err.ensures.tells held told defined.0 defined.1) c.refuse.ensures.status)
