use Rattle.std.proofs.Common.{◌∙◌, refl, ap, sym, subst, map, string_bytes}
use Rattle.et_io.specs.Faults.{Rose}
use Rattle.et_command.specs.Command.{Asked, command}
use Rattle.et_top.specs.Top.{GivesDefined}
use Rattle.et_files.specs.Reads.{ReadsInOrder, is_early}
use Rattle.et_top.specs.Paths.{paths_of, most_of}
use Rattle.et_top.specs.Visits.{IsWithoutRun, HasUnread}
use Rattle.std.specs.Prelude.{Option, option_map}
use Rattle.et_command.specs.Asked.{asked_by}
use Rattle.et_command.specs.declared.command.Command.{Command}
use Rattle.et_files.specs.Status.{is_read_status, is_write_status}
use Rattle.et_files.proofs.FaultLemmas.{same_count}
use Rattle.et_files.proofs.ReadLemmas.{none_read}
use Rattle.et_top.proofs.TopLemmas.{by_command, memory_gives, still}
use Rattle.et_top.proofs.top.elephant.Goals as goal

pub returns-in-Some-clause-answers : goal.returns-in-Some-clause-answers
returns-in-Some-clause-answers g c held told d defined reached decides =
    c.perform.ensures.gives held told d (by_command _ held d _ _ (sym (ap (λ (o : Option Command). option_map asked_by o) c.in-Some.is) ∙ c.in-Ok.ensures.command) defined) reached decides

pub returns-in-Err-clause-answers : goal.returns-in-Err-clause-answers
returns-in-Err-clause-answers g c held told d defined reached decides =
    let taken = g.O.Sink.taken c.args.out.now in
    let read = Rose (g.F.Files.faults c.args.files.now) (g.F.Files.faults c.args.files.now) in
    let written = Rose (g.O.Sink.faults c.args.out.now) (g.O.Sink.faults c.args.out.now) in
    let visits = c.args.visits.now in
    subst (GivesDefined reached taken taken visits visits read written d) (sym c.refuse.ensures.status) (memory_gives reached taken visits visits read written d (still visits d))

pub returns-in-Some-clause-no_visits : goal.returns-in-Some-clause-no_visits
returns-in-Some-clause-no_visits g c without =
    let is = sym (ap (λ (o : Option Command). option_map asked_by o) c.in-Some.is) ∙ c.in-Ok.ensures.command in
    c.perform.ensures.no_visits (subst (λ (a : Option Asked). IsWithoutRun a c.perform.result) (sym is) without)

pub returns-in-Some-clause-no_trace : goal.returns-in-Some-clause-no_trace
returns-in-Some-clause-no_trace g c held told d defined none =
    c.perform.ensures.no_trace held told d (by_command _ held d _ _ (sym (ap (λ (o : Option Command). option_map asked_by o) c.in-Some.is) ∙ c.in-Ok.ensures.command) defined) none

pub returns-in-Some-clause-unread : goal.returns-in-Some-clause-unread
returns-in-Some-clause-unread g c few =
    let is = sym (ap (λ (o : Option Command). option_map asked_by o) c.in-Some.is) ∙ c.in-Ok.ensures.command in
    c.perform.ensures.unread (subst (λ (a : Option Asked). HasUnread (g.F.Files.asked c.args.files.now) (g.F.Files.asked c.perform.new.files) (paths_of a)) (sym is) few)

pub returns-in-Some-clause-reads : goal.returns-in-Some-clause-reads
returns-in-Some-clause-reads g c =
    let is = sym (ap (λ (o : Option Command). option_map asked_by o) c.in-Some.is) ∙ c.in-Ok.ensures.command in
    subst (λ (a : Option Asked). ReadsInOrder (g.F.Files.agrees c.perform.new.files (g.F.Files.asked c.args.files.now)) (g.F.Files.asked c.args.files.now) (g.F.Files.asked c.perform.new.files) (most_of a) (paths_of a) c.perform.result) is c.perform.ensures.reads

pub returns-in-Err-clause-reads : goal.returns-in-Err-clause-reads
returns-in-Err-clause-reads g c = none_read _ _ _ (paths_of (command (map string_bytes c.args.words.now))) c.refuse.result (λ late. let early = ap is_early c.refuse.ensures.status in absurd (cc (early, late)))

pub returns-in-None-clause-reads : goal.returns-in-None-clause-reads
returns-in-None-clause-reads g c =
    let is = sym (ap (λ (o : Option Command). option_map asked_by o) c.in-None.is) ∙ c.in-Ok.ensures.command in
    none_read _ _ _ (paths_of (command (map string_bytes c.args.words.now))) c.refuse-in-None.result (λ late. ap paths_of (sym is))

pub returns-in-Err-clause-read_fault : goal.returns-in-Err-clause-read_fault
returns-in-Err-clause-read_fault g c = same_count (is_read_status c.refuse.result) _ _ refl (ap is_read_status c.refuse.ensures.status)

pub returns-in-Err-clause-write_fault : goal.returns-in-Err-clause-write_fault
returns-in-Err-clause-write_fault g c = same_count (is_write_status c.refuse.result) _ _ refl (ap is_write_status c.refuse.ensures.status)

pub returns-in-None-clause-read_fault : goal.returns-in-None-clause-read_fault
returns-in-None-clause-read_fault g c = same_count (is_read_status c.refuse-in-None.result) _ _ refl (ap is_read_status c.refuse-in-None.ensures.status)

pub returns-in-None-clause-write_fault : goal.returns-in-None-clause-write_fault
returns-in-None-clause-write_fault g c = same_count (is_write_status c.refuse-in-None.result) _ _ refl (ap is_write_status c.refuse-in-None.ensures.status)

pub returns-in-Some-clause-usage : goal.returns-in-Some-clause-usage
returns-in-Some-clause-usage g c e = absurd (c.perform.ensures.usage e)

pub returns-in-Some-clause-read_fault : goal.returns-in-Some-clause-read_fault
returns-in-Some-clause-read_fault g c = c.perform.ensures.read_fault

pub returns-in-Some-clause-write_fault : goal.returns-in-Some-clause-write_fault
returns-in-Some-clause-write_fault g c = c.perform.ensures.write_fault
