use Rattle.std.proofs.Common.{List, map, subst}
use Rattle.et_class.specs.Classes.{class_of}
use Rattle.et_program.specs.Loaded.{LoadedClass, loaded_file, loaded_class}
use Rattle.et_program.specs.LinkFaults.{IsLinkable}
use Rattle.et_link.specs.Refusals.{RefusesLink}
use Rattle.et_program.specs.ProgramOf.{IsProgramOf}
use Rattle.et_link.specs.declared.fault.LinkFault.TheVariants as link
use Rattle.et_files.proofs.LinkLemmas.{linked_found, link_fault_found}
use Rattle.et_files.proofs.programs.program.Goals as goal

pub returns-in-Ok-clause-tells : goal.returns-in-Ok-clause-tells
returns-in-Ok-clause-tells c program is =
    let files = c.args.classes.items in
    let same = c.files_are_classes.ensures files c.requires.parts in
    linked_found (map class_of files) (c.answers_are_one.ensures (map loaded_class (map class_of files))) program c.in-Ok.program
    (subst IsLinkable same c.in-Ok.ensures.0) (subst (λ (loaded : List LoadedClass). IsProgramOf loaded c.in-Ok.program) same c.in-Ok.ensures.1) is

pub returns-in-Err-At-clause-tells : goal.returns-in-Err-At-clause-tells
returns-in-Err-At-clause-tells c program is =
    let files = c.args.classes.items in
    let refuses = subst (RefusesLink (map loaded_file files)) c.in-Err-At.field-0-is c.in-Err-At.ensures in
    link_fault_found (map class_of files) (c.answers_are_one.ensures (map loaded_class (map class_of files))) program c.in-Err-At.kind c.in-Err-At.class
    (subst (λ (loaded : List LoadedClass). RefusesLink loaded (link.At c.in-Err-At.kind c.in-Err-At.class)) (c.files_are_classes.ensures files c.requires.parts) refuses) is
