-- The strings and the argument array of a linked program.
use Rattle.std.proofs.Common.{◌≡◌, ℕ, ◌<◌, true, length, Option, sym, ◌∙◌, ap, subst, arith}
use Rattle.std.specs.Prelude.{All, List, map, codes, option_map}
use Rattle.std.proofs.lemmas.List.{length-append, length-map}
use Rattle.et_program.specs.ArrayTypes.{leaf_element}
use Rattle.et_program.specs.Entries.{ClassEntry, Linked, class_at}
use Rattle.et_program.specs.Files.{boots, boot_outline, file_outline, set_of}
use Rattle.et_program.specs.Loaded.{LoadedClass}
use Rattle.et_program.specs.ProgramOf.{program_with, IsProgramOf}
use Rattle.et_program.specs.declared.info.Element.TheVariants.{NoArray}
use Rattle.et_program.specs.declared.kind.Leaf.TheVariants as leaf
use Rattle.et_event.specs.Kinds.{is_array_element}
use Rattle.et_history.specs.programs.ClassNames.{HasClassName}
use Rattle.et_history.proofs.programs.Arguments.{arguments_called, arguments_at}
use Rattle.et_history.proofs.programs.BuiltIn.{IsFieldless, of_string, no_fields_within}
use Rattle.et_history.proofs.programs.Making.{class_in, named_in}
use Rattle.et_program.proofs.Standing.{place_in_set}
use Rattle.et_history.specs.Allocations.{HasArguments}
use Rattle.et_history.specs.steps.Records.{HasPlainStrings}

abbrev string : List ℕ
string = codes "java/lang/String"

pub plain_strings : (files : List LoadedClass) (p : Linked) → IsProgramOf files p → HasPlainStrings p
plain_strings files p is =
    let q : Linked = program_with files is.rows p.pools in
    let x : IsFieldless string = of_string in
    let own : x.place < length boots = no_fields_within boots x.place x.fieldless in
    let within : x.place < length (set_of files) = omega (arith, length-append (map boot_outline boots) (map file_outline files), length-map boots boot_outline) in
    subst (λ (z : Linked). HasPlainStrings z) (sym is.tables)
    (subst (λ (c : ℕ). (class_at q c).info.element ≡ NoArray) (sym (named_in files is.rows p.pools string x.place x.found)) (ap (λ (c : ClassEntry). c.info.element) (class_in files is.rows p.pools x.place within)))

pub arguments_are : (files : List LoadedClass) (p : Linked) → All HasClassName files → IsProgramOf files p → HasArguments p
arguments_are files p named is =
    let q : Linked = program_with files is.rows p.pools in
    let element = ap (λ (o : Option ℕ). is_array_element (leaf_element (option_map (λ (c : ℕ). leaf.Class c) o))) (place_in_set files string of_string.place of_string.found) in
    subst (λ (z : Linked). HasArguments z) (sym is.tables)
    (subst (λ (c : ℕ). is_array_element (class_at q c).info.element ≡ true) (sym (arguments_called files is.rows p.pools named)) (ap (λ (c : ClassEntry). is_array_element c.info.element) (arguments_at files is.rows p.pools) ∙ element))
