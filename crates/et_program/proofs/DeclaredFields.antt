-- What is true of the fields of the built-in classes and of those of the files is true of all fields.
use Rattle.std.proofs.Common.{Bool, true, false, List, length, ◌++◌}
use Rattle.std.specs.Prelude.{All}
use Rattle.std.proofs.lemmas.List.Elements.{All-append}
use Rattle.et_program.specs.declared.info.FieldInfo.{FieldInfo}
use Rattle.et_program.specs.Files.{boots}
use Rattle.et_program.specs.Loaded.{LoadedClass}
use Rattle.et_program.specs.MembersOf.{numbered, boot_fields, file_fields, fields_of}

pub all_fields : (P : FieldInfo → Type 0) (files : List LoadedClass) → ((static : Bool) → All P (numbered (boot_fields static) 0 boots)) → All P (numbered file_fields (length boots) files) → All P (fields_of files)
all_fields P files built_in own =
    All-append P (numbered (boot_fields false) 0 boots ++ numbered file_fields (length boots) files) (numbered (boot_fields true) 0 boots)
    (All-append P (numbered (boot_fields false) 0 boots) (numbered file_fields (length boots) files) (built_in false) own) (built_in true)
