-- What holds of class files, all together.
use Rattle.std.specs.Prelude.{List, All}
use Rattle.et_program.specs.Loaded.{LoadedClass}
use Rattle.et_history.specs.programs.ClassNames.{HasClassName}
use Rattle.et_history.specs.programs.Fields.{KeepsFieldRules}
use Rattle.et_history.specs.programs.Rules.{KeepsMethodRules, KeepsCodeRules}

-- what linking reads of class files keeps the rules of class files
pub record KeepRules (files : List LoadedClass) : Type 0 where
  pub names : All HasClassName files
  pub fields : All KeepsFieldRules files
  pub methods : All KeepsMethodRules files
  pub code : All KeepsCodeRules files
