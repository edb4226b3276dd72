-- What a method returns, by its descriptor.
use Rattle.std.specs.Prelude.{ℕ, List, []}
use Rattle.std.specs.Option.{option_map_or}
use Rattle.et_pool.specs.Descriptors.{MethodType, method_type}

-- what stands behind the parameters; nothing where it is no descriptor
abbrev pub returned_in : List ℕ → List ℕ
returned_in descriptor = option_map_or (λ (type : MethodType). type.returned) (method_type descriptor) []
