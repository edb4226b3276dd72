-- The class that an instruction names is what the entry of the pool at its index refers to.
use Rattle.std.proofs.Common.{◌≡◌, ℕ, List, Option, Some, None, sym, ◌∙◌, ap}
use Rattle.std.specs.Prelude.{Result, option_map}
use Rattle.std.proofs.lemmas.Option.{same_Some}
use Rattle.et_pool.specs.Entries.{Item}
use Rattle.et_pool.specs.Looks.{class_name_at}
use Rattle.et_program.specs.Entries.{Linked}
use Rattle.et_program.specs.declared.errors.LinkError.{LinkError}
use Rattle.et_program.specs.Referring.{pool_of_class, class_referred}
use Rattle.et_program.specs.Resolution.{resolve_class}
use Rattle.et_event.specs.Sites.{Site, class_operand, pool_index}

pub class_entry : (p : Linked) (class index : ℕ) (at : Site) (name : List ℕ) → at.pool ≡ pool_of_class p class → index ≡ pool_index at → Some name ≡ class_operand at → class_referred p class index ≡ Some (resolve_class p name)
class_entry p class index at name pool same named =
    ap (λ (s : List (Option Item)). option_map (resolve_class p) (class_name_at s index)) (sym pool)
    ∙ (ap (λ (i : ℕ). option_map (resolve_class p) (class_name_at at.pool i)) same ∙ ap (option_map (resolve_class p)) (sym named))

pub class_answer : (p : Linked) (class index : ℕ) (name : List ℕ) (answer : Result ℕ LinkError) → class_referred p class index ≡ Some (resolve_class p name) → Some answer ≡ class_referred p class index → resolve_class p name ≡ answer
class_answer p class index name answer entry found = same_Some (resolve_class p name) answer (sym (found ∙ entry))

pub class_there : (p : Linked) (class index : ℕ) (name : List ℕ) → class_referred p class index ≡ Some (resolve_class p name) → None ≡ class_referred p class index → ⊥
class_there p class index name entry none = let e : None ≡ Some (resolve_class p name) = none ∙ entry in absurd (cc)
