-- THE MEMBERS that the classes declare, class by class in the order of the set, each with the number of its class.
use Rattle.std.specs.Prelude.{◌≡◌, ℕ, ◌+◌, Bool, true, false, not, List, [], ◌∷◌, ◌++◌, map, length, Option, option_map}
use Rattle.std.specs.List.{filter}
use Rattle.et_class.specs.Names.{has}
use Rattle.et_class.specs.declared.flags.TheConstants.{STATIC}
use Rattle.et_class.specs.Entries.{Item, Constants}
use Rattle.et_class.specs.Looks.{utf8_at}
use Rattle.et_class.specs.Pools.{IsPool}
use Rattle.et_class.specs.Bodies.{Body}
use Rattle.et_boot.specs.Classes.{BootClassOf, BootFieldOf, BootMethodOf, BootCodeOf}
use Rattle.et_program.specs.declared.info.MethodInfo.{MethodInfo}
use Rattle.et_program.specs.declared.info.FieldInfo.{FieldInfo}
use Rattle.et_program.specs.Loaded.{LoadedMember, LoadedClass}
use Rattle.et_program.specs.Files.{boots, or_empty}

-- what the elements of a list give, each with its number, from a number on
abbrev pub numbered : {X Y : Type 0} → (ℕ → X → List Y) → ℕ → List X → List Y
numbered f k [] = []
numbered f k (x ∷ xs) = f k x ++ numbered f (k + 1) xs

-- the bytes of the Utf8 entry at an index; in a class file there is one wherever linking looks for one
abbrev pub pool_text : List (Option Item) → ℕ → List ℕ
pool_text slots i = or_empty (utf8_at slots i)

-- METHODS

-- the code of a built-in method has no handlers
abbrev pub boot_body : BootCodeOf → Body
boot_body c = record { max_stack = c.max_stack; max_locals = c.max_locals; code = c.code; table = [] }

abbrev pub boot_method : ℕ → BootMethodOf → MethodInfo
boot_method k m = record { class = k; name = m.name; descriptor = m.descriptor; flags = m.flags; code = option_map boot_body m.code; deferred = m.deferred }

abbrev pub file_method : List (Option Item) → ℕ → LoadedMember → MethodInfo
file_method slots k m = record { class = k; name = pool_text slots m.name; descriptor = pool_text slots m.descriptor; flags = m.flags; code = m.code; deferred = false }

abbrev pub boot_methods : ℕ → BootClassOf → List MethodInfo
boot_methods k c = map (boot_method k) c.methods

abbrev pub file_methods : ℕ → LoadedClass → List MethodInfo
file_methods k c = map (file_method c.pool.slots k) c.methods

abbrev pub methods_of : List LoadedClass → List MethodInfo
methods_of files = numbered boot_methods 0 boots ++ numbered file_methods (length boots) files

-- FIELDS, before they have slots

abbrev pub boot_field : ℕ → BootFieldOf → FieldInfo
boot_field k f = record { class = k; name = f.name; descriptor = f.descriptor; flags = f.flags; slot = 0; constant = 0 }

abbrev pub file_field : List (Option Item) → ℕ → LoadedMember → FieldInfo
file_field slots k f = record { class = k; name = pool_text slots f.name; descriptor = pool_text slots f.descriptor; flags = f.flags; slot = 0; constant = f.constant }

-- it is static, or it isn't
abbrev pub is_boot_static : Bool → BootFieldOf → Bool
is_boot_static true f = has f.flags STATIC
is_boot_static false f = not (has f.flags STATIC)

-- the fields that are static, or those that aren't
abbrev pub boot_fields : Bool → ℕ → BootClassOf → List FieldInfo
boot_fields static k c = map (boot_field k) (filter (is_boot_static static) c.fields)

abbrev pub file_fields : ℕ → LoadedClass → List FieldInfo
file_fields k c = map (file_field c.pool.slots k) c.fields

-- the static fields of the built-in classes stand behind the fields of the files, so that their slots are the last ones
abbrev pub fields_of : List LoadedClass → List FieldInfo
fields_of files = (numbered (boot_fields false) 0 boots ++ numbered file_fields (length boots) files) ++ numbered (boot_fields true) 0 boots

-- POOLS

-- this is the pool that the bytes of a built-in class spell
pub record IsBootPool (c : BootClassOf) (p : Constants) : Type 0 where
  pub place : p.at ≡ 0
  pub after : ℕ
  pub spelled : IsPool c.pool 0 p.slots after

abbrev pub AreBootPools : List BootClassOf → List Constants → Type 0
AreBootPools [] [] = Unit {0}
AreBootPools [] (p ∷ ps) = ⊥
AreBootPools (c ∷ cs) [] = ⊥
AreBootPools (c ∷ cs) (p ∷ ps) = IsBootPool c p × AreBootPools cs ps

abbrev pub file_pool : LoadedClass → Constants
file_pool c = c.pool

-- the pools of the built-in classes, and then those of the files
pub record HasPools (files : List LoadedClass) (pools : List Constants) : Type 0 where
  pub built_in : List Constants
  pub are_spelled : AreBootPools boots built_in
  pub are : pools ≡ built_in ++ map file_pool files
