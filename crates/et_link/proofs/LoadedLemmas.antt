-- What linking reads of a class file that was read, and of the class that its bytes are.
use Rattle.std.proofs.Common.{◌≡◌, ℕ, ◌<◌, List, [], ◌∷◌, map, get_or, length, Option, None, Some, refl, sym, ◌∙◌, ap, subst}
use Rattle.std.specs.Prelude.{All}
use Rattle.std.proofs.lemmas.List.Elements.{All-head, All-tail, All-map}
use Rattle.std.proofs.lemmas.List.{length-map}
use Rattle.et_pool.specs.Entries.{Item, Constants}
use Rattle.et_code.specs.Bodies.{Body}
use Rattle.et_class.specs.declared.member.Member.{Member}
use Rattle.et_class.specs.declared.class.ClassFile.{ClassFile}
use Rattle.et_class.specs.Layout.{member_of, member_list}
use Rattle.et_class.specs.Fields.{constant_of}
use Rattle.et_class.specs.Methods.{code_of}
use Rattle.et_class.specs.Classes.{class_of, pool_of, HasItsParts}
use Rattle.et_link.specs.declared.linking.reading.Declared.{Declared}
use Rattle.et_link.specs.Declaring.{IsDeclared, IsDeclaredOf, HasItsFile}
use Rattle.et_program.specs.LinkFaults.{IsLinkable}
use Rattle.et_program.specs.Linking.{IsOfFile}
use Rattle.et_program.specs.MembersOf.{methods_of}
use Rattle.et_program.specs.ProgramOf.{main_of}
use Rattle.et_program.specs.Loaded.{LoadedMember, LoadedClass, loaded_field, loaded_method, loaded_class, loaded_member, loaded_file}

abbrev rest : {X : Type 0} → List X → List X
rest [] = []
rest (x ∷ xs) = xs

fields_alike : (slots : List (Option Item)) (fs : List Member) → map (λ (m : Member). m.constant) fs ≡ map (constant_of slots) (member_list fs) → map (λ (m : Member). m.code) fs ≡ map (λ (m : Member). None) fs → map loaded_member fs ≡ map (loaded_field slots) (member_list fs)
fields_alike slots [] k c = refl
fields_alike slots (f ∷ fs) k c =
    ap (λ (n : ℕ). record { flags = f.access_flags; name = f.name_index; descriptor = f.descriptor_index; constant = n; code = f.code } ∷ map loaded_member fs) (ap (λ l. get_or l 0 0) k)
    ∙ (ap (λ (b : Option Body). record { flags = f.access_flags; name = f.name_index; descriptor = f.descriptor_index; constant = constant_of slots (member_of f); code = b } ∷ map loaded_member fs) (ap (λ l. get_or l 0 None) c)
    ∙ ap (λ l. loaded_field slots (member_of f) ∷ l) (fields_alike slots fs (ap rest k) (ap rest c)))

methods_alike : (slots : List (Option Item)) (ms : List Member) → map (λ (m : Member). m.code) ms ≡ map (code_of slots) (member_list ms) → map (λ (m : Member). m.constant) ms ≡ map (λ (m : Member). 0) ms → map loaded_member ms ≡ map (loaded_method slots) (member_list ms)
methods_alike slots [] c k = refl
methods_alike slots (m ∷ ms) c k =
    ap (λ (n : ℕ). record { flags = m.access_flags; name = m.name_index; descriptor = m.descriptor_index; constant = n; code = m.code } ∷ map loaded_member ms) (ap (λ l. get_or l 0 0) k)
    ∙ (ap (λ (b : Option Body). record { flags = m.access_flags; name = m.name_index; descriptor = m.descriptor_index; constant = 0; code = b } ∷ map loaded_member ms) (ap (λ l. get_or l 0 None) c)
    ∙ ap (λ l. loaded_method slots (member_of m) ∷ l) (methods_alike slots ms (ap rest c) (ap rest k)))

-- a class file and the class that its bytes are
file_alike : (c : ClassFile) → HasItsParts c → loaded_file c ≡ loaded_class (class_of c)
file_alike c h =
    ap (λ (p : Constants). record { pool = p; flags = c.access_flags; this = c.this_class; super = c.super_class; interfaces = c.interfaces.items; fields = map loaded_member c.fields.items; methods = map loaded_member c.methods.items }) h.pool
    ∙ (ap (λ (fs : List LoadedMember). record { pool = pool_of (class_of c); flags = c.access_flags; this = c.this_class; super = c.super_class; interfaces = c.interfaces.items; fields = fs; methods = map loaded_member c.methods.items }) (fields_alike c.pool.slots c.fields.items h.members.constants h.members.no_code)
    ∙ ap (λ (ms : List LoadedMember). record { pool = pool_of (class_of c); flags = c.access_flags; this = c.this_class; super = c.super_class; interfaces = c.interfaces.items; fields = (loaded_class (class_of c)).fields; methods = ms }) (methods_alike c.pool.slots c.methods.items h.members.codes h.members.no_constants))

pub files_alike : (files : List ClassFile) → All HasItsParts files → map loaded_file files ≡ map loaded_class (map class_of files)
files_alike [] h = refl
files_alike (c ∷ cs) h =
    ap (λ x. x ∷ map loaded_file cs) (file_alike c (All-head HasItsParts c cs h))
    ∙ ap (λ l. loaded_class (class_of c) ∷ l) (files_alike cs (All-tail HasItsParts c cs h))

-- there are as many of them
pub counted : (n : ℕ) (files : List ClassFile) → n ≡ length files → n ≡ length (map loaded_file files)
counted n files e = e ∙ sym (length-map files loaded_file)

pub some_loaded : (files : List ClassFile) → 0 < length files → 0 < length (map loaded_file files)
some_loaded files lt = subst (λ n. 0 < n) (sym (length-map files loaded_file)) lt

-- what files declare that were read is what the class files declare
pub declared_of : (files : List ClassFile) (d : Declared) (main : ℕ) → 0 < length files → All HasItsParts files → All HasItsFile files → IsLinkable (map loaded_file files) → IsDeclared (map loaded_file files) d → main_of (methods_of (map loaded_file files)) ≡ Some main → IsDeclaredOf (map class_of files) d main
declared_of files d main some parts of_files linkable declared is =
    let same = files_alike files parts in
    record {
      some = subst (λ n. 0 < n) (sym (length-map files class_of)) some;
      of_files = All-map IsOfFile class_of files of_files;
      linkable = subst IsLinkable same linkable;
      declared = subst (λ (fs : List LoadedClass). IsDeclared fs d) same declared;
      main_is = subst (λ (fs : List LoadedClass). main_of (methods_of fs) ≡ Some main) same is;
    }
