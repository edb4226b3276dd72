-- A program that was linked of class files, and that has fewer than 2^32 classes, keeps its tables in range.
use Rattle.std.proofs.Common.{◌≡◌, ℕ, ◌+◌, ◌*◌, ◌<◌, ◌≤◌, ◌^◌, Bool, true, false, List, [], ◌∷◌, ◌++◌, length, map, Option, Some, None, inl, inr, refl, ap, arith, length-append}
use Rattle.std.specs.Prelude.{All}
use Rattle.std.proofs.lemmas.Bool.{cases_lt}
use Rattle.std.proofs.lemmas.List.{length-map}
use Rattle.std.proofs.lemmas.List.Elements.{All-head, All-tail, All-map}
use Rattle.et_class.specs.Layout.{ClassOf}
use Rattle.et_class.specs.Spelling.{IsClassSpelled}
use Rattle.et_class.proofs.Respelled.{class_spelled}
use Rattle.et_link.specs.Declaring.{AreRows}
use Rattle.et_link.proofs.LinkingLemmas.{tabled_program}
use Rattle.et_link.proofs.TabledLemmas.{length-classes, length-set}
use Rattle.et_history.proofs.programs.Supers.{below}
use Rattle.et_hierarchy.proofs.LinkLemmas.{are_within}
use Rattle.et_program.specs.declared.fault.LinkFaultKind.TheVariants.{TooMany, NoMain}
use Rattle.et_program.specs.Entries.{Linked}
use Rattle.et_program.specs.Files.{boots, set_of}
use Rattle.et_program.specs.Linking.{IsOfFile}
use Rattle.et_program.specs.LinkFaults.{IsLinkable}
use Rattle.et_program.specs.Loaded.{LoadedClass, loaded_class, loaded_field, loaded_method}
use Rattle.et_program.specs.MembersOf.{numbered, boot_fields, file_field, file_fields, boot_methods, file_method, file_methods, methods_of}
use Rattle.et_program.specs.ProgramOf.{class_names_of, heads_of, main_of, IsProgramOf}
use Rattle.et_program.specs.Tables.{IsTabled}

-- a class file has few fields and methods
pub record HasFewMembers (c : LoadedClass) : Type 0 where
  pub fields : length c.fields < 2 ^ 16
  pub methods : length c.methods < 2 ^ 16

few_members : (c : ClassOf) → IsOfFile c → HasFewMembers (loaded_class c)
few_members c file =
    let spelled : IsClassSpelled file.bytes c = class_spelled file.bytes c file.are_bytes file.is.read in
    let fields = length-map c.fields (loaded_field c.slots) in
    let methods = length-map c.methods (loaded_method c.slots) in
    let few_fields = spelled.can_be.fields.few in
    let few_methods = spelled.can_be.methods.few in
    record { fields = omega (arith, fields, few_fields); methods = omega (arith, methods, few_methods) }

-- what is numbered of files, where each file has few
few_numbered : {Y : Type 0} (of : ℕ → LoadedClass → List Y) → ((k : ℕ) (c : LoadedClass) → HasFewMembers c → length (of k c) ≤ 65535) → (k : ℕ) (files : List LoadedClass) → All HasFewMembers files → length (numbered of k files) ≤ 65535 * length files
few_numbered of each k [] few = omega arith
few_numbered of each k (c ∷ files) few =
    let both = length-append (of k c) (numbered of (k + 1) files) in
    let first = each k c (All-head HasFewMembers c files few) in
    let rest = few_numbered of each (k + 1) files (All-tail HasFewMembers c files few) in
    omega (arith, both, first, rest)

field_count : (k : ℕ) (files : List LoadedClass) → All HasFewMembers files → length (numbered file_fields k files) ≤ 65535 * length files
field_count k files few = few_numbered file_fields (λ j c own. let n = length-map c.fields (file_field c.pool.slots j) in omega (arith, n, own.fields)) k files few

method_count : (k : ℕ) (files : List LoadedClass) → All HasFewMembers files → length (numbered file_methods k files) ≤ 65535 * length files
method_count k files few = few_numbered file_methods (λ j c own. let n = length-map c.methods (file_method c.pool.slots j) in omega (arith, n, own.methods)) k files few

-- the fields of the built-in classes that are not static, and those that are
boot_field_count : (static : Bool) → length (numbered (boot_fields static) 0 boots) < 2 ^ 16
unfolding boots
boot_field_count true = omega arith
boot_field_count false = omega arith

boot_method_count : length (numbered boot_methods 0 boots) < 2 ^ 16
unfolding boots
boot_method_count = omega arith

pub few_files : (files : List LoadedClass) → IsLinkable files → length files ≤ 4096
few_files files linkable =
    elim (cases_lt 4096 (length files)) [
      | inl many ↦ let all = length-set files in absurd (linkable TooMany (length boots + 4096) (omega (arith, all, many)) refl)
      | inr few ↦ few
    ]

-- the first file has `main`
HasMain : Option ℕ → Type 0
HasMain o = (m : ℕ) × (o ≡ Some m)

main_by : (files : List LoadedClass) → 0 < length files → IsLinkable files → (o : Option ℕ) → main_of (methods_of files) ≡ o → HasMain o
unfolding HasMain
main_by files some linkable (Some m) e = (m, refl)
main_by files some linkable None e = let all = length-set files in absurd (linkable NoMain (length boots) (omega (arith, all, some)) (refl, e))

main_there : (files : List LoadedClass) → 0 < length files → IsLinkable files → (m : ℕ) × (main_of (methods_of files) ≡ Some m)
unfolding HasMain
main_there files some linkable = main_by files some linkable (main_of (methods_of files)) refl

pub tabled_of : (classes : List ClassOf) (p : Linked) → 0 < length classes → All IsOfFile classes → IsLinkable (map loaded_class classes) → IsProgramOf (map loaded_class classes) p → length p.classes < 2 ^ 32 → IsTabled p
tabled_of classes p some of_files linkable is few =
    let files : List LoadedClass = map loaded_class classes in
    let count = length-map classes loaded_class in
    let members : All HasFewMembers files = All-map HasFewMembers loaded_class classes (λ i d lt. few_members _ (of_files i d lt)) in
    let rows : AreRows files is.rows = record { within = are_within (set_of files); below = below files is.rows is.ancestry linkable } in
    let main = main_there files (omega (arith, count, some)) linkable in
    let all = length-classes (heads_of files is.rows) (set_of files) (class_names_of files) in
    let same = ap (λ (q : Linked). length q.classes) is.tables in
    let number = few_files files linkable in
    let instances = numbered (boot_fields false) 0 boots in
    let own = numbered file_fields (length boots) files in
    let behind = length-append (instances ++ own) (numbered (boot_fields true) 0 boots) in
    let fields = length-append instances own in
    let boot_f = boot_field_count false in
    let boot_s = boot_field_count true in
    let file_f = field_count (length boots) files members in
    let methods = length-append (numbered boot_methods 0 boots) (numbered file_methods (length boots) files) in
    let boot_m = boot_method_count in
    let file_m = method_count (length boots) files members in
    tabled_program files is.rows p main.0 rows main.1 is.tables (omega (arith, all, same, few)) (omega (arith, methods, boot_m, file_m, number)) (omega (arith, behind, fields, boot_f, boot_s, file_f, number))
