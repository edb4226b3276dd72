-- All that holds of class files and of programs.
use Rattle.std.proofs.Common.{◌≡◌, ℕ, ◌+◌, ◌<◌, List, length, map, sym, subst, arith}
use Rattle.std.specs.Prelude.{All}
use Rattle.std.specs.List.{slice_index_or}
use Rattle.std.proofs.lemmas.List.Elements.{All-map, All-weaker}
use Rattle.et_pool.specs.Entries.{Constants}
use Rattle.et_class.specs.Layout.{ClassOf}
use Rattle.et_hierarchy.specs.Ancestry.{Ancestry}
use Rattle.et_program.specs.Entries.{Linked, no_method, method_at}
use Rattle.et_program.specs.Files.{set_of}
use Rattle.et_program.specs.Loaded.{LoadedClass, loaded_class}
use Rattle.et_program.specs.LinkFaults.{IsLinkable}
use Rattle.et_program.specs.ProgramOf.{class_names_of, program_with, IsProgramOf}
use Rattle.et_link.proofs.TabledLemmas.{methods_within}
use Rattle.et_history.specs.programs.ClassNames.{HasClassName}
use Rattle.et_history.proofs.programs.Interfaces.{HaveStaticFields}
use Rattle.et_history.proofs.programs.Making.{makes_sound, errors_hold}
use Rattle.et_history.proofs.programs.Names.{has_class_name}
use Rattle.et_history.proofs.programs.Slotted.{has_slots}
use Rattle.et_history.specs.programs.Fields.{HasStaticFields, HasStaticConstants, HasTypedConstants, KeepsFieldRules}
use Rattle.et_history.proofs.programs.Above.{knows_interfaces}
use Rattle.et_history.proofs.programs.Classes.{length_all}
use Rattle.et_history.proofs.programs.Elements.{elements_within}
use Rattle.et_history.proofs.programs.Programs.{in_order, has_initializers}
use Rattle.et_history.proofs.programs.Static.{fields_static}
use Rattle.et_history.proofs.programs.Typed.{keeps_field_rules}
use Rattle.et_event.specs.Runnable.{IsRunnable}
use Rattle.et_program.specs.Linking.{IsOfFile}
use Rattle.et_history.specs.programs.Programs.{KeepRules}
use Rattle.et_history.specs.programs.Rules.{KeepsMethodRules, KeepsCodeRules}
use Rattle.et_history.proofs.programs.Arrays.{has_arrays}
use Rattle.et_history.proofs.programs.Bodies.{have_rules, runs_on_object}
use Rattle.et_history.proofs.programs.PromisedFiles.{keeps_method_rules, keeps_code_rules}
use Rattle.et_history.proofs.programs.Machine.{has_machine_slots}
use Rattle.et_history.proofs.programs.Methods.{has_methods}
use Rattle.et_history.proofs.programs.TextClasses.{has_text_classes}

all_of_files : (P : LoadedClass → Type 0) → ((c : ClassOf) → IsOfFile c → P (loaded_class c)) → (cs : List ClassOf) → All IsOfFile cs → All P (map loaded_class cs)
all_of_files P says cs h = All-map P loaded_class cs (λ i d lt. says (slice_index_or cs i d) (h i d lt))

pub keep_rules : (cs : List ClassOf) → All IsOfFile cs → KeepRules (map loaded_class cs)
keep_rules cs h = record {
  names = all_of_files HasClassName (λ c f. has_class_name f.bytes c f.is) cs h;
  fields = all_of_files KeepsFieldRules (λ c f. keeps_field_rules f.bytes c f.is) cs h;
  methods = all_of_files KeepsMethodRules (λ c f. keeps_method_rules f.bytes c f.is) cs h;
  code = all_of_files KeepsCodeRules (λ c f. keeps_code_rules f.bytes c f.are_bytes f.is) cs h;
}

-- OF A PROGRAM of these tables

module _ (files : List LoadedClass) (rows : List Ancestry) (pools : List Constants) (some : 0 < length files) (rules : KeepRules files) (linkable : IsLinkable files) (is : IsProgramOf files (program_with files rows pools)) where
  abbrev p : Linked
  p = program_with files rows pools

  statics : All HasStaticFields files
  statics = All-weaker KeepsFieldRules HasStaticFields (λ x h. h.interface) files rules.fields

  constants : All HasStaticConstants files
  constants = All-weaker KeepsFieldRules HasStaticConstants (λ x h. h.constants) files rules.fields

  types : All HasTypedConstants files
  types = All-weaker KeepsFieldRules HasTypedConstants (λ x h. h.types) files rules.fields

  plain : HaveStaticFields p
  plain = fields_static files p statics linkable is

  owner_within : (m : ℕ) → m < length p.methods → (method_at p m).class < length p.classes
  owner_within m lt =
      let total : length p.classes ≡ length (set_of files) + length (class_names_of files) = length_all files rows pools in
      let below : (method_at p m).class < length (set_of files) = methods_within files m no_method lt in
      omega arith

  kept : IsRunnable p
  kept = record {
    makes = makes_sound files p is;
    errors = λ error i v. errors_hold files p is error i v;
    slots = has_slots files p is plain;
    machine_slots = has_machine_slots files p statics linkable is;
    elements = elements_within files p is;
    interfaces = knows_interfaces files p linkable is;
    initializers = has_initializers files p constants types linkable is;
    order = in_order files p constants linkable is;
    methods = has_methods files p some rules.methods rules.code linkable is;
    arrays = has_arrays files p rules.names rules.code is;
    texts = has_text_classes files p is;
    owners = λ m lt. owner_within m lt;
    rules = λ m body lt e. have_rules files rules.code m no_method lt body e;
    run = λ m e. runs_on_object files rows pools m e;
  }

pub keeps_promises : (files : List LoadedClass) (p : Linked) → 0 < length files → KeepRules files → IsLinkable files → IsProgramOf files p → IsRunnable p
keeps_promises files p some rules linkable is =
    subst IsRunnable (sym is.tables) (kept files is.rows p.pools some rules linkable (subst (λ (q : Linked). IsProgramOf files q) is.tables is))
