use Rattle.std.proofs.Common.{◌≡◌, ◌∙◌, ◌≤◌, List, map, length, Some, ap, subst, arith, rules}
use Rattle.et_program.specs.declared.info.MethodInfo.{MethodInfo}
use Rattle.et_class.specs.Classes.{class_of}
use Rattle.et_program.specs.Loaded.{loaded_file}
use Rattle.et_program.specs.Files.{set_of}
use Rattle.et_program.specs.MembersOf.{methods_of}
use Rattle.et_program.specs.ProgramOf.{main_of}
use Rattle.et_link.proofs.LinkingLemmas.{own_along, below_set, late_along, none_along, late_inside, late_refused, linkable}
use Rattle.et_link.proofs.LoadedLemmas.{counted, some_loaded, declared_of}
use Rattle.et_link.proofs.linking.link.Goals as goal

pub check_methods-requires-clause-own : goal.check_methods-requires-clause-own
check_methods-requires-clause-own c = own_along (map loaded_file c.args.files.items) _ _ (c.as_slice-set.ensures.value ∙ c.in_ok-declared.ensures.set_is) (c.as_slice-methods.ensures.value ∙ c.in_ok-declared.ensures.methods_are)

pub check_methods-requires-clause-below : goal.check_methods-requires-clause-below
check_methods-requires-clause-below c = below_set (map loaded_file c.args.files.items) _ c.in_ok-declared.declared.hierarchy.rows.items _ c.in_ok-declared.ensures.rows_are (c.as_slice-set.ensures.value ∙ c.in_ok-declared.ensures.set_is) c.as_slice-rows.ensures.value

pub refusal-requires : goal.refusal-requires
refusal-requires c =
    let d = c.in_ok-declared.ensures in
    let set : c.as_slice-set.result.now ≡ set_of (map loaded_file c.args.files.items) = c.as_slice-set.ensures.value ∙ d.set_is in
    let n = counted c.len-count.result c.args.files.items (search rules) in
    let late = late_along (map loaded_file c.args.files.items) c.as_slice-set.result.now c.in_ok-declared.declared.hierarchy.rows.items c.as_slice-rows.result.now c.as_slice-methods.result.now c.len-count.result c.in-Err.late.0 c.in-Err.late.1 set c.as_slice-rows.ensures.value (c.as_slice-methods.ensures.value ∙ d.methods_are) n c.in-Err.ensures in
    let inside = late_inside (map loaded_file c.args.files.items) c.in_ok-declared.declared.hierarchy.rows.items d.ancestry d.faultless c.in-Err.late.0 c.in-Err.late.1 (some_loaded c.args.files.items c.requires.some) late in
    let size = ap length set in
    omega arith

pub returns-in-Err : goal.returns-in-Err
returns-in-Err c =
    let d = c.in_ok-declared.ensures in
    let set : c.as_slice-set.result.now ≡ set_of (map loaded_file c.args.files.items) = c.as_slice-set.ensures.value ∙ d.set_is in
    let n = counted c.len-count.result c.args.files.items (search rules) in
    let late = late_along (map loaded_file c.args.files.items) c.as_slice-set.result.now c.in_ok-declared.declared.hierarchy.rows.items c.as_slice-rows.result.now c.as_slice-methods.result.now c.len-count.result c.in-Err.late.0 c.in-Err.late.1 set c.as_slice-rows.ensures.value (c.as_slice-methods.ensures.value ∙ d.methods_are) n c.in-Err.ensures in
    late_refused (map loaded_file c.args.files.items) c.in_ok-declared.declared.hierarchy.rows.items d.ancestry d.faultless c.in-Err.late.0 c.in-Err.late.1 c.as_slice-set.result.now c.refusal.result (some_loaded c.args.files.items c.requires.some) late set c.refusal.ensures

pub build-requires : goal.build-requires
build-requires c =
    let read = c.args.files.items in
    let files = map loaded_file read in
    let d = c.in_ok-declared.ensures in
    let set : c.as_slice-set.result.now ≡ set_of files = c.as_slice-set.ensures.value ∙ d.set_is in
    let methods : c.as_slice-methods.result.now ≡ methods_of files = c.as_slice-methods.ensures.value ∙ d.methods_are in
    let n = counted c.len-count.result read (search rules) in
    let few : c.len-count.result ≤ 4096 = c.in-Ok.ensures.2 in
    let main : main_of (methods_of files) ≡ Some c.in-Ok.main = subst (λ (ms : List MethodInfo). main_of ms ≡ Some c.in-Ok.main) methods c.in-Ok.ensures.1 in
    let fits = linkable files c.in_ok-declared.declared.hierarchy.rows.items d.ancestry d.faultless c.in-Ok.main (none_along files c.as_slice-set.result.now c.in_ok-declared.declared.hierarchy.rows.items c.as_slice-rows.result.now c.as_slice-methods.result.now set c.as_slice-rows.ensures.value methods c.in-Ok.ensures.0) main (omega arith) in
    (map class_of read, declared_of read c.in_ok-declared.declared c.in-Ok.main c.requires.some c.requires.parts c.requires.of_files fits d main)

pub returns-in_ok-program-in-Ok : goal.returns-in_ok-program-in-Ok
returns-in_ok-program-in-Ok c =
    let d = c.in_ok-declared.ensures in
    let set : c.as_slice-set.result.now ≡ set_of (map loaded_file c.args.files.items) = c.as_slice-set.ensures.value ∙ d.set_is in
    let methods : c.as_slice-methods.result.now ≡ methods_of (map loaded_file c.args.files.items) = c.as_slice-methods.ensures.value ∙ d.methods_are in
    let n = counted c.len-count.result c.args.files.items (search rules) in
    let few : c.len-count.result ≤ 4096 = c.in-Ok.ensures.2 in
    let main : main_of (methods_of (map loaded_file c.args.files.items)) ≡ Some c.in-Ok.main = subst (λ (ms : List MethodInfo). main_of ms ≡ Some c.in-Ok.main) methods c.in-Ok.ensures.1 in (
      linkable (map loaded_file c.args.files.items) c.in_ok-declared.declared.hierarchy.rows.items d.ancestry d.faultless c.in-Ok.main (none_along (map loaded_file c.args.files.items) c.as_slice-set.result.now c.in_ok-declared.declared.hierarchy.rows.items c.as_slice-rows.result.now c.as_slice-methods.result.now set c.as_slice-rows.ensures.value methods c.in-Ok.ensures.0) main (omega arith),
      c.in_ok-program-in-Ok.ensures (map loaded_file c.args.files.items) d main,
    )
