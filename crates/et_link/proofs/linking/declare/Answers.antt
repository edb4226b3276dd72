use Rattle.std.proofs.Common.{◌≡◌, ◌∙◌, ap, subst, List, map, arith}
use Rattle.et_hierarchy.specs.Links.{LinkEntry, links}
use Rattle.et_hierarchy.specs.Faults.{IsFaultless}
use Rattle.et_hierarchy.specs.Ancestry.{IsAncestry}
use Rattle.et_hierarchy.proofs.LinkLemmas.{table_within}
use Rattle.et_program.specs.Loaded.{loaded_file}
use Rattle.et_program.specs.Files.{set_of, file_flags}
use Rattle.et_program.specs.MembersOf.{fields_of}
use Rattle.et_program.specs.ArrayTypes.{arrays_met}
use Rattle.et_link.proofs.LinkingLemmas.{set_refused, acyclic_along, rows_within}
use Rattle.et_link.proofs.linking.declare.Goals as goal

pub returns-in-Err : goal.returns-in-Err
returns-in-Err c = set_refused (map loaded_file c.args.files.items) c.as_slice-classes.result.now c.in-Err.fault (c.as_slice-classes.ensures.value ∙ (c.in_ok-set.ensures ∙ ap (λ l. set_of (map loaded_file l)) c.as_slice-read.ensures.value)) c.in-Err.ensures

pub ancestries-requires-clause-within : goal.ancestries-requires-clause-within
ancestries-requires-clause-within c = table_within c.as_slice-classes.result.now c.as_slice-links.result.now (c.as_slice-links.ensures.value ∙ c.in-Ok.ensures.1)

pub ancestries-requires-clause-acyclic : goal.ancestries-requires-clause-acyclic
ancestries-requires-clause-acyclic c = acyclic_along c.as_slice-classes.result.now c.as_slice-links.result.now (c.as_slice-links.ensures.value ∙ c.in-Ok.ensures.1) c.in-Ok.ensures.0

pub returns : goal.returns
returns c =
    let read = c.as_slice-read.ensures.value in
    let set : c.in_ok-set.set.items ≡ set_of (map loaded_file c.args.files.items) = c.in_ok-set.ensures ∙ ap (λ l. set_of (map loaded_file l)) read in
    let classes : c.as_slice-classes.result.now ≡ set_of (map loaded_file c.args.files.items) = c.as_slice-classes.ensures.value ∙ set in
    let table : c.in-Ok.table.items ≡ links (set_of (map loaded_file c.args.files.items)) = c.in-Ok.ensures.1 ∙ ap links classes in
    let whole : c.as_slice-links.result.now ≡ links (set_of (map loaded_file c.args.files.items)) = c.as_slice-links.ensures.value ∙ table in
    record {
      set_is = set;
      table_is = table;
      ancestry = subst (λ (t : List LinkEntry). IsAncestry t c.in_ok-rows.rows.items) whole c.in_ok-rows.ensures.rows;
      rows_are = rows_within (map loaded_file c.args.files.items) c.as_slice-links.result.now c.in_ok-rows.rows.items whole c.in_ok-rows.ensures.below;
      flags_are = c.in_ok-flags.ensures ∙ ap (λ l. file_flags (map loaded_file l)) read;
      methods_are = c.in_ok-methods.ensures.methods;
      fields_are = c.in_ok-fields.ensures ∙ ap (λ l. fields_of (map loaded_file l)) read;
      pools_are = c.in_ok-methods.ensures.pools;
      met_are = c.in_ok-met.ensures ∙ ap (λ l. arrays_met (map loaded_file l)) read;
      few_classes = omega (arith, c.in_ok-check_count.ensures);
      few_methods = omega (arith, c.in_ok-check_count-3.ensures);
      few_fields = omega (arith, c.in_ok-check_count-2.ensures);
      faultless = subst IsFaultless classes c.in-Ok.ensures.0;
    }
