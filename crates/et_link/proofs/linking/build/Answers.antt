use Rattle.std.proofs.Common.{◌≡◌, ◌∙◌, List, length, map, refl, ap, sym, subst, arith}
use Rattle.et_hierarchy.specs.Links.{LinkEntry}
use Rattle.et_hierarchy.specs.Ancestry.{IsAncestry}
use Rattle.et_pool.specs.Entries.{Constants}
use Rattle.et_program.specs.Entries.{Linked}
use Rattle.et_link.specs.declared.linking.reading.Declared.{Declared}
use Rattle.et_link.specs.declared.linking.classes.Known.{Known}
use Rattle.et_program.specs.Files.{set_of}
use Rattle.et_program.specs.Loaded.{loaded_class}
use Rattle.et_program.specs.MembersOf.{HasPools}
use Rattle.et_program.specs.ProgramOf.{program_with, class_names_of}
use Rattle.et_link.proofs.LinkingLemmas.{below_set, acyclic_along, own_along, fields_along, tabled_program}
use Rattle.et_link.proofs.BuildLemmas.{built, built_names}
use Rattle.et_link.proofs.linking.build.Goals as goal

pub know-requires-clause-below : goal.know-requires-clause-below
know-requires-clause-below c = below_set (map loaded_class c.requires.0) c.as_slice-set.result.now c.args.declared.hierarchy.rows.items c.args.declared.hierarchy.rows.items c.requires.1.declared.rows_are (c.as_slice-set.ensures.value ∙ c.requires.1.declared.set_is) refl

pub know-requires-clause-few : goal.know-requires-clause-few
know-requires-clause-few c = omega (arith, ap length c.as_slice-set.ensures.value, c.requires.1.declared.few_classes)

pub know-requires-clause-acyclic : goal.know-requires-clause-acyclic
know-requires-clause-acyclic c = acyclic_along (set_of (map loaded_class c.requires.0)) c.args.declared.hierarchy.table.items c.requires.1.declared.table_is c.requires.1.declared.faultless

pub know-requires-clause-ancestry : goal.know-requires-clause-ancestry
know-requires-clause-ancestry c = subst (λ (t : List LinkEntry). IsAncestry t c.args.declared.hierarchy.rows.items) (sym c.requires.1.declared.table_is) c.requires.1.declared.ancestry

pub know-requires-clause-methods : goal.know-requires-clause-methods
know-requires-clause-methods c = own_along (map loaded_class c.requires.0) _ _ (c.as_slice-set.ensures.value ∙ c.requires.1.declared.set_is) (c.as_slice-methods.ensures.value ∙ c.requires.1.declared.methods_are)

pub know-requires-clause-fields : goal.know-requires-clause-fields
know-requires-clause-fields c = fields_along (map loaded_class c.requires.0) _ _ (c.as_slice-set.ensures.value ∙ c.requires.1.declared.set_is) (c.as_slice-fields.ensures.value ∙ c.requires.1.declared.fields_are)

pub assemble-requires-clause-fields : goal.assemble-requires-clause-fields
assemble-requires-clause-fields c = fields_along (map loaded_class c.requires.0) _ _ (c.as_slice-set.ensures.value ∙ c.requires.1.declared.set_is) c.requires.1.declared.fields_are

pub assemble-requires-clause-tabled : goal.assemble-requires-clause-tabled
assemble-requires-clause-tabled c =
    let k = c.in_ok-known.ensures in
    let d : Declared = c.args.declared in
    let x : Known = c.in_ok-known.known in
    let e = built (map loaded_class c.requires.0) d x c.args.main c.as_slice-set.result.now c.as_slice-methods.result.now c.as_slice-fields.result.now c.as_slice.result.now c.requires.1.declared c.requires.1.main_is c.as_slice-set.ensures.value c.as_slice-methods.ensures.value c.as_slice-fields.ensures.value c.as_slice.ensures.value
    k.table k.rows k.flags k.own k.above k.needs k.clinit k.constants k.place k.names k.index in
    let names : x.arrays.names.items ≡ class_names_of (map loaded_class c.requires.0) = built_names (map loaded_class c.requires.0) d x c.as_slice-set.result.now c.as_slice.result.now c.requires.1.declared c.as_slice-set.ensures.value c.as_slice.ensures.value k.place k.names in
    let set : c.as_slice-set.result.now ≡ set_of (map loaded_class c.requires.0) = c.as_slice-set.ensures.value ∙ c.requires.1.declared.set_is in
    let a = ap length names in
    let b = ap length set in
    let m = ap length c.requires.1.declared.methods_are in
    let f = ap length c.requires.1.declared.fields_are in
    let few_m = c.requires.1.declared.few_methods in
    let few_f = c.requires.1.declared.few_fields in
    tabled_program (map loaded_class c.requires.0) d.hierarchy.rows.items _ c.args.main c.requires.1.declared.rows_are c.requires.1.main_is e (omega (arith, c.in_ok-check_classes.ensures)) (omega arith) (omega arith)

pub assemble-requires-clause-linked : goal.assemble-requires-clause-linked
assemble-requires-clause-linked c =
    let k = c.in_ok-known.ensures in
    let d : Declared = c.args.declared in
    let x : Known = c.in_ok-known.known in
    let files = map loaded_class c.requires.0 in
    let e = built files d x c.args.main c.as_slice-set.result.now c.as_slice-methods.result.now c.as_slice-fields.result.now c.as_slice.result.now c.requires.1.declared c.requires.1.main_is c.as_slice-set.ensures.value c.as_slice-methods.ensures.value c.as_slice-fields.ensures.value c.as_slice.ensures.value
    k.table k.rows k.flags k.own k.above k.needs k.clinit k.constants k.place k.names k.index in
    record {
      classes = c.requires.0;
      some = c.requires.1.some;
      of_files = c.requires.1.of_files;
      linkable = c.requires.1.linkable;
      program = record {
        rows = d.hierarchy.rows.items;
        ancestry = c.requires.1.declared.ancestry;
        pools = c.requires.1.declared.pools_are;
        tables = e;
      };
    }

pub returns : goal.returns
returns c = λ files declared main.
    let k = c.in_ok-known.ensures in
    let d : Declared = c.args.declared in
    let x : Known = c.in_ok-known.known in
    let e = built files d x c.args.main c.as_slice-set.result.now c.as_slice-methods.result.now c.as_slice-fields.result.now c.as_slice.result.now declared main c.as_slice-set.ensures.value c.as_slice-methods.ensures.value c.as_slice-fields.ensures.value c.as_slice.ensures.value
    k.table k.rows k.flags k.own k.above k.needs k.clinit k.constants k.place k.names k.index in
    let p : Linked = c.in_ok-program.program in
    let pools : p.pools ≡ d.parts.pools.items = ap (λ (l : Linked). l.pools) c.in_ok-program.ensures in
    record {
      rows = d.hierarchy.rows.items;
      ancestry = declared.ancestry;
      pools = subst (λ (ps : List Constants). HasPools files ps) (sym pools) declared.pools_are;
      tables = c.in_ok-program.ensures ∙ (e ∙ ap (λ (ps : List Constants). program_with files d.hierarchy.rows.items ps) (sym pools));
    }
