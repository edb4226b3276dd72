use Rattle.std.proofs.Common.{ℕ, ◌+◌, List, [], ◌∷◌, map, length, length-append, drop, string_bytes, refl, sym, ap, ◌∙◌, subst, arith, rules}
use Rattle.std.proofs.lemmas.List.{map-append}
use Rattle.std.proofs.lemmas.Result.{err_from_is_err_and}
use Rattle.std.specs.Prelude.{All}
use Rattle.std.proofs.lemmas.List.Elements.{All-same, All-push}
use Rattle.et_class.specs.Layout.{ClassOf}
use Rattle.et_class.specs.Classes.{class_of, HasItsParts}
use Rattle.et_link.specs.Declaring.{HasItsFile}
use Rattle.et_files.specs.Loaded.{most_of_class}
use Rattle.et_files.specs.Reads.{HoldsClass}
use Rattle.et_files.specs.Refusals.{status_of}
use Rattle.et_files.specs.Told.{cause_of, is_read_cause, named_path}
use Rattle.et_files.specs.declared.status.Status.TheVariants as status
use Rattle.et_files.proofs.FaultLemmas.{counted_from}
use Rattle.et_files.proofs.ReadLemmas.{ReadSoFar, next_taken, next_read, not_before, read_up_to, read_whole, read_last}
use Rattle.et_files.proofs.Found.{AreBehind, behind_refused, next_behind, next_path}
use Rattle.et_files.proofs.classes.load_classes.Goals as goal

pub paths-preserved : goal.paths-preserved
paths-preserved g c =
    let old = c.paths.classes.items in
    let class = c.in-Ok.class in
    let pushed = c.in_ok-push-in-Ok.ensures.ok in
    let more = next_taken c.args.paths.now c.paths.path-index c.path-item.result _ c.as_str.result.now (omega arith) c.path-item.is c.as_str.ensures.value in
    let asks = c.in-Ok.ensures.read.asked in
    let behind = not_before _ _ _ _ c.paths.invariant.asked in
    record {
      tells = λ held told classes are.
          let here = next_path held c.args.paths.now c.paths.path-index c.path-item.result _ c.as_str.result.now (omega arith) c.path-item.is c.as_str.ensures.value in
          let b = subst (λ files. AreBehind (map class_of old) files classes) here (c.paths.invariant.tells held (c.in-Ok.ensures.kept _ held told) classes are) in
          let next = next_behind (map class_of old) (held c.as_str.result.now) _ classes (class_of class) b (λ found is. c.in-Ok.ensures.tells _ held behind told found is) in
          subst (λ (some : List ClassOf). AreBehind some (map held (map string_bytes (drop (c.paths.path-index + 1) c.args.paths.now))) classes) (sym (ap (map class_of) pushed ∙ map-append class_of old (class ∷ []))) next;
      never_falls = omega (arith, c.in-Ok.ensures.read.never_falls, c.paths.invariant.never_falls);
      faults = c.in-Ok.ensures.read.faults ∙ c.paths.invariant.faults;
      asked = subst (λ (ps : List (List ℕ)). ReadSoFar (g.F.Files.asked c.args.files.now) (g.F.Files.asked c.load_class.new.files) most_of_class ps) (sym more) (next_read _ _ _ _ _ _ asks.0 c.paths.invariant.asked asks.1 asks.2);
      good = λ held told. subst (All (HoldsClass held)) (sym more) (All-push (HoldsClass held) _ _ (c.paths.invariant.good held (c.in-Ok.ensures.kept _ held told)) (c.in-Ok.ensures.good _ held behind told));
      count = ap length pushed ∙ (length-append old (class ∷ []) ∙ ap (λ (n : ℕ). n + 1) c.paths.invariant.count);
      parts = All-same HasItsParts _ _ pushed (All-push HasItsParts old class c.paths.invariant.parts c.in-Ok.ensures.parts);
      of_files = All-same HasItsFile _ _ pushed (All-push HasItsFile old class c.paths.invariant.of_files c.in-Ok.ensures.of_file);
    }

pub returns-in-Err-clause-tells : goal.returns-in-Err-clause-tells
returns-in-Err-clause-tells g c held told classes are =
    let here = next_path held c.args.paths.now c.paths.path-index c.path-item.result _ c.as_str.result.now (omega arith) c.path-item.is c.as_str.ensures.value in
    let b = subst (λ files. AreBehind (map class_of c.paths.classes.items) files classes) here (c.paths.invariant.tells held (c.in-Err.ensures.kept _ held told) classes are) in
    behind_refused _ _ (held c.as_str.result.now) _ classes (cause_of c.in-Err.refusal) b (λ class is. search (rules, c.in-Err.ensures.tells _ held (not_before _ _ _ _ c.paths.invariant.asked) told class is))

pub returns-in-Err-clause-reads : goal.returns-in-Err-clause-reads
returns-in-Err-clause-reads g c =
    let more = next_taken c.args.paths.now c.paths.path-index c.path-item.result _ c.as_str.result.now (omega arith) c.path-item.is c.as_str.ensures.value in
    let asks = c.in-Err.ensures.read.asked in
    record {
      faults = counted_from (is_read_cause (cause_of c.in-Err.refusal)) _ _ _ c.in-Err.ensures.read.faults c.paths.invariant.faults;
      in_order = read_up_to _ _ _ _ _ c.args.paths.now c.paths.path-index c.as_str.result.now asks.0 (status_of c.in-Err.refusal) (omega arith) c.in-Err.ensures.early more c.paths.invariant.asked asks.1
          (λ held told. c.paths.invariant.good held (c.in-Err.ensures.kept _ held told));
      file = c.in-Err.ensures.read.file;
      never_falls = omega (arith, c.in-Err.ensures.read.never_falls, c.paths.invariant.never_falls);
      names = read_last _ _ _ _ asks.0 (named_path c.in-Err.refusal) asks.1 c.in-Err.ensures.read.names;
    }

pub returns-in_err-push-in-Ok-clause-reads : goal.returns-in_err-push-in-Ok-clause-reads
returns-in_err-push-in-Ok-clause-reads g c =
    let more = next_taken c.args.paths.now c.paths.path-index c.path-item.result _ c.as_str.result.now (omega arith) c.path-item.is c.as_str.ensures.value in
    let asks = c.in-Ok.ensures.read.asked in
    let q = err_from_is_err_and c.from_residual.result c.from_residual.ensures.1 in
    rw (q.1, q.2, c.in_err-push-in-Ok.ensures.err) (record {
      faults = c.in-Ok.ensures.read.faults ∙ c.paths.invariant.faults;
      in_order = read_up_to _ _ _ _ _ c.args.paths.now c.paths.path-index c.as_str.result.now asks.0 status.NoMemory (omega arith) refl more c.paths.invariant.asked asks.1
          (λ held told. c.paths.invariant.good held (c.in-Ok.ensures.kept _ held told));
      file = tt;
      never_falls = omega (arith, c.in-Ok.ensures.read.never_falls, c.paths.invariant.never_falls);
      names = tt;
    })

pub returns-clause-reads : goal.returns-clause-reads
returns-clause-reads g c = record {
  faults = c.paths.invariant.faults;
  in_order = read_whole _ _ _ _ c.args.paths.now c.paths.path-index status.Done (omega arith) c.paths.invariant.asked c.paths.invariant.good;
  file = tt;
  never_falls = c.paths.invariant.never_falls;
  names = tt;
}
