-- The first state: the step to it, and its records.
use Rattle.std.proofs.Common.{◌≡◌, ℕ, zero, suc, ◌+◌, ◌<◌, ◌≤◌, List, [], ◌∷◌, ◌++◌, length, refl, sym, ap, subst, arith, Contains, inl, inr}
use Rattle.std.specs.Prelude.{All, codes, slice_index}
use Rattle.std.specs.Str.{bytes_eq}
use Rattle.std.proofs.lemmas.List.Elements.{All-nil, All-cons, All-get_or}
use Rattle.et_heap.proofs.References.{none_unset}
use Rattle.et_history.proofs.programs.Starting.{or_first}
use Rattle.et_base.proofs.Lists.{Contains-here, Contains-none, Contains-cons}
use Rattle.et_graph.specs.Graph.{Graph, nothing_made}
use Rattle.et_graph.specs.Steps.{Step, IsLegalStep}
use Rattle.et_program.specs.Entries.{Linked, ClassEntry, no_method}
use Rattle.et_program.specs.Members.{class_named}
use Rattle.et_program.specs.Tables.{IsTabled}
use Rattle.et_program.specs.declared.info.MethodInfo.{MethodInfo}
use Rattle.et_program.proofs.PlaceLemmas.{position_within}
use Rattle.et_state.specs.Roots.{graph_of}
use Rattle.et_state.specs.State.{Kept}
use Rattle.et_state.specs.declared.records.Record.{Record}
use Rattle.et_state.specs.declared.records.Record.TheVariants.{Alloc}
use Rattle.et_state.specs.Naming.{IsNamed}
use Rattle.et_state.specs.Start.{argument_class, start}
use Rattle.et_event.specs.Start.{start_records}
use Rattle.et_loop.specs.Kept.{IsStepTo}
use Rattle.et_history.specs.steps.Telling.{names_of_program}

graph_is : (p : Linked) → graph_of (start p) ≡ record { made = 1; roots = 1 ∷ []; pairs = []; gone = [] }
graph_is p = ap (λ (os : List ℕ). record { made = 1; roots = 1 ∷ (os ++ []); pairs = []; gone = [] }) (none_unset (length p.statics))

is_one : (o : ℕ) → Contains (1 ∷ []) o → 1 ≡ o
is_one o c = elim (Contains-cons 1 [] o c) [ inl e ↦ e | inr d ↦ absurd (Contains-none o d) ]

next_one : (k : ℕ) → k < 1 → slice_index (1 ∷ []) k ≡ 0 + 1 + k
next_one zero lt = refl
next_one (suc k) lt = absurd (omega arith)

abbrev step_to : Graph → Step
step_to h = record { after = h; fresh = 1 ∷ []; lost = [] }

first_legal : IsLegalStep nothing_made (step_to (record { made = 1; roots = 1 ∷ []; pairs = []; gone = [] }))
first_legal = record {
  draft = record {
    made = refl;
    fresh_next = next_one;
    roots_lost = λ r c out. absurd (Contains-none r c);
    pairs_lost = λ u x c. absurd (Contains-none (u, x) c.0);
    pairs_from_reached = λ u x c. absurd (Contains-none (u, x) c.0);
    pairs_known = λ u x c. absurd (Contains-none (u, x) c.0);
    lost_known = λ o c. absurd (Contains-none o c);
    roots_held = λ r c. (let e : 1 ≡ r = is_one r c in let some : 0 < r = omega (arith, e) in let few : r ≤ 1 = omega (arith, e) in (some, few), λ d. Contains-none r d);
    gone = refl;
  };
  fresh_reached = λ o c. (1, Contains-here 1 [], ([], is_one o c));
}

-- the first state is one legal step from where nothing was made
pub first_step : (p : Linked) → IsStepTo nothing_made (graph_of (start p)) []
first_step p = subst (λ (g : Graph). IsStepTo nothing_made g []) (sym (graph_is p)) (1 ∷ [], first_legal)

-- THE RECORDS

pub records_named : (p : Linked) → IsTabled p → All (IsNamed (names_of_program p)) (start_records p)
records_named p tabled =
    let main = All-get_or (λ (m : MethodInfo). m.class < length p.classes) p.methods p.main no_method tabled.main tabled.methods in
    let some : 0 < length p.classes = omega (arith, main) in
    let lt : argument_class p < length p.classes = or_first (class_named p (codes "[Ljava/lang/String;")) (length p.classes) some (position_within (λ (c : ClassEntry). bytes_eq (codes "[Ljava/lang/String;") c.info.name) p.classes) in
    let C = λ (c : ℕ). c < (names_of_program p).class_count in
    All-cons (IsNamed (names_of_program p)) (Alloc 0 0 1 (argument_class p) 24 0) [] (record { classes = All-cons C (argument_class p) [] lt (All-nil C); methods = All-nil (λ m. m < (names_of_program p).method_count) }) (All-nil (IsNamed (names_of_program p)))

-- what is told of a run is told of one from the first state
pub told_from : (P : Linked → Kept → List Record → Type 0) {p q : Linked} {s s' : Kept} {made made' : List Record} → p ≡ q → s ≡ s' → made ≡ made' → P p s made → P q s' made'
told_from P {p = p} {q = q} {s = s} {s' = s'} {made = made} {made' = made'} program state records h =
    subst (λ (x : Linked). P x s' made') program (subst (λ (x : Kept). P p x made') state (subst (λ (x : List Record). P p s x) records h))
