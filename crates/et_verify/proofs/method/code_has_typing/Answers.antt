use Rattle.std.proofs.Common.{◌≡◌, ℕ, ◌<◌, ◌||◌, Bool, List, [], length, map, Option, sym, ap, subst, ◌∙◌, arith, rules}
use Rattle.std.specs.Prelude.{not, filter}
use Rattle.std.specs.Option.{option_copied}
use Rattle.et_class.specs.Entries.{Item}
use Rattle.et_program.specs.Entries.{method_at}
use Rattle.et_program.specs.declared.info.MethodInfo.{MethodInfo}
use Rattle.et_event.specs.Sites.{pool_of_class}
use Rattle.et_event.specs.Pools.{pool_slots}
use Rattle.et_event.proofs.Placing.{pool_found}
use Rattle.et_verify.specs.Leads.{may_catch}
use Rattle.et_class.specs.Operands.{operand_kind}
use Rattle.et_class.specs.PoolOperands.Operand.{Operand}
use Rattle.et_code.specs.declared.body.TableRow.{TableRow}
use Rattle.et_code.specs.Bodies.{Body, body_of}
use Rattle.et_code.specs.Rules.{flag}
use Rattle.et_code.specs.Starts.{is_start}
use Rattle.et_program.specs.Entries.{is_static}
use Rattle.et_event.specs.Programs.{is_initializing}
use Rattle.et_pool.specs.Operands.{Shape}
use Rattle.et_flow.specs.Types.{TypesOf}
use Rattle.et_flow.specs.Flows.{IsLeadWithin, IsStraight}
use Rattle.et_flow.specs.Stores.{with_free}
use Rattle.et_verify.specs.Typings.{argument_entries, first_types, leads_in}
use Rattle.et_verify.specs.Targets.{HasTargets}
use Rattle.et_verify.proofs.Straight.{is_straight}
use Rattle.et_verify.proofs.Within.{leads_within}
use Rattle.et_verify.proofs.Leading.{leads_monotone}
use Rattle.et_verify.proofs.Decided.{HasType, has_type, first_are, typing_found, no_typing, no_locals}
use Rattle.et_verify.proofs.method.code_has_typing.Goals.{In_ok-mark_method}
use Rattle.et_verify.proofs.method.code_has_typing.Goals as goal

pub returns-then-not-branch-clause-no : goal.returns-then-not-branch-clause-no
returns-then-not-branch-clause-no c = λ e has.
    let p = c.args.program.now in
    let m : ℕ = c.args.method in
    let body : Body = body_of c.args.code.now in
    let h : HasType p m c.args.shape.now = has_type p m c.args.shape.now c.requires.shape in
    let static : c.has_no_receiver.result ≡ (is_static p m || is_initializing p m) = c.has_no_receiver.ensures p m c.method-info.ensures.value in
    let kinds : c.kinds.result.now ≡ map operand_kind h.type.parameters = c.kinds.ensures ∙ ap (λ (x : Shape). x.kinds) h.is in
    let more : body.max_locals < length (argument_entries c.has_no_receiver.result c.kinds.result.now) = c.in_ok-begin_types.ensures.none c.if-not-branch.true in
    no_locals p m body h.type h.typed c.requires.code
    (subst (λ (ks : List (Option Operand)). body.max_locals < length (argument_entries (is_static p m || is_initializing p m) ks)) kinds
    (subst (λ (b : Bool). body.max_locals < length (argument_entries b c.kinds.result.now)) static more)) has

-- the targets of the code were marked
marked : (c : In_ok-mark_method) → HasTargets c.mark_method.new.starts.items (body_of c.args.code.now).code (body_of c.args.code.now).table c.mark_method.new.targets.items
marked c =
    subst (λ (bytes : List ℕ). HasTargets c.mark_method.new.starts.items bytes (body_of c.args.code.now).table c.mark_method.new.targets.items) c.deref.ensures.value
    (subst (λ (rows : List TableRow). HasTargets c.mark_method.new.starts.items c.deref.result.now rows c.mark_method.new.targets.items) c.deref-2.ensures.value c.in_ok-mark_method.ensures.targets)

pub find_typing-requires-clause-code : goal.find_typing-requires-clause-code
find_typing-requires-clause-code c =
    let body : Body = body_of c.args.code.now in
    let starts : List Bool = c.mark_method.new.starts.items in
    let targets : List Bool = c.mark_method.new.targets.items in
    let long : length body.code ≡ c.len.result = omega (arith, c.len.ensures, c.args.code.now.code.ok.0) in
    let flags : (k : ℕ) → flag starts k ≡ is_start body.code k = (λ (k : ℕ). c.in_ok-mark_method.ensures.starts k ∙ ap (λ (bytes : List ℕ). is_start bytes k) c.deref.ensures.value) in
    record {
      within = subst (λ (n : ℕ). (pc : ℕ) (ts : TypesOf) → IsLeadWithin n (length ts.locals) (leads_in c.args.program.now c.args.method body pc ts)) long (leads_within c.args.program.now c.args.method body);
      monotone = leads_monotone c.args.program.now c.args.method body;
      straight =
          subst (λ (fs : List Bool). IsStraight (leads_in c.args.program.now c.args.method body) (λ q. not (flag fs q))) (sym c.deref-6.ensures.value)
          (is_straight c.args.program.now c.args.method body starts targets flags (marked (goal.at.find_typing-requires-clause-code c).In_ok-mark_method) c.requires.some);
    }

pub invariant_of-flow : goal.invariant_of-flow
invariant_of-flow c =
    let p = c.args.program.now in
    let m : ℕ = c.args.method in
    let body : Body = body_of c.args.code.now in
    let starts : List Bool = c.mark_method.new.starts.items in
    let targets : List Bool = c.mark_method.new.targets.items in
    let h : HasType p m c.args.shape.now = has_type p m c.args.shape.now c.requires.shape in
    let info : c.method-info.result.now ≡ method_at p m = c.method-info.ensures.value in
    let class : c.method-info.result.now.class ≡ (method_at p m).class = ap (λ (i : MethodInfo). i.class) info in
    let pool : pool_slots (option_copied c.pool.result) ≡ pool_of_class p (method_at p m).class = pool_found p c.method-info.result.now.class (method_at p m).class (option_copied c.pool.result) c.pool.ensures class in
    record {
      info_is = info;
      class = search rules;
      code = c.requires.code;
      returns = search rules;
      rows = c.deref-4.ensures.value ∙ (c.in_ok-handling.ensures ∙ (ap (filter (may_catch p (pool_slots (option_copied c.pool.result)))) c.deref-3.ensures.value ∙ ap (λ (items : List (Option Item)). filter (may_catch p items) body.table) pool));
      flags = λ k. ap (λ (fs : List Bool). flag fs k) c.deref-5.ensures.value ∙ (c.in_ok-mark_method.ensures.starts k ∙ ap (λ (bytes : List ℕ). is_start bytes k) c.deref.ensures.value);
      few = c.requires.few;
      marked = subst (λ (fs : List Bool). HasTargets c.deref-5.result.now body.code body.table fs) (sym c.deref-6.ensures.value) (subst (λ (ss : List Bool). HasTargets ss body.code body.table targets) (sym c.deref-5.ensures.value) (marked (goal.at.invariant_of-flow c).In_ok-mark_method));
    }

-- the types with which the search begins
entry_is : (c : goal.After-drop-handling-2) → (h : HasType c.args.program.now c.args.method c.args.shape.now) → c.begin_types.new.types ≡ first_types c.args.program.now c.args.method (body_of c.args.code.now) h.type
entry_is c h =
    let p = c.args.program.now in
    let m : ℕ = c.args.method in
    let body : Body = body_of c.args.code.now in
    let static : c.has_no_receiver.result ≡ (is_static p m || is_initializing p m) = c.has_no_receiver.ensures p m c.method-info.ensures.value in
    let are : (c.begin_types.new.types.operands ≡ []) × (c.begin_types.new.types.locals ≡ with_free body.max_locals (argument_entries c.has_no_receiver.result c.kinds.result.now)) =
    c.in_ok-begin_types.ensures.some c.if-not-branch.false in
    first_are p m body c.args.shape.now h c.begin_types.new.types c.has_no_receiver.result static are.0 (are.1 ∙ ap (λ (ks : List (Option Operand)). with_free body.max_locals (argument_entries c.has_no_receiver.result ks)) c.kinds.ensures)

pub returns-clause-yes : goal.returns-clause-yes
returns-clause-yes c = λ e.
    let p = c.args.program.now in
    let m : ℕ = c.args.method in
    let body : Body = body_of c.args.code.now in
    let h : HasType p m c.args.shape.now = has_type p m c.args.shape.now c.requires.shape in
    let long : length c.begin_types.new.types.locals ≡ body.max_locals = c.in_ok-begin_types.ensures.fits c.if-not-branch.false in
    typing_found p m body h.type h.typed c.requires.code c.begin_types.new.types (entry_is c h) c.requires.some long (c.in_ok-found.ensures.found e)

pub returns-clause-no : goal.returns-clause-no
returns-clause-no c = λ e.
    let p = c.args.program.now in
    let m : ℕ = c.args.method in
    let body : Body = body_of c.args.code.now in
    let h : HasType p m c.args.shape.now = has_type p m c.args.shape.now c.requires.shape in
    no_typing p m body h.type h.typed c.requires.code c.begin_types.new.types (entry_is c h) (c.in_ok-found.ensures.none e)
