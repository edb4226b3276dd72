-- What the search decides of a method.
use Rattle.std.proofs.Common.{◌≡◌, ℕ, ◌-◌, ◌<◌, ◌||◌, Bool, true, List, [], length, map, Option, Some, None, refl, sym, ◌∙◌, ap, subst, arith, rules}
use Rattle.std.specs.Prelude.{option_map, replicate}
use Rattle.std.specs.Option.{option_map_or}
use Rattle.std.proofs.lemmas.List.{length-append}
use Rattle.std.proofs.lemmas.List.Elements.{All-nil}
use Rattle.std.proofs.lemmas.Option.{same_Some, none-some}
use Rattle.et_class.specs.Descriptors.{MethodType, method_type}
use Rattle.et_class.specs.Operands.{operand_kind}
use Rattle.et_class.specs.PoolOperands.Operand.{Operand}
use Rattle.et_pool.specs.Operands.{Shape, shape_of, shape_in, return_of}
use Rattle.et_code.specs.Bodies.{Body}
use Rattle.et_code.specs.Starts.{Begins, is_start}
use Rattle.et_code.proofs.Starting.{starts_are_all}
use Rattle.et_program.specs.Entries.{Linked, method_at, is_static}
use Rattle.et_event.specs.Programs.{is_initializing}
use Rattle.et_event.specs.Sound.{returned_of}
use Rattle.et_flow.specs.declared.types.EntryType.{EntryType}
use Rattle.et_flow.specs.declared.types.EntryType.TheVariants as entry
use Rattle.et_flow.specs.Types.{TypesOf}
use Rattle.et_flow.specs.Flows.{AreAbove, IsTyping as IsFlowTyping, HasTyping as HasFlowTyping}
use Rattle.et_flow.specs.Stores.{with_free}
use Rattle.et_verify.specs.Typings.{argument_entries, first_types, FitFrame, IsTyping, HasTyping, leads_in}
use Rattle.et_verify.proofs.Exact.{flow_typing}
use Rattle.et_verify.proofs.Restricted.{restricted, method_typing}

-- THE DESCRIPTOR, by what a call reads off it

pub record HasType (p : Linked) (m : ℕ) (shape : Shape) : Type 0 where
  pub type : MethodType
  pub typed : method_type (method_at p m).descriptor ≡ Some type
  pub is : shape ≡ shape_of type

pub has_type : (p : Linked) (m : ℕ) (shape : Shape) → Some shape ≡ shape_in (method_at p m).descriptor → HasType p m shape
has_type p m shape e = by (method_type (method_at p m).descriptor) refl e
  where
    by : (o : Option MethodType) → method_type (method_at p m).descriptor ≡ o → Some shape ≡ option_map shape_of o → HasType p m shape
    by None t e = cc
    by (Some type) t e = let s : shape ≡ shape_of type = cc in record { type = type; typed = t; is = s }

pub no_type : (p : Linked) (m : ℕ) (body : Body) → (method_at p m).code ≡ Some body → None ≡ shape_in (method_at p m).descriptor → HasTyping p m → ⊥
no_type p m body code e h =
    let t : IsTyping p m body h.typing = h.is body code in
    none-some (shape_of t.type) (e ∙ ap (option_map shape_of) t.typed)

-- what is returned
pub returns_shape : (p : Linked) (m : ℕ) (shape : Shape) → Some shape ≡ shape_in (method_at p m).descriptor → return_of (returned_of (method_at p m)) ≡ shape.returned
returns_shape p m shape e =
    let t : HasType p m shape = has_type p m shape e in
    ap (λ (o : Option MethodType). return_of (option_map_or (λ (type : MethodType). type.returned) o [])) t.typed ∙ sym (ap (λ (s : Shape). s.returned) t.is)

-- the first types
abbrev entered : Linked → ℕ → Bool
entered p m = is_static p m || is_initializing p m

pub first_are : (p : Linked) (m : ℕ) (body : Body) (shape : Shape) (h : HasType p m shape) (ts : TypesOf) (static : Bool) → static ≡ entered p m → ts.operands ≡ [] → ts.locals ≡ with_free body.max_locals (argument_entries static shape.kinds) → ts ≡ first_types p m body h.type
first_are p m body shape h ts static s o l =
    let kinds : shape.kinds ≡ map operand_kind h.type.parameters = ap (λ (x : Shape). x.kinds) h.is in
    let locals : ts.locals ≡ with_free body.max_locals (argument_entries (entered p m) (map operand_kind h.type.parameters)) = l ∙ (ap (λ (b : Bool). with_free body.max_locals (argument_entries b shape.kinds)) s ∙ ap (λ (ks : List (Option Operand)). with_free body.max_locals (argument_entries (entered p m) ks)) kinds) in
    ap (λ (ops : List EntryType). let t : TypesOf = record { operands = ops; locals = ts.locals } in t) o ∙ ap (λ (ls : List EntryType). let t : TypesOf = record { operands = []; locals = ls } in t) locals

-- a method without code has one
pub no_code : (p : Linked) (m : ℕ) → (method_at p m).code ≡ None → HasTyping p m
no_code p m none = record { typing = λ pc. None; is = λ body code. absurd (none-some body (sym none ∙ code)) }

-- A TYPING, or none

module _ (p : Linked) (m : ℕ) (body : Body) (type : MethodType) (typed : method_type (method_at p m).descriptor ≡ Some type) (code : (method_at p m).code ≡ Some body) where
  begins : 0 < length body.code → is_start body.code 0 ≡ true
  begins lt = search (rules, (starts_are_all body.code 0).1 (Begins lt))

  pub typing_found : (ts : TypesOf) → ts ≡ first_types p m body type → 0 < length body.code → length ts.locals ≡ body.max_locals → HasFlowTyping (leads_in p m body) ts → HasTyping p m
  typing_found ts e some long found =
      let first : TypesOf = first_types p m body type in
      let is : IsFlowTyping (leads_in p m body) first found.typing = subst (λ (t : TypesOf). IsFlowTyping (leads_in p m body) t found.typing) e found.is in
      let fit : FitFrame body first = record { used = All-nil (λ (t : EntryType). t ≡ entry.Free → ⊥); few = omega arith; locals = sym (ap (λ (t : TypesOf). length t.locals) e) ∙ long } in
      record {
        typing = restricted body found.typing;
        is = λ b here. subst (λ (x : Body). IsTyping p m x (restricted body found.typing)) (same_Some body b (sym code ∙ here)) (method_typing p m body found.typing type is typed (begins some) fit);
      }

  pub no_typing : (ts : TypesOf) → ts ≡ first_types p m body type → (HasFlowTyping (leads_in p m body) ts → ⊥) → HasTyping p m → ⊥
  no_typing ts e none h =
      let t : IsTyping p m body h.typing = h.is body code in
      let same : t.type ≡ type = same_Some t.type type (sym t.typed ∙ typed) in
      let first : first_types p m body t.type ≡ ts = ap (first_types p m body) same ∙ sym e in
      none (record { typing = h.typing; is = subst (λ (x : TypesOf). IsFlowTyping (leads_in p m body) x h.typing) first (flow_typing p m body h.typing t) })

  abbrev given : List EntryType
  given = argument_entries (entered p m) (map operand_kind type.parameters)

  pub no_locals : body.max_locals < length (argument_entries (entered p m) (map operand_kind type.parameters)) → HasTyping p m → ⊥
  no_locals lt h =
      let t : IsTyping p m body h.typing = h.is body code in
      let same : t.type ≡ type = same_Some t.type type (sym t.typed ∙ typed) in
      by t same (h.typing 0) refl t.entry
    where
      by : (t : IsTyping p m body h.typing) → t.type ≡ type → (o : Option TypesOf) → h.typing 0 ≡ o → AreAbove (first_types p m body t.type) o → ⊥
      by t same None e a = a
      by t same (Some us) e a =
          let fits : length us.locals ≡ body.max_locals = (t.fits 0 us e).locals in
          let long : length (first_types p m body t.type).locals ≡ length us.locals = a.locals.long in
          let first : length (first_types p m body t.type).locals ≡ length (with_free body.max_locals given) = ap (λ (x : MethodType). length (first_types p m body x).locals) same in
          omega (arith, lt, fits, long, first, length-append given (replicate (body.max_locals - length given) entry.Free))
