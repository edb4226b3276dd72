-- The reading of System.out: a reference is left.
use Rattle.std.proofs.Common.{◌≡◌, ℕ, ◌&&◌, ◌++◌, true, List, [], ◌∷◌, Option, Some, Ok, Result, refl, sym, ◌∙◌, ap, subst}
use Rattle.std.specs.Prelude.{codes, option_and_then}
use Rattle.std.specs.Result.{result_ok}
use Rattle.std.proofs.lemmas.Bool.{and_parts}
use Rattle.std.proofs.lemmas.Option.{none-some, same_Some}
use Rattle.et_base.specs.declared.value.Value.{Value}
use Rattle.et_base.specs.declared.value.Value.TheVariants as value
use Rattle.et_class.specs.Descriptors.{is_field_descriptor}
use Rattle.et_class.specs.PoolOperands.Operand.{Operand}
use Rattle.et_class.specs.PoolOperands.Operand.TheVariants as operand
use Rattle.et_code.specs.declared.instr.Instr.{Instr}
use Rattle.et_code.specs.declared.instr.CodeFault.{CodeFault}
use Rattle.et_event.specs.Errors.{class_called}
use Rattle.et_event.specs.Heap.{field_fits, is_out, is_static_at, leaving_values}
use Rattle.et_event.specs.Moments.{Doing, Moment, begins, current_frame, doing_with_guest, instance_made, next_object}
use Rattle.et_event.specs.Out.{OutRead, field_read, is_done, out_at, out_by, out_in, out_of, out_read, out_row}
use Rattle.et_event.specs.Sites.{Member, Site, decoded_at, site_member, site_of}
use Rattle.et_event.specs.Table.{row_of}
use Rattle.et_event.specs.declared.rows.HeapRow.TheVariants as heap
use Rattle.et_event.specs.declared.rows.Row.{Row}
use Rattle.et_event.specs.declared.rows.Row.TheVariants as rows
use Rattle.et_program.specs.Entries.{field_at}
use Rattle.et_program.specs.Resolution.{resolve_class, resolve_field}
use Rattle.et_history.proofs.soundness.Fields.{IsField, field_found}
use Rattle.et_history.proofs.texts.Called.{and_then_some, if_some, result_some}
use Rattle.et_history.proofs.texts.Read.{map_some}
use Rattle.et_state.specs.Outcome.{Outcome}
use Rattle.et_state.specs.State.{Kept}
use Rattle.et_state.specs.Words.{class_state_at, static_at, with_static}
use Rattle.et_state.specs.declared.stage.Turn.{Turn}
use Rattle.et_state.specs.declared.stage.Turn.TheVariants.{Instruction}
use Rattle.et_flow.specs.declared.types.EntryType.{EntryType}
use Rattle.et_flow.specs.declared.types.EntryType.TheVariants as entry
use Rattle.et_verify.specs.Effects.{result_kind}
use Rattle.et_flow.specs.Types.{TypesOf, operand_entries}
use Rattle.et_theorems.specs.typings.Typed.{Typings}
use Rattle.et_theorems.specs.typings.Values.{AreOperandsOf}
use Rattle.et_theorems.proofs.typings.Here.{Here, leaves}
use Rattle.et_theorems.proofs.typings.Moves.{Gives, Reads, reads}
use Rattle.et_theorems.proofs.typings.Own.{LeavesTyped, Own, ends_leave}

-- WHERE IT IS READ

-- a getstatic names the field
pub record ReadsOut (e : Moment) (at : Site) (x : OutRead) : Type 0 where
  pub member : Member
  pub named : site_member at ≡ Some member
  pub owner : ℕ
  pub found : resolve_field e.program owner member.name member.descriptor ≡ Ok x.field
  pub is : is_out e.program x.field ≡ true
  pub place : x.at ≡ at

pub record IsReadOut (e : Moment) (at : Site) (r : Row) (x : OutRead) : Type 0 where
  pub row : r ≡ rows.Heap heap.GetStatic
  pub reads : ReadsOut e at x

reads_out : (e : Moment) (at : Site) (x : OutRead) → out_at e at (rows.Heap heap.GetStatic) ≡ Some x → ReadsOut e at x
reads_out e at x h =
    let made = map_some (λ (f : ℕ). record { at = at; field = f }) (option_and_then (out_of e) (option_and_then (field_read e) (site_member at))) x h in
    let field = and_then_some (out_of e) (option_and_then (field_read e) (site_member at)) made.0 made.1 in
    let out = if_some (is_static_at e.program field.0 && (is_out e.program field.0 && is_done (class_state_at e.before.guest (field_at e.program field.0).class))) (Some field.0) made.0 field.2 in
    let member = and_then_some (field_read e) (site_member at) field.0 field.1 in
    let fits = if_some (is_field_descriptor member.0.descriptor && field_fits e (current_frame e).operands member.0) (option_and_then (λ (owner : ℕ). result_ok (resolve_field e.program owner member.0.name member.0.descriptor)) (result_ok (resolve_class e.program member.0.owner))) field.0 member.2 in
    let owner = and_then_some (λ (owner : ℕ). result_ok (resolve_field e.program owner member.0.name member.0.descriptor)) (result_ok (resolve_class e.program member.0.owner)) field.0 fits.1 in
    let same : field.0 ≡ x.field = same_Some field.0 made.0 out.1 ∙ ap (λ (y : OutRead). y.field) made.2 in
    let is : is_out e.program field.0 ≡ true =
    (and_parts (is_out e.program field.0) (is_done (class_state_at e.before.guest (field_at e.program field.0).class)) (and_parts (is_static_at e.program field.0) (is_out e.program field.0 && is_done (class_state_at e.before.guest (field_at e.program field.0).class)) out.0).1).0 in
    record {
      member = member.0;
      named = member.1;
      owner = owner.0;
      found = subst (λ (f : ℕ). resolve_field e.program owner.0 member.0.name member.0.descriptor ≡ Ok f) same (result_some (resolve_field e.program owner.0 member.0.name member.0.descriptor) field.0 owner.2);
      is = subst (λ (f : ℕ). is_out e.program f ≡ true) same is;
      place = sym (ap (λ (y : OutRead). y.at) made.2);
    }

pub is_read_out : (e : Moment) (at : Site) (r : Row) (x : OutRead) → out_at e at r ≡ Some x → IsReadOut e at r x
is_read_out e at (rows.Heap heap.GetStatic) x h = record { row = refl; reads = reads_out e at x h }
is_read_out e at other x h = absurd (none-some x h)

-- the turn is an instruction
pub out_turn_is : (e : Moment) (turn : Turn) (x : OutRead) → out_in e turn ≡ Some x → turn ≡ Instruction
out_turn_is e Instruction x h = refl
out_turn_is e other x h = absurd (none-some x h)

-- .. the one that is decoded
pub out_decoded : (e : Moment) (at : Site) (r : Row) (d : Instr × ℕ) (x : OutRead) → decoded_at e.program (current_frame e) ≡ Ok d → row_of d.0.opcode ≡ Some r → at ≡ site_of e.program (current_frame e) d → out_by e (decoded_at e.program (current_frame e)) ≡ Some x → out_at e at r ≡ Some x
out_decoded e at r d x is row site h =
    let here : out_by e (Ok d) ≡ Some x = subst (λ (y : Result (Instr × ℕ) CodeFault). out_by e y ≡ Some x) is h in
    let by_row : option_and_then (out_at e (site_of e.program (current_frame e) d)) (Some r) ≡ Some x = subst (λ (o : Option Row). option_and_then (out_at e (site_of e.program (current_frame e) d)) o ≡ Some x) row here in
    subst (λ (q : Site). out_at e q r ≡ Some x) (sym site) by_row

-- WHAT IS LEFT

-- a print stream is a reference
stream_result : result_kind (codes "Ljava/io/PrintStream;") ≡ operand.Reference
stream_result = refl

module _ (e : Moment) (typings : Typings) (m : ℕ) (at : Site) (ts us : TypesOf) (here : Here e typings m at (rows.Heap heap.GetStatic) ts us) where
  abbrev P : Outcome Kept → Type 0
  P o = LeavesTyped e typings o

  abbrev ops : List Value
  ops = (current_frame e).operands

  module _ (x : OutRead) (out : ReadsOut e at x) where
    given : us.operands ≡ entry.Reference ∷ ts.operands
    given =
        let h : Reads (site_member at) [] ts.operands us.operands = reads (site_member at) [] ts.operands us.operands here.after.operands in
        let g : Gives [] (result_kind h.member.descriptor) ts.operands us.operands = h.gives in
        let same : h.member ≡ out.member = same_Some h.member out.member (sym h.named ∙ out.named) in
        let f : IsField e.program out.member.descriptor x.field = field_found e.program out.owner out.member.name out.member.descriptor x.field out.found in
        let kind : result_kind h.member.descriptor ≡ operand.Reference =
        ap (λ (y : Member). result_kind y.descriptor) same ∙ (ap result_kind (sym f.descriptor ∙ here.calm.may.texts.out x.field f.within out.is) ∙ stream_result) in
        g.given ∙ (ap (λ (xs : List EntryType). operand_entries (result_kind h.member.descriptor) ++ xs) (sym (same_Some ts.operands g.left g.taken)) ∙ ap (λ (k : Operand). operand_entries k ++ ts.operands) kind)

    left : (o : ℕ) → AreOperandsOf (value.Ref o ∷ ops) us.operands
    left o = ap (λ (xs : List EntryType). entry.Reference ∷ xs) here.operands ∙ sym given

    leaves_reference : (o : ℕ) (d : Doing) → d.state.guest.threads ≡ e.before.guest.threads → Own e typings (leaving_values e at (value.Ref o ∷ ops) d)
    leaves_reference o d same = leaves e typings m at (rows.Heap heap.GetStatic) ts us here (value.Ref o ∷ ops) d same refl refl (left o)

    read : (v : Value) (slot : ℕ) → P (out_read e at slot v (begins e))
    read (value.Ref o) slot = ends_leave e typings (leaving_values e at (value.Ref o ∷ ops) (begins e)) (leaves_reference o (begins e) refl)
    read other slot =
        let n : ℕ = next_object (begins e) in
        let made : Doing = instance_made e (class_called e.program (codes "java/io/PrintStream")) (begins e) in
        let kept : Doing = doing_with_guest (with_static made.state.guest slot (value.Ref n)) made in
        ends_leave e typings (leaving_values e at (value.Ref n ∷ ops) kept) (leaves_reference n kept refl)

    pub out_typed : P (out_row e x)
    out_typed = let slot : ℕ = (field_at e.program x.field).slot in subst (λ (q : Site). P (out_read e q slot (static_at e.before.guest slot) (begins e))) (sym out.place) (read (static_at e.before.guest slot) slot)
