-- The methods of texts: what each leaves is of the types after its call, and else check 7 refuses it.
use Rattle.std.proofs.Common.{◌≡◌, ℕ, ◌++◌, ◌&&◌, Bool, true, false, List, [], ◌∷◌, length, drop, Option, Some, None, refl, sym, ◌∙◌, ap, subst}
use Rattle.std.specs.Prelude.{codes, if◌then◌else◌, map, nat_le, pos, slice_index_or}
use Rattle.std.specs.List.{flat_map}
use Rattle.std.proofs.lemmas.List.{map-append}
use Rattle.std.proofs.lemmas.Option.{same_Some}
use Rattle.et_base.specs.declared.value.Value.{Value}
use Rattle.et_base.specs.declared.value.Value.TheVariants as value
use Rattle.et_class.specs.Descriptors.{MethodType, method_type}
use Rattle.et_class.specs.Operands.{operand_kind}
use Rattle.et_class.specs.PoolOperands.Operand.{Operand}
use Rattle.et_class.specs.PoolOperands.Operand.TheVariants as operand
use Rattle.et_event.specs.BuiltIns.{answering, argument}
use Rattle.et_event.specs.Calls.{arguments_of, entry_count, is_static_call}
use Rattle.et_event.specs.Errors.{class_called}
use Rattle.et_event.specs.Frames.{first_reference}
use Rattle.et_event.specs.Heap.{truth}
use Rattle.et_event.specs.Kinds.{in_bounds}
use Rattle.et_event.specs.Moments.{Doing, Moment, begins, current_frame, fits_heap, ill_typed, instance_made, next_object}
use Rattle.et_event.specs.Selected.{TextCall, selected_from, with_resolved}
use Rattle.et_event.specs.Sites.{Member, Site, names_interface, natural_of, site_member, site_of}
use Rattle.et_event.specs.TextRows.{ends_with_texts, is_fit_text, is_text_like, rewrites, shown, text_done, text_given, text_row}
use Rattle.et_event.specs.declared.errors.GuestError.TheVariants as errors
use Rattle.et_event.specs.declared.rows.CallKind.{CallKind}
use Rattle.et_event.specs.declared.rows.CallRow.TheVariants as call
use Rattle.et_event.specs.declared.rows.Row.TheVariants as rows
use Rattle.et_heap.specs.Objects.{referent_of}
use Rattle.et_program.specs.BootTexts.TextMethod.{TextMethod}
use Rattle.et_program.specs.BootTexts.TextMethod.TheVariants.{Append, Begin, BeginWith, CharAt, EndLine, Equals, Length, Print, PrintLine, ToString}
use Rattle.et_program.specs.Entries.{method_at}
use Rattle.et_history.proofs.soundness.Calling.{returned_as, typed_as}
use Rattle.et_history.proofs.texts.Called.{IsTextCall}
use Rattle.et_state.specs.Outcome.{Outcome}
use Rattle.et_state.specs.Outcome as outcome
use Rattle.et_state.specs.Spoken.{text_of}
use Rattle.et_state.specs.State.{Kept}
use Rattle.et_state.specs.Texts.{longest_text, most_units, text_units}
use Rattle.et_flow.specs.declared.types.EntryType.{EntryType}
use Rattle.et_flow.specs.declared.types.EntryType.TheVariants as entry
use Rattle.et_verify.specs.Effects.{arguments_with}
use Rattle.et_verify.specs.Steps.{with_given}
use Rattle.et_flow.specs.Types.{TypesOf, local_entries, type_of}
use Rattle.et_theorems.specs.typings.Typed.{Typings}
use Rattle.et_theorems.proofs.typings.CallRows.{Calls, Resolved, left_operands, passes, selected_called, text_refuses}
use Rattle.et_theorems.proofs.typings.Here.{Here, leaves, unless_refused}
use Rattle.et_theorems.proofs.typings.Own.{AsBefore, LeavesTyped, Own, own_by}
use Rattle.et_theorems.proofs.typings.Taking.{typed_int, truth_type}
use Rattle.et_theorems.proofs.typings.TextCalls.{Chosen, chosen}
use Rattle.et_theorems.proofs.typings.TextTable.{FitsType, answered_as, fits_type, given_as, index_taken, takes_index, text_answer}
use Rattle.et_theorems.proofs.typings.Ways.{unless_thrown, where_not_null}

-- ARGUMENTS

-- the one behind the receiver
second_type : (vs : List Value) (a b : EntryType) (more : List EntryType) → map type_of vs ≡ a ∷ b ∷ more → type_of (slice_index_or vs 1 value.Unset) ≡ b
second_type [] a b more e = cc
second_type (v ∷ []) a b more e = cc
second_type (v ∷ w ∷ vs) a b more e = ap (λ (ts : List EntryType). slice_index_or ts 1 entry.Free) e

abbrev second_entry : Bool → List Operand → EntryType
second_entry static kinds = slice_index_or (flat_map local_entries (arguments_with static kinds)) 1 entry.Free

kinds_are : (kinds : List Operand) → map Some kinds ≡ Some operand.Int ∷ [] → kinds ≡ operand.Int ∷ []
kinds_are [] e = cc
kinds_are (operand.Int ∷ []) e = refl
kinds_are (operand.Int ∷ kind ∷ kinds) e = cc
kinds_are (operand.Long ∷ kinds) e = cc
kinds_are (operand.Reference ∷ kinds) e = cc

module _ (e : Moment) (typings : Typings) (m : ℕ) (at : Site) (kind : CallKind) (ts us : TypesOf) (here : Here e typings m at (rows.Call (call.Invoke kind)) ts us) (c : Calls at (is_static_call kind) ts.operands us.operands) where
  abbrev P : Outcome Kept → Type 0
  P o = LeavesTyped e typings o

  abbrev args : List Value
  args = arguments_of e (entry_count (is_static_call kind) c.type)

  index_there : is_static_call kind ≡ false → map operand_kind c.type.parameters ≡ Some operand.Int ∷ [] → type_of (argument args 1) ≡ entry.Int
  index_there instance taken =
      let kinds : c.kinds ≡ operand.Int ∷ [] = kinds_are c.kinds (sym c.all ∙ taken) in
      let types : map type_of args ≡ entry.Reference ∷ entry.Int ∷ [] =
      (passes e typings m at kind ts us here c).arguments
      ∙ (ap (λ (b : Bool). flat_map local_entries (arguments_with b c.kinds)) instance ∙ ap (λ (ks : List Operand). flat_map local_entries (arguments_with false ks)) kinds) in
      second_type args entry.Reference entry.Int [] types

  abbrev IsIndexed : TextMethod → Type 0
  IsIndexed CharAt = type_of (argument args 1) ≡ entry.Int
  IsIndexed other = Unit {0}

  indexed : (x : TextMethod) (descriptor : List ℕ) → is_static_call kind ≡ false → takes_index x descriptor ≡ true → method_type descriptor ≡ Some c.type → IsIndexed x
  indexed CharAt descriptor instance h typed = index_there instance (index_taken descriptor c.type h typed)
  indexed other descriptor instance h typed = tt

  -- WHAT IT LEAVES

  answered : (answer : Option Operand) → answered_as answer c.type.returned ≡ true → (values : List Value) (d : Doing) → map type_of values ++ c.left ≡ with_given answer c.left → AsBefore e d → Own e typings (answering e at args values d)
  answered answer fits values d are same =
      leaves e typings m at (rows.Call (call.Invoke kind)) ts us here (values ++ drop (length args) (current_frame e).operands) d same refl refl
      (map-append type_of values (drop (length args) (current_frame e).operands)
      ∙ (ap (λ (xs : List EntryType). map type_of values ++ xs) (left_operands e typings m at kind ts us here c) ∙ (are ∙ sym (c.given ∙ given_as answer c.type.returned c.left fits))))

  gave_text : (o : ℕ) (units : List ℕ) (d : Doing) → Own e typings d → Own e typings (text_given o units d)
  gave_text o units d h = own_by e typings d (text_given o units d) refl h

  ends_so : (d : Doing) → Own e typings d → P (ends_with_texts d)
  ends_so d h = by (fits_heap d.state.heap) (nat_le (text_units d.state.guest.texts) most_units)
    where
      by : (a b : Bool) → P (if a && b then outcome.Goes d.state d.records else outcome.ObjectLimit)
      by true true = h
      by true false = tt
      by false b = tt

  rewritten : (o : ℕ) (units : List ℕ) (d : Doing) → Own e typings d → P (rewrites e (begins e) o units d)
  rewritten o units d h = unless_thrown e typings here.calm (begins e) errors.OutOfMemoryError (nat_le (length units) longest_text) _ refl (λ short. ends_so (text_given o units d) (gave_text o units d h))

  done_typed : (o : ℕ) (x : TextMethod) → answered_as (text_answer x) c.type.returned ≡ true → IsIndexed x → P (text_done e at (begins e) args o x)
  done_typed o Length fits index = answered (Some operand.Int) fits (value.Int (pos (length (text_of e.before o))) ∷ []) (begins e) refl refl
  done_typed o CharAt fits index =
      typed_int P (ill_typed e) (argument args 1 ∷ []) [] _ (ap (λ (t : EntryType). t ∷ []) index) (λ i below none.
      unless_thrown e typings here.calm (begins e) errors.StringIndexOutOfBoundsException (in_bounds i (length (text_of e.before o))) _ refl (λ within.
      answered (Some operand.Int) fits (value.Int (pos (slice_index_or (text_of e.before o) (natural_of i) 0)) ∷ []) (begins e) refl refl))
  done_typed o Equals fits index =
      let same : Bool = is_text_like e o (argument args 1) in
      answered (Some operand.Int) fits (truth (is_text_like e o (argument args 1)) ∷ []) (begins e) (ap (λ (t : EntryType). t ∷ c.left) (truth_type same)) refl
  done_typed o Begin fits index = gave_text o [] (answering e at args [] (begins e)) (answered None fits [] (begins e) refl refl)
  done_typed o BeginWith fits index =
      where_not_null e typings here.calm (begins e) (referent_of (argument args 1)) _ refl (λ x is.
      rewritten o (text_of e.before x) (answering e at args [] (begins e)) (answered None fits [] (begins e) refl refl))
  done_typed o ToString fits index =
      let made : Doing = instance_made e (class_called e.program (codes "java/lang/String")) (begins e) in
      rewritten (next_object (begins e)) (text_of e.before o) (answering e at args (value.Ref (next_object (begins e)) ∷ []) made) (answered (Some operand.Reference) fits (value.Ref (next_object (begins e)) ∷ []) made refl refl)
  done_typed o (Append shows) fits index =
      rewritten o (text_of e.before o ++ shown e.before shows (argument args 1)) (answering e at args (value.Ref o ∷ []) (begins e)) (answered (Some operand.Reference) fits (value.Ref o ∷ []) (begins e) refl refl)
  done_typed o (Print shows) fits index = answered None fits [] (begins e) refl refl
  done_typed o (PrintLine shows) fits index = answered None fits [] (begins e) refl refl
  done_typed o EndLine fits index = answered None fits [] (begins e) refl refl

  -- THE ROW

  -- what is found, where the call names this member, of this type
  abbrev IsFoundAt : CallKind → Site → Member → MethodType → ℕ → Type 0
  IsFoundAt way place named type k = with_resolved e.program (names_interface place) named (selected_from e place way (arguments_of e (entry_count (is_static_call way) type))) ≡ Some k

  module _ (x : TextCall) (called : IsTextCall e x) (way : called.kind ≡ kind) (site : site_of e.program (current_frame e) called.decoded ≡ at) where
    member : called.member ≡ c.member
    member = same_Some called.member c.member (sym called.names ∙ (ap site_member site ∙ c.named))

    type : called.type ≡ c.type
    type = same_Some called.type c.type (sym called.typed ∙ (ap (λ (n : Member). method_type n.descriptor) member ∙ c.typed))

    found : IsFoundAt kind at c.member c.type called.selected
    found =
        subst (λ (w : CallKind). IsFoundAt w at c.member c.type called.selected) way
        (subst (λ (q : Site). IsFoundAt called.kind q c.member c.type called.selected) site
        (subst (λ (n : Member). IsFoundAt called.kind (site_of e.program (current_frame e) called.decoded) n c.type called.selected) member
        (subst (λ (t : MethodType). IsFoundAt called.kind (site_of e.program (current_frame e) called.decoded) called.member t called.selected) type called.found)))

    passed : x.arguments ≡ args
    passed = called.arguments ∙ (ap (λ (w : CallKind). arguments_of e (entry_count (is_static_call w) called.type)) way ∙ ap (λ (t : MethodType). arguments_of e (entry_count (is_static_call kind) t)) type)

    abbrev given : Site → List Value → TextCall
    given q vs = record { at = q; arguments = vs; method = x.method }

    pub text_typed : P (text_row e x (first_reference x.arguments))
    text_typed =
        let k : ℕ = called.selected in
        let h : Chosen e at kind c.member args k = chosen e at kind c.member args k found in
        let so : Resolved e typings m at kind ts us here c h.owner h.resolved = record { class_found = h.class_found; method_found = h.method_found } in
        let on = selected_called e typings m at ts us kind here c h.owner h.resolved k h.object so h.wanted h.receiver h.is_selected in
        let table : FitsType (method_at e.program k) x.method = fits_type e.program k x.method called.method in
        let fits : answered_as (text_answer x.method) c.type.returned ≡ true = subst (λ (r : List ℕ). answered_as (text_answer x.method) r ≡ true) (returned_as e kind c.member c.type k c.typed on.1) table.answers in
        subst (λ (q : Site). P (text_row e (given q x.arguments) (first_reference x.arguments))) (sym (called.site ∙ site))
        (subst (λ (vs : List Value). P (text_row e (given at vs) (first_reference vs))) (sym passed)
        (subst (λ (r : Option ℕ). P (text_row e (given at args) r)) (sym h.receiver)
        (unless_refused e typings m at (rows.Call (call.Invoke kind)) ts us here (is_fit_text e (begins e) args h.object x.method) _
        (λ unfit. text_refuses e typings m at kind ts us here c h.owner h.resolved h.object k x.method so h.receiver h.is_selected called.method unfit)
        (λ fit. done_typed h.object x.method fits (indexed x.method (method_at e.program k).descriptor on.0 table.index (typed_as e kind c.member c.type k c.typed on.1))))))
