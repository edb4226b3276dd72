-- A turn that reads System.out: what it stands at, and which field is read.
use Rattle.std.proofs.Common.{◌≡◌, ℕ, ◌&&◌, Bool, true, Option, Some, None, Result, Ok, Err, refl, sym, ◌∙◌, ap, subst}
use Rattle.std.specs.Prelude.{option_and_then, option_map}
use Rattle.std.specs.Result.{result_ok}
use Rattle.std.proofs.lemmas.Bool.{and_parts, false≢true}
use Rattle.std.proofs.lemmas.Option.{none-some, same_Some}
use Rattle.et_class.specs.Descriptors.{is_field_descriptor}
use Rattle.et_code.specs.declared.instr.Instr.{Instr}
use Rattle.et_code.specs.declared.instr.CodeFault.{CodeFault}
use Rattle.et_program.specs.Entries.{Linked, field_at}
use Rattle.et_program.specs.Resolution.{resolve_class, resolve_field}
use Rattle.et_state.specs.State.{Kept}
use Rattle.et_state.specs.Threads.{turn_of}
use Rattle.et_state.specs.Words.{class_state_at}
use Rattle.et_state.specs.declared.class_state.ClassState.{ClassState}
use Rattle.et_state.specs.declared.class_state.ClassState.TheVariants.{Untouched, Begun, Done, Failed}
use Rattle.et_state.specs.declared.stage.Turn.{Turn}
use Rattle.et_state.specs.declared.stage.Turn.TheVariants.{Instruction}
use Rattle.et_event.specs.Heap.{field_fits, is_out, is_static_at}
use Rattle.et_event.specs.Moments.{Moment, current_frame, thread_of}
use Rattle.et_event.specs.Out.{OutRead, field_read, is_done, out_at, out_by, out_in, out_of, out_turn}
use Rattle.et_event.specs.Sites.{Member, Site, decoded_at, site_member, site_of}
use Rattle.et_event.specs.Table.{row_of}
use Rattle.et_event.specs.declared.rows.HeapRow.{HeapRow}
use Rattle.et_event.specs.declared.rows.HeapRow.TheVariants as heap
use Rattle.et_event.specs.declared.rows.Row.{Row}
use Rattle.et_event.specs.declared.rows.Row.TheVariants.{Heap}
use Rattle.et_history.proofs.soundness.Fields.{IsField, field_found}
use Rattle.et_history.proofs.texts.Called.{and_then_some, if_some, result_some}

pub record IsOutRead (e : Moment) (x : OutRead) : Type 0 where
  pub turn : turn_of (thread_of e) ≡ Instruction
  pub decoded : Instr × ℕ
  pub is : decoded_at e.program (current_frame e) ≡ Ok decoded
  pub row : row_of decoded.0.opcode ≡ Some (Heap heap.GetStatic)
  pub site : x.at ≡ site_of e.program (current_frame e) decoded
  pub member : Member
  pub fits : field_fits e (current_frame e).operands member ≡ true
  pub field : IsField e.program member.descriptor x.field
  pub static : is_static_at e.program x.field ≡ true
  pub out : is_out e.program x.field ≡ true
  pub done : class_state_at e.before.guest (field_at e.program x.field).class ≡ Done

done_is : (c : ClassState) → is_done c ≡ true → c ≡ Done
done_is Untouched h = absurd (false≢true h)
done_is (Begun t) h = absurd (false≢true h)
done_is Done h = refl
done_is Failed h = absurd (false≢true h)

pub map_some : {A B : Type 0} (f : A → B) (o : Option A) (b : B) → option_map f o ≡ Some b → (a : A) × (o ≡ Some a) × (f a ≡ b)
map_some f None b e = absurd (none-some b e)
map_some f (Some a) b e = (a, refl, same_Some (f a) b e)

read_at : (e : Moment) (x : Instr × ℕ) (y : OutRead) → turn_of (thread_of e) ≡ Instruction → decoded_at e.program (current_frame e) ≡ Ok x → row_of x.0.opcode ≡ Some (Heap heap.GetStatic)
    → out_at e (site_of e.program (current_frame e) x) (Heap heap.GetStatic) ≡ Some y → IsOutRead e y
read_at e x y turn is row h =
    let p : Linked = e.program in
    let at : Site = site_of p (current_frame e) x in
    let a = map_some (λ (f : ℕ). record { at = at; field = f }) (option_and_then (out_of e) (option_and_then (field_read e) (site_member at))) y h in
    let b = and_then_some (out_of e) (option_and_then (field_read e) (site_member at)) a.0 a.1 in
    let c = and_then_some (field_read e) (site_member at) b.0 b.1 in
    let d = if_some (is_field_descriptor c.0.descriptor && field_fits e (current_frame e).operands c.0) (option_and_then (λ owner. result_ok (resolve_field p owner c.0.name c.0.descriptor)) (result_ok (resolve_class p c.0.owner))) b.0 c.2 in
    let o = and_then_some (λ owner. result_ok (resolve_field p owner c.0.name c.0.descriptor)) (result_ok (resolve_class p c.0.owner)) b.0 d.1 in
    let f : IsField p c.0.descriptor b.0 = field_found p o.0 c.0.name c.0.descriptor b.0 (result_some (resolve_field p o.0 c.0.name c.0.descriptor) b.0 o.2) in
    let done : Bool = is_done (class_state_at e.before.guest (field_at p b.0).class) in
    let t = if_some (is_static_at p b.0 && (is_out p b.0 && done)) (Some b.0) a.0 b.2 in
    let s = and_parts (is_static_at p b.0) (is_out p b.0 && done) t.0 in
    let q = and_parts (is_out p b.0) done s.1 in
    let same : b.0 ≡ y.field = same_Some b.0 a.0 t.1 ∙ ap (λ (z : OutRead). z.field) a.2 in
    record {
      turn = turn;
      decoded = x;
      is = is;
      row = row;
      site = sym (ap (λ (z : OutRead). z.at) a.2);
      member = c.0;
      fits = (and_parts (is_field_descriptor c.0.descriptor) (field_fits e (current_frame e).operands c.0) d.0).1;
      field = subst (λ (k : ℕ). IsField p c.0.descriptor k) same f;
      static = subst (λ (k : ℕ). is_static_at p k ≡ true) same s.0;
      out = subst (λ (k : ℕ). is_out p k ≡ true) same q.0;
      done = subst (λ (k : ℕ). class_state_at e.before.guest (field_at p k).class ≡ Done) same (done_is (class_state_at e.before.guest (field_at p b.0).class) q.1);
    }

by_heap_row : (e : Moment) (x : Instr × ℕ) (r : HeapRow) (y : OutRead) → turn_of (thread_of e) ≡ Instruction → decoded_at e.program (current_frame e) ≡ Ok x → row_of x.0.opcode ≡ Some (Heap r) → out_at e (site_of e.program (current_frame e) x) (Heap r) ≡ Some y → IsOutRead e y
by_heap_row e x heap.GetStatic y turn is row h = read_at e x y turn is row h
by_heap_row e x other y turn is row h = absurd (none-some y h)

by_its_row : (e : Moment) (x : Instr × ℕ) (r : Row) (y : OutRead) → turn_of (thread_of e) ≡ Instruction → decoded_at e.program (current_frame e) ≡ Ok x → row_of x.0.opcode ≡ Some r → out_at e (site_of e.program (current_frame e) x) r ≡ Some y → IsOutRead e y
by_its_row e x (Heap r) y turn is row h = by_heap_row e x r y turn is row h
by_its_row e x other y turn is row h = absurd (none-some y h)

by_decoded : (e : Moment) (x : Result (Instr × ℕ) CodeFault) (y : OutRead) → turn_of (thread_of e) ≡ Instruction → decoded_at e.program (current_frame e) ≡ x → out_by e x ≡ Some y → IsOutRead e y
by_decoded e (Err fault) y turn is h = absurd (none-some y h)
by_decoded e (Ok x) y turn is h =
    let r = and_then_some (out_at e (site_of e.program (current_frame e) x)) (row_of x.0.opcode) y h in
    by_its_row e x r.0 y turn is r.1 r.2

by_its_turn : (e : Moment) (turn : Turn) (y : OutRead) → turn_of (thread_of e) ≡ turn → out_in e turn ≡ Some y → IsOutRead e y
by_its_turn e Instruction y is h = by_decoded e (decoded_at e.program (current_frame e)) y is refl h
by_its_turn e other y is h = absurd (none-some y h)

pub out_found : (p : Linked) (s : Kept) (t : ℕ) (y : OutRead) → out_turn p s t ≡ Some y → IsOutRead (record { program = p; before = s; thread = t }) y
unfolding out_turn
out_found p s t y h =
    let e : Moment = record { program = p; before = s; thread = t } in
    by_its_turn e (turn_of (thread_of e)) y refl h
