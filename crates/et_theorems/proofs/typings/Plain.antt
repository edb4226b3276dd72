-- A plain instruction that accepts the types of a frame has a meaning there, and leaves a frame of the types after it.
use Rattle.std.proofs.Common.{◌≡◌, ℕ, ◌+◌, ◌≤◌, Bool, true, false, leb, List, [], ◌∷◌, ◌++◌, length, get_or, Option, Some, None, refl, sym, ◌∙◌, ap, subst, inl, inr, arith, Contains}
use Rattle.std.specs.Prelude.{ℤ, map, if◌then◌else◌, option_map}
use Rattle.std.proofs.lemmas.Bool.{le-leb, and_parts, cases_lt}
use Rattle.std.proofs.lemmas.List.{length-map, get_or_past}
use Rattle.std.proofs.lemmas.Option.{same_Some}
use Rattle.et_base.specs.declared.value.Value.{Value}
use Rattle.et_base.specs.declared.value.Value.TheVariants as value
use Rattle.et_class.specs.PoolOperands.Operand.{Operand}
use Rattle.et_class.specs.PoolOperands.Operand.TheVariants as operand
use Rattle.et_code.specs.Switches.{target_of}
use Rattle.et_state.specs.Threads.{FrameState, local_of}
use Rattle.et_event.specs.declared.rows.Local.{Local}
use Rattle.et_event.specs.declared.rows.Rearrangement.{Rearrangement}
use Rattle.et_event.specs.declared.rows.Number.{Number}
use Rattle.et_event.specs.declared.rows.Number.TheVariants as number
use Rattle.et_event.specs.declared.rows.Arithmetic.{Arithmetic}
use Rattle.et_event.specs.declared.rows.Shift.{Shift}
use Rattle.et_event.specs.declared.rows.Conversion.{Conversion}
use Rattle.et_event.specs.declared.rows.Conversion.TheVariants.{IntToLong, LongToInt, IntToByte, IntToChar, IntToShort}
use Rattle.et_event.specs.declared.rows.Condition.{Condition}
use Rattle.et_event.specs.declared.rows.Condition.TheVariants as when
use Rattle.et_event.specs.declared.rows.FrameRow.{FrameRow}
use Rattle.et_event.specs.declared.rows.FrameRow.TheVariants as row
use Rattle.et_event.specs.declared.rows.Row.TheVariants as rows
use Rattle.et_event.specs.Plain.{put, put_some, loaded_long, loaded, combined, negated, values_moved, converted, compared, condition_tested, branched, switched, frame_after}
use Rattle.et_event.specs.Sites.{Site, target, local_index}
use Rattle.et_flow.specs.declared.types.EntryType.{EntryType}
use Rattle.et_flow.specs.declared.types.EntryType.TheVariants as entry
use Rattle.et_flow.specs.Types.{TypesOf, type_of, operand_entries}
use Rattle.et_verify.specs.Effects.{Effect, frame_effect}
use Rattle.et_flow.specs.Stores.{is_long, is_high, holds}
use Rattle.et_verify.specs.Steps.{below_taken, with_given, moved_by, operands_after, where_holds, locals_by, locals_after}
use Rattle.et_verify.specs.Leads.{goes_past}
use Rattle.et_theorems.specs.typings.Values.{AreOperandsOf, AreLocalsOf}
use Rattle.et_verify.proofs.Taken.{FitsAs}
use Rattle.et_verify.proofs.Monotone.{int_is, long_is, high_is, reference_is}
use Rattle.et_theorems.proofs.typings.Taking.{typed_int, typed_reference, int_taken, long_taken, reference_taken}

-- WHERE THE TYPES AFTER COME FROM

pub record MovesAs (x : Effect) (before after : List EntryType) : Type 0 where
  pub left : List EntryType
  pub taken : below_taken x.taken before ≡ Some left
  pub given : after ≡ with_given x.given left

pub moves_as : (x : Effect) (before after : List EntryType) → moved_by x before ≡ Some after → MovesAs x before after
moves_as x before after e = by (below_taken x.taken before) refl e
  where
    by : (o : Option (List EntryType)) → below_taken x.taken before ≡ o → option_map (with_given x.given) o ≡ Some after → MovesAs x before after
    by None q h = cc
    by (Some left) q h = record { left = left; taken = q; given = (let same : Some (with_given x.given left) ≡ Some after = h in cc) }

-- A FRAME of the types after

-- where an instruction of this row may go
pub record Reaches (places : List ℕ) (at : Site) (r : FrameRow) (pc : ℕ) : Type 0 where
  pub next : goes_past (rows.Frame r) ≡ true → Contains places at.next
  pub branch : (c : Condition) → r ≡ row.Branch c → Contains places (target pc at.instr.first)
  pub switch : r ≡ row.Switch → (key : ℤ) → Contains places (target pc (target_of at.code at.instr key))

-- the frame has a next one, of these types, at one of these places
pub record Steps (f : FrameState) (us : TypesOf) (places : List ℕ) (o : Option FrameState) : Type 0 where
  pub frame : FrameState
  pub is : o ≡ Some frame
  pub same : frame ≡ record f { pc = frame.pc; locals = frame.locals; operands = frame.operands }
  pub operands : AreOperandsOf frame.operands us.operands
  pub locals : AreLocalsOf frame.locals us.locals
  pub goes : Contains places frame.pc

put_when : (f : FrameState) (pc : ℕ) (ops : List Value) (b : Bool) → b ≡ true → (if b then Some (record f { pc = pc; operands = ops }) else None) ≡ Some (record f { pc = pc; operands = ops })
put_when f pc ops true e = refl
put_when f pc ops false e = cc

values_few : (ops : List Value) (types : List EntryType) (room : ℕ) → AreOperandsOf ops types → length types ≤ room → length ops ≤ room
values_few ops types room are le = (let same : length (map type_of ops) ≡ length types = ap length are in omega (arith, length-map ops type_of))

pub put_steps : (f : FrameState) (us : TypesOf) (places : List ℕ) (pc : ℕ) (ops : List Value) → AreOperandsOf ops us.operands → AreLocalsOf f.locals us.locals → length us.operands ≤ f.room → Contains places pc → Steps f us places (put pc ops f)
put_steps f us places pc ops are locals le goes = record {
  frame = record f { pc = pc; operands = ops };
  is = put_when f pc ops (leb (length ops) f.room) (le-leb (length ops) f.room (values_few ops us.operands f.room are le));
  same = refl;
  operands = are;
  locals = locals;
  goes = goes;
}

-- SHAPES

module _ (at : Site) (f : FrameState) (ts us : TypesOf) (places : List ℕ) (are : AreOperandsOf f.operands ts.operands) (locals : AreLocalsOf f.locals us.locals) (le : length us.operands ≤ f.room) where
  abbrev Q : Option (List Value) → Type 0
  Q x = Steps f us places (put_some at.next x f)

  -- an operand is given on top of those that are left
  given_one : (v : Value) (below : List Value) (left : List EntryType) (t : EntryType) → us.operands ≡ t ∷ left → type_of v ≡ t → AreOperandsOf below left → Contains places at.next → Steps f us places (put at.next (v ∷ below) f)
  given_one v below left t after is b goes =
      put_steps f us places at.next (v ∷ below) (ap (λ (x : EntryType). x ∷ map type_of below) is ∙ (ap (λ (xs : List EntryType). t ∷ xs) b ∙ sym after)) locals le goes

  given_long : (n : ℤ) (below : List Value) (left : List EntryType) → us.operands ≡ entry.LongHigh ∷ entry.Long ∷ left → AreOperandsOf below left → Contains places at.next → Steps f us places (put at.next (value.LongHigh ∷ value.Long n ∷ below) f)
  given_long n below left after b goes =
      put_steps f us places at.next (value.LongHigh ∷ value.Long n ∷ below) (ap (λ (xs : List EntryType). entry.LongHigh ∷ entry.Long ∷ xs) b ∙ sym after) locals le goes

  two_numbers : (n : Number) (o : Arithmetic) (m : MovesAs (frame_effect (row.Arithmetic n o)) ts.operands us.operands) → Contains places at.next → Q (combined n o f.operands)
  two_numbers number.Int o m goes =
      int_taken Q None (operand.Int ∷ []) f.operands ts.operands m.left _ are m.taken (λ b more rest ar later.
      int_taken Q None [] more rest m.left _ ar later (λ a below rest2 ar2 last.
      given_one (value.Int _) below rest2 entry.Int (m.given ∙ ap (λ (xs : List EntryType). entry.Int ∷ xs) (sym (same_Some rest2 m.left last))) refl ar2 goes))
  two_numbers number.Long o m goes =
      long_taken Q None (operand.Long ∷ []) f.operands ts.operands m.left _ are m.taken (λ b more rest ar later.
      long_taken Q None [] more rest m.left _ ar later (λ a below rest2 ar2 last.
      given_long _ below rest2 (m.given ∙ ap (λ (xs : List EntryType). entry.LongHigh ∷ entry.Long ∷ xs) (sym (same_Some rest2 m.left last))) ar2 goes))

  one_number : (n : Number) (m : MovesAs (frame_effect (row.Negate n)) ts.operands us.operands) → Contains places at.next → Q (negated n f.operands)
  one_number number.Int m goes =
      int_taken Q None [] f.operands ts.operands m.left _ are m.taken (λ a below rest ar last.
      given_one (value.Int _) below rest entry.Int (m.given ∙ ap (λ (xs : List EntryType). entry.Int ∷ xs) (sym (same_Some rest m.left last))) refl ar goes)
  one_number number.Long m goes =
      long_taken Q None [] f.operands ts.operands m.left _ are m.taken (λ a below rest ar last.
      given_long _ below rest (m.given ∙ ap (λ (xs : List EntryType). entry.LongHigh ∷ entry.Long ∷ xs) (sym (same_Some rest m.left last))) ar goes)

  one_shifted : (n : Number) (s : Shift) (m : MovesAs (frame_effect (row.Shift n s)) ts.operands us.operands) → Contains places at.next → Q (values_moved n s f.operands)
  one_shifted number.Int s m goes =
      int_taken Q None (operand.Int ∷ []) f.operands ts.operands m.left _ are m.taken (λ b more rest ar later.
      int_taken Q None [] more rest m.left _ ar later (λ a below rest2 ar2 last.
      given_one (value.Int _) below rest2 entry.Int (m.given ∙ ap (λ (xs : List EntryType). entry.Int ∷ xs) (sym (same_Some rest2 m.left last))) refl ar2 goes))
  one_shifted number.Long s m goes =
      int_taken Q None (operand.Long ∷ []) f.operands ts.operands m.left _ are m.taken (λ b more rest ar later.
      long_taken Q None [] more rest m.left _ ar later (λ a below rest2 ar2 last.
      given_long _ below rest2 (m.given ∙ ap (λ (xs : List EntryType). entry.LongHigh ∷ entry.Long ∷ xs) (sym (same_Some rest2 m.left last))) ar2 goes))

  one_converted : (c : Conversion) (m : MovesAs (frame_effect (row.Convert c)) ts.operands us.operands) → Contains places at.next → Q (converted c f.operands)
  one_converted IntToLong m goes =
      int_taken Q None [] f.operands ts.operands m.left _ are m.taken (λ a below rest ar last.
      given_long _ below rest (m.given ∙ ap (λ (xs : List EntryType). entry.LongHigh ∷ entry.Long ∷ xs) (sym (same_Some rest m.left last))) ar goes)
  one_converted LongToInt m goes =
      long_taken Q None [] f.operands ts.operands m.left _ are m.taken (λ a below rest ar last.
      given_one (value.Int _) below rest entry.Int (m.given ∙ ap (λ (xs : List EntryType). entry.Int ∷ xs) (sym (same_Some rest m.left last))) refl ar goes)
  one_converted IntToByte m goes =
      int_taken Q None [] f.operands ts.operands m.left _ are m.taken (λ a below rest ar last.
      given_one (value.Int _) below rest entry.Int (m.given ∙ ap (λ (xs : List EntryType). entry.Int ∷ xs) (sym (same_Some rest m.left last))) refl ar goes)
  one_converted IntToChar m goes =
      int_taken Q None [] f.operands ts.operands m.left _ are m.taken (λ a below rest ar last.
      given_one (value.Int _) below rest entry.Int (m.given ∙ ap (λ (xs : List EntryType). entry.Int ∷ xs) (sym (same_Some rest m.left last))) refl ar goes)
  one_converted IntToShort m goes =
      int_taken Q None [] f.operands ts.operands m.left _ are m.taken (λ a below rest ar last.
      given_one (value.Int _) below rest entry.Int (m.given ∙ ap (λ (xs : List EntryType). entry.Int ∷ xs) (sym (same_Some rest m.left last))) refl ar goes)

  two_compared : (m : MovesAs (frame_effect row.CompareLongs) ts.operands us.operands) → Contains places at.next → Q (compared f.operands)
  two_compared m goes =
      long_taken Q None (operand.Long ∷ []) f.operands ts.operands m.left _ are m.taken (λ b more rest ar later.
      long_taken Q None [] more rest m.left _ ar later (λ a below rest2 ar2 last.
      given_one (value.Int _) below rest2 entry.Int (m.given ∙ ap (λ (xs : List EntryType). entry.Int ∷ xs) (sym (same_Some rest2 m.left last))) refl ar2 goes))

  -- BRANCHES

  abbrev B : Option (Bool × List Value) → Type 0
  B x = Steps f us places (option_map (branched at f) x)

  either : (b : Bool) → (b ≡ true → Contains places (target f.pc at.instr.first)) → (b ≡ false → Contains places at.next) → Contains places (if b then target f.pc at.instr.first else at.next)
  either true h i = h refl
  either false h i = i refl

  goes_on : (b : Bool) (below : List Value) (rest left : List EntryType) → us.operands ≡ left → rest ≡ left → AreOperandsOf below rest → (b ≡ true → Contains places (target f.pc at.instr.first)) → (b ≡ false → Contains places at.next) → B (Some (b, below))
  goes_on b below rest left after same ar on off = record {
    frame = branched at f (b, below);
    is = refl;
    same = refl;
    operands = ar ∙ (same ∙ sym after);
    locals = locals;
    goes = either b on off;
  }

  one_branched : (c : Condition) (m : MovesAs (frame_effect (row.Branch c)) ts.operands us.operands) → Reaches places at (row.Branch c) f.pc → B (condition_tested c f.operands)
  one_branched when.Always m r = goes_on true f.operands ts.operands m.left m.given (same_Some ts.operands m.left m.taken) are (λ e. r.branch when.Always refl) (λ e. cc)
  one_branched (when.WithZero c) m r =
      int_taken B None [] f.operands ts.operands m.left _ are m.taken (λ a below rest ar last.
      goes_on _ below rest m.left m.given (same_Some rest m.left last) ar (λ e. r.branch (when.WithZero c) refl) (λ e. r.next refl))
  one_branched (when.OfInts c) m r =
      int_taken B None (operand.Int ∷ []) f.operands ts.operands m.left _ are m.taken (λ b more rest ar later.
      int_taken B None [] more rest m.left _ ar later (λ a below rest2 ar2 last.
      goes_on _ below rest2 m.left m.given (same_Some rest2 m.left last) ar2 (λ e. r.branch (when.OfInts c) refl) (λ e. r.next refl)))
  one_branched when.SameReference m r =
      reference_taken B None (operand.Reference ∷ []) f.operands ts.operands m.left _ are m.taken (λ b more rest is ar later.
      reference_taken B None [] more rest m.left _ ar later (λ a below rest2 is2 ar2 last.
      goes_on _ below rest2 m.left m.given (same_Some rest2 m.left last) ar2 (λ e. r.branch when.SameReference refl) (λ e. r.next refl)))
  one_branched when.OtherReference m r =
      reference_taken B None (operand.Reference ∷ []) f.operands ts.operands m.left _ are m.taken (λ b more rest is ar later.
      reference_taken B None [] more rest m.left _ ar later (λ a below rest2 is2 ar2 last.
      goes_on _ below rest2 m.left m.given (same_Some rest2 m.left last) ar2 (λ e. r.branch when.OtherReference refl) (λ e. r.next refl)))
  one_branched when.Null m r =
      reference_taken B None [] f.operands ts.operands m.left _ are m.taken (λ a below rest is ar last.
      goes_on _ below rest m.left m.given (same_Some rest m.left last) ar (λ e. r.branch when.Null refl) (λ e. r.next refl))
  one_branched when.NotNull m r =
      reference_taken B None [] f.operands ts.operands m.left _ are m.taken (λ a below rest is ar last.
      goes_on _ below rest m.left m.given (same_Some rest m.left last) ar (λ e. r.branch when.NotNull refl) (λ e. r.next refl))

  one_switched : (m : MovesAs (frame_effect row.Switch) ts.operands us.operands) → Reaches places at row.Switch f.pc → Steps f us places (switched at f)
  one_switched m r =
      int_taken (Steps f us places) None [] f.operands ts.operands m.left _ are m.taken (λ key below rest ar last.
      record {
        frame = record f { pc = target f.pc (target_of at.code at.instr key); operands = below };
        is = refl;
        same = refl;
        operands = ar ∙ (same_Some rest m.left last ∙ sym m.given);
        locals = locals;
        goes = r.switch refl key;
      })

  -- LOADS

  value_there : (i : ℕ) (t : EntryType) → AreLocalsOf f.locals ts.locals → (t ≡ entry.Free → ⊥) → get_or ts.locals i entry.Free ≡ t → type_of (local_of f i) ≡ t
  value_there i t held used e = elim (cases_lt i (length f.locals)) [
    | inl lt ↦ elim (held.each i lt) [
      | inl same ↦ same ∙ e
      | inr free ↦ absurd (used (sym e ∙ free))
    ]
    | inr past ↦ absurd (used (sym e ∙ get_or_past ts.locals i entry.Free (omega (arith, held.long))))
  ]

  abbrev L : Option (List Value) → Type 0
  L x = Steps f us places (put_some at.next (option_map (λ vs. vs ++ f.operands) x) f)

  long_loaded : (v w : Value) → type_of v ≡ entry.Long → type_of w ≡ entry.LongHigh → us.operands ≡ entry.LongHigh ∷ entry.Long ∷ ts.operands → Contains places at.next → L (loaded_long v w)
  long_loaded value.Unset w p q after goes = cc
  long_loaded (value.Int n) w p q after goes = cc
  long_loaded (value.Long n) value.Unset p q after goes = cc
  long_loaded (value.Long n) (value.Int k) p q after goes = cc
  long_loaded (value.Long n) (value.Long k) p q after goes = cc
  long_loaded (value.Long n) value.LongHigh p q after goes = given_long n f.operands ts.operands after are goes
  long_loaded (value.Long n) value.Null p q after goes = cc
  long_loaded (value.Long n) (value.Ref o) p q after goes = cc
  long_loaded value.LongHigh w p q after goes = cc
  long_loaded value.Null w p q after goes = cc
  long_loaded (value.Ref o) w p q after goes = cc

  loaded_steps : (kind : Operand) (i : ℕ) → AreLocalsOf f.locals ts.locals → holds kind ts.locals i ≡ true → us.operands ≡ operand_entries kind ++ ts.operands → Contains places at.next → L (loaded kind i f)
  loaded_steps operand.Int i held e after goes =
      let t : type_of (local_of f i) ≡ entry.Int = value_there i entry.Int held (λ q. cc) (int_is (get_or ts.locals i entry.Free) e) in
      typed_int L None (local_of f i ∷ []) [] _ (ap (λ (x : EntryType). x ∷ []) t) (λ n below none. given_one (value.Int n) f.operands ts.operands entry.Int after refl are goes)
  loaded_steps operand.Long i held e after goes =
      let p = and_parts (is_long (get_or ts.locals i entry.Free)) (is_high (get_or ts.locals (i + 1) entry.Free)) e in
      long_loaded (local_of f i) (local_of f (i + 1)) (value_there i entry.Long held (λ q. cc) (long_is (get_or ts.locals i entry.Free) p.0))
      (value_there (i + 1) entry.LongHigh held (λ q. cc) (high_is (get_or ts.locals (i + 1) entry.Free) p.1)) after goes
  loaded_steps operand.Reference i held e after goes =
      let t : type_of (local_of f i) ≡ entry.Reference = value_there i entry.Reference held (λ q. cc) (reference_is (get_or ts.locals i entry.Free) e) in
      typed_reference L None (local_of f i ∷ []) [] _ (ap (λ (x : EntryType). x ∷ []) t) (λ r below is none. given_one (local_of f i) f.operands ts.operands entry.Reference after t are goes)

-- ALL SHAPES. What leaves other local variables, and rearrangements, are handed in

module _ (returned : List ℕ) (at : Site) (f : FrameState) (ts us : TypesOf) (places : List ℕ) (are : AreOperandsOf f.operands ts.operands) (held : AreLocalsOf f.locals ts.locals) where
  same_locals : (xs ys : List EntryType) → Some xs ≡ Some ys → xs ≡ ys
  same_locals xs ys e = cc

  -- no local variable was written
  locals_are : (r : FrameRow) → locals_by at r ts.locals ≡ Some ts.locals → locals_by at r ts.locals ≡ Some us.locals → AreLocalsOf f.locals us.locals
  locals_are r a b = subst (λ (xs : List EntryType). AreLocalsOf f.locals xs) (same_locals ts.locals us.locals (sym a ∙ b)) held

  held_by : (b : Bool) (xs : List EntryType) → where_holds b ts.locals ≡ Some xs → (b ≡ true) × (where_holds b ts.locals ≡ Some ts.locals)
  held_by true xs e = (refl, refl)
  held_by false xs e = cc

  moved : (r : FrameRow) → moved_by (frame_effect r) ts.operands ≡ Some us.operands → MovesAs (frame_effect r) ts.operands us.operands
  moved r e = moves_as (frame_effect r) ts.operands us.operands e

  given_top : (r : FrameRow) (xs : List EntryType) (kind : Operand) → frame_effect r ≡ record { taken = []; given = Some kind } → MovesAs (frame_effect r) ts.operands us.operands → us.operands ≡ operand_entries kind ++ ts.operands
  given_top r xs kind is m =
      let n : MovesAs (record { taken = []; given = Some kind }) ts.operands us.operands = subst (λ (x : Effect). MovesAs x ts.operands us.operands) is m in
      n.given ∙ ap (λ (l : List EntryType). operand_entries kind ++ l) (sym (same_locals ts.operands n.left n.taken))

  pub frame_steps : (r : FrameRow) → FitsAs f.room (operands_after returned at (rows.Frame r) ts.operands) (locals_after at (rows.Frame r) ts.locals) us → Reaches places at r f.pc
      → ((kind : Operand) (local : Local) → r ≡ row.Store kind local → Steps f us places (frame_after at r f)) → (r ≡ row.Increment → Steps f us places (frame_after at r f)) → ((x : Rearrangement) → r ≡ row.Rearrange x → Steps f us places (frame_after at r f)) → Steps f us places (frame_after at r f)
  frame_steps row.Null h to store add turn = given_one at f ts us places are (locals_are row.Null refl h.locals) h.few value.Null f.operands ts.operands entry.Reference (given_top row.Null [] operand.Reference refl (moved row.Null h.operands)) refl are (to.next refl)
  frame_steps (row.Int n) h to store add turn = given_one at f ts us places are (locals_are (row.Int n) refl h.locals) h.few (value.Int n) f.operands ts.operands entry.Int (given_top (row.Int n) [] operand.Int refl (moved (row.Int n) h.operands)) refl are (to.next refl)
  frame_steps (row.Long n) h to store add turn = given_long at f ts us places are (locals_are (row.Long n) refl h.locals) h.few n f.operands ts.operands (given_top (row.Long n) [] operand.Long refl (moved (row.Long n) h.operands)) are (to.next refl)
  frame_steps row.Immediate h to store add turn = given_one at f ts us places are (locals_are row.Immediate refl h.locals) h.few (value.Int at.instr.first) f.operands ts.operands entry.Int (given_top row.Immediate [] operand.Int refl (moved row.Immediate h.operands)) refl are (to.next refl)
  frame_steps (row.Load kind local) h to store add turn =
      let q = held_by (holds kind ts.locals (local_index local at)) us.locals h.locals in
      loaded_steps at f ts us places are (locals_are (row.Load kind local) q.1 h.locals) h.few kind (local_index local at) held q.0 (given_top (row.Load kind local) [] kind refl (moved (row.Load kind local) h.operands)) (to.next refl)
  frame_steps (row.Store kind local) h to store add turn = store kind local refl
  frame_steps row.Increment h to store add turn = add refl
  frame_steps (row.Rearrange x) h to store add turn = turn x refl
  frame_steps (row.Arithmetic n o) h to store add turn = two_numbers at f ts us places are (locals_are (row.Arithmetic n o) refl h.locals) h.few n o (moved (row.Arithmetic n o) h.operands) (to.next refl)
  frame_steps (row.Negate n) h to store add turn = one_number at f ts us places are (locals_are (row.Negate n) refl h.locals) h.few n (moved (row.Negate n) h.operands) (to.next refl)
  frame_steps (row.Shift n s) h to store add turn = one_shifted at f ts us places are (locals_are (row.Shift n s) refl h.locals) h.few n s (moved (row.Shift n s) h.operands) (to.next refl)
  frame_steps (row.Convert c) h to store add turn = one_converted at f ts us places are (locals_are (row.Convert c) refl h.locals) h.few c (moved (row.Convert c) h.operands) (to.next refl)
  frame_steps row.CompareLongs h to store add turn = two_compared at f ts us places are (locals_are row.CompareLongs refl h.locals) h.few (moved row.CompareLongs h.operands) (to.next refl)
  frame_steps (row.Branch c) h to store add turn = one_branched at f ts us places are (locals_are (row.Branch c) refl h.locals) h.few c (moved (row.Branch c) h.operands) to
  frame_steps row.Switch h to store add turn = one_switched at f ts us places are (locals_are row.Switch refl h.locals) h.few (moved row.Switch h.operands) to
