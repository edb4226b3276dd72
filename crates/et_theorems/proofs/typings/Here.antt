-- A thread stands at an instruction that accepts the types of its frame: how it goes on, and what is thrown or refused there.
use Rattle.std.proofs.Common.{inl, ◌≡◌, ℕ, ◌<◌, Bool, true, false, List, [], ◌∷◌, length, Option, Some, None, IsSome, refl, sym, ◌∙◌, ap, subst, arith, Contains, zero, suc}
use Rattle.std.specs.Prelude.{if◌then◌else◌, map, slice_index_or}
use Rattle.std.proofs.lemmas.List.{length-map}
use Rattle.std.proofs.lemmas.List.Elements.{Contains-append_left}
use Rattle.et_base.proofs.Lists.{Contains-here}
use Rattle.et_base.specs.declared.value.Value.{Value}
use Rattle.et_code.specs.Rules.{offsets}
use Rattle.et_event.specs.Checks.{ill_typed_unless}
use Rattle.et_event.specs.Calls.{returned_by}
use Rattle.et_event.specs.Heap.{leaving_values}
use Rattle.et_event.specs.Moments.{Doing, Moment, current_frame, thread_of, with_frame}
use Rattle.et_event.specs.Sites.{Site, target}
use Rattle.et_event.specs.declared.rows.Row.{Row}
use Rattle.et_history.specs.soundness.Places.{IsAtRow}
use Rattle.et_state.specs.Outcome.{Outcome}
use Rattle.et_state.specs.State.{Kept}
use Rattle.et_state.specs.Threads.{FrameState, ThreadState, rest_of, with_top_of}
use Rattle.et_state.specs.Words.{thread_at}
use Rattle.et_state.specs.declared.stage.Stage.{Stage}
use Rattle.et_flow.specs.declared.types.EntryType.{EntryType}
use Rattle.et_flow.specs.declared.types.EntryType.TheVariants as entry
use Rattle.et_flow.specs.Types.{AreBelow, AreTypesBelow, IsBelow, TypesOf, type_of}
use Rattle.et_flow.specs.Flows.{AreAbove, IsThere, Typing}
use Rattle.et_verify.specs.Leads.{goes_past, next_places}
use Rattle.et_verify.specs.Steps.{locals_after, operands_after, types_after}
use Rattle.et_flow.proofs.Below.{below_trans}
use Rattle.et_verify.proofs.Monotone.{AreSomeBelow, after_below}
use Rattle.et_verify.proofs.Taken.{FitsAs}
use Rattle.et_theorems.specs.typings.Refused.{FailsRow}
use Rattle.et_theorems.specs.typings.Typed.{AreTypedFrames, Holds, IsTypedFrame, IsTypedThread, Typings, Whole, part_below, part_of}
use Rattle.et_theorems.specs.typings.Values.{AreLocalsOf, AreOperandsOf, type_at, types_of}
use Rattle.et_theorems.proofs.typings.Ways.{Calm}
use Rattle.et_theorems.proofs.typings.Own.{AsBefore, LeavesTyped, Own, first_typed, same_thread, started_still, thread_own}

pub record Here (e : Moment) (typings : Typings) (m : ℕ) (at : Site) (r : Row) (ts us : TypesOf) : Type 0 where
  pub calm : Calm e typings
  pub row : IsAtRow e at r
  pub method : (current_frame e).method ≡ Some m
  pub typed_at : typings m (current_frame e).pc ≡ Some ts
  pub operands : AreOperandsOf (current_frame e).operands ts.operands
  pub locals : AreLocalsOf (current_frame e).locals ts.locals
  pub accepted : types_after (current_frame e).room (returned_by e) at r ts ≡ Some us
  pub after : FitsAs (current_frame e).room (operands_after (returned_by e) at r ts.operands) (locals_after at r ts.locals) us
  pub next : (q : ℕ) → Contains (next_places (current_frame e).pc at r) q → IsThere (typings m) q us

-- LOCAL VARIABLES of types are of the types above

pub locals_above : (vs : List Value) (xs ys : List EntryType) → AreLocalsOf vs xs → AreBelow xs ys → AreLocalsOf vs ys
locals_above vs xs ys h b = record {
  long = h.long ∙ b.long;
  each = λ i lt. below_trans (type_at vs i) (slice_index_or xs i entry.Free) (slice_index_or ys i entry.Free) (h.each i lt) (b.each i (omega (arith, lt, h.long)));
  paired = h.paired;
}

-- a place that has types above those of the frame
pub there_holds : (typing : Typing) (f : FrameState) (us : TypesOf) → IsThere typing f.pc us → AreOperandsOf f.operands us.operands → AreLocalsOf f.locals us.locals → Holds typing f
there_holds typing f us there operands locals = by (typing f.pc) refl there
  where
    by : (o : Option TypesOf) → typing f.pc ≡ o → AreAbove us o → Holds typing f
    by None is h = absurd h
    by (Some vs) is h = record { types = vs; at_pc = is; locals = locals_above f.locals us.locals vs.locals locals h.locals; operands = operands ∙ h.operands }

-- a list of values of types, as types
pub values_below : (vs : List Value) (ts : List EntryType) → AreLocalsOf vs ts → AreBelow (map type_of vs) ts
values_below vs ts h = record {
  long = length-map vs type_of ∙ h.long;
  each = λ i lt. subst (λ (t : EntryType). IsBelow t (slice_index_or ts i entry.Free)) (sym (mapped vs i)) (h.each i (omega (arith, lt, length-map vs type_of)));
}
  where
    mapped : (xs : List Value) (i : ℕ) → slice_index_or (map type_of xs) i entry.Free ≡ type_at xs i
    mapped [] i = refl
    mapped (x ∷ xs) zero = refl
    mapped (x ∷ xs) (suc i) = mapped xs i

-- the place behind an instruction is one to which it leads
pub behind_there : (pc : ℕ) (at : Site) (r : Row) → goes_past r ≡ true → Contains (next_places pc at r) at.next
behind_there pc at r past = Contains-append_left (if goes_past r then at.next ∷ [] else []) (map (target pc) (offsets at.code at.instr)) at.next (there (goes_past r) past)
  where
    there : (b : Bool) → b ≡ true → Contains (if b then at.next ∷ [] else []) at.next
    there true q = Contains-here at.next []
    there false q = cc

some_passes : (o : Option TypesOf) (us : TypesOf) → AreSomeBelow o (Some us) → IsSome o
some_passes None us h = absurd h
some_passes (Some ts) us h = refl

module _ (e : Moment) (typings : Typings) (m : ℕ) (at : Site) (r : Row) (ts us : TypesOf) (here : Here e typings m at r ts us) where
  abbrev P : Outcome Kept → Type 0
  P o = LeavesTyped e typings o

  started : e.thread < length e.before.guest.threads
  started = here.calm.started

  framed : 0 < length (thread_of e).frames
  framed = here.row.stands.frame.frame

  -- check 1 passes with the very values of the frame
  passes : IsSome (types_after (current_frame e).room (returned_by e) at r (types_of (current_frame e)))
  passes =
      let below : AreTypesBelow (types_of (current_frame e)) ts = record { operands = here.operands; locals = values_below (current_frame e).locals ts.locals here.locals } in
      some_passes (types_after (current_frame e).room (returned_by e) at r (types_of (current_frame e))) us
      (subst (λ (o : Option TypesOf). AreSomeBelow (types_after (current_frame e).room (returned_by e) at r (types_of (current_frame e))) o) here.accepted
      (after_below (current_frame e).room (returned_by e) at r (types_of (current_frame e)) ts below))

  -- WHAT REFUSES
  pub unless_refused : (b : Bool) (go : Outcome Kept) → (b ≡ false → FailsRow e at r) → (b ≡ true → P go) → P (ill_typed_unless e b go)
  unless_refused true go fails h = h refl
  unless_refused false go fails h = inl (record { at = at; row = r; stands = here.row; passes = passes; fails = fails refl })

  pub never_refused : (b : Bool) (go : Outcome Kept) → b ≡ true → P go → P (ill_typed_unless e b go)
  never_refused true go is h = h
  never_refused false go is h = absurd (false_true is)
    where
      false_true : false ≡ true → ⊥
      false_true q = cc

  -- HOW IT GOES ON

  -- the frames are these then
  pub frames_own : (f : FrameState) (d : Doing) → AsBefore e d → IsTypedFrame e.program typings f f.method Whole → f.stage ≡ (current_frame e).stage → Own e typings (with_frame e f d)
  frames_own f d same typed stage =
      thread_own e typings (with_top_of (thread_at d.state.guest e.thread) f) d (started_still e d started same)
      (subst (λ (x : ThreadState). IsTypedThread e.program typings (with_top_of x f)) (sym (same_thread e d same))
      (subst (λ (o : Option ℕ). AreTypedFrames e.program typings (part_of o) (f ∷ rest_of (thread_of e).frames)) (sym here.calm.none)
      (typed, subst (λ (s : Stage). AreTypedFrames e.program typings (part_below s) (rest_of (thread_of e).frames)) (sym stage) (first_typed e.program typings Whole (thread_of e).frames framed here.calm.frames).1)))

  holds_frame : (f : FrameState) (o : Option ℕ) → o ≡ Some m → Holds (typings m) f → IsTypedFrame e.program typings f o Whole
  holds_frame f o is h = subst (λ (x : Option ℕ). IsTypedFrame e.program typings f x Whole) (sym is) h

  -- the topmost frame became this one, at one of the places to which the instruction leads
  pub goes_on : (f : FrameState) (d : Doing) → AsBefore e d → f ≡ record (current_frame e) { pc = f.pc; locals = f.locals; operands = f.operands }
      → Contains (next_places (current_frame e).pc at r) f.pc → AreOperandsOf f.operands us.operands → AreLocalsOf f.locals us.locals → Own e typings (with_frame e f d)
  goes_on f d same is place operands locals =
      frames_own f d same (holds_frame f f.method (ap (λ (x : FrameState). x.method) is ∙ here.method) (there_holds (typings m) f us (here.next f.pc place) operands locals)) (ap (λ (x : FrameState). x.stage) is)

  -- .. behind it, with other operands
  behind : goes_past r ≡ true → Contains (next_places (current_frame e).pc at r) at.next
  behind past = behind_there (current_frame e).pc at r past

  some_locals : (xs ys : List EntryType) → Some xs ≡ Some ys → xs ≡ ys
  some_locals xs ys q = cc

  pub leaves : (ops : List Value) (d : Doing) → AsBefore e d → goes_past r ≡ true → locals_after at r ts.locals ≡ Some ts.locals → AreOperandsOf ops us.operands → Own e typings (leaving_values e at ops d)
  leaves ops d same past plain operands =
      goes_on (record (current_frame e) { pc = at.next; operands = ops }) d same refl (behind past) operands
      (subst (λ (xs : List EntryType). AreLocalsOf (current_frame e).locals xs) (some_locals ts.locals us.locals (sym plain ∙ here.after.locals)) here.locals)
