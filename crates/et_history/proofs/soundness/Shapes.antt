-- The plain rows by their shapes: what holds where there is no meaning, of an event that changes the topmost frame, of one
-- that makes a string and of one that throws holds of each.
use Rattle.std.proofs.Common.{◌≡◌, ℕ, ◌<◌, Bool, true, false, ltb, List, ◌∷◌, length, Option, Some, None, refl, sym, subst, arith}
use Rattle.std.proofs.lemmas.Bool.{ltb-true}
use Rattle.std.specs.Prelude.{ℤ, IfSome, if◌then◌else◌, is_some, codes}
use Rattle.std.specs.Int.{w32, w64}
use Rattle.et_base.specs.declared.value.Value.{Value}
use Rattle.et_base.specs.declared.value.Value.TheVariants.{Int, Long, LongHigh, Ref}
use Rattle.et_program.specs.Entries.{Linked}
use Rattle.et_state.specs.Threads.{FrameState, has_frame}
use Rattle.et_state.specs.State.{Kept}
use Rattle.et_state.specs.Words.{thread_at, top, with_string, HasFrame}
use Rattle.et_state.specs.Interned.{object_of}
use Rattle.et_state.specs.Outcome.{Outcome}
use Rattle.et_event.specs.declared.rows.FrameRow.{FrameRow}
use Rattle.et_event.specs.declared.rows.Number.{Number}
use Rattle.et_event.specs.declared.rows.Number.TheVariants as number
use Rattle.et_event.specs.declared.rows.Division.{Division}
use Rattle.et_event.specs.declared.rows.Row.{Row}
use Rattle.et_event.specs.declared.rows.Row.TheVariants as row
use Rattle.et_event.specs.declared.errors.GuestError.TheVariants.{ArithmeticException}
use Rattle.et_event.specs.Errors.{class_called, error_class}
use Rattle.et_event.specs.Event.{does}
use Rattle.et_event.specs.Moments.{Moment, Doing, ill_typed, doing_with_guest, begins, with_frame, ends_event, throws, instance_made, pending_now, entry_given_up, next_object}
use Rattle.et_event.specs.Checks.{ill_typed_unless}
use Rattle.et_event.specs.Plain.{put, frame_after, on_frame, constant, divided, quotient, divides}
use Rattle.et_event.specs.Sites.{Site, constant_at, pool_index, LoadedConstant, AnInt, ALong, AString}
use Rattle.et_event.specs.Strings.{interned, string_object}
use Rattle.et_event.specs.PlainRows.{is_plain}
use Rattle.et_event.proofs.SiteAnswers.{moment}
use Rattle.et_event.proofs.Taken.{taken_int, taken_long}
use Rattle.et_history.proofs.soundness.Outcomes.{if_case}
use Rattle.et_event.proofs.Throwing.{framed}

-- an ArithmeticException is thrown
abbrev pub error_thrown : Linked → Kept → ℕ → Doing
error_thrown p s t =
    let e = moment p s t in
    pending_now e (next_object (begins e)) (instance_made e (error_class p ArithmeticException) (begins e))

-- the object of a string is made
abbrev pub string_made : Linked → Kept → ℕ → List ℕ → Doing
string_made p s t bytes =
    let e = moment p s t in
    let x : Doing = instance_made e (class_called p (codes "java/lang/String")) (begins e) in
    doing_with_guest (with_string x.state.guest bytes (next_object (begins e))) x

-- P holds of the outcome of each shape, where K holds of the topmost frame after it
pub record HoldsOfShapes (P : Outcome Kept → Type 0) (K : FrameState → Type 0) (p : Linked) (s : Kept) (t next : ℕ) : Type 0 where
  pub no_meaning : P (ill_typed (moment p s t))
  pub operands : (vs : List Value) → IfSome (put next vs (top s.guest t)) K
  pub pushed : (v : Value) → length (top s.guest t).operands < (top s.guest t).room → K (record (top s.guest t) { pc = next; operands = v ∷ (top s.guest t).operands })
  pub framed : (f : FrameState) → K f → P (on_frame (moment p s t) (Some f))
  pub thrown : P (ends_event (error_thrown p s t))
  pub known : (f : FrameState) → K f → P (ends_event (with_frame (moment p s t) f (begins (moment p s t))))
  pub made : (bytes : List ℕ) (f : FrameState) → K f → P (ends_event (with_frame (moment p s t) f (string_made p s t bytes)))

not_given_up : (d x : Doing) (b : Bool) → b ≡ true → (if b then d else x) ≡ d
not_given_up d x true h = refl
not_given_up d x false h = cc

unless_case : (P : Outcome Kept → Type 0) (e : Moment) (b : Bool) (o : Outcome Kept) → P (ill_typed e) → (b ≡ true → P o) → P (ill_typed_unless e b o)
unless_case P e true o n h = h refl
unless_case P e false o n h = n

module _ (P : Outcome Kept → Type 0) (K : FrameState → Type 0) (p : Linked) (s : Kept) (t : ℕ) (has : HasFrame s.guest t) (at : Site) (holds : HoldsOfShapes P K p s t at.next) where
  some_frame : (o : Option FrameState) → IfSome o K → P (on_frame (moment p s t) o)
  some_frame None h = holds.no_meaning
  some_frame (Some f) h = holds.framed f h

  throwing : P (throws (moment p s t) ArithmeticException (begins (moment p s t)))
  throwing =
      let e = moment p s t in
      let given : entry_given_up e (begins e) ≡ begins e = not_given_up (begins e) _ (has_frame (thread_at s.guest t).frames) (framed (thread_at s.guest t).frames has.frame) in
      subst (λ (x : Doing). P (ends_event (pending_now e (next_object (begins e)) (instance_made e (error_class p ArithmeticException) x)))) (sym given) holds.thrown

  stringing : (bytes : List ℕ) → length (top s.guest t).operands < (top s.guest t).room
      → P (ends_event (with_frame (moment p s t) (record (top s.guest t) { pc = at.next; operands = Ref (string_object bytes (interned (moment p s t) bytes (begins (moment p s t)))) ∷ (top s.guest t).operands }) (interned (moment p s t) bytes (begins (moment p s t)))))
  stringing bytes lt =
      let e = moment p s t in
      let f = top s.guest t in
      if_case (λ (d : Doing). P (ends_event (with_frame e (record f { pc = at.next; operands = Ref (string_object bytes d) ∷ f.operands }) d))) (is_some (object_of s.guest.interned bytes)) (begins e) (string_made p s t bytes)
      (holds.known _ (holds.pushed (Ref (string_object bytes (begins e))) lt)) (holds.made bytes _ (holds.pushed (Ref (string_object bytes (string_made p s t bytes))) lt))

  of_constant : (o : Option LoadedConstant) → P (constant (moment p s t) at o)
  of_constant None = holds.no_meaning
  of_constant (Some (AnInt n)) = let f = top s.guest t in some_frame (put at.next (Int n ∷ f.operands) f) (holds.operands (Int n ∷ f.operands))
  of_constant (Some (ALong n)) = let f = top s.guest t in some_frame (put at.next (LongHigh ∷ Long n ∷ f.operands) f) (holds.operands (LongHigh ∷ Long n ∷ f.operands))
  of_constant (Some (AString bytes)) =
      let f = top s.guest t in
      unless_case P (moment p s t) (ltb (length f.operands) f.room) _ holds.no_meaning (λ e. stringing bytes (ltb-true (length f.operands) f.room e))

  of_quotient : (o : Option ℤ) (operands : ℤ → List Value) → P (quotient (moment p s t) at o operands)
  of_quotient None operands = throwing
  of_quotient (Some n) operands = some_frame (put at.next (operands n) (top s.guest t)) (holds.operands (operands n))

  of_division : (n : Number) (o : Division) → P (divides (moment p s t) at n o)
  of_division number.Int o =
      let ops = (top s.guest t).operands in
      taken_int P (ill_typed (moment p s t)) ops (length ops) _ holds.no_meaning (omega arith)
      (λ y more few. taken_int P (ill_typed (moment p s t)) more (length ops) _ holds.no_meaning few (λ x below fewer. of_quotient (divided w32 o x y) (λ n. Int n ∷ below)))
  of_division number.Long o =
      let ops = (top s.guest t).operands in
      taken_long P (ill_typed (moment p s t)) ops (length ops) _ holds.no_meaning (omega arith)
      (λ y more few. taken_long P (ill_typed (moment p s t)) more (length ops) _ holds.no_meaning few (λ x below fewer. of_quotient (divided w64 o x y) (λ n. LongHigh ∷ Long n ∷ below)))

  pub by_shape : (r : Row) → is_plain r ≡ true → ((x : FrameRow) → r ≡ row.Frame x → IfSome (frame_after at x (top s.guest t)) K) → P (does (moment p s t) at r)
  by_shape (row.Frame x) plain kept = some_frame (frame_after at x (top s.guest t)) (kept x refl)
  by_shape row.PoolConstant plain kept = of_constant (constant_at at.pool (pool_index at))
  by_shape (row.Divide n o) plain kept = of_division n o
  by_shape (row.Heap x) plain kept = cc
  by_shape (row.Call x) plain kept = cc
  by_shape row.Throw plain kept = cc
  by_shape (row.Monitor x) plain kept = cc
