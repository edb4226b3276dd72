-- The rows of methods of texts, and that of System.out, leave a sound state.
use Rattle.std.proofs.Common.{◌≡◌, ℕ, ◌+◌, ◌≤◌, ◌++◌, ◌∷◌, ◌&&◌, Bool, true, false, List, [], drop, length, Option, Some, None, refl, ◌∙◌, ap, arith}
use Rattle.std.specs.Prelude.{ℤ, codes, nat_le, pos, slice_index_or, if◌then◌else◌}
use Rattle.std.specs.Option.{option_map_or}
use Rattle.std.proofs.lemmas.Bool.{and_parts, leb-true}
use Rattle.std.proofs.lemmas.List.{length-append}
use Rattle.et_base.specs.declared.value.Value.{Value}
use Rattle.et_base.specs.declared.value.Value.TheVariants as value
use Rattle.et_class.specs.Descriptors.{MethodType, method_type}
use Rattle.et_heap.specs.Objects.{referent_of}
use Rattle.et_program.specs.BootTexts.TextMethod.{TextMethod}
use Rattle.et_program.specs.BootTexts.TextMethod.TheVariants.{Length, CharAt, Equals, Begin, BeginWith, ToString, Append, Print, PrintLine, EndLine}
use Rattle.et_program.specs.Entries.{Linked, method_at}
use Rattle.et_state.specs.Outcome.{Outcome}
use Rattle.et_state.specs.Outcome as outcome
use Rattle.et_state.specs.Sound.{IsSound}
use Rattle.et_state.specs.Spoken.{spoken, text_of}
use Rattle.et_state.specs.State.{Kept}
use Rattle.et_state.specs.Texts.{Texts, longest_text, most_units, text_units, with_text}
use Rattle.et_event.specs.BuiltIns.{answering, argument}
use Rattle.et_event.specs.Calls.{are_arguments, arguments_of, entry_count, is_static_call}
use Rattle.et_event.specs.Checks.{Reference, ill_typed_unless, not_null, throws_unless, with_int}
use Rattle.et_event.specs.Errors.{class_called}
use Rattle.et_event.specs.Heap.{truth}
use Rattle.et_event.specs.Kinds.{in_bounds}
use Rattle.et_event.specs.Moments.{Doing, Moment, begins, current_frame, fits_heap, goes, ill_typed, instance_made, next_object}
use Rattle.et_event.specs.Operands.{returned_width}
use Rattle.et_event.specs.Runnable.{IsRunnable}
use Rattle.et_event.specs.Selected.{TextCall}
use Rattle.et_event.specs.Sites.{Site, natural_of}
use Rattle.et_event.specs.Sound.{IsSoundFor, returned_of}
use Rattle.et_event.specs.TextRows.{ends_with_texts, is_fit_text, is_text_like, rewrites, shown, text_done, text_given, text_row}
use Rattle.et_event.specs.declared.errors.GuestError.{GuestError}
use Rattle.et_event.specs.declared.errors.GuestError.TheVariants.{NullPointerException, OutOfMemoryError, StringIndexOutOfBoundsException}
use Rattle.et_event.proofs.Beside.{sound-spoken, held-spoken}
use Rattle.et_history.specs.soundness.Outcomes.{KeepsSound}
use Rattle.et_history.specs.soundness.WellFormed.{IsUnderWayAt, IsWellFormed, StandsAt}
use Rattle.et_history.proofs.soundness.Arguments.{AreArguments, arguments_are}
use Rattle.et_history.proofs.soundness.Fields.{going, leaving_well}
use Rattle.et_history.proofs.soundness.Outcomes.{goes_sound, instance_well, throws_sound}
use Rattle.et_history.proofs.texts.Called.{IsSelected, IsTextCall, is_selected}
use Rattle.et_history.proofs.texts.Rooms.{text_entries, text_fits}

-- where what is referred to is held, the state is sound, also with other texts
pub sound_with_texts : (p : Linked) (s : Kept) (x : Texts) → (IsSound s → IsSoundFor p s) → IsSound (spoken x s) → IsSoundFor p (spoken x s)
sound_with_texts p s x h held = sound-spoken p s x (h (held-spoken (spoken x s) s.guest.texts held))

module _ (e : Moment) (at : Site) (here : StandsAt e at) (may : IsRunnable e.program) where
  abbrev p : Linked
  p = e.program

  under_way : IsUnderWayAt e (begins e)
  under_way = going e at here

  -- WHAT REFUSES

  unless_thrown : (error : GuestError) (b : Bool) (go : Outcome Kept) → (b ≡ true → KeepsSound p go) → KeepsSound p (throws_unless e (begins e) error b go)
  unless_thrown error true go h = h refl
  unless_thrown error false go h = throws_sound e error (begins e) may.makes under_way

  where_not_null : (r : Reference) (go : ℕ → Outcome Kept) → ((o : ℕ) → KeepsSound p (go o)) → KeepsSound p (not_null e (begins e) r go)
  where_not_null None go h = throws_sound e NullPointerException (begins e) may.makes under_way
  where_not_null (Some o) go h = h o

  where_int : (vs : List Value) (go : ℤ → List Value → Outcome Kept) → ((i : ℤ) (below : List Value) → KeepsSound p (go i below)) → KeepsSound p (with_int (ill_typed e) vs go)
  where_int (value.Int n ∷ below) go h = h n below
  where_int other go h = tt

  unless_ill_typed : (b : Bool) (go : Outcome Kept) → (b ≡ true → KeepsSound p go) → KeepsSound p (ill_typed_unless e b go)
  unless_ill_typed true go h = h refl
  unless_ill_typed false go h = tt

  -- A TEXT IS GIVEN

  given_sound : (d : Doing) (o : ℕ) (units : List ℕ) → fits_heap d.state.heap ≡ true → IsWellFormed p d.state → KeepsSound p (goes (text_given o units d))
  given_sound d o units fit well held = sound_with_texts p d.state (with_text o units d.state.guest.texts) (goes_sound p d fit well) held

  ends_given : (d : Doing) (o : ℕ) (units : List ℕ) → IsWellFormed p d.state → KeepsSound p (ends_with_texts (text_given o units d))
  ends_given d o units well = by (fits_heap d.state.heap && few) refl
    where
      few : Bool
      few = nat_le (text_units (with_text o units d.state.guest.texts)) most_units

      by : (b : Bool) → (fits_heap d.state.heap && few) ≡ b → KeepsSound p (if b then goes (text_given o units d) else outcome.ObjectLimit)
      by false is = tt
      by true is = given_sound d o units (and_parts (fits_heap d.state.heap) few is).0 well

  rewrites_sound : (d : Doing) (o : ℕ) (units : List ℕ) → IsWellFormed p d.state → KeepsSound p (rewrites e (begins e) o units d)
  rewrites_sound d o units well = unless_thrown OutOfMemoryError (nat_le (length units) longest_text) (ends_with_texts (text_given o units d)) (λ short. ends_given d o units well)

  module _ (arguments : List Value) where
    -- WHAT IS ANSWERED has room
    abbrev HasRoom : List Value → Type 0
    HasRoom values = length (drop (length arguments) (current_frame e).operands) + length values ≤ (current_frame e).room

    answered : (values : List Value) → HasRoom values → IsWellFormed p (answering e at arguments values (begins e)).state
    answered values room =
        let below : List Value = drop (length arguments) (current_frame e).operands in
        leaving_well e at (values ++ below) (begins e) here (omega (arith, room, length-append values below)) under_way.well refl

    answers : (values : List Value) → HasRoom values → KeepsSound p (goes (answering e at arguments values (begins e)))
    answers values room = goes_sound p (answering e at arguments values (begins e)) here.sound.fits (answered values room)

    -- .. a string that is made
    made : HasRoom (value.Ref (next_object (begins e)) ∷ []) → IsWellFormed p (answering e at arguments (value.Ref (next_object (begins e)) ∷ []) (instance_made e (class_called p (codes "java/lang/String")) (begins e))).state
    made room =
        let below : List Value = drop (length arguments) (current_frame e).operands in
        let values : List Value = value.Ref (next_object (begins e)) ∷ [] in
        let class : ℕ = class_called p (codes "java/lang/String") in
        leaving_well e at (values ++ below) (instance_made e class (begins e)) here (omega (arith, room, length-append values below)) (instance_well e class (begins e) may.makes.string under_way.well) refl

    -- THE ROWS
    done_sound : (o : ℕ) (m : TextMethod) → length (drop (length arguments) (current_frame e).operands) + text_entries m ≤ (current_frame e).room → KeepsSound p (text_done e at (begins e) arguments o m)
    done_sound o Length room = answers (value.Int (pos (length (text_of e.before o))) ∷ []) room
    done_sound o CharAt room =
        where_int (argument arguments 1 ∷ []) _ (λ i none.
        unless_thrown StringIndexOutOfBoundsException (in_bounds i (length (text_of e.before o))) _ (λ inside. answers (value.Int (pos (slice_index_or (text_of e.before o) (natural_of i) 0)) ∷ []) room))
    done_sound o Equals room = answers (truth (is_text_like e o (argument arguments 1)) ∷ []) room
    done_sound o Begin room = given_sound (answering e at arguments [] (begins e)) o [] here.sound.fits (answered [] room)
    done_sound o BeginWith room = where_not_null (referent_of (argument arguments 1)) _ (λ x. rewrites_sound (answering e at arguments [] (begins e)) o (text_of e.before x) (answered [] room))
    done_sound o ToString room =
        rewrites_sound (answering e at arguments (value.Ref (next_object (begins e)) ∷ []) (instance_made e (class_called p (codes "java/lang/String")) (begins e))) (next_object (begins e)) (text_of e.before o) (made room)
    done_sound o (Append kind) room =
        rewrites_sound (answering e at arguments (value.Ref o ∷ []) (begins e)) o (text_of e.before o ++ shown e.before kind (argument arguments 1)) (answered (value.Ref o ∷ []) room)
    done_sound o (Print kind) room = answers [] room
    done_sound o (PrintLine kind) room = answers [] room
    done_sound o EndLine room = answers [] room

-- what the method answers has room
answer_room : (e : Moment) (call : TextCall) (c : IsTextCall e call) → length (drop (length call.arguments) (current_frame e).operands) + text_entries call.method ≤ (current_frame e).room
answer_room e call c =
    let p : Linked = e.program in
    let s : IsSelected e call c = is_selected e call c in
    let ops : List Value = (current_frame e).operands in
    let count : ℕ = entry_count (is_static_call c.kind) c.type in
    let fits = leb-true (length (drop count ops) + returned_width c.type.returned) (current_frame e).room (and_parts (are_arguments (is_static_call c.kind) c.type (arguments_of e count)) (nat_le (length (drop count ops) + returned_width c.type.returned) (current_frame e).room) c.fits).1 in
    let are : AreArguments ops count (arguments_of e count) = arguments_are ops count in
    let left : length (drop (length call.arguments) ops) ≡ length (drop count ops) = ap (λ (vs : List Value). length (drop (length vs) ops)) c.arguments ∙ are.left in
    let typed : method_type (method_at p c.selected).descriptor ≡ Some c.type = ap method_type s.method.descriptor ∙ c.typed in
    let width : returned_width (returned_of (method_at p c.selected)) ≡ returned_width c.type.returned = ap (λ (o : Option MethodType). returned_width (option_map_or (λ (t : MethodType). t.returned) o [])) typed in
    let few : text_entries call.method ≤ returned_width (returned_of (method_at p c.selected)) = text_fits p c.selected call.method c.method in
    omega (arith, fits, left, width, few)

pub row_keeps_sound : (e : Moment) (call : TextCall) → IsTextCall e call → StandsAt e call.at → IsRunnable e.program → (r : Option ℕ) → KeepsSound e.program (text_row e call r)
row_keeps_sound e call c here may None = tt
row_keeps_sound e call c here may (Some o) = unless_ill_typed e call.at here may (is_fit_text e (begins e) call.arguments o call.method) _ (λ fit. done_sound e call.at here may call.arguments o call.method (answer_room e call c))
