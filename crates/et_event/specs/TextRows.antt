-- THE METHODS OF STRINGS, BUILDERS AND PRINT STREAMS. Each takes one event and no frame, as the other built-in methods.
use Rattle.std.specs.Prelude.{ℕ, ◌==◌, ◌&&◌, nat_le, pos, Bool, true, false, if◌then◌else◌, List, [], ◌∷◌, ◌++◌, length, codes, Option, Some, None, slice_index_or, unwrap_or, encode_utf8}
use Rattle.std.specs.Char.Utf16.{utf16_chars}
use Rattle.std.specs.Fmt.{signed_decimal}
use Rattle.std.specs.List.{flat_map}
use Rattle.std.specs.Str.{bytes_eq}
use Rattle.et_base.specs.Integers.{to_char}
use Rattle.et_base.specs.declared.value.Value.{Value}
use Rattle.et_base.specs.declared.value.Value.TheVariants as value
use Rattle.et_heap.specs.Objects.{referent_of}
use Rattle.et_state.specs.State.{Kept}
use Rattle.et_state.specs.Spoken.{text_of}
use Rattle.et_state.specs.Texts.{with_text, text_units, longest_text, most_units}
use Rattle.et_state.specs.Outcome.{Outcome, Goes, ObjectLimit}
use Rattle.et_event.specs.declared.errors.GuestError.TheVariants.{OutOfMemoryError, StringIndexOutOfBoundsException}
use Rattle.et_program.specs.BootTexts.Shown.{Shown}
use Rattle.et_program.specs.BootTexts.Shown.TheVariants.{Text, Int, Long, Char, Truth}
use Rattle.et_program.specs.BootTexts.TextMethod.{TextMethod}
use Rattle.et_program.specs.BootTexts.TextMethod.TheVariants.{Length, CharAt, Equals, Begin, BeginWith, ToString, Append, Print, PrintLine, EndLine}
use Rattle.et_event.specs.BuiltIns.{argument, answering, is_object_of_class, is_of_its_class, text_argument}
use Rattle.et_event.specs.Checks.{ill_typed_unless, not_null, throws_unless, with_int}
use Rattle.et_event.specs.Errors.{class_called}
use Rattle.et_event.specs.Heap.{truth}
use Rattle.et_event.specs.Kinds.{in_bounds}
use Rattle.et_event.specs.Moments.{Moment, Doing, begins, doing_with_guest, fits_heap, goes, ill_typed, instance_made, next_object, object_class}
use Rattle.et_event.specs.Plain.{equal_int}
use Rattle.et_event.specs.Selected.{TextCall}
use Rattle.et_event.specs.Sites.{Site, natural_of}

-- WHAT IS WRITTEN of units: UTF-8 (RFC 3629), and `?` (63) for a surrogate that has no partner
abbrev pub written_units : List ℕ → List ℕ
written_units units = flat_map (λ c. encode_utf8 (unwrap_or c 63)) (utf16_chars units)

-- the units that an argument is shown as (JLS 5.1.11)
abbrev pub shown : Kept → Shown → Value → List ℕ
shown s Text (value.Ref o) = text_of s o
shown s Text other = codes "null"
shown s Int (value.Int n) = signed_decimal n
shown s Int other = []
shown s Long (value.Long n) = signed_decimal n
shown s Long other = []
shown s Char (value.Int n) = natural_of (to_char n) ∷ []
shown s Char other = []
shown s Truth (value.Int n) = if equal_int n (pos 0) then codes "false" else codes "true"
shown s Truth other = []

-- a text is given to an object
abbrev pub text_given : ℕ → List ℕ → Doing → Doing
text_given o units d = doing_with_guest (record d.state.guest { texts = with_text o units d.state.guest.texts }) d

-- it is done, where all objects, slots and units fit
abbrev pub ends_with_texts : Doing → Outcome Kept
ends_with_texts d = if fits_heap d.state.heap && nat_le (text_units d.state.guest.texts) most_units then Goes d.state d.records else ObjectLimit

-- a text that would be too long is none
abbrev pub rewrites : Moment → Doing → ℕ → List ℕ → Doing → Outcome Kept
rewrites e d o units go = throws_unless e d OutOfMemoryError (nat_le (length units) longest_text) (ends_with_texts (text_given o units go))

-- what is to be a string is null or one, and what is to be a string builder is one. The method that was resolved has tested
-- its arguments before; this one may be selected where one of an interface of a file was resolved.
abbrev pub writes_text : TextMethod → Bool
writes_text Begin = true
writes_text BeginWith = true
writes_text (Append kind) = true
writes_text other = false

abbrev pub is_fit_text : Moment → Doing → List Value → ℕ → TextMethod → Bool
is_fit_text e d arguments o m =
    is_of_its_class e d arguments (text_argument m)
    && (if writes_text m then is_object_of_class e d o (codes "java/lang/StringBuilder") else true)

-- a string of the same units
abbrev pub is_text_like : Moment → ℕ → Value → Bool
is_text_like e o (value.Ref x) = (object_class (begins e) x == class_called e.program (codes "java/lang/String")) && bytes_eq (text_of e.before o) (text_of e.before x)
is_text_like e o other = false

-- WHAT IS DONE, on object o, where the event d has begun
abbrev pub text_done : Moment → Site → Doing → List Value → ℕ → TextMethod → Outcome Kept
text_done e at d arguments o Length = goes (answering e at arguments (value.Int (pos (length (text_of e.before o))) ∷ []) d)
text_done e at d arguments o CharAt =
    with_int (ill_typed e) (argument arguments 1 ∷ []) (λ i none.
    throws_unless e d StringIndexOutOfBoundsException (in_bounds i (length (text_of e.before o)))
    (goes (answering e at arguments (value.Int (pos (slice_index_or (text_of e.before o) (natural_of i) 0)) ∷ []) d)))
text_done e at d arguments o Equals = goes (answering e at arguments (truth (is_text_like e o (argument arguments 1)) ∷ []) d)
text_done e at d arguments o Begin = goes (text_given o [] (answering e at arguments [] d))
text_done e at d arguments o BeginWith =
    not_null e d (referent_of (argument arguments 1)) (λ x. rewrites e d o (text_of e.before x) (answering e at arguments [] d))
text_done e at d arguments o ToString =
    let n = next_object d in
    rewrites e d n (text_of e.before o) (answering e at arguments (value.Ref n ∷ []) (instance_made e (class_called e.program (codes "java/lang/String")) d))
text_done e at d arguments o (Append kind) =
    rewrites e d o (text_of e.before o ++ shown e.before kind (argument arguments 1)) (answering e at arguments (value.Ref o ∷ []) d)
text_done e at d arguments o (Print kind) = goes (answering e at arguments [] d)
text_done e at d arguments o (PrintLine kind) = goes (answering e at arguments [] d)
text_done e at d arguments o EndLine = goes (answering e at arguments [] d)

-- no call is let through without a receiver
abbrev pub text_row : Moment → TextCall → Option ℕ → Outcome Kept
text_row e call None = ill_typed e
text_row e call (Some o) = ill_typed_unless e (is_fit_text e (begins e) call.arguments o call.method) (text_done e call.at (begins e) call.arguments o call.method)

-- the bytes that it prints
abbrev pub said_of_method : Moment → Value → TextMethod → List ℕ
said_of_method e v (Print kind) = written_units (shown e.before kind v)
said_of_method e v (PrintLine kind) = written_units (shown e.before kind v) ++ 10 ∷ []
said_of_method e v EndLine = 10 ∷ []
said_of_method e v other = []

abbrev pub said_in : Moment → TextCall → List ℕ
said_in e call = said_of_method e (argument call.arguments 1) call.method
