-- Whether the fields of a line that has a record are in their ranges is told by its numbers and the lengths of its names.
use Rattle.std.proofs.Common.{◌≡◌, ℕ, ◌<◌, ◌≤◌, Bool, List, length, sym, subst, arith, inl, inr}
use Rattle.std.specs.Prelude.{◌↔◌, IsTrue}
use Rattle.std.specs.List.{AllByRecursion}
use Rattle.std.proofs.lemmas.Bool.{cases_lt}
use Rattle.et_base.specs.declared.line.TraceLine.{TraceLine}
use Rattle.et_base.specs.declared.line.TraceLine.TheVariants.{Header, Class, Method, Alloc, Update, Enter, Exit, Unwind, Flush, Death, Finish}
use Rattle.et_text.specs.Ranges.{greatest_event, thread_count, number_limit, object_limit, slot_limit, least_size, greatest_size, greatest_length, greatest_ending, IsEventNumber, IsThreadNumber, IsNumber, IsObject, IsText, IsInRange}
use Rattle.et_text.specs.Spelling.{Text}
use Rattle.et_binary.specs.Packing.{packing, packed_fields}
use Rattle.et_binary.specs.Packs.{FitsWidth, IsPacked}

-- WHAT THE TESTS SAY

abbrev HasRecord : TraceLine → Type 0
HasRecord line = IsPacked line (packing line)

pub header_range : (line : TraceLine) (r : Bool) (v interval : ℕ) → line ≡ Header v interval → HasRecord line → (IsTrue r ↔ IsEventNumber interval) → IsTrue r ↔ IsInRange 2 line
header_range line r v interval e p h =
    let own : HasRecord (Header v interval) = subst HasRecord e p in (
      λ t. subst (IsInRange 2) (sym e) (own.version, h.0 t),
      λ x. (let range : IsInRange 2 (Header v interval) = subst (IsInRange 2) e x in h.1 range.1),
    )

pub class_range : (line : TraceLine) (r : Bool) (number : ℕ) (name : List ℕ) → line ≡ Class number name → HasRecord line → (IsTrue r ↔ (IsNumber number × (0 < length name))) → IsTrue r ↔ IsInRange 2 line
class_range line r number name e p h =
    let own : HasRecord (Class number name) = subst HasRecord e p in
    let room : FitsWidth (Text name) = own.room.1.0 in (
      λ t. (let is : IsNumber number × (0 < length name) = h.0 t in subst (IsInRange 2) (sym e) (is.0, (is.1, room.1), λ two. room.0)),
      λ x. (let range : IsInRange 2 (Class number name) = subst (IsInRange 2) e x in h.1 (range.0, range.1.0)),
    )

pub method_range : (line : TraceLine) (r : Bool) (number class : ℕ) (name descriptor : List ℕ) → line ≡ Method number class name descriptor → HasRecord line
    → (IsTrue r ↔ (IsNumber number × IsNumber class × (0 < length name) × (0 < length descriptor))) → IsTrue r ↔ IsInRange 2 line
method_range line r number class name descriptor e p h =
    let own : HasRecord (Method number class name descriptor) = subst HasRecord e p in
    let room : FitsWidth (Text name) = own.room.1.1.0 in
    let more : FitsWidth (Text descriptor) = own.room.1.1.1.0 in (
      λ t. (let is : IsNumber number × IsNumber class × (0 < length name) × (0 < length descriptor) = h.0 t in
          subst (IsInRange 2) (sym e) (is.0, is.1, (is.2, room.1), (is.3, more.1), λ two. room.0, λ two. more.0)),
      λ x. (let range : IsInRange 2 (Method number class name descriptor) = subst (IsInRange 2) e x in h.1 (range.0, range.1, range.2.0, range.3.0)),
    )

-- WHICH IT IS

-- it holds, or it does not
pub data Decided (A : Type 0) : Type 0 where
  Holds : A → Decided A
  Fails : (A → ⊥) → Decided A

below : (a b : ℕ) → Decided (a < b)
below a b = elim (cases_lt a b) [ inl lt ↦ Holds lt | inr le ↦ Fails (λ lt. omega (arith, lt, le)) ]

at_most : (a b : ℕ) → Decided (a ≤ b)
at_most a b = elim (cases_lt b a) [ inl lt ↦ Fails (λ le. omega (arith, lt, le)) | inr le ↦ Holds le ]

both : {A B : Type 0} → Decided A → Decided B → Decided (A × B)
both (Holds a) (Holds b) = Holds (a, b)
both (Fails n) b = Fails (λ p. n p.0)
both a (Fails n) = Fails (λ p. n p.1)

likewise : {A : Type 0} (B : Type 0) → Decided A → (A → B) → (B → A) → Decided B
likewise B (Holds a) to from = Holds (to a)
likewise B (Fails n) to from = Fails (λ b. n (from b))

event_decided : (event : ℕ) → Decided (IsEventNumber event)
event_decided event = at_most event greatest_event

turn_decided : (event thread : ℕ) → Decided (IsEventNumber event × IsThreadNumber thread)
turn_decided event thread = both (event_decided event) (below thread thread_count)

number_decided : (n : ℕ) → n < number_limit → Decided (IsNumber n)
number_decided n fits = both (at_most 1 n) (Holds fits)

object_decided : (n : ℕ) → Decided (IsObject n)
object_decided n = both (at_most 1 n) (below n object_limit)

text_decided : (name : List ℕ) → FitsWidth (Text name) → Decided (IsText name)
text_decided name room = both (below 0 (length name)) (Holds room.1)

range_by : (line : TraceLine) → HasRecord line → AllByRecursion FitsWidth (packed_fields line) → Decided (IsInRange 2 line)
range_by (Header v interval) p r = both (Holds p.version) (event_decided interval)
range_by (Class number name) p r = likewise (IsInRange 2 (Class number name)) (both (number_decided number r.0) (text_decided name r.1.0)) (λ x. (x.0, x.1, λ two. r.1.0.0)) (λ x. (x.0, x.1))
range_by (Method number class name descriptor) p r =
    likewise (IsInRange 2 (Method number class name descriptor)) (both (both (number_decided number r.0) (number_decided class r.1.0)) (both (text_decided name r.1.1.0) (text_decided descriptor r.1.1.1.0)))
    (λ x. (x.0.0, x.0.1, x.1.0, x.1.1, λ two. r.1.1.0.0, λ two. r.1.1.1.0.0)) (λ x. ((x.0, x.1), (x.2, x.3)))
range_by (Alloc event thread object class size len) p r =
    likewise (IsInRange 2 (Alloc event thread object class size len))
    (both (both (turn_decided event thread) (both (object_decided object) (number_decided class r.1.1.1.0))) (both (both (at_most least_size size) (at_most size greatest_size)) (at_most len greatest_length)))
    (λ x. (x.0.0.0, x.0.0.1, x.0.1.0, x.0.1.1, x.1.0.0, x.1.0.1, x.1.1)) (λ x. (((x.0, x.1), (x.2, x.3)), ((x.4, x.5), x.6)))
range_by (Update event thread object slot old new) p r =
    likewise (IsInRange 2 (Update event thread object slot old new)) (both (both (turn_decided event thread) (both (below object object_limit) (below slot slot_limit))) (both (below old object_limit) (below new object_limit)))
    (λ x. (x.0.0.0, x.0.0.1, x.0.1.0, x.0.1.1, x.1.0, x.1.1)) (λ x. (((x.0, x.1), (x.2, x.3)), (x.4, x.5)))
range_by (Enter event thread method receiver) p r =
    likewise (IsInRange 2 (Enter event thread method receiver)) (both (turn_decided event thread) (both (number_decided method r.1.1.0) (below receiver object_limit))) (λ x. (x.0.0, x.0.1, x.1.0, x.1.1)) (λ x. ((x.0, x.1), (x.2, x.3)))
range_by (Exit event thread method) p r = likewise (IsInRange 2 (Exit event thread method)) (both (turn_decided event thread) (number_decided method r.1.1.0)) (λ x. (x.0.0, x.0.1, x.1)) (λ x. ((x.0, x.1), x.2))
range_by (Unwind event thread method exception) p r =
    likewise (IsInRange 2 (Unwind event thread method exception)) (both (turn_decided event thread) (both (number_decided method r.1.1.0) (object_decided exception))) (λ x. (x.0.0, x.0.1, x.1.0, x.1.1)) (λ x. ((x.0, x.1), (x.2, x.3)))
range_by (Flush event deaths) p r = both (event_decided event) (below deaths object_limit)
range_by (Death object time) p r = both (object_decided object) (event_decided time)
range_by (Finish event how) p r = both (event_decided event) (at_most how greatest_ending)

pub range_decided : (line : TraceLine) → HasRecord line → Decided (IsInRange 2 line)
range_decided line p = range_by line p p.room
