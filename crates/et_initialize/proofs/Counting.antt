-- The strings of constants, counted before they are made.
use Rattle.std.proofs.Common.{◌≡◌, ℕ, zero, suc, ◌+◌, ◌-◌, ◌*◌, ◌<◌, ◌⊎◌, leb, Bool, true, false, cond, List, [], ◌∷◌, ◌++◌, length, get_or, Option, Some, None, refl, sym, ◌∙◌, ap, subst, arith, inl, inr, add-one, add-zero, zero-mul, add_assoc}
use Rattle.std.specs.Prelude.{fold, if◌then◌else◌, ◌==◌, ◌||◌, ◌&&◌, is_some, codes, option_map, ℤ, Result, Ok, Err, OnOk}
use Rattle.std.specs.List.{list_any}
use Rattle.std.specs.Option.{option_map_or, option_or}
use Rattle.std.specs.Int.{w32, w64, cast_signed}
use Rattle.std.proofs.Math.Bool.{or-false}
use Rattle.std.proofs.Math.Nat.{suc-mul}
use Rattle.std.specs.Str.{bytes_eq}
use Rattle.std.proofs.lemmas.List.{length_push, length-replicate, length-set}
use Rattle.std.proofs.lemmas.List.Folds.{list_any-append}
use Rattle.std.proofs.lemmas.List.Sums.{sum_by-append}
use Rattle.std.proofs.lemmas.Bool.{cases_eq, or_left}
use Rattle.std.proofs.lemmas.Option.{none-some}
use mathlib.Core.Bool.{or-true}
use Rattle.et_pool.specs.Entries.{Item, Text, Word, Wide, Name, Pair, Handle}
use Rattle.et_pool.specs.Looks.{slot_at, integer_of_slot, long_of_slot, named_by}
use Rattle.et_pool.specs.declared.tags.TheConstants.{INTEGER, LONG, STRING}
use Rattle.et_base.specs.declared.value.Value.{Value}
use Rattle.et_base.specs.declared.value.Value.TheVariants.{Unset, Int, Long, Ref}
use Rattle.et_base.proofs.Options.{is_none, is_some_of}
use Rattle.et_base.proofs.Lists.{same_bytes}
use Rattle.et_heap.specs.Objects.{ObjectState, Objects, new_object, made_count, slot_count, slots_in, most_objects, most_slots, has_room}
use Rattle.et_state.specs.declared.class_state.ClassState.{ClassState}
use Rattle.et_state.specs.declared.class_state.ClassState.TheVariants.{Untouched, Begun, Done, Failed}
use Rattle.et_state.specs.State.{Kept, MachineState}
use Rattle.et_state.specs.Interned.{object_of}
use Rattle.et_state.specs.Words.{class_state_at}
use Rattle.et_program.specs.Entries.{Linked, class_at, field_at}
use Rattle.et_program.specs.declared.info.FieldInfo.{FieldInfo}
use Rattle.et_event.specs.Errors.{class_called}
use Rattle.et_event.specs.Kinds.{narrowed}
use Rattle.et_event.specs.Moments.{Moment, moment, Doing, begins, fits_heap, static_written}
use Rattle.et_event.specs.Sites.{LoadedConstant, AnInt, ALong, AString, pool_of_class}
use Rattle.et_event.specs.Strings.{interned, string_object}
use Rattle.et_event.specs.Initialization.{state_of, with_state, constant_set, field_set, constants_set, class_done}
use Rattle.et_initialize.specs.Texts.{constant_text, has_text, string_slots, has_room_for, is_text_known, Counted, AreKnown, BecameDone, CountedAll}
use Rattle.et_initialize.proofs.Strings.{Strings, making, makes, has_made, by_interned}
use Rattle.et_initialize.proofs.Setting.{written_state, follows_each, state_changed, state_set, done_step}

-- the same objects and strings
pub record Alike (d d' : Doing) : Type 0 where
  pub heap : d'.state.heap ≡ d.state.heap
  pub strings : d'.state.guest.interned ≡ d.state.guest.interned

pub alike_none : (d : Doing) → Alike d d
alike_none d = record { heap = refl; strings = refl }

alike_then : (a b c : Doing) → Alike a b → Alike b c → Alike a c
alike_then a b c f g = record { heap = g.heap ∙ f.heap; strings = g.strings ∙ f.strings }

alike_back : (a b : Doing) → Alike a b → Alike b a
alike_back a b f = record { heap = sym f.heap; strings = sym f.strings }

pub counted_alike : (p : Linked) (m : MachineState) (seen : List ℕ) (d d' : Doing) → Alike d d' → Counted p m seen d → Counted p m seen d'
counted_alike p m seen d d' a c = record {
  known = λ t. ap (λ (es : Strings). is_some (object_of es t)) a.strings ∙ c.known t;
  objects = ap (λ (h : Objects). length h) a.heap ∙ c.objects;
  slots = ap (λ (h : Objects). slot_count h) a.heap ∙ c.slots;
}

alike_written : (e : Moment) (i : ℕ) (v : Value) (d : Doing) → Alike d (static_written e i v d)
alike_written e i v d = record { heap = ap (λ (k : Kept). k.heap) (written_state e i v d); strings = ap (λ (k : Kept). k.guest.interned) (written_state e i v d) }

-- WHAT THE CONSTANT OF A FIELD IS

abbrev constant_of : List (Option Item) → Option Item → Option LoadedConstant
constant_of pool s = option_or (option_map AnInt (integer_of_slot s)) (option_or (option_map ALong (long_of_slot s)) (option_map AString (named_by pool STRING s)))

string_constant : (pool : List (Option Item)) (bytes : List ℕ) (s : Option Item) → named_by pool STRING s ≡ Some bytes → constant_of pool s ≡ Some (AString bytes)
string_constant pool bytes None h = absurd (none-some bytes h)
string_constant pool bytes (Some (Text b)) h = absurd (none-some bytes h)
string_constant pool bytes (Some (Word tag bits)) h = absurd (none-some bytes h)
string_constant pool bytes (Some (Wide tag bits)) h = absurd (none-some bytes h)
string_constant pool bytes (Some (Name tag index)) h = ap (λ (o : Option (List ℕ)). option_map AString o) h
string_constant pool bytes (Some (Pair tag first second)) h = absurd (none-some bytes h)
string_constant pool bytes (Some (Handle kind index)) h = absurd (none-some bytes h)

pub string_set : (e : Moment) (d : Doing) (f : ℕ) (bytes : List ℕ) → constant_text e.program f ≡ Some bytes → field_set e d f ≡ constant_set e (field_at e.program f) (Some (AString bytes)) d
string_set e d f bytes text =
    let pool = pool_of_class e.program (field_at e.program f).class in
    ap (λ (k : Option LoadedConstant). constant_set e (field_at e.program f) k d) (string_constant pool bytes (slot_at pool (field_at e.program f).constant) text)

alike_int : (e : Moment) (f : FieldInfo) (d : Doing) (b : Bool) (n : ℤ) → Alike d (constant_set e f (option_or (option_map AnInt (if b then Some n else None)) None) d)
alike_int e f d true n = alike_written e f.slot (narrowed f.descriptor (Int n)) d
alike_int e f d false n = alike_none d

alike_long : (e : Moment) (f : FieldInfo) (d : Doing) (b : Bool) (n : ℤ) → Alike d (constant_set e f (option_or None (option_or (option_map ALong (if b then Some n else None)) None)) d)
alike_long e f d true n = alike_written e f.slot (Long n) d
alike_long e f d false n = alike_none d

no_string : (e : Moment) (f : FieldInfo) (d : Doing) (pool : List (Option Item)) (s : Option Item) → named_by pool STRING s ≡ None → Alike d (constant_set e f (constant_of pool s) d)
no_string e f d pool None h = alike_none d
no_string e f d pool (Some (Text b)) h = alike_none d
no_string e f d pool (Some (Word tag bits)) h = alike_int e f d (tag == INTEGER) (cast_signed w32 bits)
no_string e f d pool (Some (Wide tag bits)) h = alike_long e f d (tag == LONG) (cast_signed w64 bits)
no_string e f d pool (Some (Name tag index)) h = subst (λ (o : Option (List ℕ)). Alike d (constant_set e f (option_map AString o) d)) (sym h) (alike_none d)
no_string e f d pool (Some (Pair tag first second)) h = alike_none d
no_string e f d pool (Some (Handle kind index)) h = alike_none d

pub alike_number : (e : Moment) (d : Doing) (f : ℕ) → constant_text e.program f ≡ None → Alike d (field_set e d f)
alike_number e d f none =
    let pool = pool_of_class e.program (field_at e.program f).class in
    no_string e (field_at e.program f) d pool (slot_at pool (field_at e.program f).constant) none

-- A STRING

pushed_known : (es : Strings) (bytes t : List ℕ) (n : ℕ) → is_some (object_of (es ++ (bytes, n) ∷ []) t) ≡ (is_some (object_of es t) || bytes_eq t bytes)
pushed_known [] bytes t n = last (bytes_eq t bytes)
  where
    last : (b : Bool) → is_some (cond b (Some n) None) ≡ b
    last true = refl
    last false = refl
pushed_known (x ∷ es) bytes t n = step (bytes_eq t x.0) (object_of (es ++ (bytes, n) ∷ []) t) (object_of es t) (pushed_known es bytes t n)
  where
    step : (b : Bool) (r r' : Option ℕ) → is_some r ≡ (is_some r' || bytes_eq t bytes) → is_some (cond b (Some x.1) r) ≡ (is_some (cond b (Some x.1) r') || bytes_eq t bytes)
    step true r r' ih = refl
    step false r r' ih = ih

or_more : (a b c d : Bool) → a ≡ (b || c) → (a || d) ≡ (b || (c || d))
or_more a true c d e = ap (λ (x : Bool). x || d) e
or_more a false c d e = ap (λ (x : Bool). x || d) e

-- a string that is known is not made
pub alike_known : (e : Moment) (bytes : List ℕ) (d : Doing) → is_text_known d bytes ≡ true → Alike d (interned e bytes d)
alike_known e bytes d h =
    let o = is_some_of (object_of d.state.guest.interned bytes) h in
    subst (λ (x : Doing). Alike d x) (sym (has_made e bytes d o.0 o.1)) (alike_none d)

pub alike_field : (e : Moment) (d : Doing) (f : ℕ) (bytes : List ℕ) → constant_text e.program f ≡ Some bytes → Alike (interned e bytes d) (field_set e d f)
alike_field e d f bytes text =
    let x = interned e bytes d in
    subst (λ (y : Doing). Alike x y) (sym (string_set e d f bytes text)) (alike_written e (field_at e.program f).slot (Ref (string_object bytes x)) x)

-- .. and one that isn't is one object more
one_seen : (p : Linked) (t : List ℕ) (f : ℕ) (bytes : List ℕ) → constant_text p f ≡ Some bytes → list_any (has_text p t) (f ∷ []) ≡ bytes_eq t bytes
one_seen p t f bytes text = or-false (has_text p t f) ∙ ap (λ (o : Option (List ℕ)). option_map_or (bytes_eq t) o false) text

counted_making : (m : MachineState) (seen : List ℕ) (f : ℕ) (bytes : List ℕ) (e : Moment) (d : Doing) → constant_text e.program f ≡ Some bytes → Counted e.program m seen d → Counted e.program m (seen ++ f ∷ []) (making e bytes d)
counted_making m seen f bytes e d text c =
    let n : ℕ = string_slots e.program in
    let y : Option ObjectState = Some (new_object (class_called e.program (codes "java/lang/String")) 0 n) in
    let long : length (d.state.heap ++ y ∷ []) ≡ length d.state.heap + 1 = length_push d.state.heap y in
    let more : length (seen ++ f ∷ []) ≡ length seen + 1 = length_push seen f in
    let before = c.objects in
    let size : slots_in y ≡ n = length-replicate n Unset in
    let sum : slot_count (d.state.heap ++ y ∷ []) ≡ slot_count d.state.heap + slot_count (y ∷ []) = sum_by-append slots_in d.state.heap (y ∷ []) in
    let last : slot_count (y ∷ []) ≡ n = omega (arith, size) in
    let had = c.slots in
    let product : (length seen + 1) * n ≡ length seen * n + n = ap (λ (k : ℕ). k * n) (add-one (length seen)) ∙ suc-mul (length seen) n in
    record {
      known = λ t. pushed_known d.state.guest.interned bytes t (length d.state.heap)
          ∙ (or_more (is_text_known d t) (is_some (object_of m.guest.interned t)) (list_any (has_text e.program t) seen) (bytes_eq t bytes) (c.known t)
          ∙ ap (λ (b : Bool). is_some (object_of m.guest.interned t) || b) (sym (list_any-append (has_text e.program t) seen (f ∷ []) ∙ ap (λ (b : Bool). list_any (has_text e.program t) seen || b) (one_seen e.program t f bytes text))));
      objects = omega (arith, long, more, before);
      slots = sum ∙ (ap (λ (k : ℕ). slot_count d.state.heap + k) last ∙ (ap (λ (k : ℕ). k + n) had ∙ (add_assoc (slot_count m.heap) (length seen * n) n ∙ ap (λ (k : ℕ). slot_count m.heap + k) (sym product ∙ ap (λ (k : ℕ). k * n) (sym more)))));
    }

-- A FIELD

pub counted_new : (m : MachineState) (seen : List ℕ) (e : Moment) (d : Doing) (f : ℕ) (bytes : List ℕ) → constant_text e.program f ≡ Some bytes → (is_some (object_of m.guest.interned bytes) || list_any (has_text e.program bytes) seen) ≡ false
    → Counted e.program m seen d → Counted e.program m (seen ++ f ∷ []) (field_set e d f)
counted_new m seen e d f bytes text new c =
    let made : interned e bytes d ≡ making e bytes d = makes e bytes d (is_none (object_of d.state.guest.interned bytes) (c.known bytes ∙ new)) in
    counted_alike e.program m (seen ++ f ∷ []) (interned e bytes d) (field_set e d f) (alike_field e d f bytes text)
    (subst (λ (x : Doing). Counted e.program m (seen ++ f ∷ []) x) (sym made) (counted_making m seen f bytes e d text c))

-- A CLASS

known_alike : (t : List ℕ) (d d' : Doing) → Alike d d' → is_text_known d t ≡ true → is_text_known d' t ≡ true
known_alike t d d' a h = ap (λ (es : Strings). is_some (object_of es t)) a.strings ∙ h

known_interned : (e : Moment) (bytes t : List ℕ) (d : Doing) → is_text_known d t ≡ true → is_text_known (interned e bytes d) t ≡ true
known_interned e bytes t d h = by_interned (λ (x : Doing). is_text_known x t ≡ true) e bytes d
    (λ none. pushed_known d.state.guest.interned bytes t (length d.state.heap) ∙ or_left (is_text_known d t) (bytes_eq t bytes) h) (λ o some. h)

now_known : (e : Moment) (bytes : List ℕ) (d : Doing) → is_text_known (interned e bytes d) bytes ≡ true
now_known e bytes d = by_interned (λ (x : Doing). is_text_known x bytes ≡ true) e bytes d
    (λ none. pushed_known d.state.guest.interned bytes bytes (length d.state.heap) ∙ (ap (λ (b : Bool). is_text_known d bytes || b) (same_bytes bytes) ∙ or-true (is_text_known d bytes)))
    (λ o some. ap (λ (r : Option ℕ). is_some r) some)

-- by whether the constant is a string
by_text : (P : Type 0) (p : Linked) (f : ℕ) → (constant_text p f ≡ None → P) → ((bytes : List ℕ) → constant_text p f ≡ Some bytes → P) → P
by_text P p f none some = case (constant_text p f) refl
  where
    case : (o : Option (List ℕ)) → constant_text p f ≡ o → P
    case None h = none h
    case (Some bytes) h = some bytes h

known_field : (e : Moment) (t : List ℕ) (d : Doing) (f : ℕ) → is_text_known d t ≡ true → is_text_known (field_set e d f) t ≡ true
known_field e t d f h = by_text (is_text_known (field_set e d f) t ≡ true) e.program f (λ none. known_alike t d (field_set e d f) (alike_number e d f none) h)
    (λ bytes text. known_alike t (interned e bytes d) (field_set e d f) (alike_field e d f bytes text) (known_interned e bytes t d h))

known_fields : (e : Moment) (t : List ℕ) (fs : List ℕ) (d : Doing) → is_text_known d t ≡ true → is_text_known (fold (field_set e) d fs) t ≡ true
known_fields e t [] d h = h
known_fields e t (f ∷ fs) d h = known_fields e t fs (field_set e d f) (known_field e t d f h)

-- once they are set, their strings are known
texts_set : (e : Moment) (fs : List ℕ) (d : Doing) → AreKnown e.program fs (fold (field_set e) d fs)
texts_set e [] d i lt bytes text = absurd (omega arith)
texts_set e (f ∷ fs) d zero lt bytes text =
    known_fields e bytes fs (field_set e d f) (known_alike bytes (interned e bytes d) (field_set e d f) (alike_field e d f bytes text) (now_known e bytes d))
texts_set e (f ∷ fs) d (suc i) lt bytes text = texts_set e fs (field_set e d f) i (omega arith) bytes text

-- .. and where they are known, nothing is made
texts_alike : (e : Moment) (fs : List ℕ) (d : Doing) → AreKnown e.program fs d → Alike d (fold (field_set e) d fs)
texts_alike e [] d h = alike_none d
texts_alike e (f ∷ fs) d h =
    let x = field_set e d f in
    let one : Alike d x = by_text (Alike d x) e.program f (λ none. alike_number e d f none)
    (λ bytes text. alike_then d (interned e bytes d) x (alike_known e bytes d (h 0 (omega arith) bytes text)) (alike_field e d f bytes text)) in
    alike_then d x (fold (field_set e) x fs) one (texts_alike e fs x (λ i lt bytes text. known_field e bytes d f (h (suc i) (omega arith) bytes text)))

-- CLASSES

abbrev Marks : Linked → MachineState → Doing → Type 0
Marks p m d = (c : ℕ) → (class_state_at d.state.guest c ≡ class_state_at m.guest c) ⊎ BecameDone p m d c

untouched_done : Untouched ≡ Done → ⊥
untouched_done e = cc

pub done_is : (e : Moment) (c : ℕ) (x : ClassState) (d : Doing) → (x ≡ Untouched → ⊥) → class_done e c x d ≡ d
done_is e c Untouched d apart = absurd (apart refl)
done_is e c (Begun t) d apart = refl
done_is e c Done d apart = refl
done_is e c Failed d apart = refl

-- .. of a class that was untouched
marks_after : (m : MachineState) (e : Moment) (c : ℕ) (d : Doing) → c < length d.state.guest.classes → class_state_at m.guest c ≡ Untouched → Marks e.program m d → Marks e.program m (constants_set e c (with_state c Done d))
marks_after m e c d lt un marks k =
    let y = with_state c Done d in
    let fs = (class_at e.program c).info.constants in
    let x = constants_set e c y in
    let stay : class_state_at x.state.guest k ≡ class_state_at y.state.guest k = ap (λ (xs : List ClassState). get_or xs k Untouched) (follows_each e fs y).classes in
    elim (cases_eq k c) [
      | inl is ↦ inr (subst (λ (j : ℕ). BecameDone e.program m x j) (sym is) (record {
        was = un;
        is = ap (λ (xs : List ClassState). get_or xs c Untouched) (follows_each e fs y).classes ∙ state_set d c Done lt;
        texts = texts_set e fs y;
      }))
      | inr ne ↦
          let same : class_state_at x.state.guest k ≡ class_state_at d.state.guest k = stay ∙ state_changed d c k Done ne in
          elim (marks k) [
            | inl as_far ↦ inl (same ∙ as_far)
            | inr b ↦ inr (record { was = b.was; is = same ∙ b.is; texts = λ i within bytes text. known_fields e bytes fs y (b.texts i within bytes text) })
          ]
    ]

pub counted_class : (m : MachineState) (seen seen' : List ℕ) (e : Moment) (c : ℕ) (d : Doing) → c < length e.program.classes → class_state_at m.guest c ≡ Untouched
    → ((x : Doing) → Counted e.program m seen x → Counted e.program m seen' (constants_set e c x)) → CountedAll e.program m seen d → CountedAll e.program m seen' (done_step e d c)
counted_class m seen seen' e c d lt un count all = elim (all.marks c) [
  | inl same ↦
      let y = with_state c Done d in
      let x = constants_set e c y in
      let is : done_step e d c ≡ x = ap (λ (s : ClassState). class_done e c s d) (same ∙ un) in
      subst (λ (z : Doing). CountedAll e.program m seen' z) (sym is) (record {
        counted = count y (record { known = all.counted.known; objects = all.counted.objects; slots = all.counted.slots });
        marks = marks_after m e c d (subst (λ (n : ℕ). c < n) (sym all.classes) lt) un all.marks;
        classes = ap (λ (xs : List ClassState). length xs) (follows_each e (class_at e.program c).info.constants y).classes ∙ (length-set d.state.guest.classes c Done ∙ all.classes);
      })
  | inr b ↦
      let is : done_step e d c ≡ d = done_is e c (state_of d c) d (λ u. untouched_done (sym u ∙ b.is)) in
      let x = constants_set e c d in
      subst (λ (z : Doing). CountedAll e.program m seen' z) (sym is) (record {
        counted = counted_alike e.program m seen' x d (alike_back d x (texts_alike e (class_at e.program c).info.constants d b.texts)) (count d all.counted);
        marks = all.marks;
        classes = all.classes;
      })
]

-- WHETHER ALL FITS
pub counted_room : (p : Linked) (m : MachineState) (seen : List ℕ) (d : Doing) (objects slots : ℕ) → 0 < length m.heap → Counted p m seen d → has_room_for m.heap (length seen) (string_slots p) objects slots ≡ has_room d.state.heap objects slots
counted_room p m seen d objects slots some c =
    let made = c.objects in
    let number : length m.heap - 1 + length seen + objects ≡ length d.state.heap - 1 + objects = omega arith in
    ap (λ (n : ℕ). leb n most_objects && leb (slot_count m.heap + length seen * string_slots p + slots) most_slots) number
    ∙ ap (λ (n : ℕ). leb (length d.state.heap - 1 + objects) most_objects && leb (n + slots) most_slots) (sym c.slots)

-- NOTHING is counted yet
pub counted_none : (p : Linked) (m : MachineState) (t : ℕ) → length m.guest.classes ≡ length p.classes → CountedAll p m [] (begins (moment p m t))
counted_none p m t classes = record {
  counted = record {
    known = λ x. sym (or-false (is_some (object_of m.guest.interned x)));
    objects = omega arith;
    slots = sym (ap (λ (k : ℕ). slot_count m.heap + k) (zero-mul (string_slots p)) ∙ add-zero (slot_count m.heap));
  };
  marks = λ c. inl refl;
  classes = classes;
}

pub on_ok : {A E : Type 0} {P Q : Type 0} → (r : Result A E) → (P → Q) → OnOk r P → OnOk r Q
on_ok (Ok a) f h = f h
on_ok (Err e) f h = tt

-- nothing besides
pub room_fits : (heap : Objects) → has_room heap 0 0 ≡ fits_heap heap
room_fits heap = ap (λ (n : ℕ). leb n most_objects && leb (slot_count heap + 0) most_slots) (add-zero (made_count heap)) ∙ ap (λ (n : ℕ). leb (made_count heap) most_objects && leb n most_slots) (add-zero (slot_count heap))

-- .. of a class that is marked
pub counted_marked : (p : Linked) (m : MachineState) (seen : List ℕ) (c : ℕ) (x : ClassState) (d : Doing) → Counted p m seen d → Counted p m seen (with_state c x d)
counted_marked p m seen c x d h = record { known = h.known; objects = h.objects; slots = h.slots }
