-- The class of a listing can be spelled, where a class is read from its bytes; so that is the class.
use Rattle.std.proofs.Common.{◌≡◌, ℕ, ◌+◌, ◌^◌, ◌<◌, ◌≤◌, Bool, true, false, cond, ◌&&◌, List, [], ◌∷◌, ◌++◌, length, map, Option, Some, None, refl, sym, ap, ◌∙◌, arith, append-nil, append_assoc}
use Rattle.std.specs.Prelude.{All, ℤ, pos, negsuc, nat_le, FitsSigned}
use Rattle.std.specs.List.{flat_map, list_all}
use Rattle.std.specs.Int.{w32, w64, cast_unsigned}
use Rattle.std.proofs.lemmas.Bool.{leb-true}
use Rattle.std.proofs.lemmas.List.Elements.{All-nil, All-cons, All-append}
use Rattle.et_base.proofs.Tests.{and_first, and_second}
use Rattle.et_pool.specs.Entries.{Item, slots_of}
use Rattle.et_pool.specs.Looks.{slot_bytes}
use Rattle.et_pool.specs.Spelling.{IsEntry}
use Rattle.et_pool.proofs.Spelled.{Fits, pool_stands}
use Rattle.et_class.specs.Layout.{AttributeOf, ClassOf}
use Rattle.et_class.specs.Layout as class
use Rattle.et_class.specs.Reading.{IsRead}
use Rattle.et_class.specs.Spelling.{IsAttribute, IsCounted, IsMember, IsIndex, CanBeSpelled}
use Rattle.et_class.proofs.OneClass.{one_read}
use Rattle.et_class.proofs.Respelled.{pool_reads, spelled_class}
use Rattle.et_listing.specs.declared.entry.Entry.{Entry}
use Rattle.et_listing.specs.declared.entry.Entry.TheVariants as entry
use Rattle.et_listing.specs.declared.line.Line.{Line}
use Rattle.et_listing.specs.declared.line.Line.TheVariants as line
use Rattle.et_listing.specs.declared.line.Parsed.{Parsed}
use Rattle.et_listing.specs.Words.{unescaped}
use Rattle.et_listing.proofs.Sane.{is_number, fits32, fits64, IsSane, AllSane}
use Rattle.et_asm.specs.Along.{along_from}
use Rattle.et_asm.specs.Order.{opens, lines_of_body, stage_of, is_inside}
use Rattle.et_asm.specs.Pool.{pool, index_behind, entry_index}
use Rattle.et_asm.specs.Spelled.{pool_item_of, entry_slots}
use Rattle.et_asm.specs.Listings.{is_short_text, is_interface_line, is_field_line, is_method_line, count, counts_fit, number_behind, listed_class_bytes}
use Rattle.et_asm.proofs.Slots.{slots_length}
use Rattle.et_asm.proofs.Within.{pool_within, pool_short, pool_numbers, index_within}
use Rattle.et_asm.proofs.Used.{uses_fit, uses_numbers}
use Rattle.et_asm.proofs.Held.{LineHolds, LinesHold}
use Rattle.et_asm.proofs.BodyWithin.{IsWithin, body_within}
use Rattle.et_asm.proofs.Ordered.{OneClass}
use Rattle.et_asm.proofs.Made.{made_interface, made_constant, made_field, made_code, made_method, method_item, made_class, count_same, one_interface, one_field, body_size, methods_count, class_same}

-- ENTRIES

unsigned32 : (z : ℤ) → FitsSigned w32 z → cast_unsigned w32 z < 2 ^ 32
unsigned32 (pos n) f = omega (arith, f.sfits)
unsigned32 (negsuc n) f = omega arith

unsigned64 : (z : ℤ) → FitsSigned w64 z → cast_unsigned w64 z < 2 ^ 64
unsigned64 (pos n) f = omega (arith, f.sfits)
unsigned64 (negsuc n) f = omega arith

module _ (entries : List Entry) (low : index_behind entries ≤ 65535) where
  pub index_fits : (e : Entry) → entry_index entries e < 2 ^ 16
  index_fits e = omega (arith, low, index_within entries e)

  item_fits : (e : Entry) → is_short_text e ≡ true → is_number e ≡ true → Fits (pool_item_of entries e)
  item_fits (entry.Utf8 text) short fit = let le : length (unescaped text) ≤ 65535 = leb-true _ _ short in omega arith
  item_fits (entry.Integer value) short fit = (refl, unsigned32 value (fits32 value fit))
  item_fits (entry.Long value) short fit = (refl, unsigned64 value (fits64 value fit))
  item_fits (entry.Class name) short fit = (refl, index_fits (entry.Utf8 name))
  item_fits (entry.Text text) short fit = (refl, index_fits (entry.Utf8 text))
  item_fits (entry.NameAndType name descriptor) short fit = (refl, index_fits (entry.Utf8 name), index_fits (entry.Utf8 descriptor))
  item_fits (entry.Field c name descriptor) short fit = (refl, index_fits (entry.Class c), index_fits (entry.NameAndType name descriptor))
  item_fits (entry.Method c name descriptor) short fit = (refl, index_fits (entry.Class c), index_fits (entry.NameAndType name descriptor))
  item_fits (entry.InterfaceMethod c name descriptor) short fit = (refl, index_fits (entry.Class c), index_fits (entry.NameAndType name descriptor))

  items_fit : (es : List Entry) → list_all is_short_text es ≡ true → list_all is_number es ≡ true → All Fits (map (pool_item_of entries) es)
  items_fit [] short fit = All-nil Fits
  items_fit (e ∷ es) short fit =
      All-cons Fits (pool_item_of entries e) (map (pool_item_of entries) es) (item_fits e (and_first (is_short_text e) (list_all is_short_text es) short) (and_first (is_number e) (list_all is_number es) fit))
      (items_fit es (and_second (is_short_text e) (list_all is_short_text es) short) (and_second (is_number e) (list_all is_number es) fit))

  -- MEMBERS

  flat_all : {Y : Type 0} (V : Y → Type 0) (make : Line → List Y) → ((l : Line) → IsSane l → All V (make l)) → (lines : List Parsed) → AllSane lines → All V (flat_map (λ p. make p.line) lines)
  flat_all V make each [] h = All-nil V
  flat_all V make each (p ∷ lines) h = All-append V (make p.line) (flat_map (λ q. make q.line) lines) (each p.line h.0) (flat_all V make each lines h.1)

  none : IsCounted IsAttribute []
  none = record { few = omega arith; each = All-nil IsAttribute }

  single : (a : AttributeOf) → IsAttribute a → IsCounted IsAttribute (a ∷ [])
  single a h = record { few = omega arith; each = All-cons IsAttribute a [] h (All-nil IsAttribute) }

  interface_valid : (l : Line) → IsSane l → All IsIndex (made_interface entries l)
  interface_valid (line.Interface name) h = All-cons IsIndex (entry_index entries (entry.Class name)) [] (record { fits = index_fits (entry.Class name) }) (All-nil IsIndex)
  interface_valid l h = All-nil IsIndex

  constant_valid : (constant : Option Entry) → IsCounted IsAttribute (made_constant entries constant)
  constant_valid None = none
  constant_valid (Some e) = single _ (record { name = index_fits _; body = omega arith })

  field_valid : (l : Line) → IsSane l → All IsMember (made_field entries l)
  field_valid (line.Field name descriptor flags constant) h =
      All-cons IsMember _ [] (record { flags = h.0; name = index_fits (entry.Utf8 name); descriptor = index_fits (entry.Utf8 descriptor); attributes = constant_valid constant }) (All-nil IsMember)
  field_valid l h = All-nil IsMember

  code_valid : (body : List Parsed) (limits : Option (ℕ × ℕ)) → ((x : ℕ × ℕ) → limits ≡ Some x → IsWithin entries body) → IsCounted IsAttribute (made_code entries body limits)
  code_valid body None h = none
  code_valid body (Some limits) h = let w = h limits refl in single _ (record { name = index_fits _; body = omega (arith, body_size entries body limits, w.code, w.handlers) })

  pub opened : (before : List Parsed) (p : Parsed) (behind : List Parsed) → LineHolds entries before p behind → is_inside (stage_of before) ≡ false → (name descriptor : List ℕ) (flags : ℕ) (x : ℕ × ℕ) → p.line ≡ line.Method name descriptor flags (Some x) → IsWithin entries (lines_of_body behind)
  opened before p behind h out name descriptor flags x e = body_within entries (number_behind before + 1) (lines_of_body behind) (h.body out (ap opens e))

  method_valid : (before : List Parsed) (p : Parsed) (behind : List Parsed) → LineHolds entries before p behind → is_inside (stage_of before) ≡ false → (l : Line) → p.line ≡ l → IsSane l → All IsMember (made_method entries l behind)
  method_valid before p behind h out (line.Method name descriptor flags limits) e s =
      All-cons IsMember _ [] (record {
        flags = s.0;
        name = index_fits (entry.Utf8 name);
        descriptor = index_fits (entry.Utf8 descriptor);
        attributes = code_valid (lines_of_body behind) limits (λ x is. opened before p behind h out name descriptor flags x (e ∙ ap (line.Method name descriptor flags) is));
      }) (All-nil IsMember)
  method_valid before p behind h out l e s = All-nil IsMember

  methods_valid : (before more : List Parsed) → LinesHold entries before more → AllSane more → All IsMember (along_from (method_item entries) before more)
  unfolding along_from
  methods_valid before [] h s = All-nil IsMember
  methods_valid before (p ∷ more) h s =
      All-append IsMember (method_item entries before p more) (along_from (method_item entries) (before ++ p ∷ []) more) (by (is_inside (stage_of before)) (λ out. method_valid before p more h.0 out p.line refl s.0)) (methods_valid (before ++ p ∷ []) more h.1 s.1)
    where
      by : (b : Bool) → (b ≡ false → All IsMember (made_method entries p.line more)) → All IsMember (cond b [] (made_method entries p.line more))
      by true k = All-nil IsMember
      by false k = k refl

-- COUNTS

counts_from : (entries : List Entry) (before more : List Parsed) → LinesHold entries before more → counts_fit before ≡ true → counts_fit (before ++ more) ≡ true
counts_from entries before [] h k = ap counts_fit (append-nil before) ∙ k
counts_from entries before (p ∷ more) h k = ap counts_fit (sym (append_assoc before (p ∷ []) more)) ∙ counts_from entries (before ++ p ∷ []) more h.1 h.0.few

record Counts (lines : List Parsed) : Type 0 where
  interfaces : count is_interface_line lines ≤ 65535
  fields : count is_field_line lines ≤ 65535
  methods : count is_method_line lines ≤ 65535

counts : (entries : List Entry) (lines : List Parsed) → LinesHold entries [] lines → Counts lines
counts entries lines h =
    let all = counts_from entries [] lines h refl in
    let two = and_first (nat_le (count is_interface_line lines) 65535 && nat_le (count is_field_line lines) 65535) (nat_le (count is_method_line lines) 65535) all in
    record {
      interfaces = leb-true _ _ (and_first (nat_le (count is_interface_line lines) 65535) (nat_le (count is_field_line lines) 65535) two);
      fields = leb-true _ _ (and_second (nat_le (count is_interface_line lines) 65535) (nat_le (count is_field_line lines) 65535) two);
      methods = leb-true _ _ (and_second (nat_le (count is_interface_line lines) 65535 && nat_le (count is_field_line lines) 65535) (nat_le (count is_method_line lines) 65535) all);
    }

-- THE CLASS

pub low_pool : (lines : List Parsed) → LinesHold (pool lines) [] lines → index_behind (pool lines) ≤ 65535
low_pool lines h = pool_within lines (uses_fit (pool lines) lines h)

abbrev items : List Parsed → List Item
items lines = map (pool_item_of (pool lines)) (pool lines)

slots_made : (lines : List Parsed) → entry_slots (pool lines) ≡ slots_of (items lines)
unfolding entry_slots
slots_made lines = refl

few_slots : (lines : List Parsed) → LinesHold (pool lines) [] lines → length (slots_of (items lines)) < 2 ^ 16
few_slots lines h = omega (arith, ap length (slots_made lines), slots_length (pool lines), low_pool lines h)

module _ (lines : List Parsed) (held : LinesHold (pool lines) [] lines) (sane : AllSane lines) (h : OneClass (pool lines) lines) (small : h.flags < 2 ^ 16) where
  abbrev pub the_class : ClassOf
  the_class = made_class (pool lines) lines h.flags h.name h.super

  can_be_spelled : All IsEntry (items lines) → CanBeSpelled the_class
  can_be_spelled all =
      let entries = pool lines in
      let low = low_pool lines held in
      let few = counts entries lines held in
      record {
        minor = omega arith;
        lowest = omega arith;
        highest = omega arith;
        slots = record { entries = items lines; are_entries = all; few = omega (arith, ap length (slots_made lines), few_slots lines held); slots_are = slots_made lines };
        flags = small;
        this = index_fits entries low (entry.Class h.name);
        super = index_fits entries low (entry.Class h.super);
        interfaces = record { few = omega (arith, count_same (made_interface entries) is_interface_line (one_interface entries) lines, few.interfaces); each = flat_all entries low IsIndex (made_interface entries) (interface_valid entries low) lines sane };
        fields = record { few = omega (arith, count_same (made_field entries) is_field_line (one_field entries) lines, few.fields); each = flat_all entries low IsMember (made_field entries) (field_valid entries low) lines sane };
        methods = record { few = omega (arith, methods_count entries lines held, few.methods); each = methods_valid entries low [] lines held sane };
        attributes = none entries low;
      }

  -- a class that is read from the bytes is the class of the listing
  pub read_is : (c : ClassOf) → IsRead (listed_class_bytes (pool lines) lines) c → c ≡ the_class
  read_is c r =
      let entries = pool lines in
      let bytes = listed_class_bytes entries lines in
      let is : bytes ≡ class.class_bytes the_class = class_same lines held h in
      let fit = items_fit entries (low_pool lines held) entries (pool_short lines (uses_fit entries lines held)) (pool_numbers lines (uses_numbers lines sane)) in
      let reads = pool_reads bytes the_class is (items lines) (slots_made lines) in
      let all = pool_stands bytes 8 c.slots r.header (items lines) (8 + length (class.counted_bytes slot_bytes (entry_slots entries))) r.pool_is fit (few_slots lines held) reads in
      one_read bytes c the_class r (spelled_class bytes the_class (record { can_be = can_be_spelled all; bytes_are = is }))
