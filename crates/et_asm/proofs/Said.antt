-- The class of a listing says what the listing says.
use Rattle.std.proofs.Common.{◌≡◌, ℕ, ◌^◌, ◌<◌, ◌≤◌, Bool, true, false, cond, List, [], ◌∷◌, ◌++◌, map, codes, Option, Some, None, refl, sym, ap, subst, ◌∙◌, arith}
use Rattle.std.specs.Prelude.{All, ℤ, option_map, option_and_then}
use Rattle.std.specs.Option.{option_or}
use Rattle.std.specs.List.{flat_map, find}
use Rattle.std.specs.Str.{bytes_eq}
use Rattle.std.specs.Int.{w16, w32, w64, from_be_bytes}
use Rattle.std.proofs.lemmas.Int.{to_z-of_z}
use Rattle.std.proofs.lemmas.List.{map-append}
use Rattle.std.proofs.lemmas.List.Elements.{All-nil, All-cons, All-append}
use Rattle.et_base.specs.Marks.{MarksAre}
use Rattle.et_base.proofs.Spelling.{wide16}
use Rattle.et_pool.specs.Entries.{Item}
use Rattle.et_pool.specs.declared.tags.TheConstants.{STRING}
use Rattle.et_pool.specs.Looks.{slot_at, utf8_at, class_name_at, string_at, integer_of_slot, long_of_slot, named_by}
use Rattle.et_code.specs.Bodies.{Body}
use Rattle.et_class.specs.declared.names.TheConstants.{CODE_NAME, CONSTANT_VALUE}
use Rattle.et_class.specs.Layout.{AttributeOf, ClassOf, u2}
use Rattle.et_class.specs.Names.{is_text}
use Rattle.et_class.specs.Fields.{is_constant_value, index_in}
use Rattle.et_class.specs.Codes.{code_at}
use Rattle.et_class.specs.Methods.{is_code, body_in}
use Rattle.et_class.specs.Classes.{IsClassFile}
use Rattle.et_class.proofs.Coded as coded
use Rattle.et_class.proofs.CodeBack.{IsRow, IsBody, code_back}
use Rattle.et_listing.specs.declared.entry.Entry.{Entry}
use Rattle.et_listing.specs.declared.entry.Entry.TheVariants as entry
use Rattle.et_listing.specs.declared.line.Line.{Line}
use Rattle.et_listing.specs.declared.line.Line.TheVariants as line
use Rattle.et_listing.specs.declared.line.Parsed.{Parsed}
use Rattle.et_listing.specs.Words.{words, lines, unescaped}
use Rattle.et_listing.proofs.Sane.{fits32, fits64, IsConstant, AreLimits, IsSane, AllSane, all_sane}
use Rattle.et_asm.specs.Along.{along_from}
use Rattle.et_asm.specs.Order.{lines_of_body, stage_of, is_inside}
use Rattle.et_asm.specs.Pool.{header_entries, constant_entries, attribute_entries, pool, index_behind, entry_index}
use Rattle.et_asm.specs.Spelled.{entry_slots, FindsEntries}
use Rattle.et_asm.specs.Code.{labels_of, caught_index}
use Rattle.et_asm.specs.Listings.{parsed_lines, marks_of, assembled_bytes}
use Rattle.et_asm.specs.Accepted.{Header, Constant, IntValue, LongValue, StringValue, AcceptedField, AcceptedMethod, accepted_constant, constant_in, accepted_field, accepted_method, listed_header, listed_interface, listed_constant, listed_field, listed_row, listed_body, listed_method, listed_methods, HasListing}
use Rattle.et_asm.specs.Laws.{ClassesHaveListings}
use Rattle.et_asm.proofs.Slots.{finds}
use Rattle.et_asm.proofs.Within.{Has}
use Rattle.et_asm.proofs.Held.{all_hold, LineHolds, LinesHold, lines_hold}
use Rattle.et_asm.proofs.BodyWithin.{IsWithin, place_within}
use Rattle.et_asm.proofs.Lengths.{code_length}
use Rattle.et_asm.proofs.Ordered.{class_line, class_lines, by_class, one_class, AllHas, AllNamed, all_named, pool_has}
use Rattle.et_asm.proofs.Made.{made_interface, made_constant, made_field, made_code, made_method, method_item, table_length}
use Rattle.et_asm.proofs.Spellable.{low_pool, index_fits, opened, read_is}

-- THE TWO NAMES

constant_name : bytes_eq (unescaped (codes "ConstantValue")) CONSTANT_VALUE.now ≡ true
unfolding unescaped
constant_name = refl

code_name : bytes_eq (unescaped (codes "Code")) CODE_NAME.now ≡ true
unfolding unescaped
code_name = refl

-- THE CLASS LINE

abbrev Facts : List Entry → List Line → Type 0
Facts entries [] = Unit {0}
Facts entries (l ∷ ls) = (IsSane l × AllHas entries (header_entries l)) × Facts entries ls

class_facts : (entries : List Entry) (lines : List Parsed) → AllSane lines → AllNamed entries lines → Facts entries (class_lines lines)
class_facts entries [] s n = tt
class_facts entries (p ∷ more) s n = by p.line s.0 n.0 (class_facts entries more s.1 n.1)
  where
    by : (l : Line) → IsSane l → AllHas entries (header_entries l) → Facts entries (class_lines more) → Facts entries (class_line l ++ class_lines more)
    by (line.Class name super flags) a b rest = ((a, b), rest)
    by l a b rest = rest

header_only : (l : Line) → listed_header l ≡ flat_map listed_header (class_line l)
header_only (line.Class name super flags) = refl
header_only l = refl

-- LINES ONE BY ONE

map_same : {Y Z : Type 0} (entries : List Entry) (f : Y → Z) (g : Line → List Y) (k : Line → List Z) → ((l : Line) → IsSane l → AllHas entries (header_entries l) → map f (g l) ≡ k l) → (lines : List Parsed) → AllSane lines → AllNamed entries lines
    → map f (flat_map (λ p. g p.line) lines) ≡ flat_map (λ p. k p.line) lines
map_same entries f g k each [] s n = refl
map_same {Y} {Z} entries f g k each (p ∷ more) s n =
    map-append f (g p.line) (flat_map (λ q. g q.line) more)
    ∙ (ap (λ (zs : List Z). zs ++ map f (flat_map (λ q. g q.line) more)) (each p.line s.0 n.0) ∙ ap (λ (zs : List Z). k p.line ++ zs) (map_same entries f g k each more s.1 n.1))

module _ (entries : List Entry) (found : FindsEntries entries) (low : index_behind entries ≤ 65535) where
  interface_said : (l : Line) → IsSane l → AllHas entries (header_entries l) → map (class_name_at (entry_slots entries)) (made_interface entries l) ≡ listed_interface l
  interface_said (line.Interface name) s n = ap (λ o. o ∷ []) (found.classes name n.0)
  interface_said l s n = refl

  -- CONSTANTS

  abbrev constant_of_slot : Option Item → Option Constant
  constant_of_slot slot = option_or (option_map IntValue (integer_of_slot slot)) (option_or (option_map LongValue (long_of_slot slot)) (option_map StringValue (named_by (entry_slots entries) STRING slot)))

  constant_said : (e : Entry) → IsConstant (Some e) → Has entries e → accepted_constant (entry_slots entries) (entry_index entries e) ≡ listed_constant e
  constant_said (entry.Integer value) s h = ap constant_of_slot (found.items (entry.Integer value) h) ∙ ap (λ (z : ℤ). Some (IntValue z)) (to_z-of_z w32 value (fits32 value s))
  constant_said (entry.Long value) s h = ap constant_of_slot (found.items (entry.Long value) h) ∙ ap (λ (z : ℤ). Some (LongValue z)) (to_z-of_z w64 value (fits64 value s))
  constant_said (entry.Text text) s h =
      let slot = slot_at (entry_slots entries) (entry_index entries (entry.Text text)) in
      let string = string_at (entry_slots entries) (entry_index entries (entry.Text text)) in
      let there = found.items (entry.Text text) h in
      ap (λ (o : Option ℤ). option_or (option_map IntValue o) (option_or (option_map LongValue (long_of_slot slot)) (option_map StringValue string))) (ap integer_of_slot there)
      ∙ (ap (λ (o : Option ℤ). option_or (option_map LongValue o) (option_map StringValue string)) (ap long_of_slot there)
      ∙ ap (λ (o : Option (List ℕ)). option_map StringValue o) (found.strings text h))
  constant_said e s h = absurd s

  value_said : (constant : Option Entry) → IsConstant constant → AllHas entries (constant_entries constant) → constant_in (entry_slots entries) (made_constant entries constant) ≡ option_and_then listed_constant constant
  value_said None s n = refl
  value_said (Some e) s n =
      let a : AttributeOf = record { name = entry_index entries (entry.Utf8 (codes "ConstantValue")); body = u2 (entry_index entries e) } in
      let named : is_constant_value (entry_slots entries) a ≡ true = ap (λ o. is_text o CONSTANT_VALUE.now) (found.texts (codes "ConstantValue") n.0) ∙ constant_name in
      let index : from_be_bytes w16 (u2 (entry_index entries e)) ≡ entry_index entries e = wide16.forth (entry_index entries e) [] (index_fits entries low e) in
      ap (λ (b : Bool). option_and_then (λ (x : AttributeOf). accepted_constant (entry_slots entries) (index_in (Some x))) (cond b (Some a) None)) named
      ∙ (ap (λ (i : ℕ). accepted_constant (entry_slots entries) i) index ∙ constant_said e s n.1.0)

  -- FIELDS

  abbrev field_of : ℕ → Option (List ℕ) → Option (List ℕ) → Option Constant → List AcceptedField
  field_of flags name descriptor constant = record { flags = flags; name = name; descriptor = descriptor; constant = constant } ∷ []

  field_said : (l : Line) → IsSane l → AllHas entries (header_entries l) → map (accepted_field (entry_slots entries)) (made_field entries l) ≡ listed_field l
  field_said (line.Field name descriptor flags constant) s n =
      let type = utf8_at (entry_slots entries) (entry_index entries (entry.Utf8 descriptor)) in
      let value = constant_in (entry_slots entries) (made_constant entries constant) in
      ap (λ (o : Option (List ℕ)). field_of flags o type value) (found.texts name n.0)
      ∙ (ap (λ (o : Option (List ℕ)). field_of flags (Some (unescaped name)) o value) (found.texts descriptor n.1.0)
      ∙ ap (λ (o : Option Constant). field_of flags (Some (unescaped name)) (Some (unescaped descriptor)) o) (value_said constant s.1 n.1.1))
  field_said l s n = refl

  -- METHODS

  caught_fits : (class : Option (List ℕ)) → caught_index entries class < 2 ^ 16
  caught_fits None = omega arith
  caught_fits (Some class) = index_fits entries low (entry.Class class)

  row_valid : (body : List Parsed) → IsWithin entries body → (l : Line) → All IsRow (listed_row entries (labels_of entries body) l)
  row_valid body w (line.Catch from to handler class) =
      All-cons IsRow _ [] (record {
        start = omega (arith, place_within entries body from, w.code);
        end = omega (arith, place_within entries body to, w.code);
        handler = omega (arith, place_within entries body handler, w.code);
        catch = caught_fits class;
      }) (All-nil IsRow)
  row_valid body w l = All-nil IsRow

  rows_valid : (body : List Parsed) → IsWithin entries body → (some : List Parsed) → All IsRow (flat_map (λ p. listed_row entries (labels_of entries body) p.line) some)
  rows_valid body w [] = All-nil IsRow
  rows_valid body w (p ∷ some) = All-append IsRow (listed_row entries (labels_of entries body) p.line) (flat_map (λ q. listed_row entries (labels_of entries body) q.line) some) (row_valid body w p.line) (rows_valid body w some)

  body_valid : (body : List Parsed) (limits : ℕ × ℕ) → IsWithin entries body → AreLimits (Some limits) → IsBody (listed_body entries body limits)
  body_valid body limits w s = record {
    stack = omega (arith, s.0);
    locals = omega (arith, s.1);
    code = omega (arith, code_length entries (labels_of entries body) body, w.code);
    table = record { few = omega (arith, table_length entries body limits, w.handlers); each = rows_valid body w body };
  }

  abbrev code_in : List AttributeOf → Option Body
  code_in attributes = option_and_then (λ a. body_in (code_at a.body)) (find (is_code (entry_slots entries)) attributes)

  code_said : (body : List Parsed) (limits : Option (ℕ × ℕ)) → AreLimits limits → ((x : ℕ × ℕ) → limits ≡ Some x → IsWithin entries body) → AllHas entries (attribute_entries limits) → code_in (made_code entries body limits) ≡ option_map (listed_body entries body) limits
  code_said body None s w n = refl
  code_said body (Some limits) s w n =
      let b = listed_body entries body limits in
      let a : AttributeOf = record { name = entry_index entries (entry.Utf8 (codes "Code")); body = coded.code_bytes b ++ u2 0 } in
      let named : is_code (entry_slots entries) a ≡ true = ap (λ o. is_text o CODE_NAME.now) (found.texts (codes "Code") n.0) ∙ code_name in
      ap (λ (t : Bool). option_and_then (λ (x : AttributeOf). body_in (code_at x.body)) (cond t (Some a) None)) named
      ∙ ap body_in (code_back b (body_valid body limits (w limits refl) s))

  abbrev method_of : ℕ → Option (List ℕ) → Option (List ℕ) → Option Body → List AcceptedMethod
  method_of flags name descriptor code = record { flags = flags; name = name; descriptor = descriptor; code = code } ∷ []

  method_said : (before : List Parsed) (p : Parsed) (behind : List Parsed) → LineHolds entries before p behind → is_inside (stage_of before) ≡ false → (l : Line) → p.line ≡ l → IsSane l → AllHas entries (header_entries l) → map (accepted_method (entry_slots entries)) (made_method entries l behind) ≡ listed_method entries l behind
  method_said before p behind h out (line.Method name descriptor flags limits) e s n =
      let type = utf8_at (entry_slots entries) (entry_index entries (entry.Utf8 descriptor)) in
      let code = code_in (made_code entries (lines_of_body behind) limits) in
      ap (λ (o : Option (List ℕ)). method_of flags o type code) (found.texts name n.0)
      ∙ (ap (λ (o : Option (List ℕ)). method_of flags (Some (unescaped name)) o code) (found.texts descriptor n.1.0)
      ∙ ap (λ (o : Option Body). method_of flags (Some (unescaped name)) (Some (unescaped descriptor)) o)
      (code_said (lines_of_body behind) limits s.1 (λ x is. opened entries low before p behind h out name descriptor flags x (e ∙ ap (line.Method name descriptor flags) is)) n.1.1))
  method_said before p behind h out l e s n = refl

  methods_said : (before more : List Parsed) → LinesHold entries before more → AllSane more → AllNamed entries more → map (accepted_method (entry_slots entries)) (along_from (method_item entries) before more) ≡ along_from (listed_methods entries) before more
  unfolding along_from
  methods_said before [] h s n = refl
  methods_said before (p ∷ more) h s n =
      map-append (accepted_method (entry_slots entries)) (method_item entries before p more) (along_from (method_item entries) (before ++ p ∷ []) more)
      ∙ (ap (λ (ms : List AcceptedMethod). ms ++ map (accepted_method (entry_slots entries)) (along_from (method_item entries) (before ++ p ∷ []) more)) (by (is_inside (stage_of before)) (λ out. method_said before p more h.0 out p.line refl s.0 n.0))
      ∙ ap (λ (ms : List AcceptedMethod). listed_methods entries before p more ++ ms) (methods_said (before ++ p ∷ []) more h.1 s.1 n.1))
    where
      by : (b : Bool) → (b ≡ false → map (accepted_method (entry_slots entries)) (made_method entries p.line more) ≡ listed_method entries p.line more) → map (accepted_method (entry_slots entries)) (cond b [] (made_method entries p.line more)) ≡ cond b [] (listed_method entries p.line more)
      by true k = refl
      by false k = k refl

-- THE WHOLE

abbrev header_of : ℕ → Option (List ℕ) → Option (List ℕ) → List Header
header_of flags name super = record { flags = flags; name = name; super = super } ∷ []

pub say : ClassesHaveListings
say text c marks is =
    let ls = parsed_lines text in
    let entries = pool ls in
    let found = finds ls in
    let held = lines_hold entries ls (all_hold (marks_of text) marks) in
    let sane = all_sane (map words (lines text)) in
    let named = all_named ls held in
    let low = low_pool ls held in
    let h = one_class entries ls held in
    let facts = subst (Facts entries) h.is (class_facts entries ls sane named) in
    let same = read_is ls held sane h facts.0.0 c is.read in
    let super_at = class_name_at (entry_slots entries) (entry_index entries (entry.Class h.super)) in
    let header = ap (λ (o : Option (List ℕ)). header_of h.flags o super_at) (found.classes h.name facts.0.1.0) ∙ ap (λ (o : Option (List ℕ)). header_of h.flags (Some (unescaped h.name)) o) (found.classes h.super facts.0.1.1.0) in
    subst (HasListing ls) (sym same) (record {
      minor = refl;
      major = refl;
      constants = refl;
      named = λ e used. found.items e (pool_has ls e used);
      header = header ∙ sym (by_class listed_header header_only ls ∙ ap (flat_map listed_header) h.is);
      interfaces = map_same entries (class_name_at (entry_slots entries)) (made_interface entries) listed_interface (interface_said entries found low) ls sane named;
      fields = map_same entries (accepted_field (entry_slots entries)) (made_field entries) listed_field (field_said entries found low) ls sane named;
      methods = methods_said entries found low [] ls held sane named;
      attributes = refl;
    })

-- the same for bytes that are those of the listing
pub accepted : (text bytes : List ℕ) → MarksAre (marks_of text) None → bytes ≡ assembled_bytes text → (c : ClassOf) → IsClassFile bytes c → HasListing (parsed_lines text) c
accepted text bytes marks same c is = say text c marks (subst (λ (bs : List ℕ). IsClassFile bs c) same is)
