-- The class of a listing, item by item, and that its bytes are those of the listing.
use Rattle.std.proofs.Common.{◌≡◌, ℕ, ◌+◌, ◌*◌, Bool, true, false, cond, List, [], ◌∷◌, ◌++◌, length, codes, Option, Some, None, refl, sym, ap, ◌∙◌, arith, append_assoc, append-nil, length-append, true≢false}
use Rattle.std.specs.Prelude.{if◌then◌else◌}
use Rattle.std.specs.List.{flat_map}
use Rattle.std.proofs.lemmas.List.Sums.{sum_by-cons}
use Rattle.std.proofs.lemmas.Grind.{flat_map-append}
use Rattle.et_pool.specs.Looks.{slot_bytes}
use Rattle.et_code.specs.declared.body.TableRow.{TableRow}
use Rattle.et_class.specs.Layout.{AttributeOf, MemberOf, ClassOf, u2, u4}
use Rattle.et_class.specs.Layout as class
use Rattle.et_class.proofs.Coded as coded
use Rattle.et_listing.specs.declared.entry.Entry.{Entry}
use Rattle.et_listing.specs.declared.entry.Entry.TheVariants as entry
use Rattle.et_listing.specs.declared.line.Line.{Line}
use Rattle.et_listing.specs.declared.line.Line.TheVariants as line
use Rattle.et_listing.specs.declared.line.Parsed.{Parsed}
use Rattle.et_asm.specs.declared.order.Stage.{Stage}
use Rattle.et_asm.specs.declared.order.Stage.TheVariants as stage
use Rattle.et_asm.specs.Along.{along_lines, along_from}
use Rattle.et_asm.specs.Order.{lines_of_body, stage_of, is_inside, may_stand}
use Rattle.et_asm.specs.Pool.{pool, entry_index}
use Rattle.et_asm.specs.Spelled.{entry_slots}
use Rattle.et_asm.specs.Code.{Labels, place_behind, labels_of, code_bytes, is_catch, catch_count, row_bytes, code_attribute}
use Rattle.et_asm.specs.Listings.{is_interface_line, is_field_line, is_method_line, count, header_bytes, interface_bytes, field_bytes, method_bytes, method_bytes_at, methods_bytes, listed_class_bytes}
use Rattle.et_asm.specs.Accepted.{listed_row, listed_body}
use Rattle.et_asm.proofs.Slots.{spelled}
use Rattle.et_asm.proofs.Lengths.{code_length}
use Rattle.et_asm.proofs.Held.{LinesHold}
use Rattle.et_asm.proofs.Ordered.{class_line, by_class, OneClass}

-- ITEMS

abbrev pub made_interface : List Entry → Line → List ℕ
made_interface entries (line.Interface name) = entry_index entries (entry.Class name) ∷ []
made_interface entries other = []

abbrev pub made_constant : List Entry → Option Entry → List AttributeOf
made_constant entries None = []
made_constant entries (Some e) = record { name = entry_index entries (entry.Utf8 (codes "ConstantValue")); body = u2 (entry_index entries e) } ∷ []

abbrev pub made_field : List Entry → Line → List MemberOf
made_field entries (line.Field name descriptor flags constant) =
    record { flags = flags; name = entry_index entries (entry.Utf8 name); descriptor = entry_index entries (entry.Utf8 descriptor); attributes = made_constant entries constant } ∷ []
made_field entries other = []

abbrev pub made_code : List Entry → List Parsed → Option (ℕ × ℕ) → List AttributeOf
made_code entries body None = []
made_code entries body (Some limits) = record { name = entry_index entries (entry.Utf8 (codes "Code")); body = coded.code_bytes (listed_body entries body limits) ++ u2 0 } ∷ []

abbrev pub made_method : List Entry → Line → List Parsed → List MemberOf
made_method entries (line.Method name descriptor flags limits) behind =
    record { flags = flags; name = entry_index entries (entry.Utf8 name); descriptor = entry_index entries (entry.Utf8 descriptor); attributes = made_code entries (lines_of_body behind) limits } ∷ []
made_method entries other behind = []

abbrev pub method_item : List Entry → List Parsed → Parsed → List Parsed → List MemberOf
method_item entries before p behind = if is_inside (stage_of before) then [] else made_method entries p.line behind

abbrev pub made_class : List Entry → List Parsed → ℕ → List ℕ → List ℕ → ClassOf
made_class entries lines flags name super = record {
  minor = 0;
  major = 52;
  slots = entry_slots entries;
  flags = flags;
  this = entry_index entries (entry.Class name);
  super = entry_index entries (entry.Class super);
  interfaces = flat_map (λ p. made_interface entries p.line) lines;
  fields = flat_map (λ p. made_field entries p.line) lines;
  methods = along_lines (method_item entries) lines;
  attributes = [];
}

-- LISTS

module _ {Y : Type 0} where
  pub flat_same : (f : Y → List ℕ) (g : Line → List Y) (k : Line → List ℕ) → ((l : Line) → flat_map f (g l) ≡ k l) → (lines : List Parsed) → flat_map f (flat_map (λ p. g p.line) lines) ≡ flat_map (λ p. k p.line) lines
  flat_same f g k each [] = refl
  flat_same f g k each (p ∷ lines) =
      flat_map-append f (g p.line) (flat_map (λ q. g q.line) lines)
      ∙ (ap (λ bs. bs ++ flat_map f (flat_map (λ q. g q.line) lines)) (each p.line) ∙ ap (λ bs. k p.line ++ bs) (flat_same f g k each lines))

  pub count_same : (g : Line → List Y) (test : Line → Bool) → ((l : Line) → length (g l) ≡ cond (test l) 1 0) → (lines : List Parsed) → length (flat_map (λ p. g p.line) lines) ≡ count test lines
  count_same g test each [] = refl
  count_same g test each (p ∷ lines) =
      omega (arith, length-append (g p.line) (flat_map (λ q. g q.line) lines), each p.line, count_same g test each lines, sum_by-cons (λ (q : Parsed). cond (test q.line) 1 0) p lines)

  pub along_same : (f : Y → List ℕ) (g : List Parsed → Parsed → List Parsed → List Y) (k : List Parsed → Parsed → List Parsed → List ℕ)
      → ((before : List Parsed) (p : Parsed) (behind : List Parsed) → flat_map f (g before p behind) ≡ k before p behind) → (before more : List Parsed) → flat_map f (along_from g before more) ≡ along_from k before more
  unfolding along_from
  along_same f g k each before [] = refl
  along_same f g k each before (p ∷ more) =
      flat_map-append f (g before p more) (along_from g (before ++ p ∷ []) more)
      ∙ (ap (λ bs. bs ++ flat_map f (along_from g (before ++ p ∷ []) more)) (each before p more) ∙ ap (λ bs. k before p more ++ bs) (along_same f g k each (before ++ p ∷ []) more))

-- INTERFACES AND FIELDS

interface_same : (entries : List Entry) (l : Line) → flat_map class.u2 (made_interface entries l) ≡ interface_bytes entries l
interface_same entries (line.Interface name) = refl
interface_same entries l = refl

pub one_interface : (entries : List Entry) (l : Line) → length (made_interface entries l) ≡ cond (is_interface_line l) 1 0
one_interface entries (line.Interface name) = refl
one_interface entries l = refl

field_same : (entries : List Entry) (l : Line) → flat_map class.member_bytes (made_field entries l) ≡ field_bytes entries l
field_same entries (line.Field name descriptor flags None) = refl
field_same entries (line.Field name descriptor flags (Some e)) = refl
field_same entries l = refl

pub one_field : (entries : List Entry) (l : Line) → length (made_field entries l) ≡ cond (is_field_line l) 1 0
one_field entries (line.Field name descriptor flags constant) = refl
one_field entries l = refl

-- METHODS

row_same : (entries : List Entry) (labels : Labels) (l : Line) → flat_map coded.row_bytes (listed_row entries labels l) ≡ row_bytes entries labels l
row_same entries labels (line.Catch from to handler class) = refl
row_same entries labels l = refl

pub one_row : (entries : List Entry) (labels : Labels) (l : Line) → length (listed_row entries labels l) ≡ cond (is_catch l) 1 0
one_row entries labels (line.Catch from to handler class) = refl
one_row entries labels l = refl

module _ (entries : List Entry) (body : List Parsed) (limits : ℕ × ℕ) where
  abbrev labels : Labels
  labels = labels_of entries body

  abbrev code : List ℕ
  code = code_bytes entries labels body

  abbrev table : List TableRow
  table = flat_map (λ p. listed_row entries labels p.line) body

  abbrev rows : List ℕ
  rows = flat_map coded.row_bytes table

  pub table_length : length table ≡ catch_count body
  table_length = count_same (listed_row entries labels) is_catch (one_row entries labels) body

  pub body_size : length (coded.code_bytes (listed_body entries body limits) ++ u2 0) ≡ 12 + place_behind entries body + catch_count body * 8
  body_size =
      omega (arith, length-append (coded.code_bytes (listed_body entries body limits)) (u2 0), length-append code (u2 (length table) ++ rows), coded.rows_size table, table_length, code_length entries labels body)

  rest_same : (u4 (length code) ++ (code ++ (u2 (length table) ++ rows))) ++ u2 0 ≡ u4 (place_behind entries body) ++ (code ++ (u2 (catch_count body) ++ (flat_map (λ p. row_bytes entries labels p.line) body ++ u2 0)))
  rest_same =
      ap (λ n. u4 n ++ ((code ++ (u2 (length table) ++ rows)) ++ u2 0)) (code_length entries labels body)
      ∙ ap (λ xs. u4 (place_behind entries body) ++ xs)
      (append_assoc code (u2 (length table) ++ rows) (u2 0)
      ∙ (ap (λ n. code ++ (u2 n ++ (rows ++ u2 0))) table_length
      ∙ ap (λ xs. code ++ (u2 (catch_count body) ++ (xs ++ u2 0))) (flat_same coded.row_bytes (listed_row entries labels) (row_bytes entries labels) (row_same entries labels) body)))

  code_same : u4 (length (coded.code_bytes (listed_body entries body limits) ++ u2 0)) ++ (coded.code_bytes (listed_body entries body limits) ++ u2 0) ≡ code_attribute entries labels limits body
  code_same =
      ap (λ n. u4 n ++ (coded.code_bytes (listed_body entries body limits) ++ u2 0)) body_size
      ∙ ap (λ xs. u4 (12 + place_behind entries body + catch_count body * 8) ++ (u2 limits.0 ++ (u2 limits.1 ++ xs))) rest_same

twice_nil : (xs : List ℕ) → (xs ++ []) ++ [] ≡ xs
twice_nil xs = append-nil (xs ++ []) ∙ append-nil xs

method_same : (entries : List Entry) (l : Line) (behind : List Parsed) → flat_map class.member_bytes (made_method entries l behind) ≡ method_bytes entries l behind
method_same entries (line.Method name descriptor flags None) behind = refl
method_same entries (line.Method name descriptor flags (Some limits)) behind =
    let body = coded.code_bytes (listed_body entries (lines_of_body behind) limits) ++ u2 0 in
    ap (λ xs. u2 flags ++ (u2 (entry_index entries (entry.Utf8 name)) ++ (u2 (entry_index entries (entry.Utf8 descriptor)) ++ (u2 1 ++ (u2 (entry_index entries (entry.Utf8 (codes "Code"))) ++ xs)))))
    (twice_nil (u4 (length body) ++ body) ∙ code_same entries (lines_of_body behind) limits)
method_same entries l behind = refl

item_same : (entries : List Entry) (before : List Parsed) (p : Parsed) (behind : List Parsed) → flat_map class.member_bytes (method_item entries before p behind) ≡ method_bytes_at entries before p behind
item_same entries before p behind = by (is_inside (stage_of before))
  where
    by : (b : Bool) → flat_map class.member_bytes (cond b [] (made_method entries p.line behind)) ≡ cond b [] (method_bytes entries p.line behind)
    by true = refl
    by false = method_same entries p.line behind

one_method : (entries : List Entry) (l : Line) (behind : List Parsed) → length (made_method entries l behind) ≡ cond (is_method_line l) 1 0
one_method entries (line.Method name descriptor flags limits) behind = refl
one_method entries l behind = refl

-- no method line stands in a body
item_one : (entries : List Entry) (before : List Parsed) (p : Parsed) (behind : List Parsed) → may_stand (stage_of before) p.line ≡ true → length (method_item entries before p behind) ≡ cond (is_method_line p.line) 1 0
item_one entries before p behind m = by (stage_of before) p.line m
  where
    by : (s : Stage) (l : Line) → may_stand s l ≡ true → length (cond (is_inside s) [] (made_method entries l behind)) ≡ cond (is_method_line l) 1 0
    by stage.Body (line.Method name descriptor flags limits) k = absurd (true≢false (sym k))
    by stage.Body l k = refl
    by s l k = one_method entries l behind

methods_from : (entries : List Entry) (before more : List Parsed) → LinesHold entries before more → length (along_from (method_item entries) before more) ≡ count is_method_line more
unfolding along_from
methods_from entries before [] h = refl
methods_from entries before (p ∷ more) h =
    omega (arith, length-append (method_item entries before p more) (along_from (method_item entries) (before ++ p ∷ []) more), item_one entries before p more h.0.stands, methods_from entries (before ++ p ∷ []) more h.1, sum_by-cons (λ (q : Parsed). cond (is_method_line q.line) 1 0) p more)

pub methods_count : (entries : List Entry) (lines : List Parsed) → LinesHold entries [] lines → length (along_lines (method_item entries) lines) ≡ count is_method_line lines
methods_count entries lines h = methods_from entries [] lines h

-- THE WHOLE

header_only : (entries : List Entry) (l : Line) → header_bytes entries l ≡ flat_map (header_bytes entries) (class_line l)
header_only entries (line.Class name super flags) = refl
header_only entries l = refl

abbrev whole : List ℕ → List ℕ → ℕ → List ℕ → ℕ → List ℕ → ℕ → List ℕ → List ℕ
whole constants header interfaces a fields b methods c =
    u4 0xCAFEBABE ++ (u2 0 ++ (u2 52 ++ (constants ++ (header ++ (u2 interfaces ++ (a ++ (u2 fields ++ (b ++ (u2 methods ++ (c ++ u2 0))))))))))

pub class_same : (lines : List Parsed) → LinesHold (pool lines) [] lines → (h : OneClass (pool lines) lines) → listed_class_bytes (pool lines) lines ≡ class.class_bytes (made_class (pool lines) lines h.flags h.name h.super)
unfolding listed_class_bytes
class_same lines held h =
    let entries = pool lines in
    let header = u2 h.flags ++ (u2 (entry_index entries (entry.Class h.name)) ++ u2 (entry_index entries (entry.Class h.super))) in
    let headers : flat_map (λ p. header_bytes entries p.line) lines ≡ header = by_class (header_bytes entries) (header_only entries) lines ∙ ap (flat_map (header_bytes entries)) h.is in
    let slots_bytes = class.counted_bytes slot_bytes (entry_slots entries) in
    let interfaces = flat_map (λ p. made_interface entries p.line) lines in
    let fields = flat_map (λ p. made_field entries p.line) lines in
    let methods = along_lines (method_item entries) lines in
    let a0 = flat_map (λ p. interface_bytes entries p.line) lines in
    let b0 = flat_map (λ p. field_bytes entries p.line) lines in
    let c0 = methods_bytes entries lines in
    let a1 = flat_map class.u2 interfaces in
    let b1 = flat_map class.member_bytes fields in
    let c1 = flat_map class.member_bytes methods in
    let i0 = count is_interface_line lines in
    let f0 = count is_field_line lines in
    let m0 = count is_method_line lines in
    let i1 = length interfaces in
    let f1 = length fields in
    let m1 = length methods in
    ap (λ x. whole x (flat_map (λ p. header_bytes entries p.line) lines) i0 a0 f0 b0 m0 c0) (spelled lines)
    ∙ (ap (λ x. whole slots_bytes x i0 a0 f0 b0 m0 c0) headers
    ∙ (ap (λ x. whole slots_bytes header x a0 f0 b0 m0 c0) (sym (count_same (made_interface entries) is_interface_line (one_interface entries) lines))
    ∙ (ap (λ x. whole slots_bytes header i1 x f0 b0 m0 c0) (sym (flat_same class.u2 (made_interface entries) (interface_bytes entries) (interface_same entries) lines))
    ∙ (ap (λ x. whole slots_bytes header i1 a1 x b0 m0 c0) (sym (count_same (made_field entries) is_field_line (one_field entries) lines))
    ∙ (ap (λ x. whole slots_bytes header i1 a1 f1 x m0 c0) (sym (flat_same class.member_bytes (made_field entries) (field_bytes entries) (field_same entries) lines))
    ∙ (ap (λ x. whole slots_bytes header i1 a1 f1 b1 x c0) (sym (methods_count entries lines held))
    ∙ ap (λ x. whole slots_bytes header i1 a1 f1 b1 m1 x) (sym (along_same class.member_bytes (method_item entries) (method_bytes_at entries) (item_same entries) [] lines))))))))
