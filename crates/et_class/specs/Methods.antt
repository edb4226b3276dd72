-- The rules on methods (JVMS 4.6) and on their Code attribute (4.7.3).
use Rattle.std.specs.Prelude.{◌≡◌, ℕ, map, ◌+◌, List, [], ◌∷◌, ◌++◌, Bool, true, false, not, nat_le, ◌&&◌, ◌||◌, if◌then◌else◌, Option, Some, None, option_and_then, option_map, is_some, Result, Ok, Err}
use Rattle.std.specs.List.{list_any, find}
use Rattle.et_base.specs.Marks.{Mark, mark}
use Rattle.et_pool.specs.declared.descriptor.MethodShape.{MethodShape}
use Rattle.et_pool.specs.Entries.{Item}
use Rattle.et_pool.specs.Looks.{utf8_at, tag_of_slot}
use Rattle.et_pool.specs.Descriptors.{method_type, shape_of_method}
use Rattle.et_code.specs.declared.body.TheConstants.{CODE, UNSUPPORTED}
use Rattle.et_code.specs.Bodies.{Body}
use Rattle.et_class.specs.declared.fault.TheConstants.{FLAGS, DESCRIPTOR, MEMBER, ATTRIBUTE}
use Rattle.et_class.specs.declared.flags.TheConstants.{PRIVATE, STATIC, FINAL, SYNCHRONIZED, NATIVE, ABSTRACT}
use Rattle.et_class.specs.declared.names.TheConstants.{CODE_NAME, INIT, CLINIT}
use Rattle.et_class.specs.declared.methods.Constants.{Constants}
use Rattle.et_class.specs.Layout.{AttributeOf, MemberOf, attribute_bytes}
use Rattle.et_class.specs.Along.{along}
use Rattle.et_class.specs.Names.{has, is_attribute_named, is_member_named, has_member_name, is_member_new}
use Rattle.et_class.specs.Fields.{is_one_access, attribute_marks}
use Rattle.et_class.specs.Codes.{CodeOf, code_at, body_marks}

-- the tags beside a pool are those of its entries
abbrev pub HasItsTags : Constants → Type 0
HasItsTags c = c.tags.now ≡ map tag_of_slot c.pool.now.slots

-- an abstract method is none of final, native, private, static and synchronized
abbrev pub is_method_flags : ℕ → Bool
is_method_flags flags =
    is_one_access flags
    && (not (has flags ABSTRACT) || not (has flags FINAL || has flags NATIVE || has flags PRIVATE || has flags STATIC || has flags SYNCHRONIZED))

abbrev pub is_clinit : List (Option Item) → MemberOf → Bool
is_clinit slots m = is_member_named slots CLINIT.now m

abbrev pub is_init : List (Option Item) → MemberOf → Bool
is_init slots m = is_member_named slots INIT.now m

-- what the descriptor says, where it is that of a method
abbrev pub shape_at : List (Option Item) → MemberOf → Option MethodShape
shape_at slots m = option_and_then (λ d. option_map shape_of_method (method_type d)) (utf8_at slots m.descriptor)

-- the receiver takes one entry: a static method has none, and <clinit> counts as having none
abbrev pub receiver_words : List (Option Item) → MemberOf → ℕ
receiver_words slots m = if has m.flags STATIC || is_clinit slots m then 0 else 1

-- the descriptor is that of a method; <init> answers V; the parameters with the receiver take at most 255 entries (4.3.3)
abbrev pub is_shape_well : ℕ → Bool → Option MethodShape → Bool
is_shape_well receiver init None = false
is_shape_well receiver init (Some s) = nat_le (s.entries + receiver) 255 && (not init || s.void)

abbrev pub is_floating_shape : Option MethodShape → Bool
is_floating_shape None = false
is_floating_shape (Some s) = s.floating

-- the arguments fit in the local variables
abbrev pub arguments_fit_locals : ℕ → ℕ → Option MethodShape → Bool
arguments_fit_locals receiver max_locals None = true
arguments_fit_locals receiver max_locals (Some s) = nat_le (s.entries + receiver) max_locals

abbrev pub is_code : List (Option Item) → AttributeOf → Bool
is_code slots a = is_attribute_named slots CODE_NAME.now a

-- the body of a Code attribute at a place: its items fill it, its code_length stands 10 bytes on, and its attributes
-- have names
abbrev pub code_attribute_marks : List (Option Item) → ℕ → Option MethodShape → ℕ → Result CodeOf (ℕ × ℕ) → List Mark
code_attribute_marks slots receiver shape place (Err f) = mark place ATTRIBUTE false ∷ []
code_attribute_marks slots receiver shape place (Ok c) =
    along attribute_bytes (attribute_marks slots) [] (place + 6 + c.first) c.attributes
    ++ (mark (place + 10) CODE (arguments_fit_locals receiver c.body.max_locals shape) ∷ body_marks slots (place + 10) c.body)

-- a method has at most one Code: whether one was seen before this one
abbrev pub code_marks_if : List (Option Item) → MemberOf → Bool → ℕ → AttributeOf → List Mark
code_marks_if slots m seen place a = if seen then mark place ATTRIBUTE false ∷ [] else code_attribute_marks slots (receiver_words slots m) (shape_at slots m) place (code_at a.body)

abbrev pub method_attribute_marks_if : List (Option Item) → MemberOf → Bool → ℕ → AttributeOf → List Mark
method_attribute_marks_if slots m seen place a = mark place ATTRIBUTE (is_some (utf8_at slots a.name)) ∷ (if is_code slots a then code_marks_if slots m seen place a else [])

abbrev pub method_attribute_marks : List (Option Item) → MemberOf → List AttributeOf → ℕ → AttributeOf → List Mark
method_attribute_marks slots m before place a = method_attribute_marks_if slots m (list_any (is_code slots) before) place a

-- a method other than <clinit> has code exactly where it is neither native nor abstract
abbrev pub is_code_well : List (Option Item) → MemberOf → Bool
is_code_well slots m =
    is_clinit slots m || (if has m.flags NATIVE || has m.flags ABSTRACT then not (list_any (is_code slots) m.attributes) else list_any (is_code slots) m.attributes)

-- a method at a place: its access_flags begin it, its descriptor_index stands 4 bytes on, its attributes 8. No rule
-- looks at the flags of <clinit>.
abbrev pub method_marks_if : List (Option Item) → Bool → ℕ → MemberOf → List Mark
method_marks_if slots new place m =
    mark place FLAGS (is_clinit slots m || is_method_flags m.flags) ∷
    mark place MEMBER (has_member_name slots m && new) ∷
    mark place MEMBER (is_code_well slots m) ∷
    mark (place + 4) DESCRIPTOR (is_shape_well (receiver_words slots m) (is_init slots m) (shape_at slots m)) ∷
    mark (place + 4) UNSUPPORTED (not (is_floating_shape (shape_at slots m))) ∷
    along attribute_bytes (method_attribute_marks slots m) [] (place + 8) m.attributes

abbrev pub method_marks : List (Option Item) → List MemberOf → ℕ → MemberOf → List Mark
method_marks slots before place m = method_marks_if slots (is_member_new slots before m) place m

-- the code of a method: that of its Code attribute
abbrev pub body_in : Result CodeOf (ℕ × ℕ) → Option Body
body_in (Ok c) = Some c.body
body_in (Err f) = None

abbrev pub code_of : List (Option Item) → MemberOf → Option Body
code_of slots m = option_and_then (λ a. body_in (code_at a.body)) (find (is_code slots) m.attributes)
