-- The answers of resolution (JVMS 5.4.3) and of selection (6.5, invokevirtual, invokeinterface, invokespecial), with
-- their errors. No access checks are made.
use Rattle.std.specs.Prelude.{ℕ, Bool, true, false, ◌==◌, ◌&&◌, ◌||◌, not, if◌then◌else◌, List, [], ◌∷◌, Option, None, Some, Result, Ok, Err, codes}
use Rattle.std.specs.List.{list_any}
use Rattle.std.specs.Option.{option_or, ok_or}
use Rattle.std.specs.Str.{bytes_eq}
use Rattle.et_program.specs.Entries.{Linked, class_at, method_at, is_interface, is_private, is_static, is_abstract}
use Rattle.et_program.specs.Members.{class_named, lineage, method_in, field_in, first_in, kept, specific_methods, amount, resolved_above, is_subclass}
use Rattle.et_program.specs.declared.errors.Specific.{Specific}
use Rattle.et_program.specs.declared.errors.Specific.TheVariants.{Nothing, One, Several}
use Rattle.et_program.specs.declared.errors.LinkError.{LinkError}
use Rattle.et_program.specs.declared.errors.LinkError.TheVariants.{NoClassDefFound, NoSuchField, NoSuchMethod, IncompatibleClassChange, AbstractMethod}

-- 5.4.3.1
abbrev pub resolve_class : Linked → List ℕ → Result ℕ LinkError
resolve_class p name = ok_or (class_named p name) NoClassDefFound

-- 5.4.3.2: the class itself, its direct superinterfaces with what is above them, and then its superclass with what is
-- above it
abbrev pub resolve_field : Linked → ℕ → List ℕ → List ℕ → Result ℕ LinkError
resolve_field p owner name descriptor = ok_or (first_in (field_in p name descriptor) (class_at p owner).field_order) NoSuchField

-- 5.4.3.4 by an interface: the interface itself, and then its superinterfaces
-- 5.4.3.3 else: the class and its superclasses upward, and then the superinterfaces
abbrev pub resolve_method : Linked → ℕ → Bool → List ℕ → List ℕ → Result ℕ LinkError
resolve_method p owner true name descriptor =
    if is_interface p owner
    then ok_or (option_or (method_in p name descriptor owner) (resolved_above p name descriptor owner)) NoSuchMethod
    else Err IncompatibleClassChange
resolve_method p owner false name descriptor =
    if is_interface p owner
    then Err IncompatibleClassChange
    else ok_or (option_or (first_in (method_in p name descriptor) (lineage p owner)) (resolved_above p name descriptor owner)) NoSuchMethod

-- where no class on the way up has the method: the one that is maximally specific
abbrev pub selected_above : Specific → Result ℕ LinkError
selected_above Nothing = Err AbstractMethod
selected_above (One m) = Ok m
selected_above Several = Err IncompatibleClassChange

-- a method that was found on the way up may not be abstract
abbrev pub selected : Linked → Option ℕ → Specific → Result ℕ LinkError
selected p None above = selected_above above
selected p (Some m) above = if is_abstract p m then Err AbstractMethod else Ok m

-- selection passes over static methods, and over private ones unless it is that of invokespecial
abbrev pub is_selectable : Linked → Bool → ℕ → Bool
is_selectable p special m = (special || not (is_private p m)) && not (is_static p m)

abbrev pub selectable_in : Linked → Bool → List ℕ → List ℕ → ℕ → Option ℕ
selectable_in p special name descriptor c = kept (is_selectable p special) (method_in p name descriptor c)

-- the method that is selected from class c upward
abbrev pub select_from : Linked → Bool → List ℕ → List ℕ → ℕ → Result ℕ LinkError
select_from p special name descriptor c =
    selected p (first_in (selectable_in p special name descriptor) (lineage p c)) (amount (specific_methods p name descriptor c))

-- Which method a call of the resolved method m enters at a receiver of class c. By invokevirtual a private method is
-- itself entered. By invokeinterface none is where the receiver's class doesn't implement the interface that declares m,
-- nor where m is private.
abbrev pub select : Linked → ℕ → ℕ → Bool → Result ℕ LinkError
select p c m true =
    if is_private p m || not (is_subclass p c (method_at p m).class)
    then Err IncompatibleClassChange
    else select_from p false (method_at p m).name (method_at p m).descriptor c
select p c m false =
    if is_private p m
    then Ok m
    else select_from p false (method_at p m).name (method_at p m).descriptor c

-- the direct superclass
abbrev pub super_or : List ℕ → ℕ → ℕ
super_or [] c = c
super_or (s ∷ supers) c = s

-- where the search of invokespecial begins: at the direct superclass of the current class, where the named class is one
-- of its superclasses, and else at the named class or interface
abbrev pub special_start : Linked → ℕ → ℕ → ℕ
special_start p current named =
    if list_any (λ k. k == named) (class_at p current).supers then super_or (class_at p current).supers named else named

-- which method invokespecial enters: a constructor is the one that the named class itself declares
abbrev pub select_special : Linked → ℕ → ℕ → ℕ → Result ℕ LinkError
select_special p current named m =
    if bytes_eq (method_at p m).name (codes "<init>")
    then (if (method_at p m).class == named then Ok m else Err NoSuchMethod)
    else select_from p true (method_at p m).name (method_at p m).descriptor (special_start p current named)
