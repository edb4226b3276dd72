-- What the effect of an instruction on fields, arrays and classes takes and gives.
use Rattle.std.proofs.Common.{◌⊎◌, ◌≡◌, ℕ, ◌++◌, ◌==◌, ◌||◌, Bool, true, false, List, [], ◌∷◌, length, Option, Some, None, IsSome, refl, sym, ◌∙◌, ap, subst, inl, inr}
use Rattle.std.specs.Prelude.{if◌then◌else◌, map, unwrap_or, option_map, option_and_then}
use Rattle.std.proofs.lemmas.Bool.{eqb-true}
use Rattle.std.proofs.lemmas.Option.{none-some}
use Rattle.et_base.specs.declared.value.Value.{Value}
use Rattle.et_base.specs.declared.value.Value.TheVariants as value
use Rattle.et_class.specs.PoolOperands.Operand.{Operand}
use Rattle.et_class.specs.PoolOperands.Operand.TheVariants as operand
use Rattle.et_class.specs.Operands.{operand_kind}
use Rattle.et_class.specs.Descriptors.{is_field_descriptor, width_of}
use Rattle.et_event.specs.Checks.{entries_of}
use Rattle.et_event.specs.Kinds.{or_zero}
use Rattle.et_event.specs.Sites.{Member}
use Rattle.et_event.specs.Sound.{is_of_kind}
use Rattle.et_flow.specs.declared.types.EntryType.{EntryType}
use Rattle.et_verify.specs.Effects.{Effect, described_by, giving, result_kind, taking}
use Rattle.et_verify.specs.Steps.{below_taken, moved_where}
use Rattle.et_flow.specs.Types.{operand_entries, type_of}
use Rattle.et_theorems.proofs.typings.Plain.{MovesAs, moves_as}

pub false_true : false ≡ true → ⊥
false_true q = cc

-- WHAT AN EFFECT SAYS

-- operands of these kinds are taken, and one is given
pub record Gives (kinds : List Operand) (kind : Operand) (before after : List EntryType) : Type 0 where
  pub left : List EntryType
  pub taken : below_taken kinds before ≡ Some left
  pub given : after ≡ operand_entries kind ++ left

pub gives : (kinds : List Operand) (kind : Operand) (before after : List EntryType) → moved_where (Some (giving kinds kind)) before ≡ Some after → Gives kinds kind before after
gives kinds kind before after h =
    let m : MovesAs (giving kinds kind) before after = moves_as (giving kinds kind) before after h in
    record { left = m.left; taken = m.taken; given = m.given }

pub takes_all : (kinds : List Operand) (before after : List EntryType) → moved_where (Some (taking kinds)) before ≡ Some after → below_taken kinds before ≡ Some after
takes_all kinds before after h =
    let m : MovesAs (taking kinds) before after = moves_as (taking kinds) before after h in
    m.taken ∙ ap (λ (xs : List EntryType). Some xs) (sym m.given)

-- a field is read
pub record Reads (o : Option Member) (kinds : List Operand) (before after : List EntryType) : Type 0 where
  pub member : Member
  pub named : o ≡ Some member
  pub field : is_field_descriptor member.descriptor ≡ true
  pub gives : Gives kinds (result_kind member.descriptor) before after

pub reads : (o : Option Member) (kinds : List Operand) (before after : List EntryType) → moved_where (option_map (λ type. giving kinds (result_kind type)) (described_by o)) before ≡ Some after → Reads o kinds before after
reads None kinds before after h = absurd (none-some after h)
reads (Some m) kinds before after h = by (is_field_descriptor m.descriptor) refl h
  where
    by : (b : Bool) → is_field_descriptor m.descriptor ≡ b → moved_where (option_map (λ type. giving kinds (result_kind type)) (if b then Some m.descriptor else None)) before ≡ Some after → Reads (Some m) kinds before after
    by true q k = record { member = m; named = refl; field = q; gives = gives kinds (result_kind m.descriptor) before after k }
    by false q k = absurd (none-some after k)

-- .. or written
pub record Writes (o : Option Member) (below : List Operand) (before after : List EntryType) : Type 0 where
  pub member : Member
  pub named : o ≡ Some member
  pub field : is_field_descriptor member.descriptor ≡ true
  pub kind : Operand
  pub kind_is : operand_kind member.descriptor ≡ Some kind
  pub taken : below_taken (kind ∷ below) before ≡ Some after

pub writes : (o : Option Member) (below : List Operand) (before after : List EntryType) → moved_where (option_map (λ kind. taking (kind ∷ below)) (option_and_then operand_kind (described_by o))) before ≡ Some after → Writes o below before after
writes None below before after h = absurd (none-some after h)
writes (Some m) below before after h = by (is_field_descriptor m.descriptor) refl h
  where
    of_kind : (k : Option Operand) → operand_kind m.descriptor ≡ k → is_field_descriptor m.descriptor ≡ true → moved_where (option_map (λ kind. taking (kind ∷ below)) k) before ≡ Some after → Writes (Some m) below before after
    of_kind None q f j = absurd (none-some after j)
    of_kind (Some kind) q f j = record { member = m; named = refl; field = f; kind = kind; kind_is = q; taken = takes_all (kind ∷ below) before after j }

    by : (b : Bool) → is_field_descriptor m.descriptor ≡ b → moved_where (option_map (λ kind. taking (kind ∷ below)) (option_and_then operand_kind (if b then Some m.descriptor else None))) before ≡ Some after → Writes (Some m) below before after
    by true q k = of_kind (operand_kind m.descriptor) refl q k
    by false q k = absurd (none-some after k)

-- a class is named
pub record NamesClass (o : Option (List ℕ)) (x : Effect) (before after : List EntryType) : Type 0 where
  pub name : List ℕ
  pub named : o ≡ Some name
  pub moves : moved_where (Some x) before ≡ Some after

pub names_class : (o : Option (List ℕ)) (x : Effect) (before after : List EntryType) → moved_where (option_map (λ name. x) o) before ≡ Some after → NamesClass o x before after
names_class None x before after h = absurd (none-some after h)
names_class (Some name) x before after h = record { name = name; named = refl; moves = h }

-- VALUES OF KINDS

-- what is read has the entries of its kind
pub read_entries : (k : Option Operand) (other : Operand) (v : Value) → IsSome k → is_of_kind k v ≡ true → map type_of (entries_of (or_zero k v)) ≡ operand_entries (unwrap_or k other)
read_entries None other v some is = absurd (false_true some)
read_entries (Some operand.Int) other value.Unset some is = refl
read_entries (Some operand.Int) other (value.Int n) some is = refl
read_entries (Some operand.Int) other (value.Long n) some is = absurd (false_true is)
read_entries (Some operand.Int) other value.LongHigh some is = absurd (false_true is)
read_entries (Some operand.Int) other value.Null some is = absurd (false_true is)
read_entries (Some operand.Int) other (value.Ref o) some is = absurd (false_true is)
read_entries (Some operand.Long) other value.Unset some is = refl
read_entries (Some operand.Long) other (value.Int n) some is = absurd (false_true is)
read_entries (Some operand.Long) other (value.Long n) some is = refl
read_entries (Some operand.Long) other value.LongHigh some is = absurd (false_true is)
read_entries (Some operand.Long) other value.Null some is = absurd (false_true is)
read_entries (Some operand.Long) other (value.Ref o) some is = absurd (false_true is)
read_entries (Some operand.Reference) other value.Unset some is = refl
read_entries (Some operand.Reference) other (value.Int n) some is = absurd (false_true is)
read_entries (Some operand.Reference) other (value.Long n) some is = absurd (false_true is)
read_entries (Some operand.Reference) other value.LongHigh some is = absurd (false_true is)
read_entries (Some operand.Reference) other value.Null some is = refl
read_entries (Some operand.Reference) other (value.Ref o) some is = refl

-- as many entries as the type is wide
width_by : (x j y d : Bool) → (x ≡ true → (d || j) ≡ false) → (y ≡ true → d ≡ false)
    → length (operand_entries (unwrap_or (if x then Some operand.Int else (if j then Some operand.Long else (if y then Some operand.Reference else None))) (if (if d || j then 2 else 1) == 2 then operand.Long else operand.Int))) ≡ (if d || j then 2 else 1)
width_by true j y d h i = ap (λ (b : Bool). if b then 2 else 1) (sym (h refl))
width_by false true y true h i = refl
width_by false true y false h i = refl
width_by false false true true h i = absurd (true_false (i refl))
  where
    true_false : true ≡ false → ⊥
    true_false q = cc
width_by false false true false h i = refl
width_by false false false true h i = refl
width_by false false false false h i = refl

pub width_is : (descriptor : List ℕ) → length (operand_entries (result_kind descriptor)) ≡ width_of descriptor
width_is [] = refl
width_is (a ∷ rest) = width_by ((a == 66) || (a == 67) || (a == 73) || (a == 83) || (a == 90)) (a == 74) ((a == 76) || (a == 91)) (a == 68) int reference
  where
    wide : (b c : Bool) → ((b || c) ≡ true) → (b ≡ true) ⊎ (c ≡ true)
    wide true c q = inl refl
    wide false c q = inr q

    not_wide : (x : Bool) → (x ≡ true → ⊥) → x ≡ false
    not_wide true h = absurd (h refl)
    not_wide false h = refl

    int : ((a == 66) || (a == 67) || (a == 73) || (a == 83) || (a == 90)) ≡ true → ((a == 68) || (a == 74)) ≡ false
    int q = not_wide ((a == 68) || (a == 74)) (λ w. elim (wide (a == 68) (a == 74) w) [
      | inl is ↦ false_true (subst (λ (n : ℕ). ((n == 66) || (n == 67) || (n == 73) || (n == 83) || (n == 90)) ≡ true) (eqb-true a 68 is) q)
      | inr is ↦ false_true (subst (λ (n : ℕ). ((n == 66) || (n == 67) || (n == 73) || (n == 83) || (n == 90)) ≡ true) (eqb-true a 74 is) q)
    ])

    reference : ((a == 76) || (a == 91)) ≡ true → (a == 68) ≡ false
    reference q = not_wide (a == 68) (λ is. false_true (subst (λ (n : ℕ). ((n == 76) || (n == 91)) ≡ true) (eqb-true a 68 is) q))
