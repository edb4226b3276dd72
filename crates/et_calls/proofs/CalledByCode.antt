-- The call of a static method after quiet classes became done, by its code.
use Rattle.std.proofs.Common.{◌≡◌, ℕ, zero, suc, ◌<◌, ◌≤◌, ◌&&◌, Bool, true, false, List, [], ◌∷◌, length, Option, Some, None, All, refl, ◌∙◌, ap, arith}
use Rattle.std.specs.Prelude.{not, codes, if◌then◌else◌}
use Rattle.std.specs.List.{list_all}
use Rattle.std.proofs.lemmas.Slice.Eq.{bytes_eq-Decides}
use Rattle.et_base.specs.declared.value.Value.{Value}
use Rattle.et_class.specs.Names.{has}
use Rattle.et_class.specs.declared.flags.TheConstants.{ABSTRACT, NATIVE}
use Rattle.et_state.specs.declared.class_state.ClassState.{ClassState}
use Rattle.et_state.specs.declared.class_state.ClassState.TheVariants.{Untouched}
use Rattle.et_program.specs.Entries.{Linked, method_at, is_static}
use Rattle.et_program.specs.declared.info.MethodInfo.{MethodInfo}
use Rattle.et_event.specs.declared.errors.GuestError.{GuestError}
use Rattle.et_event.specs.declared.errors.GuestError.TheVariants.{AbstractMethodError, UnsatisfiedLinkError}
use Rattle.et_program.specs.BootMethods.BuiltIn.{BuiltIn}
use Rattle.et_program.specs.BootTable.{built_in_called}
use Rattle.et_program.specs.BuiltIns.{built_in_of}
use Rattle.et_event.specs.BuiltIns.{built_in_event, done_by}
use Rattle.et_event.specs.Calls.{arguments_of, enters_method}
use Rattle.et_event.specs.Checks.{throws_unless}
use Rattle.et_event.specs.Frames.{first_reference}
use Rattle.et_event.specs.Initialization.{is_quiet, is_ready, is_ready_state, prepared, quietly_done, quietly_if_untouched, state_of}
use Rattle.et_event.specs.Moments.{Moment, Doing, current_frame, throws}
use Rattle.et_event.specs.Sites.{Site}
use Rattle.et_builtins.proofs.ByCode.{codeless_called}
use Rattle.et_event.specs.Programs.{HasBuiltInMethods, is_initializing}

-- A METHOD NAMED <clinit> is no built-in one

no_row : (abstract : Bool) (m : MethodInfo) (name : List ℕ) → name ≡ codes "<clinit>" → (if abstract then None else built_in_called name m.descriptor) ≡ None
no_row true m name e = refl
no_row false m name e = ap (λ (n : List ℕ). built_in_called n m.descriptor) e

none_built : (m : MethodInfo) → m.name ≡ codes "<clinit>" → built_in_of m ≡ None
none_built m e = no_row (has m.flags ABSTRACT) m m.name e

abstract_done : (e : Moment) (at : Site) (d : Doing) (vs : List Value) (r : Option ℕ) → done_by e at d vs r None ≡ throws e AbstractMethodError d
abstract_done e at d vs None = refl
abstract_done e at d vs (Some o) = refl

-- WITHOUT CODE

-- what is thrown
abbrev pub error_by : Bool → GuestError
error_by native = if native then UnsatisfiedLinkError else AbstractMethodError

named_so : (p : Linked) (m : ℕ) (b : Bool) → HasBuiltInMethods p → m < length p.methods → is_static p m ≡ true → (method_at p m).code ≡ None → has (method_at p m).flags NATIVE ≡ false → is_initializing p m ≡ b → b ≡ true
named_so p m true methods lt static none native is = refl
named_so p m false methods lt static none native is = let h : has (method_at p m).flags NATIVE ≡ true = methods.static m lt static is none in cc

codeless : (e : Moment) (at : Site) (d : Doing) (vs : List Value) (m : ℕ) (b : Bool) → HasBuiltInMethods e.program → m < length e.program.methods → is_static e.program m ≡ true → (method_at e.program m).code ≡ None → has (method_at e.program m).flags NATIVE ≡ b
    → throws_unless e d UnsatisfiedLinkError (not b) (built_in_event e at d vs (method_at e.program m)) ≡ throws e (error_by b) d
codeless e at d vs m true methods lt static none native = refl
codeless e at d vs m false methods lt static none native =
    let name : (method_at e.program m).name ≡ codes "<clinit>" = (bytes_eq-Decides (method_at e.program m).name (codes "<clinit>")).0 (named_so e.program m (is_initializing e.program m) methods lt static none native refl) in
    ap (λ (b : Option BuiltIn). done_by e at d vs (first_reference vs) b) (none_built (method_at e.program m) name) ∙ abstract_done e at d vs (first_reference vs)

-- CALLED BY A PLAN

pub none_called : (e : Moment) (at : Site) (d : Doing) (count m : ℕ) → count ≤ length (current_frame e).operands → HasBuiltInMethods e.program → m < length e.program.methods → is_static e.program m ≡ true → (method_at e.program m).code ≡ None
    → enters_method e at d (arguments_of e count) m ≡ throws e (error_by (has (method_at e.program m).flags NATIVE)) d
none_called e at d count m le methods lt static none =
    codeless_called e at d count m le none
    ∙ codeless e at d (arguments_of e count) m (has (method_at e.program m).flags NATIVE) methods lt static none refl

-- ONE QUIET CLASS, WITH WHAT IS INITIALIZED WITH IT

pub one_prepared : (e : Moment) (c : ℕ) (d : Doing) → state_of d c ≡ Untouched → prepared e (c ∷ []) d ≡ quietly_done e c d
one_prepared e c d un = ap (λ (x : ClassState). quietly_if_untouched e c x d) un

pub one_ready : (e : Moment) (c : ℕ) (d : Doing) → state_of d c ≡ Untouched → is_quiet e d c ≡ true → list_all (is_ready e d) (c ∷ []) ≡ true
one_ready e c d un quiet = ap (λ (x : ClassState). is_ready_state e d c x && true) un ∙ ap (λ (b : Bool). b && true) quiet

pub one_within : (c n : ℕ) → c < n → All (λ k. k < n) (c ∷ [])
one_within c n lt zero z h = lt
one_within c n lt (suc i) z h = absurd (omega (arith, h))

pub none_within : (n : ℕ) → All (λ k. k < n) []
none_within n i z h = absurd (omega (arith, h))
