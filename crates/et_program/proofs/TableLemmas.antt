-- What is true of an entry that was read.
use Rattle.std.proofs.Common.{◌≡◌, ℕ, ◌<◌, length, List, sym, subst}
use Rattle.std.specs.Prelude.{All}
use Rattle.std.specs.List.{slice_index_or}
use Rattle.et_program.specs.declared.info.MethodInfo.{MethodInfo}
use Rattle.et_program.specs.declared.info.FieldInfo.{FieldInfo}
use Rattle.et_program.specs.Entries.{ClassEntry, Linked}
use Rattle.et_program.specs.Tables.{IsWithinTables, IsInfoWithin, IsTabled}

pub class_within : (p q : Linked) (c : ℕ) (x : ClassEntry) → IsTabled p → p ≡ q → c < length q.classes → x ≡ slice_index_or p.classes c x → IsWithinTables (length q.classes) x
class_within p q c x tabled e lt is =
    subst (λ (r : Linked). c < length r.classes → IsWithinTables (length r.classes) x) e (λ below. subst (IsWithinTables (length p.classes)) (sym is) (tabled.classes c x below)) lt

pub owner_within : (p q : Linked) (m : ℕ) (x : MethodInfo) → IsTabled p → p ≡ q → m < length q.methods → x ≡ slice_index_or p.methods m x → x.class < length q.classes
owner_within p q m x tabled e lt is =
    subst (λ (r : Linked). m < length r.methods → x.class < length r.classes) e (λ below. subst (λ (y : MethodInfo). y.class < length p.classes) (sym is) (tabled.methods m x below)) lt

pub info_within : (p q : Linked) (c : ℕ) (x : ClassEntry) → IsTabled p → p ≡ q → c < length q.classes → x ≡ slice_index_or p.classes c x → IsInfoWithin (length q.classes) (length q.methods) (length q.fields) x.info
info_within p q c x tabled e lt is =
    subst (λ (r : Linked). c < length r.classes → IsInfoWithin (length r.classes) (length r.methods) (length r.fields) x.info) e (λ below. subst (λ (y : ClassEntry). IsInfoWithin (length p.classes) (length p.methods) (length p.fields) y.info) (sym is) (tabled.infos c x below)) lt

pub field_class_within : (p q : Linked) (f : ℕ) (x : FieldInfo) → IsTabled p → p ≡ q → f < length q.fields → x ≡ slice_index_or p.fields f x → x.class < length q.classes
field_class_within p q f x tabled e lt is =
    subst (λ (r : Linked). f < length r.fields → x.class < length r.classes) e (λ below. subst (λ (y : FieldInfo). y.class < length p.classes) (sym is) (tabled.fields f x below)) lt

pub statics_within : (p q : Linked) (xs : List ℕ) → IsTabled p → p ≡ q → xs ≡ q.statics → All (λ f. f < length q.fields) xs
statics_within p q xs tabled e is = subst (λ (ys : List ℕ). All (λ f. f < length q.fields) ys) (sym is) (subst (λ (r : Linked). All (λ f. f < length r.fields) r.statics) e tabled.statics)

pub file_methods_within : (p q : Linked) (xs : List ℕ) → IsTabled p → p ≡ q → xs ≡ q.file_methods → All (λ m. m < length q.methods) xs
file_methods_within p q xs tabled e is = subst (λ (ys : List ℕ). All (λ m. m < length q.methods) ys) (sym is) (subst (λ (r : Linked). All (λ m. m < length r.methods) r.file_methods) e tabled.file_methods)

pub main_within : (p q : Linked) (m : ℕ) → IsTabled p → p ≡ q → m ≡ q.main → m < length q.methods
main_within p q m tabled e is = subst (λ (k : ℕ). k < length q.methods) (sym is) (subst (λ (r : Linked). r.main < length r.methods) e tabled.main)
