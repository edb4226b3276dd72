-- Where the built-in classes stand in a program: they are the first, in the order of their table.
use Rattle.std.proofs.Common.{◌≡◌, ℕ, ◌+◌, ◌<◌, Bool, true, false, cond, List, [], ◌∷◌, ◌++◌, length, map, Option, Some, refl, sym, ◌∙◌, ap, subst}
use Rattle.std.specs.Prelude.{Ok, codes}
use Rattle.std.specs.List.{position_from}
use Rattle.std.specs.Str.{bytes_eq}
use Rattle.std.proofs.lemmas.Option.{none-some}
use Rattle.et_boot.specs.Classes.{BootClassOf, boot_classes}
use Rattle.et_class.specs.Entries.{Constants}
use Rattle.et_hierarchy.specs.Ancestry.{Ancestry}
use Rattle.et_hierarchy.specs.Outline.{Outline, class_place}
use Rattle.et_program.specs.Classes.{Heads, set_class, array_class}
use Rattle.et_program.specs.Entries.{ClassEntry, Linked}
use Rattle.et_program.specs.Files.{boots, set_of, boot_outline, file_outline}
use Rattle.et_program.specs.Linking.{IsLinked}
use Rattle.et_program.specs.Loaded.{LoadedClass, loaded_class}
use Rattle.et_program.specs.Members.{class_named, method_in}
use Rattle.et_program.specs.MembersOf.{numbered}
use Rattle.et_program.specs.ProgramOf.{heads_of, class_names_of, program_with}
use Rattle.et_program.specs.Resolution.{resolve_method}
use Rattle.et_program.proofs.PlaceLemmas.{method_within}

-- THE FIRST PLACE at which a test holds

abbrev pub first_or : Bool → ℕ → Option ℕ → Option ℕ
first_or b k o = cond b (Some k) o

-- one element, of which two tests say the same
front_step : (b c : Bool) (k j : ℕ) (o r : Option ℕ) → c ≡ b → first_or b k o ≡ Some j → (o ≡ Some j → r ≡ Some j) → first_or c k r ≡ Some j
front_step true c k j o r e h rest = ap (λ d. first_or d k r) e ∙ h
front_step false c k j o r e h rest = ap (λ d. first_or d k r) e ∙ rest h

pub first_in_front : {X Y : Type 0} (t : X → Bool) (u : Y → Bool) (f : X → Y) → ((x : X) → u (f x) ≡ t x) → (k : ℕ) (xs : List X) (ys : List Y) (j : ℕ) → position_from t k xs ≡ Some j → position_from u k (map f xs ++ ys) ≡ Some j
first_in_front t u f same k [] ys j h = absurd (none-some j h)
first_in_front t u f same k (x ∷ xs) ys j h =
    front_step (t x) (u (f x)) k j (position_from t (k + 1) xs) (position_from u (k + 1) (map f xs ++ ys)) (same x) h (first_in_front t u f same (k + 1) xs ys j)

pub first_numbered : {X Y : Type 0} (t : X → Bool) (u : Y → Bool) (f : ℕ → X → Y) → ((i : ℕ) (x : X) → u (f i x) ≡ t x) → (k : ℕ) (xs : List X) (ys : List Y) (j : ℕ) → position_from t k xs ≡ Some j → position_from u k (numbered (λ i x. f i x ∷ []) k xs ++ ys) ≡ Some j
first_numbered t u f same k [] ys j h = absurd (none-some j h)
first_numbered t u f same k (x ∷ xs) ys j h =
    front_step (t x) (u (f k x)) k j (position_from t (k + 1) xs) (position_from u (k + 1) (numbered (λ i y. f i y ∷ []) (k + 1) xs ++ ys)) (same k x) h (first_numbered t u f same (k + 1) xs ys j)

-- BY NAME: a name of the table is that of the same class in the set of a program

pub place_in_set : (files : List LoadedClass) (name : List ℕ) (j : ℕ) → position_from (λ (c : BootClassOf). bytes_eq name c.name) 0 boots ≡ Some j → class_place (set_of files) name ≡ Some j
place_in_set files name j h = first_in_front (λ (c : BootClassOf). bytes_eq name c.name) (λ (o : Outline). bytes_eq name o.name) boot_outline (λ c. refl) 0 boots (map file_outline files) j h

-- .. and in the program
pub named_in_tables : (files : List LoadedClass) (rows : List Ancestry) (pools : List Constants) (name : List ℕ) (k : ℕ) → position_from (λ (c : BootClassOf). bytes_eq name c.name) 0 boots ≡ Some k → class_named (program_with files rows pools) name ≡ Some k
named_in_tables files rows pools name k h =
    let heads : Heads = heads_of files rows in
    first_numbered (λ (c : Outline). bytes_eq name c.name) (λ (c : ClassEntry). bytes_eq name c.info.name) (λ j c. set_class heads j c) (λ i c. refl) 0 (set_of files)
    (numbered (λ j n. array_class heads j n ∷ []) (length (set_of files)) (class_names_of files)) k (place_in_set files name k h)

pub named_at : (p : Linked) (name : List ℕ) (k : ℕ) → IsLinked p → position_from (λ (c : BootClassOf). bytes_eq name c.name) 0 boot_classes ≡ Some k → class_named p name ≡ Some k
unfolding boots
named_at p name k linked h =
    subst (λ (q : Linked). class_named q name ≡ Some k) (sym linked.program.tables) (named_in_tables (map loaded_class linked.classes) linked.program.rows p.pools name k h)

-- THE METHOD run of Thread, by the places of the class and of the method

thread_in_tables : (files : List LoadedClass) (rows : List Ancestry) (pools : List Constants) → class_named (program_with files rows pools) (codes "java/lang/Thread") ≡ Some 6
unfolding boots
thread_in_tables files rows pools = named_in_tables files rows pools (codes "java/lang/Thread") 6 refl

pub thread_at : (p : Linked) → IsLinked p → class_named p (codes "java/lang/Thread") ≡ Some 6
thread_at p linked = subst (λ (q : Linked). class_named q (codes "java/lang/Thread") ≡ Some 6) (sym linked.program.tables) (thread_in_tables (map loaded_class linked.classes) linked.program.rows p.pools)

abbrev run_in : Linked → Option ℕ
run_in p = method_in p (codes "run") (codes "()V") 6

run_in_tables : (files : List LoadedClass) (rows : List Ancestry) (pools : List Constants) → run_in (program_with files rows pools) ≡ Some 10
unfolding boots
run_in_tables files rows pools = refl

run_meant : (files : List LoadedClass) (rows : List Ancestry) (pools : List Constants) → resolve_method (program_with files rows pools) 6 false (codes "run") (codes "()V") ≡ Ok 10
unfolding boots
run_meant files rows pools = refl

pub run_resolved : (p : Linked) → IsLinked p → resolve_method p 6 false (codes "run") (codes "()V") ≡ Ok 10
run_resolved p linked =
    subst (λ (q : Linked). resolve_method q 6 false (codes "run") (codes "()V") ≡ Ok 10) (sym linked.program.tables) (run_meant (map loaded_class linked.classes) linked.program.rows p.pools)

pub run_within : (p : Linked) → IsLinked p → 10 < length p.methods
run_within p linked =
    let found : run_in p ≡ Some 10 = subst (λ (q : Linked). run_in q ≡ Some 10) (sym linked.program.tables) (run_in_tables (map loaded_class linked.classes) linked.program.rows p.pools) in
    method_within p (codes "run") (codes "()V") 6 (Some 10) (sym found)
