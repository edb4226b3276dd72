-- The pools and the code of the built-in classes are good, and what reads them answers no fault.
use Rattle.std.proofs.Common.{◌≡◌, ℕ, ◌<◌, Bool, true, not, List, [], ◌∷◌, length, take, drop, map, Option, None, Some, is_some, Result, Ok, Err, refl, sym, ap, subst}
use Rattle.std.specs.Prelude.{All, IfSome}
use Rattle.std.specs.List.{list_all, slice_index_or}
use Rattle.std.proofs.lemmas.Bool.{and_parts, false≢true}
use Rattle.std.proofs.lemmas.List.{length-map}
use Rattle.std.proofs.lemmas.List.Elements.{All-nil, All-cons, All-append, All-from_recursion}
use Rattle.et_base.specs.Marks.{MarksAre, IsFirstBroken, first_from}
use Rattle.et_base.proofs.Firsts.{found_is_first}
use Rattle.et_pool.specs.declared.fault.PoolFault.{PoolFault}
use Rattle.et_pool.specs.declared.fault.PoolFault.TheVariants as fault
use Rattle.et_pool.specs.Entries.{Item, Constants, slots_of}
use Rattle.et_pool.specs.Looks.{tag_of_slot}
use Rattle.et_pool.specs.Pools.{IsPool, BreaksPool}
use Rattle.et_pool.specs.Reading.{IsPoolFaultOf}
use Rattle.et_pool.specs.Broken.{Broken, Tag, Utf8, Short}
use Rattle.et_pool.proofs.OneAnswer.{exactly_one}
use Rattle.et_code.specs.Decoding.{instruction_at}
use Rattle.et_code.specs.Forms.{form_of}
use Rattle.et_code.specs.Starts.{starts_from}
use Rattle.et_code.specs.Rules.{code_marks, rows_marks, ChecksCode}
use Rattle.et_code.specs.Bodies.{Body, body_of}
use Rattle.et_code.specs.declared.body.RawCode.{RawCode}
use Rattle.et_code.specs.declared.body.CheckFault.{CheckFault}
use Rattle.et_code.specs.declared.body.CheckFault.TheVariants as check
use Rattle.et_boot.specs.Classes.{BootClassOf, BootMethodOf, BootCodeOf, boot_classes, thread, thread_pool, thread_run, no_boot_class}
use Rattle.et_boot.specs.Pools.{HasPool}
use Rattle.et_boot.specs.Shown.{shown_method}
use Rattle.et_boot.specs.declared.entries.BootMethod.{BootMethod}
use Rattle.et_boot.proofs.Places.{index_map}
use Rattle.et_boot.proofs.PoolLemmas.{thread_is_read, pools_are_read}
use Rattle.et_program.specs.MembersOf.{boot_body, IsBootPool}
use Rattle.et_program.specs.Files.{boots}
use Rattle.et_link.specs.BuiltIn.{IsKeptBy, HasKeptCode, KeepsBuiltInCode}

-- CLASSES WITHOUT CODE

abbrev has_no_code : BootMethodOf → Bool
has_no_code m = not (is_some m.code)

abbrev is_without_code : BootClassOf → Bool
is_without_code c = list_all has_no_code c.methods

without : (tags : List ℕ) (m : BootMethodOf) (o : Option BootCodeOf) → not (is_some o) ≡ true → IfSome o (IsKeptBy tags)
without tags m None h = tt
without tags m (Some code) h = absurd (false≢true h)

methods_without : (tags : List ℕ) (ms : List BootMethodOf) → list_all has_no_code ms ≡ true → All (HasKeptCode tags) ms
methods_without tags [] h = All-nil (HasKeptCode tags)
methods_without tags (m ∷ ms) h =
    let parts = and_parts (has_no_code m) (list_all has_no_code ms) h in
    All-cons (HasKeptCode tags) m ms (without tags m m.code parts.0) (methods_without tags ms parts.1)

classes_without : (cs : List BootClassOf) → list_all is_without_code cs ≡ true → All KeepsBuiltInCode cs
classes_without [] h = All-nil KeepsBuiltInCode
classes_without (c ∷ cs) h =
    let parts = and_parts (is_without_code c) (list_all is_without_code cs) h in
    All-cons KeepsBuiltInCode c cs (λ slots after p. methods_without (map tag_of_slot slots) c.methods parts.0) (classes_without cs parts.1)

-- THREAD

abbrev thread_tags : List ℕ
thread_tags = map tag_of_slot (slots_of thread_pool)

nothing_found : first_from None (code_marks (boot_body thread_run) thread_tags) ≡ None
unfolding first_from rows_marks starts_from instruction_at form_of
nothing_found = refl

run_is_kept : IsKeptBy thread_tags thread_run
run_is_kept = subst (λ o. MarksAre (code_marks (boot_body thread_run) thread_tags) o) nothing_found (found_is_first (code_marks (boot_body thread_run) thread_tags))

thread_is_kept : All (HasKeptCode thread_tags) thread.methods
thread_is_kept = All-from_recursion (HasKeptCode thread_tags) thread.methods (tt, (tt, (tt, (tt, (run_is_kept, tt)))))

not_both : {A : Type 0} (x : A) (b : Broken) → (r : Result A Broken) → Ok x ≡ r → Err b ≡ r → ⊥
not_both x b r h i = cc

ok_is : {A : Type 0} (x y : A) → (r : Result A Broken) → Ok x ≡ r → Ok y ≡ r → x ≡ y
ok_is x y r h i = cc

pub one_pool : (bytes : List ℕ) (s t : List (Option Item)) (a b : ℕ) → IsPool bytes 0 s a → IsPool bytes 0 t b → s ≡ t
one_pool bytes s t a b p q =
    let one = exactly_one bytes 0 in
    ap (λ (x : List (Option Item) × ℕ). x.0) (ok_is (s, a) (t, b) one.answer (one.only (Ok (s, a)) p) (one.only (Ok (t, b)) q))

thread_keeps : KeepsBuiltInCode thread
thread_keeps slots after p =
    let same : slots_of thread_pool ≡ slots = one_pool thread.pool _ _ _ _ thread_is_read p in
    subst (λ (s : List (Option Item)). All (HasKeptCode (map tag_of_slot s)) thread.methods) same thread_is_kept

-- THE TABLE: Thread is the one class with code

abbrev first_six : List BootClassOf
first_six = take 6 boot_classes

abbrev others : List BootClassOf
others = drop 7 boot_classes

pub each_keeps : All KeepsBuiltInCode boots
unfolding boots
each_keeps = All-append KeepsBuiltInCode first_six (thread ∷ others) (classes_without first_six refl) (All-cons KeepsBuiltInCode thread others thread_keeps (classes_without others refl))

-- READING them comes to no fault but want of memory

pool_fault : (bytes : List ℕ) (slots : List (Option Item)) (after : ℕ) → IsPool bytes 0 slots after → (b : Broken) → BreaksPool bytes 0 b → ⊥
pool_fault bytes slots after p b breaks =
    let one = exactly_one bytes 0 in
    not_both (slots, after) b one.answer (one.only (Ok (slots, after)) p) (one.only (Err b) breaks)

pub no_pool_fault : (bytes : List ℕ) (slots : List (Option Item)) (after : ℕ) → IsPool bytes 0 slots after → (f : PoolFault) → IsPoolFaultOf f (BreaksPool bytes 0) → f ≡ fault.NoMemory
no_pool_fault bytes slots after p (fault.Tag k) h = absurd (pool_fault bytes slots after p (Tag k) h)
no_pool_fault bytes slots after p (fault.Utf8 k) h = absurd (pool_fault bytes slots after p (Utf8 k) h)
no_pool_fault bytes slots after p (fault.Index k) h = absurd h
no_pool_fault bytes slots after p (fault.Short k) h = absurd (pool_fault bytes slots after p (Short k) h)
no_pool_fault bytes slots after p fault.NoMemory h = refl

-- the class at a place of the table
pub pool_at : (i : ℕ) (c : BootClassOf) → i < length boots → c ≡ slice_index_or boots i no_boot_class → HasPool c
unfolding boots
pool_at i c lt is = subst HasPool (sym is) (pools_are_read i no_boot_class lt)

pub code_at : (i : ℕ) (c : BootClassOf) (p : Constants) → i < length boots → c ≡ slice_index_or boots i no_boot_class → IsBootPool c p → All (HasKeptCode (map tag_of_slot p.slots)) c.methods
code_at i c p lt is read = (subst KeepsBuiltInCode (sym is) (each_keeps i no_boot_class lt)) p.slots read.after read.spelled

pub code_fault : (raw : RawCode) (tags : List ℕ) (b : Body) → body_of raw ≡ b → MarksAre (code_marks b tags) None → (f : CheckFault) (kind place : ℕ) → f ≡ check.At kind place → ChecksCode raw tags (Err f) → ⊥
code_fault raw tags b same kept f kind place is h =
    let first : IsFirstBroken (code_marks (body_of raw) tags) place kind = subst (λ (x : CheckFault). ChecksCode raw tags (Err x)) is h in
    let there : IsFirstBroken (code_marks b tags) place kind = subst (λ (x : Body). IsFirstBroken (code_marks x tags) place kind) same first in
    kept place kind there.broken

pub method_at : (tags : List ℕ) (ms : List BootMethod) (i : ℕ) (d : BootMethod) → i < length ms → All (HasKeptCode tags) (map shown_method ms) → HasKeptCode tags (shown_method (slice_index_or ms i d))
method_at tags ms i d lt all =
    subst (HasKeptCode tags) (sym (index_map shown_method ms i d (shown_method d) lt)) (all i (shown_method d) (subst (λ n. i < n) (sym (length-map ms shown_method)) lt))
