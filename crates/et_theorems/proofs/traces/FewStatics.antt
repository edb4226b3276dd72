-- A linked program has at most 4,096 * 65,535 + 1 static fields: it is of at most 4,096 files, of at most 65,535 fields each, and
-- System.out is one more.
use Rattle.std.proofs.Common.{◌≡◌, ℕ, ◌+◌, ◌*◌, ◌<◌, ◌≤◌, Bool, true, false, List, [], ◌∷◌, ◌++◌, length, refl, arith, length-append}
use Rattle.std.specs.Prelude.{All, if◌then◌else◌}
use Rattle.std.proofs.lemmas.List.{length-map}
use Rattle.std.proofs.lemmas.List.Elements.{All-head, All-tail}
use Rattle.et_verify.proofs.Verified.{places_few}
use Rattle.et_program.specs.Files.{boots}
use Rattle.et_program.specs.LinkFaults.{IsLinkable}
use Rattle.et_program.specs.Loaded.{LoadedClass}
use Rattle.et_program.specs.MembersOf.{numbered, boot_fields, file_field, file_fields, fields_of}
use Rattle.et_program.specs.Slots.{is_static_field, places_from}
use Rattle.et_theorems.proofs.Tabled.{few_files}

-- .. and behind a list that has some
places_behind : {X : Type 0} (t : X → Bool) (n : ℕ) (xs ys : List X) → length (places_from t n (xs ++ ys)) ≤ length (places_from t n xs) + length ys
places_behind t n [] ys = let le = places_few t n ys in omega (arith, le)
places_behind t n (x ∷ xs) ys = by (t x) (places_behind t (n + 1) xs ys)
  where
    by : (b : Bool) → length (places_from t (n + 1) (xs ++ ys)) ≤ length (places_from t (n + 1) xs) + length ys
        → length (if b then n ∷ places_from t (n + 1) (xs ++ ys) else places_from t (n + 1) (xs ++ ys)) ≤ length (if b then n ∷ places_from t (n + 1) xs else places_from t (n + 1) xs) + length ys
    by true le = omega (arith, le)
    by false le = omega (arith, le)

-- the fields of the built-in classes that are not static, and the one that is
boot_instances : length (places_from is_static_field 0 (numbered (boot_fields false) 0 boots)) ≡ 0
unfolding boots
boot_instances = refl

boot_statics : length (numbered (boot_fields true) 0 boots) ≡ 1
unfolding boots
boot_statics = refl

file_field_count : (k : ℕ) (files : List LoadedClass) → All (λ (c : LoadedClass). length c.fields < 65536) files → length (numbered file_fields k files) ≤ 65535 * length files
file_field_count k [] few = omega arith
file_field_count k (c ∷ files) few =
    let both : length (file_fields k c ++ numbered file_fields (k + 1) files) ≡ length (file_fields k c) + length (numbered file_fields (k + 1) files) = length-append (file_fields k c) (numbered file_fields (k + 1) files) in
    let own : length (file_fields k c) ≡ length c.fields = length-map c.fields (file_field c.pool.slots k) in
    let first : length c.fields < 65536 = All-head (λ (x : LoadedClass). length x.fields < 65536) c files few in
    let rest : length (numbered file_fields (k + 1) files) ≤ 65535 * length files = file_field_count (k + 1) files (All-tail (λ (x : LoadedClass). length x.fields < 65536) c files few) in
    omega (arith, both, own, first, rest)

pub few_statics : (files : List LoadedClass) → IsLinkable files → All (λ (c : LoadedClass). length c.fields < 65536) files → length (places_from is_static_field 0 (fields_of files)) ≤ 4096 * 65535 + 1
few_statics files linkable few =
    let fields = numbered (boot_fields false) 0 boots in
    let own = numbered file_fields (length boots) files in
    let behind = places_behind is_static_field 0 (fields ++ own) (numbered (boot_fields true) 0 boots) in
    let places = places_behind is_static_field 0 fields own in
    let instances = boot_instances in
    let last = boot_statics in
    let each = file_field_count (length boots) files few in
    let count = few_files files linkable in
    omega (arith, behind, places, instances, last, each, count)
