-- A record that is read is the one that was written, and what was written is read again.
use Rattle.std.proofs.Common.{◌≡◌, ℕ, ◌^◌, List, [], ◌∷◌, ◌++◌, length, Option, Some, refl, ap, subst, ◌∙◌, append_assoc}
use Rattle.std.specs.List.{flat_map, AllByRecursion}
use Rattle.std.specs.Int.{Width, w8, w32, w64, byte_len, to_be_bytes}
use Rattle.std.proofs.lemmas.Option.{same_Some}
use Rattle.et_base.specs.Numbers.{AreBytes}
use Rattle.et_base.specs.declared.line.TraceLine.{TraceLine}
use Rattle.et_base.specs.declared.line.TraceLine.TheVariants.{Header, Class, Method, Alloc, Update, Enter, Exit, Unwind, Flush, Death, Finish}
use Rattle.et_text.specs.Reading.{◌>>=◌}
use Rattle.et_text.specs.Spelling.{LineField, Number, Text, letter}
use Rattle.et_text.proofs.Numbers.{bind_some}
use Rattle.et_binary.specs.Packing.{packed_field, packed_fields}
use Rattle.et_binary.specs.Packs.{FitsWidth, SaysTwo}
use Rattle.et_binary.specs.Fronts.{number_front, name_front, turn_front, header_front, class_front, method_front, alloc_front, update_front, enter_front, exit_front, unwind_front, flush_front, death_front, finish_front}
use Rattle.et_binary.proofs.Widths.{IsWide, Takes, takes_then, takes_none, wide8, wide32, wide64, number_takes, number_again, name_takes, name_again, turn_takes, turn_again}

-- the fields of the line stand at the front, behind this letter
pub record IsRead (first : ℕ) (line : TraceLine) (bytes rest : List ℕ) : Type 0 where
  pub version : SaysTwo line
  pub room : AllByRecursion FitsWidth (packed_fields line)
  pub first_is : first ≡ letter line
  pub takes : Takes bytes (flat_map packed_field (packed_fields line)) rest

abbrev is_read : ℕ → List ℕ → TraceLine × List ℕ → Type 0
is_read first bytes x = IsRead first x.0 bytes x.1

-- THE FIELDS AT THE FRONT have room, and stand before the rest
record AreFields (bytes : List ℕ) (fs : List LineField) (rest : List ℕ) : Type 0 where
  pub room : AllByRecursion FitsWidth fs
  pub takes : Takes bytes (flat_map packed_field fs) rest

no_field : (rest : List ℕ) → AreBytes rest → AreFields rest [] rest
no_field rest fits = record { room = tt; takes = takes_none rest fits }

number_first : {fs : List LineField} {rest : List ℕ} (w : Width) (wide : IsWide w (256 ^ byte_len w)) (bytes : List ℕ) (n : ℕ) (mid : List ℕ) → AreBytes bytes → number_front w bytes ≡ Some (n, mid) → (AreBytes mid → AreFields mid fs rest) → AreFields bytes (Number w n ∷ fs) rest
number_first {fs} {rest} w wide bytes n mid fits e behind =
    let t = number_takes w (256 ^ byte_len w) wide bytes n mid fits e in
    let b = behind t.0.rest_fits in
    record { room = (t.1, b.room); takes = takes_then bytes (to_be_bytes w n) mid (flat_map packed_field fs) rest t.0 b.takes }

name_first : {fs : List LineField} {rest : List ℕ} (bytes name mid : List ℕ) → AreBytes bytes → name_front bytes ≡ Some (name, mid) → (AreBytes mid → AreFields mid fs rest) → AreFields bytes (Text name ∷ fs) rest
name_first {fs} {rest} bytes name mid fits e behind =
    let t = name_takes bytes name mid fits e in
    let b = behind t.takes.rest_fits in
    record { room = ((t.short, t.small), b.room); takes = takes_then bytes (packed_field (Text name)) mid (flat_map packed_field fs) rest t.takes b.takes }

turn_first : {fs : List LineField} {rest : List ℕ} (bytes : List ℕ) (event thread : ℕ) (mid : List ℕ) → AreBytes bytes → turn_front bytes ≡ Some ((event, thread), mid) → (AreBytes mid → AreFields mid fs rest) → AreFields bytes (Number w64 event ∷ Number w8 thread ∷ fs) rest
turn_first {fs} {rest} bytes event thread mid fits e behind =
    let t = turn_takes bytes event thread mid fits e in
    let b = behind t.second.rest_fits in
    record {
      room = (t.event_fits, (t.thread_fits, b.room));
      takes = takes_then bytes (to_be_bytes w64 event) t.mid (to_be_bytes w8 thread ++ flat_map packed_field fs) rest t.first (takes_then t.mid (to_be_bytes w8 thread) mid (flat_map packed_field fs) rest t.second b.takes);
    }

-- the line that has these fields behind this letter
record IsLineOf (first : ℕ) (fs : List LineField) (line : TraceLine) : Type 0 where
  pub version : SaysTwo line
  pub first_is : first ≡ letter line
  pub fields_are : fs ≡ packed_fields line

read_as : (first : ℕ) (fs : List LineField) (line : TraceLine) (bytes rest : List ℕ) (x : TraceLine × List ℕ) → IsLineOf first fs line → AreFields bytes fs rest → ◌≡◌ {A = Option (TraceLine × List ℕ)} (Some (line, rest)) (Some x) → IsRead first x.0 bytes x.1
read_as first fs line bytes rest x is at same =
    let one : IsRead first line bytes rest = record {
      version = is.version;
      room = subst (λ (l : List LineField). AllByRecursion FitsWidth l) is.fields_are at.room;
      first_is = is.first_is;
      takes = subst (λ (l : List LineField). Takes bytes (flat_map packed_field l) rest) is.fields_are at.takes;
    } in
    subst (is_read first bytes) (same_Some (line, rest) x same) one

-- two numbers
abbrev read_two : (v w : Width) → (ℕ → ℕ → TraceLine) → List ℕ → Option (TraceLine × List ℕ)
read_two v w make bytes = number_front v bytes >>= λ x0. number_front w x0.1 >>= λ x1. Some (make x0.0 x1.0, x1.1)

two_take : (first : ℕ) (v w : Width) (wide : IsWide v (256 ^ byte_len v)) (wide' : IsWide w (256 ^ byte_len w)) (make : ℕ → ℕ → TraceLine) → ((a b : ℕ) → IsLineOf first (Number v a ∷ Number w b ∷ []) (make a b))
    → (bytes : List ℕ) (x : TraceLine × List ℕ) → AreBytes bytes → read_two v w make bytes ≡ Some x → IsRead first x.0 bytes x.1
two_take first v w wide wide' make are bytes x fits e =
    let s0 = bind_some (number_front v bytes) (λ x0. number_front w x0.1 >>= λ x1. Some (make x0.0 x1.0, x1.1)) x e in
    let s1 = bind_some (number_front w s0.0.1) (λ x1. Some (make s0.0.0 x1.0, x1.1)) x s0.2 in
    read_as first (Number v s0.0.0 ∷ Number w s1.0.0 ∷ []) (make s0.0.0 s1.0.0) bytes s1.0.1 x (are s0.0.0 s1.0.0)
    (number_first v wide bytes s0.0.0 s0.0.1 fits s0.1 (λ f. number_first w wide' s0.0.1 s1.0.0 s1.0.1 f s1.1 (λ g. no_field s1.0.1 g))) s1.2

-- an event, a thread, a method and an object
abbrev read_passage : (ℕ → ℕ → ℕ → ℕ → TraceLine) → List ℕ → Option (TraceLine × List ℕ)
read_passage make bytes = turn_front bytes >>= λ x0. number_front w32 x0.1 >>= λ x1. number_front w32 x1.1 >>= λ x2. Some (make x0.0.0 x0.0.1 x1.0 x2.0, x2.1)

passage_takes : (first : ℕ) (make : ℕ → ℕ → ℕ → ℕ → TraceLine) → ((event thread method object : ℕ) → IsLineOf first (Number w64 event ∷ Number w8 thread ∷ Number w32 method ∷ Number w32 object ∷ []) (make event thread method object))
    → (bytes : List ℕ) (x : TraceLine × List ℕ) → AreBytes bytes → read_passage make bytes ≡ Some x → IsRead first x.0 bytes x.1
passage_takes first make are bytes x fits e =
    let s0 = bind_some (turn_front bytes) (λ x0. number_front w32 x0.1 >>= λ x1. number_front w32 x1.1 >>= λ x2. Some (make x0.0.0 x0.0.1 x1.0 x2.0, x2.1)) x e in
    let s1 = bind_some (number_front w32 s0.0.1) (λ x1. number_front w32 x1.1 >>= λ x2. Some (make s0.0.0.0 s0.0.0.1 x1.0 x2.0, x2.1)) x s0.2 in
    let s2 = bind_some (number_front w32 s1.0.1) (λ x2. Some (make s0.0.0.0 s0.0.0.1 s1.0.0 x2.0, x2.1)) x s1.2 in
    read_as first (Number w64 s0.0.0.0 ∷ Number w8 s0.0.0.1 ∷ Number w32 s1.0.0 ∷ Number w32 s2.0.0 ∷ []) (make s0.0.0.0 s0.0.0.1 s1.0.0 s2.0.0) bytes s2.0.1 x (are s0.0.0.0 s0.0.0.1 s1.0.0 s2.0.0)
    (turn_first bytes s0.0.0.0 s0.0.0.1 s0.0.1 fits s0.1 (λ f. number_first w32 wide32 s0.0.1 s1.0.0 s1.0.1 f s1.1 (λ g. number_first w32 wide32 s1.0.1 s2.0.0 s2.0.1 g s2.1 (λ h. no_field s2.0.1 h)))) s2.2

-- an event, a thread and four numbers, of which the third is this wide
abbrev read_six : (w : Width) → (ℕ → ℕ → ℕ → ℕ → ℕ → ℕ → TraceLine) → List ℕ → Option (TraceLine × List ℕ)
read_six w make bytes = turn_front bytes >>= λ x0. number_front w32 x0.1 >>= λ x1. number_front w32 x1.1 >>= λ x2. number_front w x2.1 >>= λ x3. number_front w32 x3.1 >>= λ x4. Some (make x0.0.0 x0.0.1 x1.0 x2.0 x3.0 x4.0, x4.1)

six_take : (first : ℕ) (w : Width) (wide : IsWide w (256 ^ byte_len w)) (make : ℕ → ℕ → ℕ → ℕ → ℕ → ℕ → TraceLine) → ((event thread a b c d : ℕ) → IsLineOf first (Number w64 event ∷ Number w8 thread ∷ Number w32 a ∷ Number w32 b ∷ Number w c ∷ Number w32 d ∷ []) (make event thread a b c d))
    → (bytes : List ℕ) (x : TraceLine × List ℕ) → AreBytes bytes → read_six w make bytes ≡ Some x → IsRead first x.0 bytes x.1
six_take first w wide make are bytes x fits e =
    let s0 = bind_some (turn_front bytes) (λ x0. number_front w32 x0.1 >>= λ x1. number_front w32 x1.1 >>= λ x2. number_front w x2.1 >>= λ x3. number_front w32 x3.1 >>= λ x4. Some (make x0.0.0 x0.0.1 x1.0 x2.0 x3.0 x4.0, x4.1)) x e in
    let s1 = bind_some (number_front w32 s0.0.1) (λ x1. number_front w32 x1.1 >>= λ x2. number_front w x2.1 >>= λ x3. number_front w32 x3.1 >>= λ x4. Some (make s0.0.0.0 s0.0.0.1 x1.0 x2.0 x3.0 x4.0, x4.1)) x s0.2 in
    let s2 = bind_some (number_front w32 s1.0.1) (λ x2. number_front w x2.1 >>= λ x3. number_front w32 x3.1 >>= λ x4. Some (make s0.0.0.0 s0.0.0.1 s1.0.0 x2.0 x3.0 x4.0, x4.1)) x s1.2 in
    let s3 = bind_some (number_front w s2.0.1) (λ x3. number_front w32 x3.1 >>= λ x4. Some (make s0.0.0.0 s0.0.0.1 s1.0.0 s2.0.0 x3.0 x4.0, x4.1)) x s2.2 in
    let s4 = bind_some (number_front w32 s3.0.1) (λ x4. Some (make s0.0.0.0 s0.0.0.1 s1.0.0 s2.0.0 s3.0.0 x4.0, x4.1)) x s3.2 in
    read_as first (Number w64 s0.0.0.0 ∷ Number w8 s0.0.0.1 ∷ Number w32 s1.0.0 ∷ Number w32 s2.0.0 ∷ Number w s3.0.0 ∷ Number w32 s4.0.0 ∷ []) (make s0.0.0.0 s0.0.0.1 s1.0.0 s2.0.0 s3.0.0 s4.0.0) bytes s4.0.1 x (are s0.0.0.0 s0.0.0.1 s1.0.0 s2.0.0 s3.0.0 s4.0.0)
    (turn_first bytes s0.0.0.0 s0.0.0.1 s0.0.1 fits s0.1 (λ f. number_first w32 wide32 s0.0.1 s1.0.0 s1.0.1 f s1.1 (λ g. number_first w32 wide32 s1.0.1 s2.0.0 s2.0.1 g s2.1
    (λ h. number_first w wide s2.0.1 s3.0.0 s3.0.1 h s3.1 (λ i. number_first w32 wide32 s3.0.1 s4.0.0 s4.0.1 i s4.1 (λ j. no_field s4.0.1 j)))))) s4.2

-- THE LINES

pub header_takes : (bytes : List ℕ) (x : TraceLine × List ℕ) → AreBytes bytes → header_front bytes ≡ Some x → IsRead 72 x.0 bytes x.1
unfolding header_front
header_takes bytes x fits e =
    let s0 = bind_some (number_front w64 bytes) (λ x0. Some (Header 2 x0.0, x0.1)) x e in
    read_as 72 (Number w64 s0.0.0 ∷ []) (Header 2 s0.0.0) bytes s0.0.1 x (record { version = refl; first_is = refl; fields_are = refl }) (number_first w64 wide64 bytes s0.0.0 s0.0.1 fits s0.1 (λ f. no_field s0.0.1 f)) s0.2

pub class_takes : (bytes : List ℕ) (x : TraceLine × List ℕ) → AreBytes bytes → class_front bytes ≡ Some x → IsRead 67 x.0 bytes x.1
unfolding class_front
class_takes bytes x fits e =
    let s0 = bind_some (number_front w32 bytes) (λ x0. name_front x0.1 >>= λ x1. Some (Class x0.0 x1.0, x1.1)) x e in
    let s1 = bind_some (name_front s0.0.1) (λ x1. Some (Class s0.0.0 x1.0, x1.1)) x s0.2 in
    read_as 67 (Number w32 s0.0.0 ∷ Text s1.0.0 ∷ []) (Class s0.0.0 s1.0.0) bytes s1.0.1 x (record { version = tt; first_is = refl; fields_are = refl })
    (number_first w32 wide32 bytes s0.0.0 s0.0.1 fits s0.1 (λ f. name_first s0.0.1 s1.0.0 s1.0.1 f s1.1 (λ g. no_field s1.0.1 g))) s1.2

pub method_takes : (bytes : List ℕ) (x : TraceLine × List ℕ) → AreBytes bytes → method_front bytes ≡ Some x → IsRead 78 x.0 bytes x.1
unfolding method_front
method_takes bytes x fits e =
    let s0 = bind_some (number_front w32 bytes) (λ x0. number_front w32 x0.1 >>= λ x1. name_front x1.1 >>= λ x2. name_front x2.1 >>= λ x3. Some (Method x0.0 x1.0 x2.0 x3.0, x3.1)) x e in
    let s1 = bind_some (number_front w32 s0.0.1) (λ x1. name_front x1.1 >>= λ x2. name_front x2.1 >>= λ x3. Some (Method s0.0.0 x1.0 x2.0 x3.0, x3.1)) x s0.2 in
    let s2 = bind_some (name_front s1.0.1) (λ x2. name_front x2.1 >>= λ x3. Some (Method s0.0.0 s1.0.0 x2.0 x3.0, x3.1)) x s1.2 in
    let s3 = bind_some (name_front s2.0.1) (λ x3. Some (Method s0.0.0 s1.0.0 s2.0.0 x3.0, x3.1)) x s2.2 in
    read_as 78 (Number w32 s0.0.0 ∷ Number w32 s1.0.0 ∷ Text s2.0.0 ∷ Text s3.0.0 ∷ []) (Method s0.0.0 s1.0.0 s2.0.0 s3.0.0) bytes s3.0.1 x (record { version = tt; first_is = refl; fields_are = refl })
    (number_first w32 wide32 bytes s0.0.0 s0.0.1 fits s0.1 (λ f. number_first w32 wide32 s0.0.1 s1.0.0 s1.0.1 f s1.1 (λ g. name_first s1.0.1 s2.0.0 s2.0.1 g s2.1 (λ h. name_first s2.0.1 s3.0.0 s3.0.1 h s3.1 (λ i. no_field s3.0.1 i))))) s3.2

pub alloc_takes : (bytes : List ℕ) (x : TraceLine × List ℕ) → AreBytes bytes → alloc_front bytes ≡ Some x → IsRead 65 x.0 bytes x.1
unfolding alloc_front
alloc_takes bytes x fits e = six_take 65 w64 wide64 Alloc (λ event thread a b c d. record { version = tt; first_is = refl; fields_are = refl }) bytes x fits e

pub update_takes : (bytes : List ℕ) (x : TraceLine × List ℕ) → AreBytes bytes → update_front bytes ≡ Some x → IsRead 85 x.0 bytes x.1
unfolding update_front
update_takes bytes x fits e = six_take 85 w32 wide32 Update (λ event thread a b c d. record { version = tt; first_is = refl; fields_are = refl }) bytes x fits e

pub enter_takes : (bytes : List ℕ) (x : TraceLine × List ℕ) → AreBytes bytes → enter_front bytes ≡ Some x → IsRead 77 x.0 bytes x.1
unfolding enter_front
enter_takes bytes x fits e = passage_takes 77 Enter (λ event thread method object. record { version = tt; first_is = refl; fields_are = refl }) bytes x fits e

pub exit_takes : (bytes : List ℕ) (x : TraceLine × List ℕ) → AreBytes bytes → exit_front bytes ≡ Some x → IsRead 69 x.0 bytes x.1
unfolding exit_front
exit_takes bytes x fits e =
    let s0 = bind_some (turn_front bytes) (λ x0. number_front w32 x0.1 >>= λ x1. Some (Exit x0.0.0 x0.0.1 x1.0, x1.1)) x e in
    let s1 = bind_some (number_front w32 s0.0.1) (λ x1. Some (Exit s0.0.0.0 s0.0.0.1 x1.0, x1.1)) x s0.2 in
    read_as 69 (Number w64 s0.0.0.0 ∷ Number w8 s0.0.0.1 ∷ Number w32 s1.0.0 ∷ []) (Exit s0.0.0.0 s0.0.0.1 s1.0.0) bytes s1.0.1 x (record { version = tt; first_is = refl; fields_are = refl })
    (turn_first bytes s0.0.0.0 s0.0.0.1 s0.0.1 fits s0.1 (λ f. number_first w32 wide32 s0.0.1 s1.0.0 s1.0.1 f s1.1 (λ g. no_field s1.0.1 g))) s1.2

pub unwind_takes : (bytes : List ℕ) (x : TraceLine × List ℕ) → AreBytes bytes → unwind_front bytes ≡ Some x → IsRead 88 x.0 bytes x.1
unfolding unwind_front
unwind_takes bytes x fits e = passage_takes 88 Unwind (λ event thread method object. record { version = tt; first_is = refl; fields_are = refl }) bytes x fits e

pub flush_takes : (bytes : List ℕ) (x : TraceLine × List ℕ) → AreBytes bytes → flush_front bytes ≡ Some x → IsRead 70 x.0 bytes x.1
unfolding flush_front
flush_takes bytes x fits e = two_take 70 w64 w32 wide64 wide32 Flush (λ event deaths. record { version = tt; first_is = refl; fields_are = refl }) bytes x fits e

pub death_takes : (bytes : List ℕ) (x : TraceLine × List ℕ) → AreBytes bytes → death_front bytes ≡ Some x → IsRead 68 x.0 bytes x.1
unfolding death_front
death_takes bytes x fits e = two_take 68 w32 w64 wide32 wide64 Death (λ object time. record { version = tt; first_is = refl; fields_are = refl }) bytes x fits e

pub finish_takes : (bytes : List ℕ) (x : TraceLine × List ℕ) → AreBytes bytes → finish_front bytes ≡ Some x → IsRead 90 x.0 bytes x.1
unfolding finish_front
finish_takes bytes x fits e = two_take 90 w64 w8 wide64 wide8 Finish (λ event how. record { version = tt; first_is = refl; fields_are = refl }) bytes x fits e

-- WHAT WAS WRITTEN

pub header_again : (interval : ℕ) (rest : List ℕ) → AllByRecursion FitsWidth (packed_fields (Header 2 interval)) → header_front (flat_map packed_field (packed_fields (Header 2 interval)) ++ rest) ≡ Some (Header 2 interval, rest)
unfolding header_front
header_again interval rest h = rw (number_again w64 (2 ^ 64) wide64 interval (rest) h.0) refl

pub class_again : (number : ℕ) (name : List ℕ) (rest : List ℕ) → AllByRecursion FitsWidth (packed_fields (Class number name)) → class_front (flat_map packed_field (packed_fields (Class number name)) ++ rest) ≡ Some (Class number name, rest)
unfolding class_front
class_again number name rest h =
    let regrouped : flat_map packed_field (packed_fields (Class number name)) ++ rest ≡ to_be_bytes w32 number ++ (to_be_bytes w32 (length name) ++ (name ++ rest)) = ap (λ (t : List ℕ). to_be_bytes w32 number ++ (to_be_bytes w32 (length name) ++ t)) (append_assoc name [] rest) in
    ap class_front regrouped ∙ rw (number_again w32 (2 ^ 32) wide32 number (to_be_bytes w32 (length name) ++ (name ++ rest)) h.0, name_again name (rest) h.1.0.0) refl

pub method_again : (number : ℕ) (class : ℕ) (name : List ℕ) (descriptor : List ℕ) (rest : List ℕ) → AllByRecursion FitsWidth (packed_fields (Method number class name descriptor)) → method_front (flat_map packed_field (packed_fields (Method number class name descriptor)) ++ rest) ≡ Some (Method number class name descriptor, rest)
unfolding method_front
method_again number class name descriptor rest h =
    let regrouped : flat_map packed_field (packed_fields (Method number class name descriptor)) ++ rest ≡ to_be_bytes w32 number ++ (to_be_bytes w32 class ++ (to_be_bytes w32 (length name) ++ (name ++ (to_be_bytes w32 (length descriptor) ++ (descriptor ++ rest))))) = ap (λ (t : List ℕ). to_be_bytes w32 number ++ (to_be_bytes w32 class ++ (to_be_bytes w32 (length name) ++ t))) (append_assoc name (to_be_bytes w32 (length descriptor) ++ (descriptor ++ [])) rest ∙ ap (λ (t : List ℕ). name ++ (to_be_bytes w32 (length descriptor) ++ t)) (append_assoc descriptor [] rest)) in
    ap method_front regrouped ∙ rw (number_again w32 (2 ^ 32) wide32 number (to_be_bytes w32 class ++ (to_be_bytes w32 (length name) ++ (name ++ (to_be_bytes w32 (length descriptor) ++ (descriptor ++ rest))))) h.0, number_again w32 (2 ^ 32) wide32 class (to_be_bytes w32 (length name) ++ (name ++ (to_be_bytes w32 (length descriptor) ++ (descriptor ++ rest)))) h.1.0, name_again name (to_be_bytes w32 (length descriptor) ++ (descriptor ++ rest)) h.1.1.0.0, name_again descriptor (rest) h.1.1.1.0.0) refl

pub alloc_again : (event : ℕ) (thread : ℕ) (object : ℕ) (class : ℕ) (size : ℕ) (len : ℕ) (rest : List ℕ) → AllByRecursion FitsWidth (packed_fields (Alloc event thread object class size len)) → alloc_front (flat_map packed_field (packed_fields (Alloc event thread object class size len)) ++ rest) ≡ Some (Alloc event thread object class size len, rest)
unfolding alloc_front
alloc_again event thread object class size len rest h = rw (turn_again event thread (to_be_bytes w32 object ++ (to_be_bytes w32 class ++ (to_be_bytes w64 size ++ (to_be_bytes w32 len ++ rest)))) h.0 h.1.0, number_again w32 (2 ^ 32) wide32 object (to_be_bytes w32 class ++ (to_be_bytes w64 size ++ (to_be_bytes w32 len ++ rest))) h.1.1.0, number_again w32 (2 ^ 32) wide32 class (to_be_bytes w64 size ++ (to_be_bytes w32 len ++ rest)) h.1.1.1.0, number_again w64 (2 ^ 64) wide64 size (to_be_bytes w32 len ++ rest) h.1.1.1.1.0, number_again w32 (2 ^ 32) wide32 len (rest) h.1.1.1.1.1.0) refl

pub update_again : (event : ℕ) (thread : ℕ) (object : ℕ) (slot : ℕ) (old : ℕ) (new : ℕ) (rest : List ℕ) → AllByRecursion FitsWidth (packed_fields (Update event thread object slot old new)) → update_front (flat_map packed_field (packed_fields (Update event thread object slot old new)) ++ rest) ≡ Some (Update event thread object slot old new, rest)
unfolding update_front
update_again event thread object slot old new rest h = rw (turn_again event thread (to_be_bytes w32 object ++ (to_be_bytes w32 slot ++ (to_be_bytes w32 old ++ (to_be_bytes w32 new ++ rest)))) h.0 h.1.0, number_again w32 (2 ^ 32) wide32 object (to_be_bytes w32 slot ++ (to_be_bytes w32 old ++ (to_be_bytes w32 new ++ rest))) h.1.1.0, number_again w32 (2 ^ 32) wide32 slot (to_be_bytes w32 old ++ (to_be_bytes w32 new ++ rest)) h.1.1.1.0, number_again w32 (2 ^ 32) wide32 old (to_be_bytes w32 new ++ rest) h.1.1.1.1.0, number_again w32 (2 ^ 32) wide32 new (rest) h.1.1.1.1.1.0) refl

pub enter_again : (event : ℕ) (thread : ℕ) (method : ℕ) (receiver : ℕ) (rest : List ℕ) → AllByRecursion FitsWidth (packed_fields (Enter event thread method receiver)) → enter_front (flat_map packed_field (packed_fields (Enter event thread method receiver)) ++ rest) ≡ Some (Enter event thread method receiver, rest)
unfolding enter_front
enter_again event thread method receiver rest h = rw (turn_again event thread (to_be_bytes w32 method ++ (to_be_bytes w32 receiver ++ rest)) h.0 h.1.0, number_again w32 (2 ^ 32) wide32 method (to_be_bytes w32 receiver ++ rest) h.1.1.0, number_again w32 (2 ^ 32) wide32 receiver (rest) h.1.1.1.0) refl

pub exit_again : (event : ℕ) (thread : ℕ) (method : ℕ) (rest : List ℕ) → AllByRecursion FitsWidth (packed_fields (Exit event thread method)) → exit_front (flat_map packed_field (packed_fields (Exit event thread method)) ++ rest) ≡ Some (Exit event thread method, rest)
unfolding exit_front
exit_again event thread method rest h = rw (turn_again event thread (to_be_bytes w32 method ++ rest) h.0 h.1.0, number_again w32 (2 ^ 32) wide32 method (rest) h.1.1.0) refl

pub unwind_again : (event : ℕ) (thread : ℕ) (method : ℕ) (exception : ℕ) (rest : List ℕ) → AllByRecursion FitsWidth (packed_fields (Unwind event thread method exception)) → unwind_front (flat_map packed_field (packed_fields (Unwind event thread method exception)) ++ rest) ≡ Some (Unwind event thread method exception, rest)
unfolding unwind_front
unwind_again event thread method exception rest h = rw (turn_again event thread (to_be_bytes w32 method ++ (to_be_bytes w32 exception ++ rest)) h.0 h.1.0, number_again w32 (2 ^ 32) wide32 method (to_be_bytes w32 exception ++ rest) h.1.1.0, number_again w32 (2 ^ 32) wide32 exception (rest) h.1.1.1.0) refl

pub flush_again : (event : ℕ) (deaths : ℕ) (rest : List ℕ) → AllByRecursion FitsWidth (packed_fields (Flush event deaths)) → flush_front (flat_map packed_field (packed_fields (Flush event deaths)) ++ rest) ≡ Some (Flush event deaths, rest)
unfolding flush_front
flush_again event deaths rest h = rw (number_again w64 (2 ^ 64) wide64 event (to_be_bytes w32 deaths ++ rest) h.0, number_again w32 (2 ^ 32) wide32 deaths (rest) h.1.0) refl

pub death_again : (object : ℕ) (time : ℕ) (rest : List ℕ) → AllByRecursion FitsWidth (packed_fields (Death object time)) → death_front (flat_map packed_field (packed_fields (Death object time)) ++ rest) ≡ Some (Death object time, rest)
unfolding death_front
death_again object time rest h = rw (number_again w32 (2 ^ 32) wide32 object (to_be_bytes w64 time ++ rest) h.0, number_again w64 (2 ^ 64) wide64 time (rest) h.1.0) refl

pub finish_again : (event : ℕ) (how : ℕ) (rest : List ℕ) → AllByRecursion FitsWidth (packed_fields (Finish event how)) → finish_front (flat_map packed_field (packed_fields (Finish event how)) ++ rest) ≡ Some (Finish event how, rest)
unfolding finish_front
finish_again event how rest h = rw (number_again w64 (2 ^ 64) wide64 event (to_be_bytes w8 how ++ rest) h.0, number_again w8 (2 ^ 8) wide8 how (rest) h.1.0) refl
