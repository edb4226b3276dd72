-- Files read one by one.
use Rattle.std.proofs.Common.{◌≡◌, ℕ, ◌+◌, ◌-◌, ◌<◌, ◌≤◌, zero, suc, inr, true, false, List, [], ◌∷◌, ◌++◌, map, length, length-append, take, get_or, string_bytes, Option, Some, None, Result, Ok, Err, refl, sym, ◌∙◌, ap, subst, append-nil, append_assoc, add-one, arith, rules}
use Rattle.std.specs.Prelude.{All, IfOk, IfErr, IfSome, OnOk}
use Rattle.std.proofs.lemmas.Bool.Decides.{nat_tests}
use Rattle.std.proofs.lemmas.List.{length-map, length-take-le, map-append, take_at}
use Rattle.std.proofs.lemmas.List.Elements.{All-nil, All-cons, All-head, All-tail, All-push, All-take}
use Rattle.std.specs.declared.string.String.{String}
use Rattle.std.specs.declared.vec.Vec.{Vec}
use Rattle.std.specs.declared.alloc.Global.{Global}
use Rattle.et_class.specs.Classes.{IsClassFile, class_of}
use Rattle.et_class.specs.declared.class.ClassFile.{ClassFile}
use Rattle.et_io.specs.Faults.{Rose, count_after}
use Rattle.et_io.specs.Files.{Held, Answer, Reading as Read, Finds, IsWithin, is_failed, is_read_failed}
use Rattle.et_io.specs.declared.files.Found.{Found}
use Rattle.et_io.specs.declared.files.Found.TheVariants as finds
use Rattle.et_files.specs.Faults.{Fault, Absent, TooLong, BadClass, BadText, BadTrace, LinkFault, BadEvent}
use Rattle.et_files.specs.Loaded.{file_bytes, most_of_class, IsClassOf}
use Rattle.et_files.specs.Reads.{Asks, HoldsClass, IsReadLast, ReadsInOrder, asking, asking_of, is_early}
use Rattle.et_files.specs.Told.{Cause, File, Reading, Memory, Other, Tells, TellsFound, IsCause, IsFileRefusal, cause_of, is_read_cause, is_reading, named_path}
use Rattle.et_files.specs.Refusals.{status_of}
use Rattle.et_files.specs.declared.refusal.Refusal.{Refusal}
use Rattle.et_files.specs.declared.refusal.Refusal.TheVariants as refusal
use Rattle.et_files.specs.declared.status.Status.{Status}
use Rattle.et_files.proofs.FaultLemmas.{rose_one}

-- WHAT A READ FOUND

-- the bytes of a file that is not too long
pub bytes_there : (most : ℕ) (file : Option (List ℕ)) (bytes : List ℕ) → file ≡ Some bytes → length bytes ≤ most → file_bytes most file ≡ Ok bytes
bytes_there most file bytes is within = ap (file_bytes most) is ∙ first_of (search rules, grind (arith, nat_tests))

-- .. and of one that is
too_long : (most : ℕ) (file : Option (List ℕ)) (found : Found) → found ≡ finds.TooLong → Finds found most file → file_bytes most file ≡ Err TooLong
too_long most None found is h = absurd (subst (λ f. Finds f most None) is h)
too_long most (Some bytes) found is h = let long : most < length bytes = subst (λ f. Finds f most (Some bytes)) is h in first_of (search rules, grind (arith, nat_tests))

pub found_tells : (old new most : ℕ) (file : Option (List ℕ)) (found : Found) (answer : Result (Vec ℕ Global) Refusal) → TellsFound found answer → Finds found most file → IsWithin found most → new ≡ count_after (is_read_failed (Ok found)) old
    → Tells (Rose old new) (λ (bytes : Vec ℕ Global). bytes.items) (file_bytes most file) answer
found_tells old new most file (finds.Bytes bytes) answer is there within count = subst (λ a. Tells (Rose old new) (λ (bytes : Vec ℕ Global). bytes.items) (file_bytes most file) a) (sym is) (bytes_there most file bytes.items there within)
found_tells old new most file finds.Absent (Ok bytes) is there within count = absurd is
found_tells old new most file finds.Absent (Err r) is there within count = subst (IsCause (Rose old new) (file_bytes most file)) (sym is) (ap (file_bytes most) there)
found_tells old new most file finds.TooLong (Ok bytes) is there within count = absurd is
found_tells old new most file finds.TooLong (Err r) is there within count = subst (IsCause (Rose old new) (file_bytes most file)) (sym is) (too_long most file finds.TooLong refl there)
found_tells old new most file finds.Failed (Ok bytes) is there within count = absurd is
found_tells old new most file finds.Failed (Err r) is there within count = subst (IsCause (Rose old new) (file_bytes most file)) (sym is) (rose_one old new count)

pub found_reading : (found : Found) (answer : Result (Vec ℕ Global) Refusal) → TellsFound found answer → is_reading answer ≡ is_read_failed (Ok found)
found_reading (finds.Bytes bytes) answer is = ap is_reading is
found_reading finds.Absent (Ok bytes) is = absurd is
found_reading finds.Absent (Err r) is = ap is_read_cause is
found_reading finds.TooLong (Ok bytes) is = absurd is
found_reading finds.TooLong (Err r) is = ap is_read_cause is
found_reading finds.Failed (Ok bytes) is = absurd is
found_reading finds.Failed (Err r) is = ap is_read_cause is

-- it speaks of one file, or of memory
abbrev IsOfOne : Cause → Type 0
IsOfOne (File Absent) = Unit {0}
IsOfOne (File TooLong) = Unit {0}
IsOfOne (File (BadClass kind offset)) = Unit {0}
IsOfOne (File (BadText kind line)) = Unit {0}
IsOfOne (File (BadTrace kind line)) = Unit {0}
IsOfOne (File (LinkFault kind class)) = ⊥
IsOfOne (File (BadEvent event)) = ⊥
IsOfOne Reading = Unit {0}
IsOfOne Memory = Unit {0}
IsOfOne Other = ⊥

early_one : (r : Refusal) → IsOfOne (cause_of r) → is_early (status_of r) ≡ true
early_one refusal.Usage one = absurd one
early_one (refusal.Absent path) one = refl
early_one (refusal.BadClass path kind offset) one = refl
early_one (refusal.ReadFault path) one = refl
early_one refusal.WriteFault one = absurd one
early_one refusal.NoMemory one = refl
early_one (refusal.BadText path kind line) one = refl
early_one (refusal.BadTrace path kind line) one = refl
early_one (refusal.IllTyped thread class method descriptor pc) one = absurd one
early_one refusal.ObjectLimit one = absurd one
early_one (refusal.TooLong path) one = refl
early_one (refusal.LinkFault kind class) one = absurd one
early_one (refusal.Rejected class method descriptor) one = absurd one
early_one (refusal.BadEvent event) one = absurd one

pub found_file : (found : Found) (answer : Result (Vec ℕ Global) Refusal) → TellsFound found answer → IfErr answer (λ r. IsFileRefusal (cause_of r))
found_file (finds.Bytes bytes) answer is = subst (λ (a : Result (Vec ℕ Global) Refusal). IfErr a (λ r. IsFileRefusal (cause_of r))) (sym is) tt
found_file finds.Absent (Ok bytes) is = tt
found_file finds.Absent (Err r) is = subst IsFileRefusal (sym is) tt
found_file finds.TooLong (Ok bytes) is = tt
found_file finds.TooLong (Err r) is = subst IsFileRefusal (sym is) tt
found_file finds.Failed (Ok bytes) is = tt
found_file finds.Failed (Err r) is = subst IsFileRefusal (sym is) tt

pub found_early : (found : Found) (answer : Result (Vec ℕ Global) Refusal) → TellsFound found answer → IfErr answer (λ r. is_early (status_of r) ≡ true)
found_early (finds.Bytes bytes) answer is = subst (λ (a : Result (Vec ℕ Global) Refusal). IfErr a (λ r. is_early (status_of r) ≡ true)) (sym is) tt
found_early finds.Absent (Ok bytes) is = tt
found_early finds.Absent (Err r) is = early_one r (subst IsOfOne (sym is) tt)
found_early finds.TooLong (Ok bytes) is = tt
found_early finds.TooLong (Err r) is = early_one r (subst IsOfOne (sym is) tt)
found_early finds.Failed (Ok bytes) is = tt
found_early finds.Failed (Err r) is = early_one r (subst IsOfOne (sym is) tt)

-- the bytes are no more than were asked for
pub found_within : (most : ℕ) (found : Found) (answer : Result (Vec ℕ Global) Refusal) → TellsFound found answer → IsWithin found most → IfOk answer (λ bytes. length bytes.items ≤ most)
found_within most (finds.Bytes bytes) answer is within = subst (λ (a : Result (Vec ℕ Global) Refusal). IfOk a (λ bytes. length bytes.items ≤ most)) (sym is) within
found_within most finds.Absent (Ok bytes) is within = absurd is
found_within most finds.Absent (Err r) is within = tt
found_within most finds.TooLong (Ok bytes) is within = absurd is
found_within most finds.TooLong (Err r) is within = tt
found_within most finds.Failed (Ok bytes) is within = absurd is
found_within most finds.Failed (Err r) is within = tt

-- THE CLASS OF A FILE

pub holds_class : (held : Held) (path bytes : List ℕ) (r : Result ClassFile Refusal) → file_bytes most_of_class (held path) ≡ Ok bytes → IfOk r (λ class. IsClassFile bytes (class_of class)) → OnOk r (HoldsClass held path)
holds_class held path bytes (Ok class) is file = (class_of class, subst (λ (f : Result (List ℕ) Fault). IsClassOf f (Ok (class_of class))) (sym is) (inr (class_of class, file, refl)))
holds_class held path bytes (Err r) is file = tt

-- FILES IN ORDER

abbrev IsFine : Read → Type 0
IsFine r = is_failed r.answer ≡ false

take_more : (paths : List (String Global)) (i : ℕ) (d : String Global) → i < length paths → take (suc i) (map string_bytes paths) ≡ take i (map string_bytes paths) ++ string_bytes (get_or paths i d) ∷ []
take_more [] i d lt = absurd (omega arith)
take_more (p ∷ ps) zero d lt = refl
take_more (p ∷ ps) (suc i) d lt = ap (λ xs. string_bytes p ∷ xs) (take_more ps i d (omega arith))

-- one path more
pub next_taken : (paths : List (String Global)) (i : ℕ) (item d : String Global) (path : List ℕ) → i < length paths → item ≡ get_or paths i d → path ≡ string_bytes item → take (i + 1) (map string_bytes paths) ≡ take i (map string_bytes paths) ++ path ∷ []
next_taken paths i item d path lt is value = rw add-one (take_more paths i d lt ∙ ap (λ p. take i (map string_bytes paths) ++ p ∷ []) (sym (value ∙ ap string_bytes is)))

-- so many paths were read, and no read failed
pub record ReadSoFar (old new : List Read) (most : ℕ) (paths : List (List ℕ)) : Type 0 where
  pub made : List Read
  pub asked : new ≡ old ++ made
  pub each : map asking made ≡ map (asking_of most) paths
  pub fine : All IsFine made

pub begin_reads : (old : List Read) (most : ℕ) → ReadSoFar old old most []
begin_reads old most = record { made = []; asked = sym (append-nil old); each = refl; fine = All-nil IsFine }

-- as many reads as paths
count_made : (made : List Read) (most : ℕ) (paths : List (List ℕ)) → map asking made ≡ map (asking_of most) paths → length made ≡ length paths
count_made made most paths e = sym (length-map made asking) ∙ (ap length e ∙ length-map paths (asking_of most))

-- the reads so far stand behind those before
pub not_before : (old new : List Read) (most : ℕ) (paths : List (List ℕ)) → ReadSoFar old new most paths → length old ≤ length new
not_before old new most paths h = omega (arith, ap length h.asked, length-append old h.made)

module _ (old mid new : List Read) (most : ℕ) (paths : List (List ℕ)) (path : List ℕ) (a : Answer) (h : ReadSoFar old mid most paths) (asks : Asks mid new path most a) where
  abbrev last : Read
  last = record { path = path; most = most; answer = a }

  more_asked : new ≡ old ++ (h.made ++ last ∷ [])
  more_asked = asks ∙ (ap (λ (xs : List Read). xs ++ last ∷ []) h.asked ∙ append_assoc old h.made (last ∷ []))

  more_each : map asking (h.made ++ last ∷ []) ≡ map (asking_of most) (paths ++ path ∷ [])
  more_each = map-append asking h.made (last ∷ []) ∙ (ap (λ (xs : List (List ℕ × ℕ)). xs ++ (path, most) ∷ []) h.each ∙ sym (map-append (asking_of most) paths (path ∷ [])))

  -- one path more
  pub next_read : is_failed a ≡ false → ReadSoFar old new most (paths ++ path ∷ [])
  next_read fine = record { made = h.made ++ last ∷ []; asked = more_asked; each = more_each; fine = All-push IsFine h.made last h.fine fine }

all_fewer : (P : List ℕ → Type 0) (xs : List (List ℕ)) (m n : ℕ) → m ≤ n → All P (take n xs) → All P (take m xs)
all_fewer P xs zero n le all = All-nil P
all_fewer P [] (suc m) n le all = All-nil P
all_fewer P (x ∷ xs) (suc m) zero le all = absurd (omega arith)
all_fewer P (x ∷ xs) (suc m) (suc n) le all = All-cons P x (take m xs) (All-head P x (take n xs) all) (all_fewer P xs m n (omega arith) (All-tail P x (take n xs) all))

module _ (Agrees : Held → Type 0) (old : List Read) where
  -- all are read, and all are good
  pub read_whole : (new : List Read) (most : ℕ) (paths : List (String Global)) (i : ℕ) (answer : Status) → i ≡ length paths → ReadSoFar old new most (take i (map string_bytes paths))
      → ((held : Held) → Agrees held → All (HoldsClass held) (take i (map string_bytes paths))) → ReadsInOrder Agrees old new most (map string_bytes paths) answer
  read_whole new most paths i answer end h good = record {
    count = i;
    few = omega (arith, end, length-map paths string_bytes);
    made = h.made;
    asked = h.asked;
    each = h.each;
    first = All-take IsFine (i - 1) h.made h.fine;
    good = λ held is. all_fewer (HoldsClass held) (map string_bytes paths) (i - 1) i (omega arith) (good held is);
    whole = λ late. end ∙ sym (length-map paths string_bytes);
  }

  -- the last one that was read isn't
  pub read_up_to : (mid new : List Read) (most : ℕ) (paths : List (String Global)) (i : ℕ) (path : List ℕ) (a : Answer) (answer : Status) → i < length paths → is_early answer ≡ true
      → take (i + 1) (map string_bytes paths) ≡ take i (map string_bytes paths) ++ path ∷ [] → ReadSoFar old mid most (take i (map string_bytes paths)) → Asks mid new path most a
      → ((held : Held) → Agrees held → All (HoldsClass held) (take i (map string_bytes paths))) → ReadsInOrder Agrees old new most (map string_bytes paths) answer
  read_up_to mid new most paths i path a answer lt early more h asks good =
      let long : i ≤ length (map string_bytes paths) = omega (arith, lt, length-map paths string_bytes) in
      let count : length h.made ≡ i = count_made h.made most (take i (map string_bytes paths)) h.each ∙ length-take-le i (map string_bytes paths) long in
      let at : take (i + 1 - 1) (h.made ++ last old mid new most (take i (map string_bytes paths)) path a h asks ∷ []) ≡ h.made = take_at h.made (last old mid new most (take i (map string_bytes paths)) path a h asks ∷ []) (i + 1 - 1) (omega (arith, count)) in
      record {
        count = i + 1;
        few = omega (arith, lt, length-map paths string_bytes);
        made = h.made ++ last old mid new most (take i (map string_bytes paths)) path a h asks ∷ [];
        asked = more_asked old mid new most (take i (map string_bytes paths)) path a h asks;
        each = more_each old mid new most (take i (map string_bytes paths)) path a h asks ∙ ap (λ (xs : List (List ℕ)). map (asking_of most) xs) (sym more);
        first = subst (All IsFine) (sym at) h.fine;
        good = λ held is. all_fewer (HoldsClass held) (map string_bytes paths) (i + 1 - 1) i (omega arith) (good held is);
        whole = λ late. absurd (cc (early, late));
      }

  -- all were read, whatever is answered then
  pub reads_whole : (new : List Read) (most : ℕ) (paths : List (List ℕ)) (before answer : Status) → is_early before ≡ false → ReadsInOrder Agrees old new most paths before → ReadsInOrder Agrees old new most paths answer
  reads_whole new most paths before answer late h = record { count = h.count; few = h.few; made = h.made; asked = h.asked; each = h.each; first = h.first; good = h.good; whole = λ e. h.whole late }

  -- the one file was read
  pub one_read : (new : List Read) (path : List ℕ) (most : ℕ) (answer : Status) → (a : Answer) × Asks old new path most a → ReadsInOrder Agrees old new most (path ∷ []) answer
  one_read new path most answer asks = record {
    count = 1;
    few = search rules;
    made = record { path = path; most = most; answer = asks.0 } ∷ [];
    asked = asks.1;
    each = refl;
    first = All-nil IsFine;
    good = λ held is. All-nil (HoldsClass held);
    whole = λ e. refl;
  }

  -- none was read
  pub none_read : (most : ℕ) (paths : List (List ℕ)) (answer : Status) → (is_early answer ≡ false → paths ≡ []) → ReadsInOrder Agrees old old most paths answer
  none_read most paths answer none = record {
    count = 0;
    few = search rules;
    made = [];
    asked = sym (append-nil old);
    each = refl;
    first = All-nil IsFine;
    good = λ held is. All-nil (HoldsClass held);
    whole = λ e. sym (ap length (none e));
  }

-- as many reads were made as are counted
pub reads_counted : (Agrees : Held → Type 0) (old new : List Read) (most : ℕ) (paths : List (List ℕ)) (answer : Status) (h : ReadsInOrder Agrees old new most paths answer) → length new ≡ length old + h.count
reads_counted Agrees old new most paths answer h =
    ap length h.asked ∙ (length-append old h.made ∙ ap (λ (n : ℕ). length old + n) (count_made h.made most (take h.count paths) h.each ∙ length-take-le h.count paths h.few))

-- THE PATH THAT IS NAMED

-- where it is that of the one read that was made, it was read last
pub read_last : (old new : List Read) (path : List ℕ) (most : ℕ) (answer : Answer) (named : Option (List ℕ)) → Asks old new path most answer → IfSome named (λ n. n ≡ path) → IfSome named (IsReadLast new)
read_last old new path most answer None asks is = tt
read_last old new path most answer (Some n) asks is = (old, most, answer, subst (λ p. Asks old new p most answer) (sym is) asks)

-- nothing is said of the path where none is named
pub names_none : {A : Type 0} (result : Result A Refusal) (IsRead : List ℕ → Type 0) → IfErr result (λ r. named_path r ≡ None) → IfErr result (λ r. IfSome (named_path r) IsRead)
names_none (Ok a) IsRead none = tt
names_none (Err r) IsRead none = subst (λ o. IfSome o IsRead) (sym none) tt
