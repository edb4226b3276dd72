-- A record at the front of bytes: what is read is packed so, and what is packed is read.
use Rattle.std.proofs.Common.{◌≡◌, ℕ, suc, ◌-◌, ◌≤◌, true, false, cond, ◌||◌, eqb, List, [], ◌∷◌, ◌++◌, length, take, drop, get_or, Option, Some, None, refl, sym, ap, subst, ◌∙◌, arith, inl, inr}
use Rattle.std.specs.Prelude.{option_map}
use Rattle.std.proofs.lemmas.List.{take_rest}
use Rattle.std.specs.List.{flat_map, AllByRecursion}
use Rattle.std.proofs.lemmas.Bool.{or_cases, eqb-true}
use Rattle.et_text.proofs.LineKinds.{body}
use Rattle.et_base.specs.Numbers.{AreBytes}
use Rattle.et_base.specs.declared.line.TraceLine.{TraceLine}
use Rattle.et_base.specs.declared.line.TraceLine.TheVariants.{Header, Class, Method, Alloc, Update, Enter, Exit, Unwind, Flush, Death, Finish}
use Rattle.et_text.specs.Spelling.{letter}
use Rattle.et_text.specs.Ranges.{IsInRange}
use Rattle.et_text.proofs.Numbers.{chosen}
use Rattle.et_binary.specs.Packing.{packed_field, packed_fields, packing}
use Rattle.et_binary.specs.Packs.{FitsWidth, SaysTwo, IsPacked, IsNoLetter, IsMalformed, IsUnfinished}
use Rattle.et_binary.specs.Packs.IsMalformed.{HasNoLetter, IsOutOfRange}
use Rattle.et_binary.specs.Fronts.{header_front, class_front, method_front, alloc_front, update_front, enter_front, exit_front, unwind_front, flush_front, death_front, finish_front, record_front, is_record_letter}
use Rattle.et_binary.specs.Unpacking.{IsFront}
use Rattle.et_binary.proofs.Lines.{IsRead, header_takes, class_takes, method_takes, alloc_takes, update_takes, enter_takes, exit_takes, unwind_takes, flush_takes, death_takes, finish_takes, header_again, class_again, method_again, alloc_again, update_again, enter_again, exit_again, unwind_again, flush_again, death_again, finish_again}

-- the bytes begin with this record, and bytes stand behind it
pub record BeginsWith (line : TraceLine) (behind bytes : List ℕ) : Type 0 where
  pub packed : IsPacked line (packing line)
  pub parts : bytes ≡ packing line ++ behind
  pub rest_fits : AreBytes behind

packed_by : (b first : ℕ) (rest : List ℕ) (x : TraceLine × List ℕ) → eqb b first ≡ true → IsRead first x.0 rest x.1 → BeginsWith x.0 x.1 (b ∷ rest)
packed_by b first rest x e h = record {
  packed = record { version = h.version; room = h.room; packed = refl };
  parts = body b (letter x.0) rest (flat_map packed_field (packed_fields x.0) ++ x.1) (eqb-true b first e ∙ h.first_is) h.takes.parts;
  rest_fits = h.takes.rest_fits;
}

fits_rest : (b : ℕ) (bytes : List ℕ) → AreBytes (b ∷ bytes) → AreBytes bytes
fits_rest b bytes h i = h (suc i)

pub front_takes : (bytes : List ℕ) (x : TraceLine × List ℕ) → AreBytes bytes → record_front bytes ≡ Some x → BeginsWith x.0 x.1 bytes
unfolding record_front
front_takes [] x fits e = absurd cc
front_takes (b ∷ rest) x all e =
    let fits = fits_rest b rest all in
    elim (chosen (eqb b 72) (header_front rest) (cond (eqb b 67) (class_front rest) (cond (eqb b 78) (method_front rest) (cond (eqb b 65) (alloc_front rest) (cond (eqb b 85) (update_front rest) (cond (eqb b 77) (enter_front rest) (cond (eqb b 69) (exit_front rest) (cond (eqb b 88) (unwind_front rest) (cond (eqb b 70) (flush_front rest) (cond (eqb b 68) (death_front rest) (cond (eqb b 90) (finish_front rest) (None))))))))))) (Some x) e) [
      | inl z ↦ packed_by b 72 rest x z.0 (header_takes rest x fits z.1)
      | inr z ↦ elim (chosen (eqb b 67) (class_front rest) (cond (eqb b 78) (method_front rest) (cond (eqb b 65) (alloc_front rest) (cond (eqb b 85) (update_front rest) (cond (eqb b 77) (enter_front rest) (cond (eqb b 69) (exit_front rest) (cond (eqb b 88) (unwind_front rest) (cond (eqb b 70) (flush_front rest) (cond (eqb b 68) (death_front rest) (cond (eqb b 90) (finish_front rest) (None)))))))))) (Some x) z.1) [
        | inl z ↦ packed_by b 67 rest x z.0 (class_takes rest x fits z.1)
        | inr z ↦ elim (chosen (eqb b 78) (method_front rest) (cond (eqb b 65) (alloc_front rest) (cond (eqb b 85) (update_front rest) (cond (eqb b 77) (enter_front rest) (cond (eqb b 69) (exit_front rest) (cond (eqb b 88) (unwind_front rest) (cond (eqb b 70) (flush_front rest) (cond (eqb b 68) (death_front rest) (cond (eqb b 90) (finish_front rest) (None))))))))) (Some x) z.1) [
          | inl z ↦ packed_by b 78 rest x z.0 (method_takes rest x fits z.1)
          | inr z ↦ elim (chosen (eqb b 65) (alloc_front rest) (cond (eqb b 85) (update_front rest) (cond (eqb b 77) (enter_front rest) (cond (eqb b 69) (exit_front rest) (cond (eqb b 88) (unwind_front rest) (cond (eqb b 70) (flush_front rest) (cond (eqb b 68) (death_front rest) (cond (eqb b 90) (finish_front rest) (None)))))))) (Some x) z.1) [
            | inl z ↦ packed_by b 65 rest x z.0 (alloc_takes rest x fits z.1)
            | inr z ↦ elim (chosen (eqb b 85) (update_front rest) (cond (eqb b 77) (enter_front rest) (cond (eqb b 69) (exit_front rest) (cond (eqb b 88) (unwind_front rest) (cond (eqb b 70) (flush_front rest) (cond (eqb b 68) (death_front rest) (cond (eqb b 90) (finish_front rest) (None))))))) (Some x) z.1) [
              | inl z ↦ packed_by b 85 rest x z.0 (update_takes rest x fits z.1)
              | inr z ↦ elim (chosen (eqb b 77) (enter_front rest) (cond (eqb b 69) (exit_front rest) (cond (eqb b 88) (unwind_front rest) (cond (eqb b 70) (flush_front rest) (cond (eqb b 68) (death_front rest) (cond (eqb b 90) (finish_front rest) (None)))))) (Some x) z.1) [
                | inl z ↦ packed_by b 77 rest x z.0 (enter_takes rest x fits z.1)
                | inr z ↦ elim (chosen (eqb b 69) (exit_front rest) (cond (eqb b 88) (unwind_front rest) (cond (eqb b 70) (flush_front rest) (cond (eqb b 68) (death_front rest) (cond (eqb b 90) (finish_front rest) (None))))) (Some x) z.1) [
                  | inl z ↦ packed_by b 69 rest x z.0 (exit_takes rest x fits z.1)
                  | inr z ↦ elim (chosen (eqb b 88) (unwind_front rest) (cond (eqb b 70) (flush_front rest) (cond (eqb b 68) (death_front rest) (cond (eqb b 90) (finish_front rest) (None)))) (Some x) z.1) [
                    | inl z ↦ packed_by b 88 rest x z.0 (unwind_takes rest x fits z.1)
                    | inr z ↦ elim (chosen (eqb b 70) (flush_front rest) (cond (eqb b 68) (death_front rest) (cond (eqb b 90) (finish_front rest) (None))) (Some x) z.1) [
                      | inl z ↦ packed_by b 70 rest x z.0 (flush_takes rest x fits z.1)
                      | inr z ↦ elim (chosen (eqb b 68) (death_front rest) (cond (eqb b 90) (finish_front rest) (None)) (Some x) z.1) [
                        | inl z ↦ packed_by b 68 rest x z.0 (death_takes rest x fits z.1)
                        | inr z ↦ elim (chosen (eqb b 90) (finish_front rest) (None) (Some x) z.1) [
                          | inl z ↦ packed_by b 90 rest x z.0 (finish_takes rest x fits z.1)
                          | inr z ↦ absurd (let f = z.1 in cc)
                        ]
                      ]
                    ]
                  ]
                ]
              ]
            ]
          ]
        ]
      ]
    ]

header_two : (v interval : ℕ) (rest : List ℕ) → v ≡ 2 → AllByRecursion FitsWidth (packed_fields (Header v interval)) → record_front (packing (Header v interval) ++ rest) ≡ Some (Header v interval, rest)
unfolding record_front
header_two v interval rest e h = subst (λ (k : ℕ). record_front (packing (Header k interval) ++ rest) ≡ Some (Header k interval, rest)) (sym e) (header_again interval rest h)

pub front_again : (line : TraceLine) (rest : List ℕ) → SaysTwo line → AllByRecursion FitsWidth (packed_fields line) → record_front (packing line ++ rest) ≡ Some (line, rest)
unfolding record_front
front_again (Header v interval) rest t h = header_two v interval rest t h
front_again (Class number name) rest t h = class_again number name rest h
front_again (Method number class name descriptor) rest t h = method_again number class name descriptor rest h
front_again (Alloc event thread object class size len) rest t h = alloc_again event thread object class size len rest h
front_again (Update event thread object slot old new) rest t h = update_again event thread object slot old new rest h
front_again (Enter event thread method receiver) rest t h = enter_again event thread method receiver rest h
front_again (Exit event thread method) rest t h = exit_again event thread method rest h
front_again (Unwind event thread method exception) rest t h = unwind_again event thread method exception rest h
front_again (Flush event deaths) rest t h = flush_again event deaths rest h
front_again (Death object time) rest t h = death_again object time rest h
front_again (Finish event how) rest t h = finish_again event how rest h

pub front_of : (line : TraceLine) (bytes first behind : List ℕ) → bytes ≡ first ++ behind → IsPacked line first → record_front bytes ≡ Some (line, behind)
front_of line bytes first behind e p = ap record_front (e ∙ ap (λ (t : List ℕ). t ++ behind) p.packed) ∙ front_again line behind p.version p.room

-- LETTERS

letter_is : (b k : ℕ) (line : TraceLine) → k ≡ letter line → eqb b k ≡ true → (line : TraceLine) × (b ≡ letter line)
letter_is b k line l h = (line, eqb-true b k h ∙ l)

letter_of : (b : ℕ) → is_record_letter b ≡ true → (line : TraceLine) × (b ≡ letter line)
letter_of b e =
    elim (or_cases (eqb b 72 || eqb b 67 || eqb b 78 || eqb b 65 || eqb b 85 || eqb b 77 || eqb b 69 || eqb b 88 || eqb b 70 || eqb b 68) (eqb b 90) e) [ inl z ↦ elim (or_cases (eqb b 72 || eqb b 67 || eqb b 78 || eqb b 65 || eqb b 85 || eqb b 77 || eqb b 69 || eqb b 88 || eqb b 70) (eqb b 68) z) [ inl z ↦ elim (or_cases (eqb b 72 || eqb b 67 || eqb b 78 || eqb b 65 || eqb b 85 || eqb b 77 || eqb b 69 || eqb b 88) (eqb b 70) z) [ inl z ↦ elim (or_cases (eqb b 72 || eqb b 67 || eqb b 78 || eqb b 65 || eqb b 85 || eqb b 77 || eqb b 69) (eqb b 88) z) [ inl z ↦ elim (or_cases (eqb b 72 || eqb b 67 || eqb b 78 || eqb b 65 || eqb b 85 || eqb b 77) (eqb b 69) z) [ inl z ↦ elim (or_cases (eqb b 72 || eqb b 67 || eqb b 78 || eqb b 65 || eqb b 85) (eqb b 77) z) [ inl z ↦ elim (or_cases (eqb b 72 || eqb b 67 || eqb b 78 || eqb b 65) (eqb b 85) z) [ inl z ↦ elim (or_cases (eqb b 72 || eqb b 67 || eqb b 78) (eqb b 65) z) [ inl z ↦ elim (or_cases (eqb b 72 || eqb b 67) (eqb b 78) z) [ inl z ↦ elim (or_cases (eqb b 72) (eqb b 67) z) [ inl z ↦ letter_is b 72 (Header 0 0) refl z | inr z ↦ letter_is b 67 (Class 0 []) refl z ] | inr z ↦ letter_is b 78 (Method 0 0 [] []) refl z ] | inr z ↦ letter_is b 65 (Alloc 0 0 0 0 0 0) refl z ] | inr z ↦ letter_is b 85 (Update 0 0 0 0 0 0) refl z ] | inr z ↦ letter_is b 77 (Enter 0 0 0 0) refl z ] | inr z ↦ letter_is b 69 (Exit 0 0 0) refl z ] | inr z ↦ letter_is b 88 (Unwind 0 0 0 0) refl z ] | inr z ↦ letter_is b 70 (Flush 0 0) refl z ] | inr z ↦ letter_is b 68 (Death 0 0) refl z ] | inr z ↦ letter_is b 90 (Finish 0 0) refl z ]

pub no_letter : (b : ℕ) → is_record_letter b ≡ false → IsNoLetter b
no_letter b h (Header v interval) e = let x : is_record_letter 72 ≡ false = subst (λ (k : ℕ). is_record_letter k ≡ false) e h in absurd cc
no_letter b h (Class number name) e = let x : is_record_letter 67 ≡ false = subst (λ (k : ℕ). is_record_letter k ≡ false) e h in absurd cc
no_letter b h (Method number class name descriptor) e = let x : is_record_letter 78 ≡ false = subst (λ (k : ℕ). is_record_letter k ≡ false) e h in absurd cc
no_letter b h (Alloc event thread object class size len) e = let x : is_record_letter 65 ≡ false = subst (λ (k : ℕ). is_record_letter k ≡ false) e h in absurd cc
no_letter b h (Update event thread object slot old new) e = let x : is_record_letter 85 ≡ false = subst (λ (k : ℕ). is_record_letter k ≡ false) e h in absurd cc
no_letter b h (Enter event thread method receiver) e = let x : is_record_letter 77 ≡ false = subst (λ (k : ℕ). is_record_letter k ≡ false) e h in absurd cc
no_letter b h (Exit event thread method) e = let x : is_record_letter 69 ≡ false = subst (λ (k : ℕ). is_record_letter k ≡ false) e h in absurd cc
no_letter b h (Unwind event thread method exception) e = let x : is_record_letter 88 ≡ false = subst (λ (k : ℕ). is_record_letter k ≡ false) e h in absurd cc
no_letter b h (Flush event deaths) e = let x : is_record_letter 70 ≡ false = subst (λ (k : ℕ). is_record_letter k ≡ false) e h in absurd cc
no_letter b h (Death object time) e = let x : is_record_letter 68 ≡ false = subst (λ (k : ℕ). is_record_letter k ≡ false) e h in absurd cc
no_letter b h (Finish event how) e = let x : is_record_letter 90 ≡ false = subst (λ (k : ℕ). is_record_letter k ≡ false) e h in absurd cc

pub has_letter : (b : ℕ) → is_record_letter b ≡ true → IsNoLetter b → ⊥
has_letter b e n = let l = letter_of b e in n l.0 l.1

-- RANGES

-- a line in range has a record
pub range_packed : (line : TraceLine) → IsInRange 2 line → IsPacked line (packing line)
range_packed (Header v interval) r = record { version = r.0; room = (omega arith, tt); packed = refl }
range_packed (Class number name) r = record { version = tt; room = (omega arith, ((r.2 refl, r.1.1), tt)); packed = refl }
range_packed (Method number class name descriptor) r = record { version = tt; room = (omega arith, (omega arith, ((r.4 refl, r.2.1), ((r.5 refl, r.3.1), tt)))); packed = refl }
range_packed (Alloc event thread object class size len) r = record { version = tt; room = (omega arith, (omega arith, (omega arith, (omega arith, (omega arith, (omega arith, tt)))))); packed = refl }
range_packed (Update event thread object slot old new) r = record { version = tt; room = (omega arith, (omega arith, (omega arith, (omega arith, (omega arith, (omega arith, tt)))))); packed = refl }
range_packed (Enter event thread method receiver) r = record { version = tt; room = (omega arith, (omega arith, (omega arith, (omega arith, tt)))); packed = refl }
range_packed (Exit event thread method) r = record { version = tt; room = (omega arith, (omega arith, (omega arith, tt))); packed = refl }
range_packed (Unwind event thread method exception) r = record { version = tt; room = (omega arith, (omega arith, (omega arith, (omega arith, tt)))); packed = refl }
range_packed (Flush event deaths) r = record { version = tt; room = (omega arith, (omega arith, tt)); packed = refl }
range_packed (Death object time) r = record { version = tt; room = (omega arith, (omega arith, tt)); packed = refl }
range_packed (Finish event how) r = record { version = tt; room = (omega arith, (omega arith, tt)); packed = refl }

-- WHAT IS THERE

unfinished_by : (b : ℕ) (bytes rest : List ℕ) → bytes ≡ b ∷ rest → is_record_letter b ≡ true → record_front bytes ≡ None → IsUnfinished bytes
unfinished_by b bytes rest e l n = record {
  letter_fits = λ x behind f none. (let same : b ≡ x = (let both : b ∷ rest ≡ x ∷ behind = sym e ∙ f in cc) in has_letter b l (subst IsNoLetter (sym same) none));
  not_whole = λ line first behind f p. (let some = front_of line bytes first behind f p in absurd (let both : None ≡ Some (line, behind) = sym n ∙ some in cc));
}

pub unfinished_none : IsUnfinished []
unfinished_none = record {
  letter_fits = λ b behind e none. absurd cc;
  not_whole = λ line first behind e p. absurd (let both : [] ≡ packing line ++ behind = e ∙ ap (λ (t : List ℕ). t ++ behind) p.packed in cc);
}

malformed_letter : (b : ℕ) (bytes rest : List ℕ) → bytes ≡ b ∷ rest → is_record_letter b ≡ false → IsMalformed bytes
malformed_letter b bytes rest e l = HasNoLetter b rest e (no_letter b l)

pub malformed_range : (bytes : List ℕ) (line : TraceLine) (behind : List ℕ) → BeginsWith line behind bytes → (IsInRange 2 line → ⊥) → IsMalformed bytes
malformed_range bytes line behind w out = IsOutOfRange line (packing line) behind w.parts w.packed out

first_and_rest : (bytes : List ℕ) → 1 ≤ length bytes → (rest : List ℕ) × (bytes ≡ get_or bytes 0 0 ∷ rest)
first_and_rest [] le = absurd (omega arith)
first_and_rest (b ∷ rest) le = (rest, refl)

pub front_none : {A : Type 0} (view : A → TraceLine × List ℕ) (found : Option A) (bytes : List ℕ) → option_map view found ≡ record_front bytes → found ≡ None → record_front bytes ≡ None
front_none {A = A} view found bytes e n = sym e ∙ ap (λ (f : Option A). option_map view f) n

pub front_some : {A : Type 0} (view : A → TraceLine × List ℕ) (found : Option A) (x : A) (bytes : List ℕ) → option_map view found ≡ record_front bytes → found ≡ Some x → record_front bytes ≡ Some (view x)
front_some {A = A} view found x bytes e s = sym e ∙ ap (λ (f : Option A). option_map view f) s

pub malformed_first : (bytes : List ℕ) → 1 ≤ length bytes → is_record_letter (get_or bytes 0 0) ≡ false → IsMalformed bytes
malformed_first bytes le e = let r = first_and_rest bytes le in malformed_letter (get_or bytes 0 0) bytes r.0 r.1 e

pub unfinished_first : (bytes : List ℕ) → 1 ≤ length bytes → is_record_letter (get_or bytes 0 0) ≡ true → record_front bytes ≡ None → IsUnfinished bytes
unfinished_first bytes le e n = let r = first_and_rest bytes le in unfinished_by (get_or bytes 0 0) bytes r.0 r.1 e n

pub front_by : (bytes : List ℕ) (line : TraceLine) (behind : List ℕ) → BeginsWith line behind bytes → IsInRange 2 line → IsFront line behind bytes
front_by bytes line behind w fits = record { range = fits; parts = w.parts }

pub begun_is_whole : (line : TraceLine) (behind bytes : List ℕ) → BeginsWith line behind bytes → IsUnfinished bytes → ⊥
begun_is_whole line behind bytes w u = u.not_whole line (packing line) behind w.parts w.packed

none_by : (bytes : List ℕ) (found : Option (TraceLine × List ℕ)) → record_front bytes ≡ found → AreBytes bytes → IsUnfinished bytes → record_front bytes ≡ None
none_by bytes None e fits u = e
none_by bytes (Some x) e fits u = absurd (begun_is_whole x.0 x.1 bytes (front_takes bytes x fits e) u)

pub unfinished_is_none : (bytes : List ℕ) → AreBytes bytes → IsUnfinished bytes → record_front bytes ≡ None
unfinished_is_none bytes fits u = none_by bytes (record_front bytes) refl fits u

-- of a name that is not whole no memory was taken
pub class_unread : (bytes : List ℕ) → 1 ≤ length bytes → get_or bytes 0 0 ≡ 67 → record_front bytes ≡ None → class_front (take (length bytes - 1) (drop 1 bytes)) ≡ None
unfolding record_front
class_unread [] le e n = absurd (omega (arith, le))
class_unread (b ∷ rest) le e n =
    let is : class_front rest ≡ None = subst (λ (x : ℕ). record_front (x ∷ rest) ≡ None) e n in
    subst (λ (t : List ℕ). class_front t ≡ None) (sym (take_rest (b ∷ rest) 1)) is

pub method_unread : (bytes : List ℕ) → 1 ≤ length bytes → get_or bytes 0 0 ≡ 78 → record_front bytes ≡ None → method_front (take (length bytes - 1) (drop 1 bytes)) ≡ None
unfolding record_front
method_unread [] le e n = absurd (omega (arith, le))
method_unread (b ∷ rest) le e n =
    let is : method_front rest ≡ None = subst (λ (x : ℕ). record_front (x ∷ rest) ≡ None) e n in
    subst (λ (t : List ℕ). method_front t ≡ None) (sym (take_rest (b ∷ rest) 1)) is
