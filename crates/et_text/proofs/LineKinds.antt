-- What is read is spelled so, and what is spelled so is read.
use Rattle.std.proofs.Common.{◌≡◌, ℕ, zero, suc, ◌-◌, ◌^◌, ◌<◌, ◌≤◌, true, cond, eqb, List, [], ◌∷◌, ◌++◌, Option, Some, None, refl, sym, ap, subst, ◌∙◌, append_assoc, arith, inl, inr}
use Rattle.std.specs.Prelude.{All}
use Rattle.std.specs.Fmt.{decimal}
use Rattle.std.specs.Int.{Width, w8, w32, w64}
use Rattle.std.specs.List.{flat_map, AllByRecursion}
use Rattle.et_base.specs.declared.line.TraceLine.{TraceLine}
use Rattle.et_base.specs.declared.line.TraceLine.TheVariants.{Header, Class, Method, Alloc, Update, Enter, Exit, Unwind, Flush, Death, Finish}
use Rattle.et_text.specs.Ranges.{IsInRange}
use Rattle.std.proofs.lemmas.List.{append-nil}
use Rattle.std.proofs.lemmas.Option.{same_Some}
use Rattle.std.proofs.lemmas.Bool.{eqb-true}
use Rattle.et_text.specs.Spelling.{escapes, fields, field_text, letter, line_body, LineField, Number}
use Rattle.et_text.specs.Text.{IsLineSpelled}
use Rattle.et_text.specs.Reading.{◌>>=◌, is_break, number_field_in, text_field_at, done, turn_at, header_line_at, class_line_at, method_line_at, alloc_at, update_at, enter_at, exit_at, unwind_at, flush_at, death_line_at, finish_at, front_at, line_at}
use Rattle.et_text.proofs.Numbers.{IsWithin, bind_some, chosen, in_takes, in_again}
use Rattle.et_text.proofs.Escapes.{AreBytes, text_takes, text_again}

pub to_all : (P : ℕ → Type 0) (xs : List ℕ) → AllByRecursion P xs → All P xs
to_all P [] h k d lt = absurd (omega arith)
to_all P (x ∷ xs) h zero d lt = h.0
to_all P (x ∷ xs) h (suc k) d lt = to_all P xs h.1 k d (omega arith)

pub from_all : (P : ℕ → Type 0) (xs : List ℕ) → All P xs → AllByRecursion P xs
from_all P [] h = tt
from_all P (x ∷ xs) h = (h 0 x (omega arith), from_all P xs (λ k d lt. h (suc k) d (omega arith)))

pub all_bytes : (xs : List ℕ) → AreBytes xs → All (λ b. b < 256) xs
all_bytes xs h = to_all (λ b. b < 256) xs h

are_bytes : (xs : List ℕ) → All (λ b. b < 256) xs → AreBytes xs
are_bytes xs h = from_all (λ b. b < 256) xs h

record IsDone (line : TraceLine) (rest : List ℕ) (read : TraceLine) : Type 0 where
  pub empty : rest ≡ []
  pub same : line ≡ read

done_is : (line : TraceLine) (rest : List ℕ) (read : TraceLine) → done line rest ≡ Some read → IsDone line rest read
done_is line [] read e = record { empty = refl; same = same_Some line read e }
done_is line (b ∷ rest) read e = absurd cc

-- what is read, and what is left behind it
record IsLeft (line : TraceLine) (left : List ℕ) (read : TraceLine) (rest : List ℕ) : Type 0 where
  pub rest_is : left ≡ rest
  pub same : line ≡ read

left_is : (line : TraceLine) (left : List ℕ) (read : TraceLine) (rest : List ℕ) → ◌≡◌ {A = Option (TraceLine × List ℕ)} (Some (line, left)) (Some (read, rest)) → IsLeft line left read rest
left_is line left read rest e =
    let p : ◌≡◌ {A = TraceLine × List ℕ} (line, left) (read, rest) = same_Some (line, left) (read, rest) e in
    record { rest_is = ap (λ (x : TraceLine × List ℕ). x.1) p; same = ap (λ (x : TraceLine × List ℕ). x.0) p }

-- fields, and bytes behind them
abbrev before : List LineField → List ℕ → List ℕ
before [] rest = rest
before (f ∷ fs) rest = field_text f ++ before fs rest

-- the bytes behind the letter are the fields of the line
pub record IsTail (first : ℕ) (line : TraceLine) (bytes rest : List ℕ) : Type 0 where
  pub range : IsInRange 1 line
  pub first_is : first ≡ letter line
  pub spelled : bytes ≡ before (fields line) rest

record IsTurn (bytes : List ℕ) (event thread : ℕ) (rest : List ℕ) : Type 0 where
  pub parts : bytes ≡ 32 ∷ decimal event ++ (32 ∷ decimal thread ++ rest)
  pub event_is : event ≤ 2 ^ 40
  pub thread_is : thread ≤ 63

abbrev as_turn : List ℕ → (ℕ × ℕ) × List ℕ → Type 0
as_turn bytes p = IsTurn bytes p.0.0 p.0.1 p.1

turn_takes : (bytes : List ℕ) (event thread : ℕ) (rest : List ℕ) → turn_at bytes ≡ Some ((event, thread), rest) → IsTurn bytes event thread rest
unfolding turn_at
turn_takes bytes event thread rest e =
    let a = bind_some (number_field_in 0 (2 ^ 40) bytes) (λ event. number_field_in 0 63 event.1 >>= λ thread. Some ((event.0, thread.0), thread.1)) ((event, thread), rest) e in
    let b = bind_some (number_field_in 0 63 a.0.1) (λ thread. Some ((a.0.0, thread.0), thread.1)) ((event, thread), rest) a.2 in
    let p = in_takes 0 (2 ^ 40) bytes a.0.0 a.0.1 a.1 in
    let q = in_takes 0 63 a.0.1 b.0.0 b.0.1 b.1 in
    let one : IsTurn bytes a.0.0 b.0.0 b.0.1 = record { parts = p.0 ∙ ap (λ (t : List ℕ). 32 ∷ decimal a.0.0 ++ t) q.0; event_is = p.1.high_is; thread_is = q.1.high_is } in
    subst (as_turn bytes) (same_Some ((a.0.0, b.0.0), b.0.1) ((event, thread), rest) b.2) one

turn_again : (event thread : ℕ) (rest : List ℕ) → event ≤ 2 ^ 40 → thread ≤ 63 → is_break rest ≡ true → turn_at (32 ∷ decimal event ++ (32 ∷ decimal thread ++ rest)) ≡ Some ((event, thread), rest)
unfolding turn_at
turn_again event thread rest a b e = rw (in_again 0 (2 ^ 40) event (32 ∷ decimal thread ++ rest) (omega arith) a (omega arith) refl, in_again 0 63 thread rest (omega arith) b (omega arith) e) refl

-- the letter and the fields of a line in range
record AreFields (first : ℕ) (line : TraceLine) (fs : List LineField) : Type 0 where
  pub range : IsInRange 1 line
  pub first_is : first ≡ letter line
  pub fields_are : fields line ≡ fs

spelled_as : (first : ℕ) (line : TraceLine) (fs : List LineField) (bytes rest : List ℕ) → AreFields first line fs → bytes ≡ before fs rest → IsTail first line bytes rest
spelled_as first line fs bytes rest a parts = record { range = a.range; first_is = a.first_is; spelled = parts ∙ ap (λ (l : List LineField). before l rest) (sym a.fields_are) }

-- two numbers
abbrev read_two : (low high low' high' : ℕ) → (ℕ → ℕ → TraceLine) → List ℕ → Option (TraceLine × List ℕ)
read_two low high low' high' make bytes = number_field_in low high bytes >>= λ x0. number_field_in low' high' x0.1 >>= λ x1. Some (make x0.0 x1.0, x1.1)

two_take : (first : ℕ) (v w : Width) (low high low' high' : ℕ) (make : ℕ → ℕ → TraceLine) → ((a b : ℕ) → IsWithin low high a → IsWithin low' high' b → AreFields first (make a b) (Number v a ∷ Number w b ∷ []))
    → (bytes : List ℕ) (line : TraceLine) (rest : List ℕ) → read_two low high low' high' make bytes ≡ Some (line, rest) → IsTail first line bytes rest
two_take first v w low high low' high' make are bytes line rest e =
    let s0 = bind_some (number_field_in low high bytes) (λ x0. number_field_in low' high' x0.1 >>= λ x1. Some (make x0.0 x1.0, x1.1)) (line, rest) e in
    let s1 = bind_some (number_field_in low' high' s0.0.1) (λ x1. Some (make s0.0.0 x1.0, x1.1)) (line, rest) s0.2 in
    let d = left_is (make s0.0.0 s1.0.0) s1.0.1 line rest s1.2 in
    let t0 = in_takes low high bytes s0.0.0 s0.0.1 s0.1 in
    let t1 = in_takes low' high' s0.0.1 s1.0.0 s1.0.1 s1.1 in
    let parts : bytes ≡ before (Number v s0.0.0 ∷ Number w s1.0.0 ∷ []) rest = t0.0 ∙ ap (λ (t : List ℕ). 32 ∷ decimal s0.0.0 ++ t) (t1.0 ∙ ap (λ (t : List ℕ). 32 ∷ decimal s1.0.0 ++ t) d.rest_is) in
    subst (λ (l : TraceLine). IsTail first l bytes rest) d.same (spelled_as first (make s0.0.0 s1.0.0) (Number v s0.0.0 ∷ Number w s1.0.0 ∷ []) bytes rest (are s0.0.0 s1.0.0 t0.1 t1.1) parts)

-- an event, a thread, a method and an object
abbrev read_passage : (low high : ℕ) → (ℕ → ℕ → ℕ → ℕ → TraceLine) → List ℕ → Option (TraceLine × List ℕ)
read_passage low high make bytes = turn_at bytes >>= λ x0. number_field_in 1 (2 ^ 32 - 1) x0.1 >>= λ x1. number_field_in low high x1.1 >>= λ x2. Some (make x0.0.0 x0.0.1 x1.0 x2.0, x2.1)

passage_takes : (first low high : ℕ) (make : ℕ → ℕ → ℕ → ℕ → TraceLine)
    → ((event thread method object : ℕ) → event ≤ 2 ^ 40 → thread ≤ 63 → IsWithin 1 (2 ^ 32 - 1) method → IsWithin low high object → AreFields first (make event thread method object) (Number w64 event ∷ Number w8 thread ∷ Number w32 method ∷ Number w32 object ∷ []))
    → (bytes : List ℕ) (line : TraceLine) (rest : List ℕ) → read_passage low high make bytes ≡ Some (line, rest) → IsTail first line bytes rest
passage_takes first low high make are bytes line rest e =
    let s0 = bind_some (turn_at bytes) (λ x0. number_field_in 1 (2 ^ 32 - 1) x0.1 >>= λ x1. number_field_in low high x1.1 >>= λ x2. Some (make x0.0.0 x0.0.1 x1.0 x2.0, x2.1)) (line, rest) e in
    let s1 = bind_some (number_field_in 1 (2 ^ 32 - 1) s0.0.1) (λ x1. number_field_in low high x1.1 >>= λ x2. Some (make s0.0.0.0 s0.0.0.1 x1.0 x2.0, x2.1)) (line, rest) s0.2 in
    let s2 = bind_some (number_field_in low high s1.0.1) (λ x2. Some (make s0.0.0.0 s0.0.0.1 s1.0.0 x2.0, x2.1)) (line, rest) s1.2 in
    let d = left_is (make s0.0.0.0 s0.0.0.1 s1.0.0 s2.0.0) s2.0.1 line rest s2.2 in
    let t0 = turn_takes bytes s0.0.0.0 s0.0.0.1 s0.0.1 s0.1 in
    let t1 = in_takes 1 (2 ^ 32 - 1) s0.0.1 s1.0.0 s1.0.1 s1.1 in
    let t2 = in_takes low high s1.0.1 s2.0.0 s2.0.1 s2.1 in
    let fs = Number w64 s0.0.0.0 ∷ Number w8 s0.0.0.1 ∷ Number w32 s1.0.0 ∷ Number w32 s2.0.0 ∷ [] in
    let parts : bytes ≡ before fs rest = t0.parts ∙ ap (λ (t : List ℕ). 32 ∷ decimal s0.0.0.0 ++ (32 ∷ decimal s0.0.0.1 ++ t)) (t1.0 ∙ ap (λ (t : List ℕ). 32 ∷ decimal s1.0.0 ++ t) (t2.0 ∙ ap (λ (t : List ℕ). 32 ∷ decimal s2.0.0 ++ t) d.rest_is)) in
    subst (λ (l : TraceLine). IsTail first l bytes rest) d.same (spelled_as first (make s0.0.0.0 s0.0.0.1 s1.0.0 s2.0.0) fs bytes rest (are s0.0.0.0 s0.0.0.1 s1.0.0 s2.0.0 t0.event_is t0.thread_is t1.1 t2.1) parts)

-- an event, a thread and four numbers, of which the third is this wide
module _ (first : ℕ) (w : Width) (la ha lb hb lc hc ld hd : ℕ) (make : ℕ → ℕ → ℕ → ℕ → ℕ → ℕ → TraceLine) where
  abbrev read_four : (event thread : ℕ) → List ℕ → Option (TraceLine × List ℕ)
  read_four event thread bytes = number_field_in la ha bytes >>= λ x1. number_field_in lb hb x1.1 >>= λ x2. number_field_in lc hc x2.1 >>= λ x3. number_field_in ld hd x3.1 >>= λ x4. Some (make event thread x1.0 x2.0 x3.0 x4.0, x4.1)

  six_take : ((event thread a b c d : ℕ) → event ≤ 2 ^ 40 → thread ≤ 63 → IsWithin la ha a → IsWithin lb hb b → IsWithin lc hc c → IsWithin ld hd d → AreFields first (make event thread a b c d) (Number w64 event ∷ Number w8 thread ∷ Number w32 a ∷ Number w32 b ∷ Number w c ∷ Number w32 d ∷ []))
      → (bytes : List ℕ) (line : TraceLine) (rest : List ℕ) → (turn_at bytes >>= λ x0. read_four x0.0.0 x0.0.1 x0.1) ≡ Some (line, rest) → IsTail first line bytes rest
  six_take are bytes line rest e =
      let s0 = bind_some (turn_at bytes) (λ x0. read_four x0.0.0 x0.0.1 x0.1) (line, rest) e in
      let s1 = bind_some (number_field_in la ha s0.0.1) (λ x1. number_field_in lb hb x1.1 >>= λ x2. number_field_in lc hc x2.1 >>= λ x3. number_field_in ld hd x3.1 >>= λ x4. Some (make s0.0.0.0 s0.0.0.1 x1.0 x2.0 x3.0 x4.0, x4.1)) (line, rest) s0.2 in
      let s2 = bind_some (number_field_in lb hb s1.0.1) (λ x2. number_field_in lc hc x2.1 >>= λ x3. number_field_in ld hd x3.1 >>= λ x4. Some (make s0.0.0.0 s0.0.0.1 s1.0.0 x2.0 x3.0 x4.0, x4.1)) (line, rest) s1.2 in
      let s3 = bind_some (number_field_in lc hc s2.0.1) (λ x3. number_field_in ld hd x3.1 >>= λ x4. Some (make s0.0.0.0 s0.0.0.1 s1.0.0 s2.0.0 x3.0 x4.0, x4.1)) (line, rest) s2.2 in
      let s4 = bind_some (number_field_in ld hd s3.0.1) (λ x4. Some (make s0.0.0.0 s0.0.0.1 s1.0.0 s2.0.0 s3.0.0 x4.0, x4.1)) (line, rest) s3.2 in
      let d = left_is (make s0.0.0.0 s0.0.0.1 s1.0.0 s2.0.0 s3.0.0 s4.0.0) s4.0.1 line rest s4.2 in
      let t0 = turn_takes bytes s0.0.0.0 s0.0.0.1 s0.0.1 s0.1 in
      let t1 = in_takes la ha s0.0.1 s1.0.0 s1.0.1 s1.1 in
      let t2 = in_takes lb hb s1.0.1 s2.0.0 s2.0.1 s2.1 in
      let t3 = in_takes lc hc s2.0.1 s3.0.0 s3.0.1 s3.1 in
      let t4 = in_takes ld hd s3.0.1 s4.0.0 s4.0.1 s4.1 in
      let fs = Number w64 s0.0.0.0 ∷ Number w8 s0.0.0.1 ∷ Number w32 s1.0.0 ∷ Number w32 s2.0.0 ∷ Number w s3.0.0 ∷ Number w32 s4.0.0 ∷ [] in
      let parts : bytes ≡ before fs rest = t0.parts ∙ ap (λ (t : List ℕ). 32 ∷ decimal s0.0.0.0 ++ (32 ∷ decimal s0.0.0.1 ++ t)) (t1.0 ∙ ap (λ (t : List ℕ). 32 ∷ decimal s1.0.0 ++ t) (t2.0 ∙ ap (λ (t : List ℕ). 32 ∷ decimal s2.0.0 ++ t) (t3.0 ∙ ap (λ (t : List ℕ). 32 ∷ decimal s3.0.0 ++ t) (t4.0 ∙ ap (λ (t : List ℕ). 32 ∷ decimal s4.0.0 ++ t) d.rest_is)))) in
      subst (λ (l : TraceLine). IsTail first l bytes rest) d.same (spelled_as first (make s0.0.0.0 s0.0.0.1 s1.0.0 s2.0.0 s3.0.0 s4.0.0) fs bytes rest (are s0.0.0.0 s0.0.0.1 s1.0.0 s2.0.0 s3.0.0 s4.0.0 t0.event_is t0.thread_is t1.1 t2.1 t3.1 t4.1) parts)

-- THE LINES

header_takes : (bytes : List ℕ) (line : TraceLine) (rest : List ℕ) → header_line_at bytes ≡ Some (line, rest) → IsTail 72 line bytes rest
unfolding header_line_at
header_takes bytes line rest e = two_take 72 w32 w64 1 1 0 (2 ^ 40) Header (λ a b p q. record { range = omega arith; first_is = refl; fields_are = refl }) bytes line rest e

class_takes : (bytes : List ℕ) (line : TraceLine) (rest : List ℕ) → class_line_at bytes ≡ Some (line, rest) → IsTail 67 line bytes rest
unfolding class_line_at
class_takes bytes line rest e =
    let s0 = bind_some (number_field_in 1 (2 ^ 32 - 1) bytes) (λ x0. text_field_at x0.1 >>= λ x1. Some (Class x0.0 x1.0, x1.1)) (line, rest) e in
    let s1 = bind_some (text_field_at s0.0.1) (λ x1. Some (Class s0.0.0 x1.0, x1.1)) (line, rest) s0.2 in
    let d = left_is (Class s0.0.0 s1.0.0) s1.0.1 line rest s1.2 in
    let t0 = in_takes 1 (2 ^ 32 - 1) bytes s0.0.0 s0.0.1 s0.1 in
    let t1 = text_takes s0.0.1 s1.0.0 s1.0.1 s1.1 in
    let one : IsTail 67 (Class s0.0.0 s1.0.0) bytes rest = record { range = (omega arith, (t1.some, all_bytes s1.0.0 t1.small), λ e. absurd (omega arith)); first_is = refl; spelled = (t0.0 ∙ ap (λ (t : List ℕ). 32 ∷ decimal s0.0.0 ++ t) (t1.parts ∙ ap (λ (t : List ℕ). 32 ∷ escapes s1.0.0 ++ t) d.rest_is)) } in
    subst (λ (l : TraceLine). IsTail 67 l bytes rest) d.same one

method_takes : (bytes : List ℕ) (line : TraceLine) (rest : List ℕ) → method_line_at bytes ≡ Some (line, rest) → IsTail 78 line bytes rest
unfolding method_line_at
method_takes bytes line rest e =
    let s0 = bind_some (number_field_in 1 (2 ^ 32 - 1) bytes) (λ x0. number_field_in 1 (2 ^ 32 - 1) x0.1 >>= λ x1. text_field_at x1.1 >>= λ x2. text_field_at x2.1 >>= λ x3. Some (Method x0.0 x1.0 x2.0 x3.0, x3.1)) (line, rest) e in
    let s1 = bind_some (number_field_in 1 (2 ^ 32 - 1) s0.0.1) (λ x1. text_field_at x1.1 >>= λ x2. text_field_at x2.1 >>= λ x3. Some (Method s0.0.0 x1.0 x2.0 x3.0, x3.1)) (line, rest) s0.2 in
    let s2 = bind_some (text_field_at s1.0.1) (λ x2. text_field_at x2.1 >>= λ x3. Some (Method s0.0.0 s1.0.0 x2.0 x3.0, x3.1)) (line, rest) s1.2 in
    let s3 = bind_some (text_field_at s2.0.1) (λ x3. Some (Method s0.0.0 s1.0.0 s2.0.0 x3.0, x3.1)) (line, rest) s2.2 in
    let d = left_is (Method s0.0.0 s1.0.0 s2.0.0 s3.0.0) s3.0.1 line rest s3.2 in
    let t0 = in_takes 1 (2 ^ 32 - 1) bytes s0.0.0 s0.0.1 s0.1 in
    let t1 = in_takes 1 (2 ^ 32 - 1) s0.0.1 s1.0.0 s1.0.1 s1.1 in
    let t2 = text_takes s1.0.1 s2.0.0 s2.0.1 s2.1 in
    let t3 = text_takes s2.0.1 s3.0.0 s3.0.1 s3.1 in
    let one : IsTail 78 (Method s0.0.0 s1.0.0 s2.0.0 s3.0.0) bytes rest = record { range = (omega arith, omega arith, (t2.some, all_bytes s2.0.0 t2.small), (t3.some, all_bytes s3.0.0 t3.small), λ e. absurd (omega arith), λ e. absurd (omega arith)); first_is = refl; spelled = (t0.0 ∙ ap (λ (t : List ℕ). 32 ∷ decimal s0.0.0 ++ t) (t1.0 ∙ ap (λ (t : List ℕ). 32 ∷ decimal s1.0.0 ++ t) (t2.parts ∙ ap (λ (t : List ℕ). 32 ∷ escapes s2.0.0 ++ t) (t3.parts ∙ ap (λ (t : List ℕ). 32 ∷ escapes s3.0.0 ++ t) d.rest_is)))) } in
    subst (λ (l : TraceLine). IsTail 78 l bytes rest) d.same one

alloc_takes : (bytes : List ℕ) (line : TraceLine) (rest : List ℕ) → alloc_at bytes ≡ Some (line, rest) → IsTail 65 line bytes rest
unfolding alloc_at
alloc_takes bytes line rest e = six_take 65 w64 1 (2 ^ 24 - 1) 1 (2 ^ 32 - 1) 16 (2 ^ 30) 0 (2 ^ 26) Alloc (λ event thread a b c d u v p q r s. record { range = omega arith; first_is = refl; fields_are = refl }) bytes line rest e

update_takes : (bytes : List ℕ) (line : TraceLine) (rest : List ℕ) → update_at bytes ≡ Some (line, rest) → IsTail 85 line bytes rest
unfolding update_at
update_takes bytes line rest e = six_take 85 w32 0 (2 ^ 24 - 1) 0 (2 ^ 28 - 1) 0 (2 ^ 24 - 1) 0 (2 ^ 24 - 1) Update (λ event thread a b c d u v p q r s. record { range = omega arith; first_is = refl; fields_are = refl }) bytes line rest e

enter_takes : (bytes : List ℕ) (line : TraceLine) (rest : List ℕ) → enter_at bytes ≡ Some (line, rest) → IsTail 77 line bytes rest
unfolding enter_at
enter_takes bytes line rest e = passage_takes 77 0 (2 ^ 24 - 1) Enter (λ event thread method object u v p q. record { range = omega arith; first_is = refl; fields_are = refl }) bytes line rest e

exit_takes : (bytes : List ℕ) (line : TraceLine) (rest : List ℕ) → exit_at bytes ≡ Some (line, rest) → IsTail 69 line bytes rest
unfolding exit_at
exit_takes bytes line rest e =
    let s0 = bind_some (turn_at bytes) (λ x0. number_field_in 1 (2 ^ 32 - 1) x0.1 >>= λ x1. Some (Exit x0.0.0 x0.0.1 x1.0, x1.1)) (line, rest) e in
    let s1 = bind_some (number_field_in 1 (2 ^ 32 - 1) s0.0.1) (λ x1. Some (Exit s0.0.0.0 s0.0.0.1 x1.0, x1.1)) (line, rest) s0.2 in
    let d = left_is (Exit s0.0.0.0 s0.0.0.1 s1.0.0) s1.0.1 line rest s1.2 in
    let t0 = turn_takes bytes s0.0.0.0 s0.0.0.1 s0.0.1 s0.1 in
    let t1 = in_takes 1 (2 ^ 32 - 1) s0.0.1 s1.0.0 s1.0.1 s1.1 in
    let one : IsTail 69 (Exit s0.0.0.0 s0.0.0.1 s1.0.0) bytes rest = record { range = omega arith; first_is = refl; spelled = (t0.parts ∙ ap (λ (t : List ℕ). 32 ∷ decimal s0.0.0.0 ++ (32 ∷ decimal s0.0.0.1 ++ t)) (t1.0 ∙ ap (λ (t : List ℕ). 32 ∷ decimal s1.0.0 ++ t) d.rest_is)) } in
    subst (λ (l : TraceLine). IsTail 69 l bytes rest) d.same one

unwind_takes : (bytes : List ℕ) (line : TraceLine) (rest : List ℕ) → unwind_at bytes ≡ Some (line, rest) → IsTail 88 line bytes rest
unfolding unwind_at
unwind_takes bytes line rest e = passage_takes 88 1 (2 ^ 24 - 1) Unwind (λ event thread method object u v p q. record { range = omega arith; first_is = refl; fields_are = refl }) bytes line rest e

flush_takes : (bytes : List ℕ) (line : TraceLine) (rest : List ℕ) → flush_at bytes ≡ Some (line, rest) → IsTail 70 line bytes rest
unfolding flush_at
flush_takes bytes line rest e = two_take 70 w64 w32 0 (2 ^ 40) 0 (2 ^ 24 - 1) Flush (λ a b p q. record { range = omega arith; first_is = refl; fields_are = refl }) bytes line rest e

death_takes : (bytes : List ℕ) (line : TraceLine) (rest : List ℕ) → death_line_at bytes ≡ Some (line, rest) → IsTail 68 line bytes rest
unfolding death_line_at
death_takes bytes line rest e = two_take 68 w32 w64 1 (2 ^ 24 - 1) 0 (2 ^ 40) Death (λ a b p q. record { range = omega arith; first_is = refl; fields_are = refl }) bytes line rest e

finish_takes : (bytes : List ℕ) (line : TraceLine) (rest : List ℕ) → finish_at bytes ≡ Some (line, rest) → IsTail 90 line bytes rest
unfolding finish_at
finish_takes bytes line rest e = two_take 90 w64 w8 0 (2 ^ 40) 0 3 Finish (λ a b p q. record { range = omega arith; first_is = refl; fields_are = refl }) bytes line rest e

-- each line in range is read again
pub line_again : (line : TraceLine) → IsInRange 1 line → line_at (line_body line) ≡ Some line
unfolding line_at front_at header_line_at class_line_at method_line_at alloc_at update_at enter_at exit_at unwind_at flush_at death_line_at finish_at
line_again (Header v n) r =
    rw (in_again 1 (1) v (32 ∷ decimal n ++ []) (omega arith) (omega arith) (omega arith) refl, in_again 0 (2 ^ 40) n [] (omega arith) (omega arith) (omega arith) refl) refl
line_again (Class number name) r =
    rw (in_again 1 (2 ^ 32 - 1) number (32 ∷ escapes name ++ []) (omega arith) (omega arith) (omega arith) refl, text_again name [] (are_bytes name r.1.1) r.1.0 refl) refl
line_again (Method number class name descriptor) r =
    rw (in_again 1 (2 ^ 32 - 1) number (32 ∷ decimal class ++ (32 ∷ escapes name ++ (32 ∷ escapes descriptor ++ []))) (omega arith) (omega arith) (omega arith) refl, in_again 1 (2 ^ 32 - 1) class (32 ∷ escapes name ++ (32 ∷ escapes descriptor ++ [])) (omega arith) (omega arith) (omega arith) refl, text_again name (32 ∷ escapes descriptor ++ []) (are_bytes name r.2.1) r.2.0 refl, text_again descriptor [] (are_bytes descriptor r.3.1) r.3.0 refl) refl
line_again (Alloc event thread object class size len) r =
    rw (turn_again event thread (32 ∷ decimal object ++ (32 ∷ decimal class ++ (32 ∷ decimal size ++ (32 ∷ decimal len ++ [])))) (omega arith) (omega arith) refl, in_again 1 (2 ^ 24 - 1) object (32 ∷ decimal class ++ (32 ∷ decimal size ++ (32 ∷ decimal len ++ []))) (omega arith) (omega arith) (omega arith) refl, in_again 1 (2 ^ 32 - 1) class (32 ∷ decimal size ++ (32 ∷ decimal len ++ [])) (omega arith) (omega arith) (omega arith) refl, in_again 16 (2 ^ 30) size (32 ∷ decimal len ++ []) (omega arith) (omega arith) (omega arith) refl, in_again 0 (2 ^ 26) len [] (omega arith) (omega arith) (omega arith) refl) refl
line_again (Update event thread object slot old new) r =
    rw (turn_again event thread (32 ∷ decimal object ++ (32 ∷ decimal slot ++ (32 ∷ decimal old ++ (32 ∷ decimal new ++ [])))) (omega arith) (omega arith) refl, in_again 0 (2 ^ 24 - 1) object (32 ∷ decimal slot ++ (32 ∷ decimal old ++ (32 ∷ decimal new ++ []))) (omega arith) (omega arith) (omega arith) refl, in_again 0 (2 ^ 28 - 1) slot (32 ∷ decimal old ++ (32 ∷ decimal new ++ [])) (omega arith) (omega arith) (omega arith) refl, in_again 0 (2 ^ 24 - 1) old (32 ∷ decimal new ++ []) (omega arith) (omega arith) (omega arith) refl, in_again 0 (2 ^ 24 - 1) new [] (omega arith) (omega arith) (omega arith) refl) refl
line_again (Enter event thread method receiver) r =
    rw (turn_again event thread (32 ∷ decimal method ++ (32 ∷ decimal receiver ++ [])) (omega arith) (omega arith) refl, in_again 1 (2 ^ 32 - 1) method (32 ∷ decimal receiver ++ []) (omega arith) (omega arith) (omega arith) refl, in_again 0 (2 ^ 24 - 1) receiver [] (omega arith) (omega arith) (omega arith) refl) refl
line_again (Exit event thread method) r =
    rw (turn_again event thread (32 ∷ decimal method ++ []) (omega arith) (omega arith) refl, in_again 1 (2 ^ 32 - 1) method [] (omega arith) (omega arith) (omega arith) refl) refl
line_again (Unwind event thread method exception) r =
    rw (turn_again event thread (32 ∷ decimal method ++ (32 ∷ decimal exception ++ [])) (omega arith) (omega arith) refl, in_again 1 (2 ^ 32 - 1) method (32 ∷ decimal exception ++ []) (omega arith) (omega arith) (omega arith) refl, in_again 1 (2 ^ 24 - 1) exception [] (omega arith) (omega arith) (omega arith) refl) refl
line_again (Flush event deaths) r =
    rw (in_again 0 (2 ^ 40) event (32 ∷ decimal deaths ++ []) (omega arith) (omega arith) (omega arith) refl, in_again 0 (2 ^ 24 - 1) deaths [] (omega arith) (omega arith) (omega arith) refl) refl
line_again (Death object time) r =
    rw (in_again 1 (2 ^ 24 - 1) object (32 ∷ decimal time ++ []) (omega arith) (omega arith) (omega arith) refl, in_again 0 (2 ^ 40) time [] (omega arith) (omega arith) (omega arith) refl) refl
line_again (Finish event how) r =
    rw (in_again 0 (2 ^ 40) event (32 ∷ decimal how ++ []) (omega arith) (omega arith) (omega arith) refl, in_again 0 (3) how [] (omega arith) (omega arith) (omega arith) refl) refl

-- a body that begins with a letter
pub body : (b letter : ℕ) (rest tail : List ℕ) → b ≡ letter → rest ≡ tail → b ∷ rest ≡ letter ∷ tail
body b letter rest tail e f = ap (λ (x : ℕ). x ∷ rest) e ∙ ap (λ (t : List ℕ). letter ∷ t) f

-- the bytes are a line with these behind it
pub record IsFront (line : TraceLine) (bytes rest : List ℕ) : Type 0 where
  pub range : IsInRange 1 line
  pub spelled : bytes ≡ letter line ∷ before (fields line) rest

spelled_by : (b first : ℕ) (rest : List ℕ) (line : TraceLine) (left : List ℕ) → eqb b first ≡ true → IsTail first line rest left → IsFront line (b ∷ rest) left
spelled_by b first rest line left e h = record { range = h.range; spelled = body b (letter line) rest (before (fields line) left) (eqb-true b first e ∙ h.first_is) h.spelled }

-- what is read at the front is spelled so
front_takes : (bytes : List ℕ) (line : TraceLine) (left : List ℕ) → front_at bytes ≡ Some (line, left) → IsFront line bytes left
unfolding front_at
front_takes [] line left e = absurd cc
front_takes (b ∷ rest) line left e =
    elim (chosen (eqb b 72) (header_line_at rest) (cond (eqb b 67) (class_line_at rest) (cond (eqb b 78) (method_line_at rest) (cond (eqb b 65) (alloc_at rest) (cond (eqb b 85) (update_at rest) (cond (eqb b 77) (enter_at rest) (cond (eqb b 69) (exit_at rest) (cond (eqb b 88) (unwind_at rest) (cond (eqb b 70) (flush_at rest) (cond (eqb b 68) (death_line_at rest) (cond (eqb b 90) (finish_at rest) None)))))))))) (Some (line, left)) e) [
      | inl z ↦ spelled_by b 72 rest line left z.0 (header_takes rest line left z.1)
      | inr z ↦
          elim (chosen (eqb b 67) (class_line_at rest) (cond (eqb b 78) (method_line_at rest) (cond (eqb b 65) (alloc_at rest) (cond (eqb b 85) (update_at rest) (cond (eqb b 77) (enter_at rest) (cond (eqb b 69) (exit_at rest) (cond (eqb b 88) (unwind_at rest) (cond (eqb b 70) (flush_at rest) (cond (eqb b 68) (death_line_at rest) (cond (eqb b 90) (finish_at rest) None))))))))) (Some (line, left)) z.1) [
            | inl z ↦ spelled_by b 67 rest line left z.0 (class_takes rest line left z.1)
            | inr z ↦
                elim (chosen (eqb b 78) (method_line_at rest) (cond (eqb b 65) (alloc_at rest) (cond (eqb b 85) (update_at rest) (cond (eqb b 77) (enter_at rest) (cond (eqb b 69) (exit_at rest) (cond (eqb b 88) (unwind_at rest) (cond (eqb b 70) (flush_at rest) (cond (eqb b 68) (death_line_at rest) (cond (eqb b 90) (finish_at rest) None)))))))) (Some (line, left)) z.1) [
                  | inl z ↦ spelled_by b 78 rest line left z.0 (method_takes rest line left z.1)
                  | inr z ↦
                      elim (chosen (eqb b 65) (alloc_at rest) (cond (eqb b 85) (update_at rest) (cond (eqb b 77) (enter_at rest) (cond (eqb b 69) (exit_at rest) (cond (eqb b 88) (unwind_at rest) (cond (eqb b 70) (flush_at rest) (cond (eqb b 68) (death_line_at rest) (cond (eqb b 90) (finish_at rest) None))))))) (Some (line, left)) z.1) [
                        | inl z ↦ spelled_by b 65 rest line left z.0 (alloc_takes rest line left z.1)
                        | inr z ↦
                            elim (chosen (eqb b 85) (update_at rest) (cond (eqb b 77) (enter_at rest) (cond (eqb b 69) (exit_at rest) (cond (eqb b 88) (unwind_at rest) (cond (eqb b 70) (flush_at rest) (cond (eqb b 68) (death_line_at rest) (cond (eqb b 90) (finish_at rest) None)))))) (Some (line, left)) z.1) [
                              | inl z ↦ spelled_by b 85 rest line left z.0 (update_takes rest line left z.1)
                              | inr z ↦
                                  elim (chosen (eqb b 77) (enter_at rest) (cond (eqb b 69) (exit_at rest) (cond (eqb b 88) (unwind_at rest) (cond (eqb b 70) (flush_at rest) (cond (eqb b 68) (death_line_at rest) (cond (eqb b 90) (finish_at rest) None))))) (Some (line, left)) z.1) [
                                    | inl z ↦ spelled_by b 77 rest line left z.0 (enter_takes rest line left z.1)
                                    | inr z ↦
                                        elim (chosen (eqb b 69) (exit_at rest) (cond (eqb b 88) (unwind_at rest) (cond (eqb b 70) (flush_at rest) (cond (eqb b 68) (death_line_at rest) (cond (eqb b 90) (finish_at rest) None)))) (Some (line, left)) z.1) [
                                          | inl z ↦ spelled_by b 69 rest line left z.0 (exit_takes rest line left z.1)
                                          | inr z ↦
                                              elim (chosen (eqb b 88) (unwind_at rest) (cond (eqb b 70) (flush_at rest) (cond (eqb b 68) (death_line_at rest) (cond (eqb b 90) (finish_at rest) None))) (Some (line, left)) z.1) [
                                                | inl z ↦ spelled_by b 88 rest line left z.0 (unwind_takes rest line left z.1)
                                                | inr z ↦
                                                    elim (chosen (eqb b 70) (flush_at rest) (cond (eqb b 68) (death_line_at rest) (cond (eqb b 90) (finish_at rest) None)) (Some (line, left)) z.1) [
                                                      | inl z ↦ spelled_by b 70 rest line left z.0 (flush_takes rest line left z.1)
                                                      | inr z ↦
                                                          elim (chosen (eqb b 68) (death_line_at rest) (cond (eqb b 90) (finish_at rest) None) (Some (line, left)) z.1) [
                                                            | inl z ↦ spelled_by b 68 rest line left z.0 (death_takes rest line left z.1)
                                                            | inr z ↦
                                                                elim (chosen (eqb b 90) (finish_at rest) None (Some (line, left)) z.1) [
                                                                  | inl z ↦ spelled_by b 90 rest line left z.0 (finish_takes rest line left z.1)
                                                                  | inr z ↦ absurd (let f = z.1 in cc)
                                                                ]
                                                          ]
                                                    ]
                                              ]
                                        ]
                                  ]
                            ]
                      ]
                ]
          ]
    ]

before_all : (fs : List LineField) (rest : List ℕ) → before fs rest ≡ flat_map field_text fs ++ rest
before_all [] rest = refl
before_all (f ∷ fs) rest = ap (λ (t : List ℕ). field_text f ++ t) (before_all fs rest) ∙ sym (append_assoc (field_text f) (flat_map field_text fs) rest)

-- .. with what is left behind its body
pub front_body : (bytes : List ℕ) (line : TraceLine) (left : List ℕ) → front_at bytes ≡ Some (line, left) → IsInRange 1 line × (bytes ≡ line_body line ++ left)
front_body bytes line left e =
    let h = front_takes bytes line left e in
    (h.range, h.spelled ∙ ap (λ (t : List ℕ). letter line ∷ t) (before_all (fields line) left))

-- what is read is spelled so
pub line_takes : (bytes : List ℕ) (line : TraceLine) → line_at bytes ≡ Some line → IsLineSpelled line bytes
unfolding line_at
line_takes bytes line e =
    let s = bind_some (front_at bytes) (λ x. done x.0 x.1) line e in
    let d = done_is s.0.0 s.0.1 line s.2 in
    let h = front_body bytes s.0.0 s.0.1 s.1 in
    let one : IsLineSpelled s.0.0 bytes = record { range = h.0; spelled = h.1 ∙ (ap (λ (t : List ℕ). line_body s.0.0 ++ t) d.empty ∙ append-nil (line_body s.0.0)) } in
    subst (λ (l : TraceLine). IsLineSpelled l bytes) d.same one

-- one spelling is the spelling of one line
pub one_line : (a b : TraceLine) (bytes : List ℕ) → IsLineSpelled a bytes → IsLineSpelled b bytes → a ≡ b
one_line a b bytes p q =
    let x : line_at bytes ≡ Some a = rw p.spelled (line_again a p.range) in
    let y : line_at bytes ≡ Some b = rw q.spelled (line_again b q.range) in
    same_Some a b (sym x ∙ y)

-- where nothing is read, the bytes are no line
pub no_line : (bytes : List ℕ) (line : TraceLine) → line_at bytes ≡ None → IsLineSpelled line bytes → ⊥
no_line bytes line e p =
    let x : line_at bytes ≡ Some line = rw p.spelled (line_again line p.range) in
    absurd (let f : None ≡ Some line = sym e ∙ x in cc)

-- what is spelled so is read
pub line_again_at : (bytes : List ℕ) (line : TraceLine) → IsLineSpelled line bytes → line_at bytes ≡ Some line
line_again_at bytes line p = rw p.spelled (line_again line p.range)
