-- A text in pieces.
use Rattle.std.proofs.Common.{◌≡◌, ◌≢◌, ℕ, ◌+◌, ◌<◌, Bool, true, false, Option, Some, None, Result, Ok, Err, List, [], ◌∷◌, ◌++◌, length, refl, sym, ap, subst, ◌∙◌, append_assoc, inr}
use Rattle.std.specs.Prelude.{reverse, IfOk, IfErr, OnOk}
use Rattle.std.proofs.lemmas.List.{append-nil, length-reverse, reverse-reverse}
use Rattle.et_base.specs.declared.line.TraceLine.{TraceLine}
use Rattle.et_text.specs.Spelling.{line_body, text}
use Rattle.et_text.specs.Rules.{has_ended}
use Rattle.et_text.specs.Text.{IsOneLine, IsReadTo, IsTextOf, ShowsFault, ShowsNone, IsTraceFault}
use Rattle.et_text.specs.Text.EndsWrong.{EndsEarly, EndsLate}
use Rattle.et_text.specs.Taken.{Taken, LacksEnd}
use Rattle.et_text.specs.Stream.{Reading, GrowsBy, StopsReading, HasTextFault, AreRead, TakesBytes, RefusesBytes, RefusesLine, bytes_read}
use Rattle.et_text.specs.Text.{IsLineSpelled}
use Rattle.et_text.specs.Text.BreaksText.{BreaksRule}
use Rattle.et_text.specs.Taken.{Refuses}
use Rattle.et_text.specs.declared.fault.TraceFault.{TraceFault}
use Rattle.et_text.specs.declared.fault.TraceFault.TheVariants as faults
use Rattle.et_text.proofs.LineKinds.{to_all, from_all}
use Rattle.et_text.proofs.OneAnswer.{shown_not_read}
use Rattle.et_text.proofs.SomeAnswer.{text_push}
use Rattle.et_text.proofs.Splitting.{no_lf-append}

pub shows_more : (bytes more : List ℕ) (kind number : ℕ) → ShowsFault bytes kind number → ShowsFault (bytes ++ more) kind number
shows_more bytes more kind number s = record {
  past = s.past;
  line = s.line;
  behind = s.behind ++ more;
  read = record {
    fine = s.read.fine;
    parts = ap (λ (t : List ℕ). t ++ more) s.read.parts ∙ (append_assoc (text (reverse s.past)) (s.line ++ 10 ∷ s.behind) more ∙ ap (λ (t : List ℕ). text (reverse s.past) ++ t) (append_assoc s.line (10 ∷ s.behind) more));
  };
  one_line = s.one_line;
  breaks = s.breaks;
  at = s.at;
}

read_to : (taken : Taken) (ended : Bool) (rest : List ℕ) → AreRead taken ended rest → IsReadTo (reverse taken.lines) rest (bytes_read taken rest)
read_to taken ended rest a = record { fine = a.fine; parts = ap (λ (t : List TraceLine). text t ++ rest) (sym (reverse-reverse taken.lines)) }

pub number_is : (lines : List TraceLine) (number : ℕ) → number ≡ length lines + 1 → number ≡ length (reverse lines) + 1
number_is lines number n = n ∙ ap (λ (k : ℕ). k + 1) (sym (length-reverse lines))

-- what was read shows no fault
pub shows_none : (taken : Taken) (ended : Bool) (rest : List ℕ) → AreRead taken ended rest → ShowsNone (bytes_read taken rest)
shows_none taken ended rest a kind number s = shown_not_read (bytes_read taken rest) kind number (reverse taken.lines) rest (read_to taken ended rest a) a.one_line s

pub early : (taken : Taken) (ended : Bool) (rest : List ℕ) (number : ℕ) → AreRead taken ended rest → ended ≡ false → number ≡ length taken.lines + 1 → IsTraceFault (bytes_read taken rest) 5 number
early taken ended rest number a e n = inr (record {
  past = reverse taken.lines;
  rest = rest;
  read = read_to taken ended rest a;
  one_line = a.one_line;
  ends = EndsEarly (sym a.ended_is ∙ e);
  at = number_is taken.lines number n;
})

pub late : (taken : Taken) (ended : Bool) (rest : List ℕ) (number : ℕ) → AreRead taken ended rest → ended ≡ true → 0 < length rest → number ≡ length taken.lines + 1 → IsTraceFault (bytes_read taken rest) 6 number
late taken ended rest number a e lt n = inr (record {
  past = reverse taken.lines;
  rest = rest;
  read = read_to taken ended rest a;
  one_line = a.one_line;
  ends = EndsLate (sym a.ended_is ∙ e) lt;
  at = number_is taken.lines number n;
})

pub one_line-append : (a b : List ℕ) → IsOneLine a → IsOneLine b → IsOneLine (a ++ b)
one_line-append a b p q = to_all (λ x. x ≢ 10) (a ++ b) (no_lf-append a b (from_all (λ x. x ≢ 10) a p) (from_all (λ x. x ≢ 10) b q))

-- the line that now ends breaks a rule
pub line_fails : (taken : Taken) (ended : Bool) (rest line : List ℕ) (kind number : ℕ) → AreRead taken ended rest → IsOneLine line → RefusesBytes taken (rest ++ line) kind number → ShowsFault (bytes_read taken rest ++ (line ++ 10 ∷ [])) kind number
line_fails taken ended rest line kind number a o h = record {
  past = reverse taken.lines;
  line = rest ++ line;
  behind = [];
  read = record {
    fine = a.fine;
    parts = ap (λ (t : List ℕ). t ++ (line ++ 10 ∷ [])) (read_to taken ended rest a).parts
        ∙ (append_assoc (text (reverse (reverse taken.lines))) rest (line ++ 10 ∷ [])
        ∙ ap (λ (t : List ℕ). text (reverse (reverse taken.lines)) ++ t) (sym (append_assoc rest line (10 ∷ []))));
  };
  one_line = one_line-append rest line a.one_line o;
  breaks = h.breaks;
  at = number_is taken.lines number h.at;
}

-- .. or it is taken
pub line_taken : (old new : Taken) (rest line : List ℕ) (last : Bool) → TakesBytes old new (rest ++ line) last → bytes_read new [] ≡ bytes_read old rest ++ (line ++ 10 ∷ [])
line_taken old new rest line last h =
    ap (λ (t : Taken). text t.lines ++ []) h.takes.taken
    ∙ (ap (λ (t : List ℕ). t ++ []) (text_push old.lines h.line)
    ∙ (append_assoc (text old.lines) (line_body h.line ++ 10 ∷ []) []
    ∙ (ap (λ (t : List ℕ). text old.lines ++ ((t ++ 10 ∷ []) ++ [])) (sym h.spelled.spelled)
    ∙ (ap (λ (t : List ℕ). text old.lines ++ t) (append_assoc (rest ++ line) (10 ∷ []) [] ∙ append_assoc rest line (10 ∷ []))
    ∙ sym (append_assoc (text old.lines) rest (line ++ 10 ∷ []))))))

abbrev reading : List ℕ → Option TraceFault → Reading
reading bytes fault = record { bytes = bytes; fault = fault }

-- what a reader does with the front of a line
pub holds : (taken : Taken) (ended : Bool) (rest front held : List ℕ) (f : Option TraceFault) (old : Reading) → reading (bytes_read taken rest) f ≡ old → f ≡ None → AreRead taken ended rest → IsOneLine front → held ≡ rest ++ front
    → GrowsBy old (reading (bytes_read taken held) None) front
holds taken ended rest front held f old e n a o h = subst (λ (r : Reading). GrowsBy r (reading (bytes_read taken held) None) front) e (record {
  unharmed = n;
  grown = ap (λ (t : List ℕ). reading t None) (ap (λ (t : List ℕ). text taken.lines ++ t) h ∙ sym (append_assoc (text taken.lines) rest front)) ∙ ap (λ (g : Option TraceFault). reading ((text taken.lines ++ rest) ++ front) g) (sym n);
  shows_none = shows_none taken ended held (record { unharmed = a.unharmed; fine = a.fine; ended_is = a.ended_is; one_line = subst (λ (t : List ℕ). IsOneLine t) (sym h) (one_line-append rest front a.one_line o) });
})

-- .. with the end of a line that is taken
pub takes_line : (was is : Taken) (rest line held : List ℕ) (last : Bool) (f : Option TraceFault) (old : Reading) → reading (bytes_read was rest) f ≡ old → TakesBytes was is (rest ++ line) last → held ≡ []
    → reading (bytes_read is held) f ≡ reading (old.bytes ++ (line ++ 10 ∷ [])) old.fault
takes_line was is rest line held last f old e h n =
    subst (λ (r : Reading). reading (bytes_read is held) f ≡ reading (r.bytes ++ (line ++ 10 ∷ [])) r.fault) e (ap (λ (t : List ℕ). reading t f) (ap (λ (t : List ℕ). bytes_read is t) n ∙ line_taken was is rest line last h))

-- .. and with one that is not
pub stops_line : (fault : TraceFault) (taken : Taken) (ended : Bool) (rest line : List ℕ) (f : Option TraceFault) (old new : Reading) → reading (bytes_read taken rest) f ≡ old → AreRead taken ended rest → IsOneLine line → RefusesLine taken (rest ++ line) fault → new.fault ≡ Some fault
    → StopsReading old new (line ++ 10 ∷ []) fault
stops_line faults.NoMemory taken ended rest line f old new e a o h n = n
stops_line (faults.At kind number) taken ended rest line f old new e a o h n = record {
  shown_none = subst (λ (r : Reading). ShowsNone r.bytes) e (shows_none taken ended rest a);
  shows = subst (λ (r : Reading). ShowsFault (r.bytes ++ (line ++ 10 ∷ [])) kind number) e (line_fails taken ended rest line kind number a o h);
  kept = n;
}

-- a line that the rules refuse breaks a rule
pub refused_by : (old new : Taken) (line : TraceLine) (bytes : List ℕ) (fault : TraceFault) → IsLineSpelled line bytes → Refuses old new line fault → RefusesLine old bytes fault
refused_by old new line bytes faults.NoMemory p h = tt
refused_by old new line bytes (faults.At kind number) p h = record { breaks = BreaksRule kind line p h.breaks; at = h.at }

-- a line in the middle of a piece
pub stops_in : (fault : TraceFault) (old mid new : Reading) (piece rest line behind : List ℕ) → mid.bytes ++ rest ≡ old.bytes ++ piece → rest ≡ line ++ 10 ∷ behind → ShowsNone old.bytes → StopsReading mid new (line ++ 10 ∷ []) fault → StopsReading old new piece fault
stops_in faults.NoMemory old mid new piece rest line behind e p s h = h
stops_in (faults.At kind number) old mid new piece rest line behind e p s h =
    let whole : (mid.bytes ++ (line ++ 10 ∷ [])) ++ behind ≡ old.bytes ++ piece =
    append_assoc mid.bytes (line ++ 10 ∷ []) behind ∙ (ap (λ (t : List ℕ). mid.bytes ++ t) (append_assoc line (10 ∷ []) behind ∙ sym p) ∙ e) in
    record {
      shown_none = s;
      shows = subst (λ (t : List ℕ). ShowsFault t kind number) whole (shows_more (mid.bytes ++ (line ++ 10 ∷ [])) behind kind number h.shows);
      kept = h.kept;
    }

-- where the rules say that the lines are a whole trace, the bytes are its text
pub whole_by : (r : Result (List TraceLine) TraceFault) (taken : Taken) (ended : Bool) (rest : List ℕ) (f : Option TraceFault) (old : Reading) → reading (bytes_read taken rest) f ≡ old → AreRead taken ended rest → (ended ≡ true → rest ≡ [])
    → IfOk r (λ trace. trace ≡ taken.lines) → OnOk r ((taken.fault ≡ None) × (has_ended (reverse taken.lines) ≡ true)) → IfOk r (λ trace. IsTextOf trace old.bytes)
whole_by (Err e) taken ended rest f old is a empty same ends = tt
whole_by (Ok trace) taken ended rest f old is a empty same ends =
    let none : rest ≡ [] = empty (a.ended_is ∙ ends.1) in
    subst (λ (t : List TraceLine). IsTextOf t old.bytes) (sym same) (record {
      good = record { fine = a.fine; ended = ends.1 };
      whole = ap (λ (r : Reading). r.bytes) (sym is) ∙ (ap (λ (t : List ℕ). text taken.lines ++ t) none ∙ append-nil (text taken.lines));
    })

-- .. and where they lack an end, the bytes do
lacks : (fault : TraceFault) (taken : Taken) (ended : Bool) (rest : List ℕ) (f : Option TraceFault) (old : Reading) → reading (bytes_read taken rest) f ≡ old → AreRead taken ended rest → LacksEnd taken.lines fault → HasTextFault old.bytes fault
lacks fault taken ended rest f old is a l =
    subst (λ (x : TraceFault). HasTextFault old.bytes x) (sym l.1)
    (subst (λ (r : Reading). IsTraceFault r.bytes 5 (length taken.lines + 1)) is (early taken ended rest (length taken.lines + 1) a (a.ended_is ∙ l.0) refl))

pub lacks_by : (r : Result (List TraceLine) TraceFault) (taken : Taken) (ended : Bool) (rest : List ℕ) (f : Option TraceFault) (old : Reading) → reading (bytes_read taken rest) f ≡ old → AreRead taken ended rest → IfErr r (LacksEnd taken.lines) → IfErr r (HasTextFault old.bytes)
lacks_by (Ok trace) taken ended rest f old is a l = tt
lacks_by (Err fault) taken ended rest f old is a l = lacks fault taken ended rest f old is a l
