-- A pack has one answer: one good list, or one fault.
use Rattle.std.proofs.Common.{◌≡◌, ◌≢◌, ℕ, ◌+◌, ◌<◌, true, false, List, [], ◌∷◌, ◌++◌, length, Some, None, refl, sym, ap, subst, ◌∙◌, append_assoc, arith, inl, inr, length-append}
use Rattle.std.specs.Prelude.{reverse}
use Rattle.std.specs.List.{flat_map, AllByRecursion}
use Rattle.std.proofs.lemmas.List.{append-nil, reverse-append, reverse-reverse}
use Rattle.std.proofs.lemmas.Option.{same_Some}
use Rattle.et_text.proofs.OneAnswer.{back}
use Rattle.et_base.specs.declared.line.TraceLine.{TraceLine}
use Rattle.et_text.specs.Spelling.{letter}
use Rattle.et_text.specs.Ranges.{IsInRange}
use Rattle.et_text.specs.Rules.{has_ended, next_fault, AreFine}
use Rattle.et_binary.specs.Packing.{packing, opening, pack}
use Rattle.et_binary.specs.Packs.{IsPacked, IsMalformed, IsUnfinished, BreaksRecord, IsUnpackedTo, ShowsPackFault, LacksRecord, IsPackFault, IsPackOf}
use Rattle.et_binary.specs.Packs.IsMalformed.{HasNoLetter, IsOutOfRange}
use Rattle.et_binary.specs.Packs.BreaksRecord.{BreaksTable, BreaksOrder, BreaksEnd}
use Rattle.et_binary.specs.Packs.ShowsPackFault.{ShowsOpening, ShowsRecord}
use Rattle.et_binary.specs.Packs.LacksRecord.{EndsInOpening, EndsInRecord}
use Rattle.et_binary.proofs.Beginnings.{front_of, range_packed}

-- ONE RECORD

pub one_record : (a b : TraceLine) (x y more rest : List ℕ) → IsPacked a x → IsPacked b y → x ++ more ≡ y ++ rest → (a ≡ b) × (more ≡ rest)
one_record a b x y more rest pa pb e =
    let p = front_of a (x ++ more) x more refl pa in
    let q = front_of b (x ++ more) y rest e pb in
    let both = same_Some (a, more) (b, rest) (sym p ∙ q) in
    (ap (λ (t : TraceLine × List ℕ). t.0) both, ap (λ (t : TraceLine × List ℕ). t.1) both)

in_range_once : (a b : TraceLine) (more rest : List ℕ) → IsInRange 2 a → IsInRange 2 b → packing a ++ more ≡ packing b ++ rest → (a ≡ b) × (more ≡ rest)
in_range_once a b more rest ra rb e = one_record a b (packing a) (packing b) more rest (range_packed a ra) (range_packed b rb) e

-- MANY RECORDS

abbrev records : List TraceLine → List ℕ
records lines = flat_map packing lines

abbrev ArePacked : List TraceLine → Type 0
ArePacked lines = AllByRecursion (IsInRange 2) lines

-- one of two readings goes on from the other
data Reaches (p q : List TraceLine) (r s : List ℕ) : Type 0 where
  Longer : (more : List TraceLine) → q ≡ p ++ more → r ≡ records more ++ s → Reaches p q r s
  Shorter : (more : List TraceLine) → p ≡ q ++ more → s ≡ records more ++ r → Reaches p q r s

one_more : (a : TraceLine) (p q : List TraceLine) (r s : List ℕ) → Reaches p q r s → Reaches (a ∷ p) (a ∷ q) r s
one_more a p q r s (Longer more e f) = Longer more (ap (λ (t : List TraceLine). a ∷ t) e) f
one_more a p q r s (Shorter more e f) = Shorter more (ap (λ (t : List TraceLine). a ∷ t) e) f

cut_first : (a : TraceLine) (p : List TraceLine) (r : List ℕ) → records (a ∷ p) ++ r ≡ packing a ++ (records p ++ r)
cut_first a p r = append_assoc (packing a) (records p) r

reaches : (p q : List TraceLine) (r s : List ℕ) → ArePacked p → ArePacked q → records p ++ r ≡ records q ++ s → Reaches p q r s
reaches [] q r s fp fq e = Longer q refl e
reaches (a ∷ p) [] r s fp fq e = Shorter (a ∷ p) refl (sym e)
reaches (a ∷ p) (b ∷ q) r s fp fq e =
    let cut = in_range_once a b (records p ++ r) (records q ++ s) fp.0 fq.0 (sym (cut_first a p r) ∙ (e ∙ cut_first b q s)) in
    subst (λ (x : TraceLine). Reaches (a ∷ p) (x ∷ q) r s) cut.0 (one_more a p q r s (reaches p q r s fp.1 fq.1 cut.1))

-- no line goes on from these
record IsStuck (p : List TraceLine) (r : List ℕ) : Type 0 where
  pub no_more : (a : TraceLine) (more : List ℕ) → IsInRange 2 a → next_fault (reverse p) a ≡ None → r ≡ packing a ++ more → ⊥

fine_suffix : (xs ys : List TraceLine) → AreFine 2 (xs ++ ys) → AreFine 2 ys
fine_suffix [] ys h = h
fine_suffix (x ∷ xs) ys h = fine_suffix xs ys h.0

turned : (p m : List TraceLine) (a : TraceLine) → reverse (p ++ a ∷ m) ≡ reverse m ++ (a ∷ reverse p)
turned p m a = reverse-append p (a ∷ m) ∙ (ap (λ (t : List TraceLine). t ++ reverse p) (reverse-append (a ∷ []) m) ∙ append_assoc (reverse m) (a ∷ []) (reverse p))

fine_next : (p m : List TraceLine) (a : TraceLine) → AreFine 2 (reverse (p ++ a ∷ m)) → AreFine 2 (a ∷ reverse p)
fine_next p m a h = fine_suffix (reverse m) (a ∷ reverse p) (subst (AreFine 2) (turned p m a) h)

record IsSame (p q : List TraceLine) (r s : List ℕ) : Type 0 where
  pub lines : p ≡ q
  pub rests : r ≡ s

at_stop : (p q : List TraceLine) (r s : List ℕ) → AreFine 2 (reverse p) → AreFine 2 (reverse q) → IsStuck p r → IsStuck q s → Reaches p q r s → IsSame p q r s
at_stop p q r s fp fq hp hq (Longer [] e f) = record { lines = sym (e ∙ append-nil p); rests = f }
at_stop p q r s fp fq hp hq (Longer (a ∷ m) e f) =
    let n = fine_next p m a (subst (λ (t : List TraceLine). AreFine 2 (reverse t)) e fq) in
    absurd (hp.no_more a (records m ++ s) n.1 n.2 (f ∙ cut_first a m s))
at_stop p q r s fp fq hp hq (Shorter [] e f) = record { lines = e ∙ append-nil q; rests = sym f }
at_stop p q r s fp fq hp hq (Shorter (a ∷ m) e f) =
    let n = fine_next q m a (subst (λ (t : List TraceLine). AreFine 2 (reverse t)) e fp) in
    absurd (hq.no_more a (records m ++ r) n.1 n.2 (f ∙ cut_first a m r))

packed_push : (xs : List TraceLine) (a : TraceLine) → ArePacked xs → IsInRange 2 a → ArePacked (xs ++ a ∷ [])
packed_push [] a p r = (r, tt)
packed_push (x ∷ xs) a p r = (p.0, packed_push xs a p.1 r)

are_packed : (past : List TraceLine) → AreFine 2 past → ArePacked (reverse past)
are_packed [] h = tt
are_packed (a ∷ past) h = subst ArePacked (sym (reverse-append (a ∷ []) past)) (packed_push (reverse past) a (are_packed past h.0) h.1)

pub cancel : (a x y : List ℕ) → a ++ x ≡ a ++ y → x ≡ y
cancel [] x y e = e
cancel (h ∷ a) x y e = cancel a x y (cc)

fine_back : (p : List TraceLine) → AreFine 2 p → AreFine 2 (reverse (reverse p))
fine_back p h = subst (AreFine 2) (sym (reverse-reverse p)) h

-- two readings that stop are one
read_once : (p q : List TraceLine) (r s bytes : List ℕ) → IsUnpackedTo p r bytes → IsUnpackedTo q s bytes → IsStuck (reverse p) r → IsStuck (reverse q) s → (p ≡ q) × (r ≡ s)
read_once p q r s bytes a b hp hq =
    let whole : pack (reverse p) ++ r ≡ pack (reverse q) ++ s = sym a.parts ∙ b.parts in
    let behind : records (reverse p) ++ r ≡ records (reverse q) ++ s = cancel opening (records (reverse p) ++ r) (records (reverse q) ++ s) whole in
    let same = at_stop (reverse p) (reverse q) r s (fine_back p a.fine) (fine_back q b.fine) hp hq (reaches (reverse p) (reverse q) r s (are_packed p a.fine) (are_packed q b.fine) behind) in
    (back p q same.lines, same.rests)

-- WHERE A READING STOPS

first_letter : (b : ℕ) (behind more : List ℕ) (a : TraceLine) → b ∷ behind ≡ packing a ++ more → b ≡ letter a
first_letter b behind more a e = cc

pub malformed_stops : (bytes more : List ℕ) (a : TraceLine) → IsMalformed bytes → IsInRange 2 a → bytes ≡ packing a ++ more → ⊥
malformed_stops bytes more a (HasNoLetter b behind e n) r f = n a (first_letter b behind more a (sym e ∙ f))
malformed_stops bytes more a (IsOutOfRange line first behind e p out) r f =
    let same = one_record line a first (packing a) behind more p (range_packed a r) (sym e ∙ f) in
    out (subst (λ (x : TraceLine). IsInRange 2 x) (sym same.0) r)

breaks_stop : (past : List TraceLine) (rest more : List ℕ) (kind : ℕ) (a : TraceLine) → BreaksRecord past rest kind → IsInRange 2 a → next_fault past a ≡ None → rest ≡ packing a ++ more → ⊥
breaks_stop past rest more kind a (BreaksTable h m) r n f = malformed_stops rest more a m r f
breaks_stop past rest more kind a (BreaksOrder k line behind s e g) r n f =
    let same = in_range_once line a behind more s r (sym e ∙ f) in
    let x : next_fault past a ≡ Some k = subst (λ (z : TraceLine). next_fault past z ≡ Some k) same.0 g in absurd (cc)
breaks_stop past rest more kind a (BreaksEnd h lt) r n f = let x : next_fault past a ≡ Some 6 = rw h refl in absurd (cc)

stuck_broken : (past : List TraceLine) (rest : List ℕ) (kind : ℕ) → BreaksRecord past rest kind → IsStuck (reverse past) rest
stuck_broken past rest kind b = record {
  no_more = λ a more r n e. breaks_stop past rest more kind a b r (subst (λ (t : List TraceLine). next_fault t a ≡ None) (reverse-reverse past) n) e;
}

stuck_unfinished : (lines : List TraceLine) (rest : List ℕ) → IsUnfinished rest → IsStuck lines rest
stuck_unfinished lines rest u = record { no_more = λ a more r n e. u.not_whole a (packing a) more e (range_packed a r) }

pub no_record : (a : TraceLine) (more : List ℕ) → [] ≡ packing a ++ more → ⊥
no_record a more e = absurd cc

stuck_end : (lines : List TraceLine) → IsStuck lines []
stuck_end lines = record { no_more = λ a more r n e. no_record a more e }

-- KINDS

pub kind_once : (past : List TraceLine) (rest : List ℕ) (k m : ℕ) → BreaksRecord past rest k → BreaksRecord past rest m → k ≡ m
kind_once past rest k m (BreaksTable h a) (BreaksTable i b) = refl
kind_once past rest k m (BreaksTable h a) (BreaksOrder j line behind r e g) = absurd (malformed_stops rest behind line a r e)
kind_once past rest k m (BreaksTable h a) (BreaksEnd i lt) = absurd (cc)
kind_once past rest k m (BreaksOrder j line behind r e g) (BreaksTable h a) = absurd (malformed_stops rest behind line a r e)
kind_once past rest k m (BreaksOrder i line behind r e g) (BreaksOrder j other after s f l) =
    let same = in_range_once line other behind after r s (sym e ∙ f) in
    let x : next_fault past other ≡ Some i = subst (λ (z : TraceLine). next_fault past z ≡ Some i) same.0 g in (cc)
kind_once past rest k m (BreaksOrder i line behind r e g) (BreaksEnd h lt) = let x : next_fault past line ≡ Some 6 = rw h refl in (cc)
kind_once past rest k m (BreaksEnd i lt) (BreaksTable h a) = absurd (cc)
kind_once past rest k m (BreaksEnd h lt) (BreaksOrder i line behind r e g) = let x : next_fault past line ≡ Some 6 = rw h refl in (cc)
kind_once past rest k m (BreaksEnd h lt) (BreaksEnd i le) = refl

-- THE OPENING

opening_once : (front : List ℕ) (wanted found : ℕ) (wanting behind more : List ℕ) → opening ≡ front ++ wanted ∷ wanting → front ++ found ∷ behind ≡ opening ++ more → found ≡ wanted
opening_once front wanted found wanting behind more e f =
    let whole : opening ++ more ≡ front ++ (wanted ∷ wanting ++ more) = ap (λ (t : List ℕ). t ++ more) e ∙ append_assoc front (wanted ∷ wanting) more in
    let tails : found ∷ behind ≡ wanted ∷ (wanting ++ more) = cancel front (found ∷ behind) (wanted ∷ (wanting ++ more)) (f ∙ whole) in
    (cc)

part_once : (front : List ℕ) (wanted found : ℕ) (wanting behind more : List ℕ) → opening ≡ front ++ wanted ∷ wanting → opening ≡ (front ++ found ∷ behind) ++ more → found ≡ wanted
part_once front wanted found wanting behind more e f =
    let tails : found ∷ (behind ++ more) ≡ wanted ∷ wanting = cancel front (found ∷ (behind ++ more)) (wanted ∷ wanting) (sym (append_assoc front (found ∷ behind) more) ∙ (sym f ∙ e)) in
    (cc)

opening_wrong : (bytes more front : List ℕ) (wanted found : ℕ) (wanting behind : List ℕ) → opening ≡ front ++ wanted ∷ wanting → bytes ≡ front ++ found ∷ behind → found ≢ wanted → bytes ≡ opening ++ more → ⊥
opening_wrong bytes more front wanted found wanting behind e f ne w = ne (opening_once front wanted found wanting behind more e (sym f ∙ w))

part_short : (bytes more rest : List ℕ) (lines : List TraceLine) → opening ≡ bytes ++ more → 0 < length more → bytes ≡ pack lines ++ rest → ⊥
part_short bytes more rest lines e lt f = absurd (omega (arith, lt, ap length e, length-append bytes more, ap length f, length-append (pack lines) rest))

-- ONE ANSWER

pub shown_once : (bytes : List ℕ) (k n m o : ℕ) → ShowsPackFault bytes k n → ShowsPackFault bytes m o → (k ≡ m) × (n ≡ o)
shown_once bytes k n m o (ShowsOpening a b c d e f g h) (ShowsOpening p q r s t u v w) = (refl, refl)
shown_once bytes k n m o (ShowsOpening front wanted found wanting behind e f ne) (ShowsRecord past rest kind number read b at) =
    absurd (opening_wrong bytes (records (reverse past) ++ rest) front wanted found wanting behind e f ne read.parts)
shown_once bytes k n m o (ShowsRecord past rest kind number read b at) (ShowsOpening front wanted found wanting behind e f ne) =
    absurd (opening_wrong bytes (records (reverse past) ++ rest) front wanted found wanting behind e f ne read.parts)
shown_once bytes k n m o (ShowsRecord past rest kind number read b at) (ShowsRecord other left sort place found c is) =
    let same = read_once past other rest left bytes read found (stuck_broken past rest kind b) (stuck_broken other left sort c) in (
      kind_once other left kind sort (subst (λ (t : List ℕ). BreaksRecord other t kind) same.1 (subst (λ (t : List TraceLine). BreaksRecord t rest kind) same.0 b)) c,
      at ∙ (ap (λ (t : List TraceLine). length t + 1) same.0 ∙ sym is),
    )

lacks_once : (bytes : List ℕ) (n o : ℕ) → LacksRecord bytes n → LacksRecord bytes o → n ≡ o
lacks_once bytes n o (EndsInOpening a b c) (EndsInOpening d e f) = refl
lacks_once bytes n o (EndsInOpening more e lt) (EndsInRecord past rest number read h u at) = absurd (part_short bytes more rest (reverse past) e lt read.parts)
lacks_once bytes n o (EndsInRecord past rest number read h u at) (EndsInOpening more e lt) = absurd (part_short bytes more rest (reverse past) e lt read.parts)
lacks_once bytes n o (EndsInRecord past rest number read h u at) (EndsInRecord other left place found i v is) =
    let same = read_once past other rest left bytes read found (stuck_unfinished (reverse past) rest u) (stuck_unfinished (reverse other) left v) in
    at ∙ (ap (λ (t : List TraceLine). length t + 1) same.0 ∙ sym is)

malformed_whole : (bytes : List ℕ) → IsMalformed bytes → IsUnfinished bytes → ⊥
malformed_whole bytes (HasNoLetter b behind e n) u = u.letter_fits b behind e n
malformed_whole bytes (IsOutOfRange line first behind e p out) u = u.not_whole line first behind e p

broken_whole : (past : List TraceLine) (rest : List ℕ) (kind : ℕ) → BreaksRecord past rest kind → has_ended past ≡ false → IsUnfinished rest → ⊥
broken_whole past rest kind (BreaksTable h m) i u = malformed_whole rest m u
broken_whole past rest kind (BreaksOrder k line behind r e g) i u = u.not_whole line (packing line) behind e (range_packed line r)
broken_whole past rest kind (BreaksEnd h lt) i u = absurd (cc)

pub shown_not_lacking : (bytes : List ℕ) (k n o : ℕ) → ShowsPackFault bytes k n → LacksRecord bytes o → ⊥
shown_not_lacking bytes k n o (ShowsOpening front wanted found wanting behind e f ne) (EndsInOpening more g lt) =
    ne (part_once front wanted found wanting behind more e (subst (λ (t : List ℕ). opening ≡ t ++ more) f g))
shown_not_lacking bytes k n o (ShowsOpening front wanted found wanting behind e f ne) (EndsInRecord past rest number read h u at) =
    opening_wrong bytes (records (reverse past) ++ rest) front wanted found wanting behind e f ne read.parts
shown_not_lacking bytes k n o (ShowsRecord past rest kind number read b at) (EndsInOpening more e lt) = part_short bytes more rest (reverse past) e lt read.parts
shown_not_lacking bytes k n o (ShowsRecord past rest kind number read b at) (EndsInRecord other left place found h u is) =
    let same = read_once past other rest left bytes read found (stuck_broken past rest kind b) (stuck_unfinished (reverse other) left u) in
    broken_whole other left kind (subst (λ (t : List ℕ). BreaksRecord other t kind) same.1 (subst (λ (t : List TraceLine). BreaksRecord t rest kind) same.0 b)) h u

-- the pack of a good list is read to its end
read_whole : (lines : List TraceLine) (bytes : List ℕ) → IsPackOf lines bytes → IsUnpackedTo (reverse lines) [] bytes
read_whole lines bytes p = record {
  fine = p.good.fine;
  parts = p.whole ∙ (ap pack (sym (reverse-reverse lines)) ∙ sym (append-nil (pack (reverse (reverse lines)))));
}

nothing_breaks : (past : List TraceLine) (kind : ℕ) → BreaksRecord past [] kind → ⊥
nothing_breaks past kind (BreaksTable h (HasNoLetter b behind e n)) = absurd cc
nothing_breaks past kind (BreaksTable h (IsOutOfRange line first behind e p out)) = no_record line behind (e ∙ ap (λ (t : List ℕ). t ++ behind) p.packed)
nothing_breaks past kind (BreaksOrder k line behind r e g) = no_record line behind e
nothing_breaks past kind (BreaksEnd h lt) = absurd (omega arith)

pub good_shows_none : (lines : List TraceLine) (bytes : List ℕ) (k n : ℕ) → IsPackOf lines bytes → ShowsPackFault bytes k n → ⊥
good_shows_none lines bytes k n p (ShowsOpening front wanted found wanting behind e f ne) = opening_wrong bytes (records lines) front wanted found wanting behind e f ne p.whole
good_shows_none lines bytes k n p (ShowsRecord past rest kind number read b at) =
    let same = read_once past (reverse lines) rest [] bytes read (read_whole lines bytes p) (stuck_broken past rest kind b) (stuck_end (reverse (reverse lines))) in
    nothing_breaks past kind (subst (λ (t : List ℕ). BreaksRecord past t kind) same.1 b)

good_lacks_none : (lines : List TraceLine) (bytes : List ℕ) (n : ℕ) → IsPackOf lines bytes → LacksRecord bytes n → ⊥
good_lacks_none lines bytes n p (EndsInOpening more e lt) = part_short bytes more [] lines e lt (p.whole ∙ sym (append-nil (pack lines)))
good_lacks_none lines bytes n p (EndsInRecord past rest number read h u at) =
    let same = read_once past (reverse lines) rest [] bytes read (read_whole lines bytes p) (stuck_unfinished (reverse past) rest u) (stuck_end (reverse (reverse lines))) in
    let ended : has_ended past ≡ true = subst (λ (t : List TraceLine). has_ended t ≡ true) (sym same.0) p.good.ended in
    absurd (cc)

pub no_fault : (lines : List TraceLine) (bytes : List ℕ) (kind number : ℕ) → IsPackOf lines bytes → IsPackFault bytes kind number → ⊥
no_fault lines bytes kind number p (inl s) = good_shows_none lines bytes kind number p s
no_fault lines bytes kind number p (inr l) = good_lacks_none lines bytes number p l.1

pub one_list : (a b : List TraceLine) (bytes : List ℕ) → IsPackOf a bytes → IsPackOf b bytes → a ≡ b
one_list a b bytes p q =
    let same = read_once (reverse a) (reverse b) [] [] bytes (read_whole a bytes p) (read_whole b bytes q) (stuck_end (reverse (reverse a))) (stuck_end (reverse (reverse b))) in
    back a b same.0

pub one_fault : (bytes : List ℕ) (k n l m : ℕ) → IsPackFault bytes k n → IsPackFault bytes l m → (k ≡ l) × (n ≡ m)
one_fault bytes k n l m (inl s) (inl t) = shown_once bytes k n l m s t
one_fault bytes k n l m (inl s) (inr t) = absurd (shown_not_lacking bytes k n m s t.1)
one_fault bytes k n l m (inr s) (inl t) = absurd (shown_not_lacking bytes l m n t s.1)
one_fault bytes k n l m (inr s) (inr t) = (s.0 ∙ sym t.0, lacks_once bytes n m s.1 t.1)
