-- A pack in pieces.
use Rattle.std.proofs.Common.{◌≡◌, ℕ, ◌+◌, ◌<◌, Bool, true, false, Option, Some, None, Result, Ok, Err, List, [], ◌∷◌, ◌++◌, length, refl, sym, ap, subst, ◌∙◌, append_assoc, arith, inr, length-append}
use Rattle.std.specs.Prelude.{reverse, IfOk, IfErr, OnOk}
use Rattle.std.proofs.lemmas.List.{append-nil, length-reverse, reverse-reverse}
use Rattle.et_text.proofs.Pieces.{number_is}
use Rattle.et_base.specs.declared.line.TraceLine.{TraceLine}
use Rattle.et_text.specs.Rules.{has_ended, AreFine}
use Rattle.et_text.specs.Stream.{Reading}
use Rattle.et_text.specs.Taken.{Taken, Refuses, LacksEnd}
use Rattle.et_text.specs.declared.fault.TraceFault.{TraceFault}
use Rattle.et_text.specs.declared.fault.TraceFault.TheVariants as faults
use Rattle.et_binary.specs.Packing.{packing, opening, pack}
use Rattle.et_binary.specs.Packs.{IsUnfinished, IsUnpackedTo, ShowsPackFault, ShowsNoPackFault, BreaksRecord, LacksRecord, IsPackFault, IsPackOf}
use Rattle.et_binary.specs.Packs.BreaksRecord.{BreaksTable, BreaksOrder, BreaksEnd}
use Rattle.et_binary.specs.Packs.IsMalformed.{HasNoLetter, IsOutOfRange}
use Rattle.et_binary.specs.Packs.ShowsPackFault.{ShowsOpening, ShowsRecord}
use Rattle.et_binary.specs.Packs.LacksRecord.{EndsInOpening, EndsInRecord}
use Rattle.et_binary.specs.FollowedPacks.{RefusesFrontNext}
use Rattle.et_binary.specs.Unpacking.{Unpacks, StopsUnpacking, HasPackFault, unpacked_bytes, IsHeldBack, AreUnpacked, IsFront, RefusesFront, TakesAll, MayGoOn, ShowsIn}
use Rattle.et_binary.proofs.OnePack.{shown_not_lacking, good_shows_none}

shows_breaks : (past : List TraceLine) (rest more : List ℕ) (kind : ℕ) → BreaksRecord past rest kind → BreaksRecord past (rest ++ more) kind
shows_breaks past rest more kind (BreaksTable h (HasNoLetter b behind e n)) = BreaksTable h (HasNoLetter b (behind ++ more) (ap (λ (t : List ℕ). t ++ more) e) n)
shows_breaks past rest more kind (BreaksTable h (IsOutOfRange line first behind e p out)) = BreaksTable h (IsOutOfRange line first (behind ++ more) (ap (λ (t : List ℕ). t ++ more) e ∙ append_assoc first behind more) p out)
shows_breaks past rest more kind (BreaksOrder k line behind r e f) = BreaksOrder k line (behind ++ more) r (ap (λ (t : List ℕ). t ++ more) e ∙ append_assoc (packing line) behind more) f
shows_breaks past rest more kind (BreaksEnd h lt) = BreaksEnd h (omega (arith, lt, length-append rest more))

-- what is shown stays
pub shows_more : (bytes more : List ℕ) (kind number : ℕ) → ShowsPackFault bytes kind number → ShowsPackFault (bytes ++ more) kind number
shows_more bytes more kind number (ShowsOpening front wanted found wanting behind e f ne) =
    ShowsOpening front wanted found wanting (behind ++ more) e (ap (λ (t : List ℕ). t ++ more) f ∙ append_assoc front (found ∷ behind) more) ne
shows_more bytes more kind number (ShowsRecord past rest k n read b at) =
    ShowsRecord past (rest ++ more) k n (record { fine = read.fine; parts = ap (λ (t : List ℕ). t ++ more) read.parts ∙ append_assoc (pack (reverse past)) rest more }) (shows_breaks past rest more k b) at

-- ONE RECORD

pub refused_as : (old : Taken) (bytes : List ℕ) (fault : TraceFault) → RefusesFrontNext (reverse old.lines) bytes fault → RefusesFront old bytes fault
refused_as old bytes faults.NoMemory h = tt
refused_as old bytes (faults.At kind number) h = record { breaks = h.breaks; at = h.at ∙ ap (λ (n : ℕ). n + 1) (length-reverse old.lines) }

pub refused_by : (old new : Taken) (line : TraceLine) (behind bytes : List ℕ) (fault : TraceFault) → IsFront line behind bytes → Refuses old new line fault → RefusesFront old bytes fault
refused_by old new line behind bytes faults.NoMemory w h = tt
refused_by old new line behind bytes (faults.At kind number) w h = record { breaks = BreaksOrder kind line behind w.range w.parts h.breaks; at = h.at }

unpacked_to : (lines : List TraceLine) (rest bytes : List ℕ) → AreFine 2 (reverse lines) → bytes ≡ pack lines ++ rest → IsUnpackedTo (reverse lines) rest bytes
unpacked_to lines rest bytes f e = record { fine = f; parts = e ∙ ap (λ (t : List TraceLine). pack t ++ rest) (sym (reverse-reverse lines)) }

-- a record that is refused behind those that were taken
pub shown_behind : (fault : TraceFault) (old now : Taken) (bytes rest : List ℕ) → pack now.lines ++ rest ≡ pack old.lines ++ bytes → AreFine 2 (reverse now.lines) → RefusesFront now rest fault → ShowsIn (unpacked_bytes true old bytes) fault
shown_behind faults.NoMemory old now bytes rest e f h = tt
shown_behind (faults.At kind number) old now bytes rest e f h = ShowsRecord (reverse now.lines) rest kind number (unpacked_to now.lines rest (pack old.lines ++ bytes) f (sym e)) h.breaks (number_is now.lines number h.at)

-- WHAT IS HELD

lacks_by_end : (taken : Taken) (rest : List ℕ) (ended : Bool) → has_ended (reverse taken.lines) ≡ ended → AreFine 2 (reverse taken.lines) → IsUnfinished rest → (has_ended (reverse taken.lines) ≡ true → rest ≡ []) → ShowsNoPackFault (pack taken.lines ++ rest)
lacks_by_end taken rest false h f u e kind number s =
    shown_not_lacking (pack taken.lines ++ rest) kind number (length taken.lines + 1) s
    (EndsInRecord (reverse taken.lines) rest (length taken.lines + 1) (unpacked_to taken.lines rest (pack taken.lines ++ rest) f refl) h u (number_is taken.lines (length taken.lines + 1) refl))
lacks_by_end taken rest true h f u e kind number s =
    good_shows_none taken.lines (pack taken.lines ++ rest) kind number
    (record { good = record { fine = f; ended = h }; whole = ap (λ (t : List ℕ). pack taken.lines ++ t) (e h) ∙ append-nil (pack taken.lines) }) s

shows_none_by : (taken : Taken) (opened : Bool) (rest : List ℕ) → AreFine 2 (reverse taken.lines) → IsHeldBack opened taken.lines rest → ShowsNoPackFault (unpacked_bytes opened taken rest)
shows_none_by taken false rest f h kind number s = shown_not_lacking rest kind number 1 s (EndsInOpening h.1 h.2 h.3)
shows_none_by taken true rest f h kind number s = lacks_by_end taken rest (has_ended (reverse taken.lines)) refl f h.0 h.1 kind number s

pub shows_none : (taken : Taken) (opened : Bool) (rest : List ℕ) → AreUnpacked taken opened rest → ShowsNoPackFault (unpacked_bytes opened taken rest)
shows_none taken opened rest a = shows_none_by taken opened rest a.fine a.held

abbrev reading : List ℕ → Option TraceFault → Reading
reading bytes fault = record { bytes = bytes; fault = fault }

same_back : (a b x y : List ℕ) → a ++ x ≡ b ++ y → length x ≡ length y → x ≡ y
same_back [] [] x y e l = e
same_back [] (c ∷ b) x y e l = absurd (omega (arith, l, ap length e, length-append b y))
same_back (c ∷ a) [] x y e l = absurd (omega (arith, l, ap length e, length-append a x))
same_back (c ∷ a) (d ∷ b) x y e l = same_back a b x y (cc) l

-- a front of the opening is left
pub leaves_part : (taken : Taken) (opened : Bool) (bytes : List ℕ) → opened ≡ false → MayGoOn taken opened → (more : List ℕ) × (opening ≡ bytes ++ more) × (0 < length more) → TakesAll taken taken opened false bytes bytes
leaves_part taken opened bytes unopened before part = record {
  parts = ap (λ (o : Bool). unpacked_bytes o taken bytes) (sym unopened);
  kept = record { unharmed = before.unharmed; fine = before.fine; held = (before.empty unopened, part.0, part.1, part.2) };
}

pub nothing_held : (taken : Taken) (rest : List ℕ) → taken ≡ record { lines = []; fault = None } → rest ≡ [] → AreUnpacked taken false rest
nothing_held taken rest e r =
    subst (λ (t : Taken). AreUnpacked t false rest) (sym e) (subst (λ (b : List ℕ). AreUnpacked (record { lines = []; fault = None }) false b) (sym r) (record { unharmed = refl; fine = tt; held = (refl, opening, refl, omega arith) }))

-- where as much is left as there was, it is what there was
pub still_held : (old new : Taken) (opened opens : Bool) (bytes left held : List ℕ) → TakesAll old new opened opens bytes left → held ≡ bytes → length left ≡ length held → TakesAll old new opened opens bytes held
still_held old new opened opens bytes left held t same l =
    subst (λ (r : List ℕ). TakesAll old new opened opens bytes r) (same_back _ _ left bytes t.parts (l ∙ ap length same) ∙ sym same) t

-- a piece that shows no fault
pub unpacks_by : (was is : Taken) (opened opens : Bool) (rest left piece : List ℕ) (f : Option TraceFault) (old : Reading) → reading (unpacked_bytes opened was rest) f ≡ old → f ≡ None → TakesAll was is opened opens (rest ++ piece) left
    → Unpacks old (reading (unpacked_bytes opens is left) f) piece
unpacks_by was is opened opens rest left piece f old e n t = subst (λ (r : Reading). Unpacks r (reading (unpacked_bytes opens is left) f) piece) e (record {
  unharmed = n;
  grown = ap (λ (b : List ℕ). reading b f) (t.parts ∙ sym (append_assoc _ rest piece));
  shows_none = shows_none is opens left t.kept;
})

-- .. and one that shows it
pub stops_by : (fault : TraceFault) (was : Taken) (opened : Bool) (rest piece : List ℕ) (f : Option TraceFault) (old new : Reading) → reading (unpacked_bytes opened was rest) f ≡ old → AreUnpacked was opened rest → ShowsIn (unpacked_bytes opened was (rest ++ piece)) fault → new.fault ≡ Some fault
    → StopsUnpacking old new piece fault
stops_by faults.NoMemory was opened rest piece f old new e a s n = n
stops_by (faults.At kind number) was opened rest piece f old new e a s n = record {
  shown_none = subst (λ (r : Reading). ShowsNoPackFault r.bytes) e (shows_none was opened rest a);
  shows = subst (λ (r : Reading). ShowsPackFault (r.bytes ++ piece) kind number) e (subst (λ (b : List ℕ). ShowsPackFault b kind number) (sym (append_assoc _ rest piece)) s);
  kept = n;
}

-- THE END

pack_by_end : (taken : Taken) (opened : Bool) (rest : List ℕ) → has_ended (reverse taken.lines) ≡ true → AreFine 2 (reverse taken.lines) → IsHeldBack opened taken.lines rest → IsPackOf taken.lines (unpacked_bytes opened taken rest)
pack_by_end taken false rest h f held = absurd (let none : has_ended (reverse taken.lines) ≡ false = ap (λ (ls : List TraceLine). has_ended (reverse ls)) held.0 in cc)
pack_by_end taken true rest h f held = record {
  good = record { fine = f; ended = h };
  whole = ap (λ (t : List ℕ). pack taken.lines ++ t) (held.1 h) ∙ append-nil (pack taken.lines);
}

pub whole_by : (r : Result (List TraceLine) TraceFault) (taken : Taken) (opened : Bool) (rest : List ℕ) (f : Option TraceFault) (old : Reading) → reading (unpacked_bytes opened taken rest) f ≡ old → AreUnpacked taken opened rest
    → IfOk r (λ trace. trace ≡ taken.lines) → OnOk r ((taken.fault ≡ None) × (has_ended (reverse taken.lines) ≡ true)) → IfOk r (λ trace. IsPackOf trace old.bytes)
whole_by (Err e) taken opened rest f old is a same ends = tt
whole_by (Ok trace) taken opened rest f old is a same ends =
    subst (λ (t : List TraceLine). IsPackOf t old.bytes) (sym same) (subst (λ (r : Reading). IsPackOf taken.lines r.bytes) is (pack_by_end taken opened rest ends.1 a.fine a.held))

lacks_by_held : (taken : Taken) (opened : Bool) (rest : List ℕ) → has_ended (reverse taken.lines) ≡ false → AreFine 2 (reverse taken.lines) → IsHeldBack opened taken.lines rest → LacksRecord (unpacked_bytes opened taken rest) (length taken.lines + 1)
lacks_by_held taken false rest h f held =
    let one : 1 ≡ length taken.lines + 1 = ap (λ (ls : List TraceLine). length ls + 1) (sym held.0) in
    subst (λ (n : ℕ). LacksRecord rest n) one (EndsInOpening held.1 held.2 held.3)
lacks_by_held taken true rest h f held = EndsInRecord (reverse taken.lines) rest (length taken.lines + 1) (unpacked_to taken.lines rest (pack taken.lines ++ rest) f refl) h held.0 (number_is taken.lines (length taken.lines + 1) refl)

lacks : (fault : TraceFault) (taken : Taken) (opened : Bool) (rest : List ℕ) (f : Option TraceFault) (old : Reading) → reading (unpacked_bytes opened taken rest) f ≡ old → AreUnpacked taken opened rest → LacksEnd taken.lines fault → HasPackFault old.bytes fault
lacks fault taken opened rest f old is a l =
    subst (λ (x : TraceFault). HasPackFault old.bytes x) (sym l.1)
    (subst (λ (r : Reading). IsPackFault r.bytes 5 (length taken.lines + 1)) is (inr (refl, lacks_by_held taken opened rest l.0 a.fine a.held)))

pub lacks_by : (r : Result (List TraceLine) TraceFault) (taken : Taken) (opened : Bool) (rest : List ℕ) (f : Option TraceFault) (old : Reading) → reading (unpacked_bytes opened taken rest) f ≡ old → AreUnpacked taken opened rest → IfErr r (LacksEnd taken.lines) → IfErr r (HasPackFault old.bytes)
lacks_by (Ok trace) taken opened rest f old is a l = tt
lacks_by (Err fault) taken opened rest f old is a l = lacks fault taken opened rest f old is a l
