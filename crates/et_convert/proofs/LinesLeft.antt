-- The lines that are left of a trace that is read once more.
use Rattle.std.proofs.Common.{◌≡◌, ◌≢◌, ℕ, ◌+◌, ◌-◌, ◌<◌, ◌≤◌, Option, List, [], ◌∷◌, ◌++◌, length, take, drop, get_or, refl, sym, ap, subst, ◌∙◌, arith, inl, inr, append_assoc, length-append}
use Rattle.std.specs.Prelude.{reverse, All, Some, None, IfNone, OnOk, OnErr, Result}
use Rattle.std.specs.List.{flat_map}
use Rattle.std.proofs.lemmas.List.{reverse-append, reverse-reverse, length-drop, drop_more, take_rest}
use Rattle.std.proofs.lemmas.List.Elements.{All-nil, All-push, All-head, All-tail}
use Rattle.et_text.proofs.OneAnswer.{lf_in}
use Rattle.et_base.specs.declared.format.Format.{Format}
use Rattle.et_base.specs.declared.format.Format.TheVariants as formats
use Rattle.et_base.specs.declared.line.TraceLine.{TraceLine}
use Rattle.et_io.specs.Sink.{Log, with_more, TakesUpTo, TakesPrefix}
use Rattle.et_io.proofs.Gathered.{piece_put, piece_fails, stops_early, last_put, last_fails}
use Rattle.et_text.specs.Ranges.{IsInRange, HasShortNames}
use Rattle.et_text.specs.Rules.{AreFine, IsGood}
use Rattle.et_text.specs.Spelling.{line_body, spelling, text}
use Rattle.et_text.specs.Stream.{FirstLine}
use Rattle.et_text.specs.Text.{IsOneLine, IsLineSpelled, IsTextOf}
use Rattle.et_text.proofs.LineKinds.{one_line, from_all}
use Rattle.et_text.proofs.Splitting.{NoLf, first_lf, no_lf-line}
use Rattle.et_binary.specs.Packing.{packing, opening, pack, written_record}
use Rattle.et_binary.specs.Packs.{IsMalformed, IsUnfinished, IsPackOf}
use Rattle.et_binary.specs.Packs.IsMalformed.{HasNoLetter, IsOutOfRange}
use Rattle.et_binary.specs.Unpacking.{IsFront}
use Rattle.et_binary.proofs.Beginnings.{range_packed}
use Rattle.et_binary.proofs.OnePack.{one_record, malformed_stops, no_record}
use Rattle.et_convert.specs.Conversions.{version_format, other_format, converted_line, converted_bytes}
use Rattle.et_convert.proofs.Converting.{bytes_convert, version_good}
use Rattle.et_convert.specs.Rewriting.{bytes_of, AreLeft, StandsFirst, HasLines}

-- A LINE OF A TEXT

-- where the first line ends, the first of the lines does
record IsCut (lines : List TraceLine) (line behind : List ℕ) : Type 0 where
  pub first : TraceLine
  pub more : List TraceLine
  pub parts : lines ≡ first ∷ more
  pub spelled : IsLineSpelled first line
  pub left : AreLeft formats.Text more behind

cut : (lines : List TraceLine) (bytes line behind : List ℕ) → AreLeft formats.Text lines bytes → FirstLine bytes line behind → IsCut lines line behind
cut [] bytes line behind a f = absurd (omega (arith, ap length (sym a.bytes_are ∙ f.parts), length-append line (10 ∷ behind)))
cut (x ∷ more) bytes line behind a f =
    let r = All-head (IsInRange 1) x more a.ranges in
    let same = first_lf line (line_body x) behind (text more) (from_all (λ b. b ≢ 10) line f.one_line) (no_lf-line x r) (sym f.parts ∙ (a.bytes_are ∙ append_assoc (line_body x) (10 ∷ []) (text more))) in
    record {
      first = x;
      more = more;
      parts = refl;
      spelled = record { range = r; spelled = same.front };
      left = record { ranges = All-tail (IsInRange 1) x more a.ranges; bytes_are = same.back };
    }

pub text_some : (lines : List TraceLine) (bytes line behind : List ℕ) (read : TraceLine) → AreLeft formats.Text lines bytes → FirstLine bytes line behind → IsLineSpelled read line → StandsFirst formats.Text lines read behind
text_some lines bytes line behind read a f s =
    let c = cut lines bytes line behind a f in
    record { more = c.more; first = c.parts ∙ ap (λ x. x ∷ c.more) (one_line c.first read line c.spelled s); left = c.left }

pub text_none : (lines : List TraceLine) (bytes : List ℕ) → AreLeft formats.Text lines bytes → IsOneLine bytes → lines ≡ []
text_none [] bytes a o = refl
text_none (x ∷ more) bytes a o = absurd (lf_in (line_body x) (text more) (subst NoLf (a.bytes_are ∙ append_assoc (line_body x) (10 ∷ []) (text more)) (from_all (λ b. b ≢ 10) bytes o)))

pub text_form : (bytes line behind : List ℕ) → HasLines formats.Text bytes → FirstLine bytes line behind → ((l : TraceLine) → IsLineSpelled l line → ⊥) → ⊥
text_form bytes line behind h f none = let c = cut h.0 bytes line behind h.1 f in none c.first c.spelled

-- A RECORD

pub record_some : (lines : List TraceLine) (bytes behind : List ℕ) (line : TraceLine) → AreLeft formats.Binary lines bytes → IsFront line behind bytes → StandsFirst formats.Binary lines line behind
record_some [] bytes behind line a f = absurd (no_record line behind (sym a.bytes_are ∙ f.parts))
record_some (x ∷ more) bytes behind line a f =
    let r = All-head (IsInRange 2) x more a.ranges in
    let same = one_record x line (packing x) (packing line) (flat_map packing more) behind (range_packed x r) (range_packed line f.range) (sym a.bytes_are ∙ f.parts) in
    record { more = more; first = ap (λ y. y ∷ more) same.0; left = record { ranges = All-tail (IsInRange 2) x more a.ranges; bytes_are = sym same.1 } }

pub record_none : (lines : List TraceLine) (bytes : List ℕ) → AreLeft formats.Binary lines bytes → IsUnfinished bytes → lines ≡ []
record_none [] bytes a u = refl
record_none (x ∷ more) bytes a u = absurd (u.not_whole x (packing x) (flat_map packing more) a.bytes_are (range_packed x (All-head (IsInRange 2) x more a.ranges)))

nothing_malformed : (bytes : List ℕ) → bytes ≡ [] → IsMalformed bytes → ⊥
nothing_malformed bytes none (HasNoLetter b behind e n) = absurd (let clash : [] ≡ b ∷ behind = sym none ∙ e in cc)
nothing_malformed bytes none (IsOutOfRange line first behind e p out) = no_record line behind (sym none ∙ (e ∙ ap (λ (t : List ℕ). t ++ behind) p.packed))

malformed : (lines : List TraceLine) (bytes : List ℕ) → AreLeft formats.Binary lines bytes → IsMalformed bytes → ⊥
malformed [] bytes a m = nothing_malformed bytes a.bytes_are m
malformed (x ∷ more) bytes a m = malformed_stops bytes (flat_map packing more) x m (All-head (IsInRange 2) x more a.ranges) a.bytes_are

pub record_form : (bytes : List ℕ) → HasLines formats.Binary bytes → IsMalformed bytes → ⊥
record_form bytes h m = malformed h.0 bytes h.1 m

pub if_none : {X : Type 0} {P Q : Type 0} (o : Option X) → (P → Q) → IfNone o P → IfNone o Q
if_none None f p = f p
if_none (Some x) f p = tt

-- what stands behind a line is shorter
pub shorter : (format : Format) (line : TraceLine) (more : List TraceLine) (bytes behind : List ℕ) → bytes ≡ bytes_of format (line ∷ more) → behind ≡ bytes_of format more → length behind < length bytes
shorter formats.Text line more bytes behind e f = omega (arith, ap length e, ap length f, length-append (spelling line) (text more), length-append (line_body line) (10 ∷ []))
shorter formats.Binary line more bytes behind e f = omega (arith, ap length e, ap length f, length-append (packing line) (flat_map packing more))

-- ALL LINES

ranges_of : (version : ℕ) (past : List TraceLine) → AreFine version past → All (IsInRange version) (reverse past)
ranges_of version [] h = All-nil (IsInRange version)
ranges_of version (line ∷ past) h = subst (All (IsInRange version)) (sym (reverse-append (line ∷ []) past)) (All-push (IsInRange version) (reverse past) line (ranges_of version past h.0) h.1)

pub text_left : (lines : List TraceLine) (bytes : List ℕ) → IsTextOf lines bytes → AreLeft formats.Text lines bytes
text_left lines bytes t = record { ranges = subst (All (IsInRange 1)) (reverse-reverse lines) (ranges_of 1 (reverse lines) t.good.fine); bytes_are = t.whole }

pub pack_left : (lines : List TraceLine) (bytes : List ℕ) → IsPackOf lines bytes → AreLeft formats.Binary lines (take (length bytes - 4) (drop 4 bytes))
pack_left lines bytes p = record {
  ranges = subst (All (IsInRange 2)) (reverse-reverse lines) (ranges_of 2 (reverse lines) p.good.fine);
  bytes_are = take_rest bytes 4 ∙ ap (drop 4) p.whole;
}

pub pack_long : (lines : List TraceLine) (bytes : List ℕ) → IsPackOf lines bytes → 4 ≤ length bytes
pack_long lines bytes p = omega (arith, ap length p.whole, length-append opening (flat_map packing lines))

-- what is written of the lines of a text, or of records, is what they are converted to
module _ (packs : (lines : List TraceLine) → IsGood 2 lines → flat_map written_record lines ≡ pack lines) (lines : List TraceLine) (bytes : List ℕ) (short : All HasShortNames lines) where
  pub text_written : IsTextOf lines bytes → flat_map (converted_line formats.Binary) lines ≡ converted_bytes lines
  text_written t = bytes_convert packs formats.Binary lines (record { version = 1; known = inl refl; good = t.good }) short (sym (ap (λ v. other_format (version_format v)) (version_good 1 lines t.good)))

  pub pack_written : IsPackOf lines bytes → flat_map (converted_line formats.Text) lines ≡ converted_bytes lines
  pack_written p = bytes_convert packs formats.Text lines (record { version = 2; known = inr refl; good = p.good }) short (sym (ap (λ v. other_format (version_format v)) (version_good 2 lines p.good)))

-- WHAT WAS PUT

-- the lines up to the rest were put or are gathered
pub record ArePutTo (format : Format) (lines : List TraceLine) (rest : List ℕ) (old mid : Log) (gathered : List ℕ) : Type 0 where
  pub number : ℕ
  pub left : AreLeft format (drop number lines) rest
  pub taken : TakesUpTo old mid (flat_map (converted_line (other_format format)) (take number lines)) gathered

record IsAt (lines : List TraceLine) (number : ℕ) (line : TraceLine) (more : List TraceLine) : Type 0 where
  pub fits : number < length lines
  pub is : get_or lines number line ≡ line
  pub behind : drop (number + 1) lines ≡ more

at : (lines : List TraceLine) (number : ℕ) (line : TraceLine) (more : List TraceLine) → drop number lines ≡ line ∷ more → IsAt lines number line more
at lines number line more e =
    let fits : number < length lines = omega (arith, ap length e, length-drop number lines) in
    let parts : get_or lines number line ∷ drop (number + 1) lines ≡ line ∷ more = sym (drop_more lines number line fits) ∙ e in
    record { fits = fits; is = cc; behind = cc }

module _ (format : Format) (lines : List TraceLine) (rest : List ℕ) (old mid : Log) (gathered : List ℕ) (h : ArePutTo format lines rest old mid gathered) where
  abbrev written : TraceLine → List ℕ
  written line = converted_line (other_format format) line

  -- one line more
  pub puts : (line : TraceLine) (behind : List ℕ) (new : Log) (more left : List ℕ) → StandsFirst format (drop h.number lines) line behind → more ≡ gathered ++ written line → TakesUpTo mid new more left → ArePutTo format lines behind old new left
  puts line behind new more left s e b =
      let i = at lines h.number line s.more s.first in
      record {
        number = h.number + 1;
        left = subst (λ t. AreLeft format t behind) (sym i.behind) s.left;
        taken = piece_put written lines h.number line old mid new gathered more left i.fits h.taken (e ∙ ap (λ x. gathered ++ written x) (sym i.is)) b;
      }

  -- .. which is not put
  pub fails : (line : TraceLine) (behind : List ℕ) (new : Log) (more : List ℕ) → StandsFirst format (drop h.number lines) line behind → more ≡ gathered ++ written line → TakesPrefix mid new more → TakesPrefix old new (flat_map written lines)
  fails line behind new more s e b =
      let i = at lines h.number line s.more s.first in
      piece_fails written lines h.number line old mid new gathered more i.fits h.taken (e ∙ ap (λ x. gathered ++ written x) (sym i.is)) b

  -- nothing more is put
  pub stops : TakesPrefix old mid (flat_map written lines)
  stops = stops_early written lines h.number old mid gathered h.taken

  none_left : drop h.number lines ≡ [] → length lines ≤ h.number
  none_left e = omega (arith, ap length e, length-drop h.number lines)

  -- the end
  pub ends : {T E : Type 0} (r : Result T E) (new : Log) → drop h.number lines ≡ [] → OnOk r (new ≡ with_more mid gathered) → OnOk r (new ≡ with_more old (flat_map written lines))
  ends r new e ok = last_put written lines h.number old mid new gathered r (none_left e) h.taken ok

  pub ends_early : {T E : Type 0} (r : Result T E) (new : Log) → drop h.number lines ≡ [] → OnErr r (TakesPrefix mid new gathered) → OnErr r (TakesPrefix old new (flat_map written lines))
  ends_early r new e err = last_fails written lines h.number old mid new gathered r (none_left e) h.taken err
