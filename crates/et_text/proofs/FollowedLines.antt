-- Lines that are followed as they come.
use Rattle.std.proofs.Common.{◌≡◌, ℕ, ◌+◌, ◌<◌, true, Option, Some, None, Result, Ok, Err, List, [], ◌∷◌, ◌++◌, length, refl, sym, ap, subst, ◌∙◌, arith, inl, inr}
use Rattle.std.specs.Prelude.{reverse, OnOk}
use Rattle.std.proofs.lemmas.List.{append-nil, reverse-reverse}
use Rattle.et_base.specs.declared.line.TraceLine.{TraceLine}
use Rattle.et_text.specs.Ranges.{IsInRange}
use Rattle.et_text.specs.Rules.{has_ended, next_fault, AreFine}
use Rattle.et_text.specs.Spelling.{line_body, text}
use Rattle.et_text.specs.Text.{IsOneLine, IsLineSpelled, IsReadTo, IsTraceFault}
use Rattle.et_text.specs.Text.BreaksText.{BreaksRule}
use Rattle.et_text.specs.Text.EndsWrong.{EndsEarly, EndsLate}
use Rattle.et_text.specs.Follows.{Follows, StandsOn}
use Rattle.et_text.specs.Stream.{FirstLine}
use Rattle.et_text.specs.Followed.{IsFollowed, IsLineFollowed, BreaksNext, RefusesNext, LacksFinish, FollowsBytes, RefusesBytesNext, FollowsFirst, RefusesFirst, IsFollowedTo, IsTextFollowed, IsFaultOfText}
use Rattle.et_text.specs.declared.standing.Standing.{Standing}
use Rattle.et_text.specs.declared.handing.Following.{Following}
use Rattle.et_text.specs.declared.fault.TraceFault.{TraceFault}
use Rattle.et_text.specs.declared.fault.TraceFault.TheVariants as faults
use Rattle.et_text.proofs.SomeAnswer.{reads_on}

-- ONE LINE

-- what the rules find of the next line
abbrev Finds : Standing → Standing → TraceLine → Option ℕ → Type 0
Finds s s' line found = (version : ℕ) (past : List TraceLine) → Follows s s' version past line found

pub keeps : {F : Type 0} (follows : F → List TraceLine → Type 0) (version : ℕ) (lines : Following F) (s' : Standing) (past : List TraceLine) (line : TraceLine) (found : Option ℕ)
    → IsFollowed follows version lines past → IsInRange version line → Finds lines.standing s' line found → found ≡ None → next_fault past line ≡ None
keeps follows version lines s' past line found h r f none = sym (f version past h.stands r).0 ∙ none

pub line_followed : {F : Type 0} (follows : F → List TraceLine → Type 0) (version : ℕ) (lines new : Following F) (past : List TraceLine) (line : TraceLine) (found : Option ℕ)
    → IsFollowed follows version lines past → IsInRange version line → Finds lines.standing new.standing line found → found ≡ None
    → new.number ≡ lines.number + 1 → follows new.follower (line ∷ past) → IsLineFollowed follows version new past line
line_followed follows version lines new past line found h r f none n followed =
    let a = f version past h.stands r in
    let fits : next_fault past line ≡ None = sym a.0 ∙ none in
    record {
      keeps = fits;
      followed = record {
        stands = subst (λ (x : Option ℕ). StandsOn new.standing past line x) none a.1;
        fine = (h.fine, r, fits);
        at = omega (arith, n, h.at);
        followed = followed;
      };
    }

pub line_refused : {F : Type 0} (follows : F → List TraceLine → Type 0) (version : ℕ) (lines : Following F) (s' : Standing) (past : List TraceLine) (line : TraceLine) (found : Option ℕ) (kind : ℕ)
    → IsFollowed follows version lines past → IsInRange version line → Finds lines.standing s' line found → found ≡ Some kind → BreaksNext past line kind lines.number
line_refused follows version lines s' past line found kind h r f some = record { breaks = sym (f version past h.stands r).0 ∙ some; at = h.at }

-- ONE LINE OF A TEXT

pub bytes_followed : {F : Type 0} (follows : F → List TraceLine → Type 0) (r : Result (Unit {0}) TraceFault) (new : Following F) (past : List TraceLine) (line : TraceLine) (bytes : List ℕ)
    → IsLineSpelled line bytes → OnOk r (IsLineFollowed follows 1 new past line) → OnOk r (FollowsBytes follows new past bytes)
bytes_followed follows (Ok x) new past line bytes s h = record { line = line; spelled = s; taken = h }
bytes_followed follows (Err e) new past line bytes s h = tt

pub bytes_refused : (past : List TraceLine) (line : TraceLine) (bytes : List ℕ) (fault : TraceFault) → IsLineSpelled line bytes → RefusesNext past line fault → RefusesBytesNext past bytes fault
bytes_refused past line bytes faults.NoMemory s h = tt
bytes_refused past line bytes (faults.At kind number) s h = record { breaks = BreaksRule kind line s h.breaks; at = h.at }

-- THE FIRST LINE OF BYTES

pub spelled_front : (line : TraceLine) → IsInRange 1 line → IsLineSpelled line (line_body line)
spelled_front line r = record { range = r; spelled = refl }

pub first_refused : (past : List TraceLine) (line behind bytes : List ℕ) (fault : TraceFault) → FirstLine bytes line behind → RefusesBytesNext past line fault → RefusesFirst past bytes fault
first_refused past line behind bytes faults.NoMemory f h = tt
first_refused past line behind bytes (faults.At kind number) f h = record { line = line; behind = behind; first = f; breaks = h }

-- A WHOLE TEXT

-- a line that is refused within a text
pub refused_in : (past : List TraceLine) (rest bytes : List ℕ) (fault : TraceFault) → IsReadTo past rest bytes → RefusesFirst past rest fault → IsFaultOfText bytes fault
refused_in past rest bytes faults.NoMemory r h = tt
refused_in past rest bytes (faults.At kind number) r h =
    inl (record { past = past; line = h.line; behind = h.behind; read = subst (λ (t : List ℕ). IsReadTo past t bytes) h.first.parts r; one_line = h.first.one_line; breaks = h.breaks.breaks; at = h.breaks.at })

-- .. and one that is taken
pub followed_on : {F : Type 0} (follows : F → List TraceLine → Type 0) (lines new : Following F) (behind rest bytes : List ℕ) (h : IsFollowedTo follows lines rest bytes) → FollowsFirst follows new h.past rest behind → IsFollowedTo follows new behind bytes
followed_on follows lines new behind rest bytes h f =
    let t = f.taken in
    record {
      past = t.line ∷ h.past;
      followed = t.taken.followed;
      read = reads_on bytes h.past f.line behind t.line t.spelled t.taken.keeps (subst (λ (r : List ℕ). IsReadTo h.past r bytes) f.first.parts h.read);
    }

-- THE END

pub lacks_end : (past : List TraceLine) (rest bytes : List ℕ) (fault : TraceFault) → IsReadTo past rest bytes → IsOneLine rest → LacksFinish past fault → IsFaultOfText bytes fault
lacks_end past rest bytes fault r o l =
    subst (λ (x : TraceFault). IsFaultOfText bytes x) (sym l.1) (inr (record { past = past; rest = rest; read = r; one_line = o; ends = EndsEarly l.0; at = refl }))

pub ends_late : (past : List TraceLine) (rest bytes : List ℕ) (number : ℕ) → IsReadTo past rest bytes → IsOneLine rest → has_ended past ≡ true → 0 < length rest → number ≡ length past + 1 → IsTraceFault bytes 6 number
ends_late past rest bytes number r o e some at = inr (record { past = past; rest = rest; read = r; one_line = o; ends = EndsLate e some; at = at })

pub text_followed : {F : Type 0} (follows : F → List TraceLine → Type 0) (follower : F) (past : List TraceLine) (rest bytes : List ℕ) → IsReadTo past rest bytes → rest ≡ [] → has_ended past ≡ true → follows follower past → IsTextFollowed follows follower bytes
text_followed follows follower past rest bytes r none e f =
    let back = reverse-reverse past in
    record {
      lines = reverse past;
      is_text = record {
        good = record { fine = subst (AreFine 1) (sym back) r.fine; ended = ap has_ended back ∙ e };
        whole = r.parts ∙ (ap (λ (t : List ℕ). text (reverse past) ++ t) none ∙ append-nil (text (reverse past)));
      };
      followed = subst (follows follower) (sym back) f;
    }
