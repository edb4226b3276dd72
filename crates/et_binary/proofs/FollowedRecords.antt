-- Records whose lines are followed as they come.
use Rattle.std.proofs.Common.{◌≡◌, ℕ, ◌+◌, true, List, [], ◌∷◌, ◌++◌, length, refl, sym, ap, subst, ◌∙◌, inl, inr}
use Rattle.std.specs.Prelude.{reverse}
use Rattle.std.proofs.lemmas.List.{append-nil, reverse-reverse}
use Rattle.et_base.specs.declared.line.TraceLine.{TraceLine}
use Rattle.et_text.specs.Rules.{has_ended, AreFine}
use Rattle.et_text.specs.Followed.{IsFollowed, RefusesNext, LacksFinish}
use Rattle.et_text.specs.declared.handing.Following.{Following}
use Rattle.et_text.specs.declared.fault.TraceFault.{TraceFault}
use Rattle.et_text.specs.declared.fault.TraceFault.TheVariants as faults
use Rattle.et_binary.specs.Packing.{pack}
use Rattle.et_binary.specs.Packs.{IsUnfinished, IsUnpackedTo}
use Rattle.et_binary.specs.Packs.BreaksRecord.{BreaksOrder}
use Rattle.et_binary.specs.Packs.ShowsPackFault.{ShowsRecord}
use Rattle.et_binary.specs.Packs.LacksRecord.{EndsInRecord}
use Rattle.et_binary.specs.Unpacking.{IsFront}
use Rattle.et_binary.specs.FollowedPacks.{FollowsFront, RefusesFrontNext, IsPackFollowed, IsFaultOfPack}
use Rattle.et_binary.proofs.SomePack.{reads_on}

-- the records at the front of the bytes were followed
pub record AreFollowedTo {F : Type 0} (follows : F → List TraceLine → Type 0) (lines : Following F) (rest bytes : List ℕ) : Type 0 where
  pub past : List TraceLine
  pub followed : IsFollowed follows 2 lines past
  pub read : IsUnpackedTo past rest bytes

pub front_refused : (past : List TraceLine) (line : TraceLine) (behind bytes : List ℕ) (fault : TraceFault) → IsFront line behind bytes → RefusesNext past line fault → RefusesFrontNext past bytes fault
front_refused past line behind bytes faults.NoMemory w h = tt
front_refused past line behind bytes (faults.At kind number) w h = record { breaks = BreaksOrder kind line behind w.range w.parts h.breaks; at = h.at }

-- a record that is taken
pub followed_on : {F : Type 0} (follows : F → List TraceLine → Type 0) (lines new : Following F) (rest behind bytes : List ℕ) (h : AreFollowedTo follows lines rest bytes) → FollowsFront follows new h.past rest behind → AreFollowedTo follows new behind bytes
followed_on follows lines new rest behind bytes h t = record {
  past = t.line ∷ h.past;
  followed = t.taken.followed;
  read = reads_on bytes h.past rest behind t.line t.front t.taken.keeps h.read;
}

-- .. and one that is refused
pub refused_in : (past : List TraceLine) (rest bytes : List ℕ) (fault : TraceFault) → IsUnpackedTo past rest bytes → RefusesFrontNext past rest fault → IsFaultOfPack bytes fault
refused_in past rest bytes faults.NoMemory r h = tt
refused_in past rest bytes (faults.At kind number) r h = inl (ShowsRecord past rest kind number r h.breaks h.at)

-- THE END

pub lacks_end : (past : List TraceLine) (rest bytes : List ℕ) (fault : TraceFault) → IsUnpackedTo past rest bytes → IsUnfinished rest → LacksFinish past fault → IsFaultOfPack bytes fault
lacks_end past rest bytes fault r u l =
    subst (λ (x : TraceFault). IsFaultOfPack bytes x) (sym l.1) (inr (refl, EndsInRecord past rest (length past + 1) r l.0 u refl))

pub pack_followed : {F : Type 0} (follows : F → List TraceLine → Type 0) (follower : F) (past : List TraceLine) (rest bytes : List ℕ) → IsUnpackedTo past rest bytes → rest ≡ [] → has_ended past ≡ true → follows follower past → IsPackFollowed follows follower bytes
pack_followed follows follower past rest bytes r none e f =
    let back = reverse-reverse past in
    record {
      lines = reverse past;
      is_pack = record {
        good = record { fine = subst (AreFine 2) (sym back) r.fine; ended = ap has_ended back ∙ e };
        whole = r.parts ∙ (ap (λ (t : List ℕ). pack (reverse past) ++ t) none ∙ append-nil (pack (reverse past)));
      };
      followed = subst (follows follower) (sym back) f;
    }
