-- Instructions that read and change nothing but the frame that runs.
use Rattle.std.proofs.Common.{◌≡◌, ℕ, suc, ◌+◌, ◌<◌, ◌≤◌, Bool, true, false, List, [], Option, Some, None, Contains, length, get_or, refl, sym, ap, subst, ◌∙◌, inl, inr, add-one, arith}
use Rattle.std.specs.Prelude.{Result, Ok, Err}
use Rattle.et_code.specs.declared.instr.Instr.{Instr}
use Rattle.et_code.specs.declared.instr.CodeFault.{CodeFault}
use Rattle.et_code.specs.Decoding.{instruction_at}
use Rattle.et_state.specs.Running.{RunningState, MovesInFrame}
use Rattle.et_state.specs.ThreadRoots.{frame_roots}
use Rattle.et_state.specs.Threads.{FrameState}
use Rattle.et_event.specs.declared.rows.Row.{Row}
use Rattle.et_event.specs.FrameSteps.{StepsRunning, IsFrameStep, AreFrameSteps, frame_by_row, frame_decoded, frame_next}
use Rattle.et_event.specs.Sites.{Site}
use Rattle.et_event.specs.Table.{row_of}

-- ONE OF THEM

-- nothing is decoded at the pc
pub none_decoded : (code : List ℕ) (r : RunningState) (fault : CodeFault) → instruction_at code r.frame.pc ≡ Err fault → StepsRunning (frame_next code r.frame) false r r
none_decoded code r fault e = subst (λ (d : Result (Instr × ℕ) CodeFault). StepsRunning (frame_decoded code d r.frame) false r r) (sym e) refl

-- what an instruction that is decoded names
abbrev pub site_in : List ℕ → Instr × ℕ → Site
site_in code x = record { instr = x.0; next = x.1; code = code; pool = []; class = 0 }

-- what is decoded has this row
pub with_row : (code : List ℕ) (r r' : RunningState) (done : Bool) (x : Instr × ℕ) (o : Option Row) → instruction_at code r.frame.pc ≡ Ok x → row_of x.0.opcode ≡ o
    → StepsRunning (frame_by_row (site_in code x) o r.frame) done r r' → StepsRunning (frame_next code r.frame) done r r'
with_row code r r' done x o e row h =
    subst (λ (d : Result (Instr × ℕ) CodeFault). StepsRunning (frame_decoded code d r.frame) done r r') (sym e)
    (subst (λ (q : Option Row). StepsRunning (frame_by_row (site_in code x) q r.frame) done r r') (sym row) h)

-- one that is done
pub done_step : (o : Option FrameState) (r r' : RunningState) → StepsRunning o true r r' → (o ≡ Some r'.frame) × (r'.below ≡ r.below) × MovesInFrame r.frame r'.frame r'.lost
done_step None r r' h = absurd h
done_step (Some f) r r' h = (ap Some (sym h.0), h.1, subst (λ (g : FrameState). MovesInFrame r.frame g r'.lost) (sym h.0) h.2)

-- one that is not
pub undone_step : (o : Option FrameState) (r r' : RunningState) → StepsRunning o false r r' → r' ≡ r
undone_step None r r' h = h
undone_step (Some f) r r' h = absurd h

-- SO MANY OF THEM: the first of the frames, and what runs now
pub record SoFar (code : List ℕ) (e most count : ℕ) (first now : RunningState) (old new : List ℕ) : Type 0 where
  pub steps : AreFrameSteps code count e first.frame now.frame old new
  pub below : now.below ≡ first.below
  pub few : count ≤ most
  -- what stands in the frame has a place among the stamps
  pub places : (o : ℕ) → Contains (frame_roots now.frame) o → o < length new

pub so_far_none : (code : List ℕ) (e most : ℕ) (first : RunningState) (old : List ℕ) → ((o : ℕ) → Contains (frame_roots first.frame) o → o < length old) → SoFar code e most 0 first first old old
unfolding AreFrameSteps
so_far_none code e most first old places = record { steps = (refl, refl); below = refl; few = omega arith; places = places }

more_steps : (code : List ℕ) (e k : ℕ) (f mid f' : FrameState) (old between new : List ℕ) → AreFrameSteps code k e f mid old between → IsFrameStep code (e + k) mid f' between new → AreFrameSteps code (suc k) e f f' old new
unfolding AreFrameSteps
more_steps code e k f mid f' old between new a s = (mid, between, a, s)

pub so_far_more : (code : List ℕ) (e most count : ℕ) (first now next : RunningState) (old between new : List ℕ) → SoFar code e most count first now old between → count < most
    → StepsRunning (frame_next code now.frame) true now next
    → ((o : ℕ) → Contains next.lost o → get_or new o 0 ≡ e + count) → ((o : ℕ) → ¬ Contains next.lost o → get_or new o 0 ≡ get_or between o 0) → length new ≡ length between
    → SoFar code e most (count + 1) first next old new
so_far_more code e most count first now next old between new so lt h stamped kept long =
    let d = done_step (frame_next code now.frame) now next h in
    let s : IsFrameStep code (e + count) now.frame next.frame between new = record { next = d.0; lost = next.lost; moves = d.2; stamped = stamped; kept = kept; long = long } in
    record {
      steps = subst (λ (n : ℕ). AreFrameSteps code n e first.frame next.frame old new) (sym (add-one count)) (more_steps code e count first.frame now.frame next.frame old between new so.steps s);
      below = d.1 ∙ so.below;
      few = omega arith;
      places = λ o c. subst (λ (n : ℕ). o < n) (sym long) (so.places o (elim (d.2.on o c) [ inl there ↦ there | inr never ↦ absurd never ]));
    }

-- what a step loses stood in the frame
pub lost_places : (code : List ℕ) (e most count : ℕ) (first now next : RunningState) (old between : List ℕ) → SoFar code e most count first now old between
    → StepsRunning (frame_next code now.frame) true now next → (o : ℕ) → Contains next.lost o → o < length between
lost_places code e most count first now next old between so h o c = so.places o ((done_step (frame_next code now.frame) now next h).2.was o c)
