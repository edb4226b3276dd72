-- The outcome of a plain row leaves a sound state of the program.
use Rattle.std.proofs.Common.{◌≡◌, ℕ, ◌<◌, ◌≤◌, ◌^◌, true, length, None, refl, arith}
use Rattle.std.specs.Prelude.{codes}
use Rattle.et_code.specs.Bodies.{Body}
use Rattle.et_program.specs.Entries.{Linked}
use Rattle.et_state.specs.Threads.{FrameState}
use Rattle.et_state.specs.State.{Kept}
use Rattle.et_state.specs.Words.{top, HasFrame}
use Rattle.et_event.specs.declared.rows.FrameRow.{FrameRow}
use Rattle.et_event.specs.declared.rows.Row.{Row}
use Rattle.et_event.specs.declared.rows.Row.TheVariants as row
use Rattle.et_event.specs.declared.errors.GuestError.TheVariants.{ArithmeticException}
use Rattle.et_event.specs.Errors.{class_called, error_class}
use Rattle.et_event.specs.Event.{does}
use Rattle.et_event.specs.Moments.{begins, with_frame, next_object, instance_made}
use Rattle.et_event.specs.Sites.{Site, code_of_frame}
use Rattle.et_event.specs.Sound.{IsPc, IsSoundFor}
use Rattle.et_event.specs.PlainRows.{is_plain}
use Rattle.et_history.specs.soundness.Outcomes.{KeepsSound}
use Rattle.et_event.specs.Programs.{MakesSound}
use Rattle.et_history.specs.soundness.WellFormed.{IsWellFormed, KeepsFrame}
use Rattle.et_history.proofs.soundness.Frames.{top_well}
use Rattle.et_history.proofs.soundness.Monitors.{string_well}
use Rattle.et_history.proofs.soundness.Outcomes.{begins_well, goes_sound, ends_sound, pending_well, instance_well}
use Rattle.et_event.proofs.SiteAnswers.{moment}
use Rattle.et_history.proofs.soundness.Keeping.{Keeps, MayGo, kept_put, kept_after}
use Rattle.et_history.proofs.soundness.Shapes.{HoldsOfShapes, error_thrown, string_made, by_shape}

-- the state before the event, in which the topmost frame of thread t runs a method
pub record Begins (p : Linked) (s : Kept) (t : ℕ) : Type 0 where
  pub sound : IsSoundFor p s
  pub clock : s.guest.clock < 2 ^ 40
  pub has : HasFrame s.guest t
  pub runs : (top s.guest t).method ≡ None → ⊥
  pub room : length (top s.guest t).operands ≤ (top s.guest t).room

-- what a frame keeps of its method is what the law of a changed frame asks
keeps : (p : Linked) (s : Kept) (t : ℕ) (f' : FrameState) → Begins p s t → Keeps (code_of_frame p (top s.guest t)) (top s.guest t) f' → KeepsFrame p (top s.guest t) f'
keeps p s t f' b k = record { same = k.same; runs = b.runs; pc = k.pc; locals = k.locals; operands = k.operands }

-- THE ROWS

shapes_sound : (p : Linked) (s : Kept) (t next : ℕ) → Begins p s t → MakesSound p → IsPc (code_of_frame p (top s.guest t)) next → HoldsOfShapes (KeepsSound p) (Keeps (code_of_frame p (top s.guest t)) (top s.guest t)) p s t next
shapes_sound p s t next b made there =
    let e = moment p s t in
    let f = top s.guest t in
    let body : Body = code_of_frame p f in
    let well : IsWellFormed p (begins e).state = begins_well p e b.sound b.clock in
    record {
      no_meaning = tt;
      operands = λ vs. kept_put body f next vs there;
      pushed = λ v lt. record { same = refl; locals = refl; operands = omega arith; pc = there };
      framed = λ g k. goes_sound p (with_frame e g (begins e)) b.sound.fits (framed_well g k);
      thrown = ends_sound p (error_thrown p s t) (pending_well e (next_object (begins e)) (instance_made e (error_class p ArithmeticException) (begins e)) (instance_well e (error_class p ArithmeticException) (begins e) (made.error ArithmeticException) well) b.has.thread);
      known = λ g k. ends_sound p (with_frame e g (begins e)) (framed_well g k);
      made = λ bytes g k. ends_sound p (with_frame e g (string_made p s t bytes))
          (top_well p (string_made p s t bytes).state t g
          (string_well p (instance_made e (class_called p (codes "java/lang/String")) (begins e)).state bytes (next_object (begins e)) (instance_well e (class_called p (codes "java/lang/String")) (begins e) made.string well))
          (record { thread = b.has.thread; frame = b.has.frame }) (keeps p s t g b k));
    }
  where
    framed_well : (g : FrameState) → Keeps (code_of_frame p (top s.guest t)) (top s.guest t) g → IsWellFormed p (with_frame (moment p s t) g (begins (moment p s t))).state
    framed_well g k = top_well p (begins (moment p s t)).state t g (begins_well p (moment p s t) b.sound b.clock) (record { thread = b.has.thread; frame = b.has.frame }) (keeps p s t g b k)

pub does_sound : (p : Linked) (s : Kept) (t : ℕ) (at : Site) (r : Row) → Begins p s t → MakesSound p → is_plain r ≡ true → IsPc (code_of_frame p (top s.guest t)) at.next
    → ((x : FrameRow) → r ≡ row.Frame x → MayGo (code_of_frame p (top s.guest t)) at x (top s.guest t).pc) → KeepsSound p (does (moment p s t) at r)
does_sound p s t at r b made plain there go =
    let f = top s.guest t in
    by_shape (KeepsSound p) (Keeps (code_of_frame p f) f) p s t b.has at (shapes_sound p s t at.next b made there) r plain (λ x e. kept_after (code_of_frame p f) at x f b.room (go x e))
