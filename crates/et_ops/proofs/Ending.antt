-- How a plain instruction ends, over the frame that runs and as an event.
use Rattle.std.proofs.Common.{◌≡◌, ℕ, ℤ, Bool, true, false, List, Option, Some, None, refl, sym, ap, subst, ◌∙◌}
use Rattle.std.specs.Prelude.{if◌then◌else◌}
use Rattle.std.specs.Option.{option_map, option_or}
use Rattle.et_pool.specs.Entries.{Item}
use Rattle.et_pool.specs.Looks.{integer_at, long_at, string_at}
use Rattle.et_program.specs.Entries.{Linked}
use Rattle.et_state.specs.declared.ends.EventEnd.{EventEnd}
use Rattle.et_state.specs.declared.records.Record.{Record}
use Rattle.et_state.specs.Outcome.{Outcome}
use Rattle.et_state.specs.Running.{RunningState, MovesInFrame}
use Rattle.et_state.specs.Sound.{IsSound}
use Rattle.et_state.specs.State.{Kept, MachineState, kept_of}
use Rattle.et_state.specs.Threads.{FrameState, rest_of}
use Rattle.et_state.specs.Words.{HasFrame, begun, losing, thread_at, top}
use Rattle.et_event.specs.declared.errors.GuestError.TheVariants.{ArithmeticException}
use Rattle.et_event.specs.declared.rows.Division.{Division}
use Rattle.et_event.specs.declared.rows.FrameRow.{FrameRow}
use Rattle.et_event.specs.declared.rows.Number.{Number}
use Rattle.et_event.specs.declared.rows.Row.{Row}
use Rattle.et_event.specs.declared.rows.Row.TheVariants as rows
use Rattle.et_event.specs.Answered.{EventAnswers}
use Rattle.et_event.specs.Event.{does}
use Rattle.et_event.specs.FrameSteps.{StepsRunning}
use Rattle.et_event.specs.Moments.{begins, moment, throws}
use Rattle.et_event.specs.Plain.{constant, frame_after, on_frame}
use Rattle.et_event.specs.Sites.{Site, AnInt, ALong, AString, LoadedConstant, constant_at, pool_index}
use Rattle.et_ops.specs.declared.ends.PlainEnd.{PlainEnd}
use Rattle.et_ops.specs.declared.ends.PlainEnd.TheVariants as ends
use Rattle.et_ops.specs.Plain.{ChangesFrame, ChangesMore, DoesPlain, RunsPlain, is_done}
use Rattle.et_ops.proofs.Lifting.{landed, landed_led, landed_same, lifted}

-- an instruction of a row of the frame is done, or has no meaning
pub frame_runs : (at : Site) (row : FrameRow) (done : Bool) (r r' : RunningState) → StepsRunning (frame_after at row r.frame) done r r' → RunsPlain at (rows.Frame row) (if done then ends.Done else ends.IllTyped) r r'
frame_runs at row done r r' h = by (frame_after at row r.frame) done (λ e same. ap (λ (x : FrameState). on_frame e (frame_after at row x)) same) h
  where
    by : (o : Option FrameState) (b : Bool) → ChangesFrame at (rows.Frame row) r.frame o → StepsRunning o b r r' → RunsPlain at (rows.Frame row) (if b then ends.Done else ends.IllTyped) r r'
    by (Some f) true is s =
        (λ e same. is e same ∙ ap (λ (x : FrameState). on_frame e (Some x)) (sym s.0), s.1, subst (λ (x : FrameState). MovesInFrame r.frame x r'.lost) (sym s.0) s.2)
    by (Some f) false is s = absurd s
    by None true is s = absurd s
    by None false is s = (is, s)

-- A STRING OF THE POOL

string_first : (int long : Option ℤ) (text : Option (List ℕ)) (bytes : List ℕ) → option_or (option_map AnInt int) (option_or (option_map ALong long) (option_map AString text)) ≡ Some (AString bytes) → text ≡ Some bytes
string_first (Some n) long text bytes h = cc
string_first None (Some n) text bytes h = cc
string_first None None (Some b) bytes h = cc
string_first None None None bytes h = cc

-- its bytes are those that the entry gives
pub string_is : (pool : List (Option Item)) (i : ℕ) (bytes found : List ℕ) → constant_at pool i ≡ Some (AString bytes) → string_at pool i ≡ Some found → constant_at pool i ≡ Some (AString found)
string_is pool i bytes found is there =
    let first : string_at pool i ≡ Some bytes = string_first (integer_at pool i) (long_at pool i) (string_at pool i) bytes is in
    let same : bytes ≡ found = cc in
    is ∙ ap (λ (b : List ℕ). let c : Option LoadedConstant = Some (AString b) in c) same

-- MORE THAN THE FRAME is changed by an event that begins where the machine was

-- .. which loads a string
pub loads_string : (p : Linked) (m m' m'' : MachineState) (t : ℕ) (at : Site) (row : Row) (bytes : List ℕ) (end : EventEnd) (out out' : List Record) → m' ≡ m → row ≡ rows.PoolConstant → constant_at at.pool (pool_index at) ≡ Some (AString bytes)
    → EventAnswers (constant (moment p m' t) at (Some (AString bytes))) end m' m'' out out' → EventAnswers (does (moment p m t) at row) end m m'' out out'
loads_string p m m' m'' t at row bytes end out out' same named is h =
    let loads : does (moment p m t) at row ≡ constant (moment p m t) at (Some (AString bytes)) = ap (λ (r : Row). does (moment p m t) at r) named ∙ ap (λ (x : Option LoadedConstant). constant (moment p m t) at x) is in
    subst (λ (o : Outcome Kept). EventAnswers o end m m'' out out') (sym loads) (subst (λ (k : MachineState). EventAnswers (constant (moment p k t) at (Some (AString bytes))) end k m'' out out') same h)

-- .. or divides by 0
pub divides_by_zero : (p : Linked) (m m' m'' : MachineState) (t : ℕ) (at : Site) (row : Row) (number : Number) (division : Division) (end : EventEnd) (out out' : List Record) → m' ≡ m → row ≡ rows.Divide number division → ChangesMore at row (top m.guest t)
    → EventAnswers (throws (moment p m' t) ArithmeticException (begins (moment p m' t))) end m' m'' out out' → EventAnswers (does (moment p m t) at row) end m m'' out out'
divides_by_zero p m m' m'' t at row number division end out out' same named more h =
    let thrown = subst (λ (r : Row). ChangesMore at r (top m.guest t)) named more in
    subst (λ (o : Outcome Kept). EventAnswers o end m m'' out out') (sym (ap (λ (r : Row). does (moment p m t) at r) named ∙ thrown (moment p m t) refl))
    (subst (λ (k : MachineState). EventAnswers (throws (moment p k t) ArithmeticException (begins (moment p k t))) end k m'' out out') same h)

-- AS AN EVENT of a machine out of which the frames of the thread were lifted
module _ (m : MachineState) (t : ℕ) (at : Site) (row : Row) (r r' : RunningState) (has : HasFrame m.guest t) (frame : r.frame ≡ top m.guest t) (below : r.below ≡ rest_of (thread_at m.guest t).frames) where
  pub plain_led : (end : PlainEnd) → is_done end ≡ true → IsSound (kept_of m) → RunsPlain at row end r r' → DoesPlain at row end t m (landed (losing (begun (lifted m t)) r'.lost) t r')
  plain_led ends.Done done sound h =
      (r'.frame, subst (λ (f : FrameState). ChangesFrame at row f (Some r'.frame)) frame h.0, landed_led m t r r' (Some r'.frame) sound has frame below (refl, h.1, h.2))
  plain_led ends.IllTyped done sound h = cc
  plain_led ends.More done sound h = cc

  back : r' ≡ r → landed (lifted m t) t r' ≡ m
  back same = ap (λ (q : RunningState). landed (lifted m t) t q) same ∙ landed_same m t r has frame below

  pub plain_back : (end : PlainEnd) → is_done end ≡ false → RunsPlain at row end r r' → DoesPlain at row end t m (landed (lifted m t) t r')
  plain_back ends.Done undone h = cc
  plain_back ends.IllTyped undone h = (subst (λ (f : FrameState). ChangesFrame at row f None) frame h.0, back h.1)
  plain_back ends.More undone h = (subst (λ (f : FrameState). ChangesMore at row f) frame h.0, back h.1)
