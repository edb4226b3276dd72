-- Which turns are of texts, and what the table of events says of the others.
use Rattle.std.proofs.Common.{◌≡◌, ℕ, Bool, true, false, inl, inr, List, [], length, append-nil, Option, Some, None, Result, Ok, Err, refl, sym, ◌∙◌, ap, subst}
use Rattle.std.specs.Prelude.{◌⊎◌, if◌then◌else◌, is_some, option_and_then, option_map, unwrap_or, IfOk, IsSome}
use Rattle.std.specs.Option.{option_or, option_map_or}
use Rattle.et_calls.proofs.Told.{same_native}
use Rattle.et_base.specs.declared.value.Value.{Value}
use Rattle.et_base.proofs.Options.{is_none}
use Rattle.et_code.specs.declared.instr.Instr.{Instr}
use Rattle.et_code.specs.declared.instr.CodeFault.{CodeFault}
use Rattle.et_program.specs.BuiltIns.{text_method_of}
use Rattle.et_program.specs.BootTexts.TextMethod.{TextMethod}
use Rattle.et_program.specs.Entries.{Linked}
use Rattle.et_program.specs.Members.{kept}
use Rattle.et_state.specs.declared.ends.EventEnd.{EventEnd}
use Rattle.et_state.specs.declared.ends.EventEnd.TheVariants as ends
use Rattle.et_state.specs.declared.records.Record.{Record}
use Rattle.et_state.specs.declared.stage.Turn.{Turn}
use Rattle.et_state.specs.declared.stage.Turn.TheVariants.{Instruction}
use Rattle.et_state.specs.Answers.{SaysWhereDone}
use Rattle.et_state.specs.Outcome.{Outcome, state_after}
use Rattle.et_state.specs.Outcome as outcome
use Rattle.et_state.specs.Spoken.{spoken}
use Rattle.et_state.specs.State.{Kept, MachineState, kept_of}
use Rattle.et_state.specs.Texts.{Texts, no_texts}
use Rattle.et_state.specs.Threads.{turn_of}
use Rattle.et_state.specs.Words.{top}
use Rattle.et_event.specs.declared.families.Family.{Family}
use Rattle.et_event.specs.declared.families.Family.TheVariants.{Calls, Refs}
use Rattle.et_event.specs.declared.rows.CallRow.TheVariants.{Invoke}
use Rattle.et_event.specs.declared.rows.Row.{Row}
use Rattle.et_event.specs.declared.rows.Row.TheVariants as row
use Rattle.et_event.specs.Answered.{EventAnswers, DefersOrAnswers, TextAnswers}
use Rattle.et_event.specs.Event.{event}
use Rattle.et_event.specs.Families.{family_of, family_of_row, family_of_turn, row_at}
use Rattle.et_event.specs.Moments.{Moment, current_frame, thread_of}
use Rattle.et_event.specs.Out.{OutRead, out_at, out_by, out_in, out_method, out_turn}
use Rattle.et_event.specs.Selected.{TextCall, deferred_at, deferred_by, deferred_call, deferred_in, passed_at, text_call, text_call_at, text_call_by, text_call_in, text_call_of}
use Rattle.et_event.specs.Sites.{Site, decoded_at, site_of}
use Rattle.et_event.specs.Table.{row_of}
use Rattle.et_event.specs.TextRows.{said_in}
use Rattle.et_event.specs.Told.{event_with_texts, keeping, said_by}
use Rattle.et_event.proofs.Answering.{if_ok}
use Rattle.et_event.proofs.Deferrals.{answered, none_deferred, not_answered}
use Rattle.et_event.proofs.Told.{beside-table, call-blind}
use Rattle.et_event.proofs.Beside.{texts-answered}
use Rattle.et_run.specs.WithTexts.{text_turn}

-- A TURN OF ANOTHER FAMILY than calls calls no deferred method, and one of another family than fields doesn't read System.out

other_row : (e : Moment) (at : Site) (r : Option Row) → ((family_of_row r ≡ Calls → ⊥) → option_and_then (deferred_at e at) r ≡ None) × ((family_of_row r ≡ Refs → ⊥) → option_and_then (out_at e at) r ≡ None)
other_row e at (Some (row.Heap r)) = (λ other. refl, λ other. absurd (other refl))
other_row e at (Some (row.Call r)) = (λ other. absurd (other refl), λ other. refl)
other_row e at r = (λ other. refl, λ other. refl)

other_decoded : (e : Moment) (d : Result (Instr × ℕ) CodeFault) → ((family_of_row (row_at d) ≡ Calls → ⊥) → deferred_by e d ≡ None) × ((family_of_row (row_at d) ≡ Refs → ⊥) → out_by e d ≡ None)
other_decoded e (Err fault) = (λ other. refl, λ other. refl)
other_decoded e (Ok x) = other_row e (site_of e.program (current_frame e) x) (row_of x.0.opcode)

other_turn : (e : Moment) (turn : Turn)
    → ((family_of_turn turn (row_at (decoded_at e.program (current_frame e))) ≡ Calls → ⊥) → deferred_in e turn ≡ None) × ((family_of_turn turn (row_at (decoded_at e.program (current_frame e))) ≡ Refs → ⊥) → out_in e turn ≡ None)
other_turn e Instruction = other_decoded e (decoded_at e.program (current_frame e))
other_turn e turn = (λ other. refl, λ other. refl)

pub uncalled : (p : Linked) (s : Kept) (t : ℕ) → (family_of p s t ≡ Calls → ⊥) → deferred_call p s t ≡ None
unfolding deferred_call
uncalled p s t other =
    let e : Moment = record { program = p; before = s; thread = t } in
    (other_turn e (turn_of (thread_of e))).0 other

pub unread : (p : Linked) (s : Kept) (t : ℕ) → (family_of p s t ≡ Refs → ⊥) → out_turn p s t ≡ None
unfolding out_turn
unread p s t other =
    let e : Moment = record { program = p; before = s; thread = t } in
    (other_turn e (turn_of (thread_of e))).1 other

abbrev is_of_texts : Linked → ℕ → Bool
is_of_texts p m = is_some (text_method_of p m)

-- WHICH TURNS ARE OF TEXTS

by_call : (p : Linked) (c d : Option ℕ) → kept (is_of_texts p) c ≡ None → d ≡ None → option_or (kept (is_of_texts p) c) d ≡ None
by_call p c d none rest = ap (λ (o : Option ℕ). option_or o d) none ∙ rest

unread_method : (p : Linked) (s : Kept) (t : ℕ) → out_turn p s t ≡ None → out_method p s t ≡ None
unread_method p s t none = ap (λ (o : Option OutRead). option_map (λ (x : OutRead). unwrap_or (top s.guest t).method 0) o) none

-- none of another family
other_family : (p : Linked) (s : Kept) (t : ℕ) (f : Family) → family_of p s t ≡ f → (f ≡ Calls → ⊥) → (f ≡ Refs → ⊥) → text_turn p s t ≡ None
other_family p s t f is calls refs =
    by_call p (deferred_call p s t) (out_method p s t)
    (ap (kept (is_of_texts p)) (uncalled p s t (λ e. calls (sym is ∙ e))))
    (unread_method p s t (unread p s t (λ e. refs (sym is ∙ e))))

-- .. so what its event call answers is answered for it
pub other_answers : (p : Linked) (t : ℕ) (f : Family) (m m' : MachineState) (out out' : List Record) {E : Type 0} (r : Result EventEnd E) → family_of p (kept_of m) t ≡ f → (f ≡ Calls → ⊥) → (f ≡ Refs → ⊥)
    → IfOk r (λ end. EventAnswers (event p (kept_of m) t) end m m' out out') → IfOk r (λ end. DefersOrAnswers (text_turn p (kept_of m) t) (event p (kept_of m) t) end m m' out out')
other_answers p t f m m' out out' r is calls refs h =
    if_ok r (λ end a. answered (text_turn p (kept_of m) t) (event p (kept_of m) t) end m m' out out' (other_family p (kept_of m) t f is calls refs) a) h

pub other_not : (p : Linked) (s : Kept) (t : ℕ) (f : Family) → family_of p s t ≡ f → (f ≡ Calls → ⊥) → (f ≡ Refs → ⊥) → IsSome (text_turn p s t) → ⊥
other_not p s t f is calls refs some = none_deferred (text_turn p s t) (other_family p s t f is calls refs) some

mapped : (f : OutRead → ℕ) (o : Option OutRead) → IsSome (option_map f o) → IsSome o
mapped f None h = h
mapped f (Some x) h = refl

unmapped : (f : OutRead → ℕ) (o : Option OutRead) → option_map f o ≡ None → o ≡ None
unmapped f None h = refl
unmapped f (Some x) h = cc

refs_calls_not : Refs ≡ Calls → ⊥
refs_calls_not e = cc

calls_refs_not : Calls ≡ Refs → ⊥
calls_refs_not e = cc

-- an instruction on fields, arrays and classes is of texts where it reads System.out
heap_turn : (p : Linked) (s : Kept) (t : ℕ) → family_of p s t ≡ Refs → out_method p s t ≡ text_turn p s t
heap_turn p s t is = sym (ap (λ (o : Option ℕ). option_or (kept (is_of_texts p) o) (out_method p s t)) (uncalled p s t (λ e. refs_calls_not (sym is ∙ e))))

pub heap_answers : (p : Linked) (s : Kept) (t : ℕ) (o : Outcome Kept) (end : EventEnd) (m m' : MachineState) (out out' : List Record) → family_of p s t ≡ Refs → DefersOrAnswers (out_method p s t) o end m m' out out' → DefersOrAnswers (text_turn p s t) o end m m' out out'
heap_answers p s t o end m m' out out' is h = subst (λ (q : Option ℕ). DefersOrAnswers q o end m m' out out') (heap_turn p s t is) h

pub heap_read : (p : Linked) (s : Kept) (t : ℕ) → family_of p s t ≡ Refs → IsSome (text_turn p s t) → IsSome (out_turn p s t)
heap_read p s t is some = mapped (λ (x : OutRead). unwrap_or (top s.guest t).method 0) (out_turn p s t) (subst (λ (q : Option ℕ). IsSome q) (sym (heap_turn p s t is)) some)

-- A CALL is of texts where its method is one of texts

-- the number that an answer has
number_in : EventEnd → ℕ → ℕ
number_in (ends.Native m) n = m
number_in other n = n

-- where another method was called, the turn is none of texts, and nothing was changed
pub called_other : (p : Linked) (c d : Option ℕ) (o : Outcome Kept) (method : ℕ) (m m' : MachineState) (out out' : List Record) → d ≡ None → is_of_texts p method ≡ false → DefersOrAnswers c o (ends.Native method) m m' out out'
    → (option_or (kept (is_of_texts p) c) d ≡ None) × IsSome c × (m' ≡ m) × (out' ≡ out)
called_other p None d o method m m' out out' none is h = absurd (not_answered o method m m' out out' h)
called_other p (Some k) d o method m m' out out' none is h =
    let here : is_of_texts p k ≡ false = subst (λ (n : ℕ). is_of_texts p n ≡ false) (same_native method k h.0) is in
    (ap (λ (b : Bool). option_or (if b then Some k else None) d) here ∙ none, refl, h.1, h.2)

-- .. and else what was answered is answered for it: a method of texts, or that no call was left to others
pub called : (p : Linked) (c d : Option ℕ) (o : Outcome Kept) (end : EventEnd) (m m' : MachineState) (out out' : List Record) → d ≡ None → ((method : ℕ) → end ≡ ends.Native method → is_of_texts p method ≡ true) → DefersOrAnswers c o end m m' out out'
    → DefersOrAnswers (option_or (kept (is_of_texts p) c) d) o end m m' out out'
called p None d o end m m' out out' none texts h = subst (λ (q : Option ℕ). DefersOrAnswers q o end m m' out out') (sym none) h
called p (Some k) d o end m m' out out' none texts h = subst (λ (b : Bool). DefersOrAnswers (option_or (if b then Some k else None) d) o end m m' out out') (sym (texts k h.0)) h

-- a call reads no System.out
pub call_unread : (p : Linked) (s : Kept) (t : ℕ) → family_of p s t ≡ Calls → out_method p s t ≡ None
call_unread p s t is = unread_method p s t (unread p s t (λ e. calls_refs_not (sym is ∙ e)))

deferred_some : (p : Linked) (c d : Option ℕ) → d ≡ None → IsSome (option_or (kept (is_of_texts p) c) d) → IsSome c
deferred_some p None d none some = subst (λ (q : Option ℕ). IsSome q) none some
deferred_some p (Some k) d none some = refl

pub text_deferred : (p : Linked) (s : Kept) (t : ℕ) → family_of p s t ≡ Calls → IsSome (text_turn p s t) → IsSome (deferred_call p s t)
text_deferred p s t is some = deferred_some p (deferred_call p s t) (out_method p s t) (call_unread p s t is) some

-- WHAT A TURN OF TEXTS IS

text_called : (at : Site) (arguments : List Value) (p : Linked) (c : Option ℕ) → is_some (option_and_then (λ m. text_call_of at arguments (text_method_of p m)) c) ≡ is_some (kept (is_of_texts p) c)
text_called at arguments p None = refl
text_called at arguments p (Some m) = by_method (text_method_of p m)
  where
    by_method : (x : Option TextMethod) → is_some (text_call_of at arguments x) ≡ is_some (if is_some x then Some m else None)
    by_method None = refl
    by_method (Some x) = refl

text_row : (e : Moment) (at : Site) (r : Option Row) → is_some (option_and_then (text_call_at e at) r) ≡ is_some (kept (is_of_texts e.program) (option_and_then (deferred_at e at) r))
text_row e at (Some (row.Call (Invoke kind))) = text_called at (passed_at e at kind) e.program (deferred_at e at (row.Call (Invoke kind)))
text_row e at r = refl

text_decoded : (e : Moment) (d : Result (Instr × ℕ) CodeFault) → is_some (text_call_by e d) ≡ is_some (kept (is_of_texts e.program) (deferred_by e d))
text_decoded e (Err fault) = refl
text_decoded e (Ok x) = text_row e (site_of e.program (current_frame e) x) (row_of x.0.opcode)

text_in : (e : Moment) (turn : Turn) → is_some (text_call_in e turn) ≡ is_some (kept (is_of_texts e.program) (deferred_in e turn))
text_in e Instruction = text_decoded e (decoded_at e.program (current_frame e))
text_in e turn = refl

text_there : (p : Linked) (s : Kept) (t : ℕ) → is_some (text_call p s t) ≡ is_some (kept (is_of_texts p) (deferred_call p s t))
unfolding deferred_call text_call
text_there p s t =
    let e : Moment = record { program = p; before = s; thread = t } in
    text_in e (turn_of (thread_of e))

some_of_two : (a b : Option ℕ) → IsSome (option_or a b) → IsSome a ⊎ IsSome b
some_of_two None b h = inr h
some_of_two (Some m) b h = inl h

none_of_two : (a b : Option ℕ) → option_or a b ≡ None → (a ≡ None) × (b ≡ None)
none_of_two None b h = (refl, h)
none_of_two (Some m) b h = cc

pub of_texts : (p : Linked) (s : Kept) (t : ℕ) → IsSome (text_turn p s t) → IsSome (text_call p s t) ⊎ IsSome (out_turn p s t)
of_texts p s t h =
    elim (some_of_two (kept (is_of_texts p) (deferred_call p s t)) (out_method p s t) h) [
      | inl called ↦ inl (text_there p s t ∙ called)
      | inr read ↦ inr (mapped (λ (x : OutRead). unwrap_or (top s.guest t).method 0) (out_turn p s t) read)
    ]

of_no_texts : (p : Linked) (s : Kept) (t : ℕ) → text_turn p s t ≡ None → (text_call p s t ≡ None) × (out_turn p s t ≡ None)
of_no_texts p s t h =
    let none = none_of_two (kept (is_of_texts p) (deferred_call p s t)) (out_method p s t) h in
    (is_none (text_call p s t) (text_there p s t ∙ ap (λ (o : Option ℕ). is_some o) none.0), unmapped (λ (x : OutRead). unwrap_or (top s.guest t).method 0) (out_turn p s t) none.1)

-- A TURN THAT IS OF NO TEXTS: what the table says of it is told of the state with texts, and nothing is printed
module _ (p : Linked) (x : Texts) (m : MachineState) (t : ℕ) (silent_now : m.guest.texts ≡ no_texts) (none : text_turn p (kept_of m) t ≡ None) where
  told : event_with_texts p (spoken x (kept_of m)) t ≡ keeping x (event p (kept_of m) t)
  told = let is = of_no_texts p (kept_of m) t none in beside-table p x m t silent_now is.0 is.1

  pub tabled : (end : EventEnd) (m' : MachineState) (out out' : List Record) → m'.guest.texts ≡ no_texts → EventAnswers (event p (kept_of m) t) end m m' out out'
      → TextAnswers (event_with_texts p (spoken x (kept_of m)) t) end m m' x x out out'
  tabled end m' out out' silent_then h =
      subst (λ (o : Outcome Kept). TextAnswers o end m m' x x out out') (sym told) (texts-answered x (event p (kept_of m) t) end m m' out out' silent_then h)

  unsaid : said_by p (spoken x (kept_of m)) t ≡ []
  unsaid =
      let s : Kept = spoken x (kept_of m) in
      let e : Moment = record { program = p; before = s; thread = t } in
      ap (λ (c : Option TextCall). option_map_or (said_in e) c []) (call-blind p x (kept_of m) t ∙ (of_no_texts p (kept_of m) t none).0)

  pub tabled_unsaid : (end : EventEnd) (said : List ℕ) → SaysWhereDone end (said_by p (spoken x (kept_of m)) t) said said
  tabled_unsaid end said = subst (λ (bytes : List ℕ). SaysWhereDone end bytes said said) (sym unsaid) (nothing end)
    where
      nothing : (end : EventEnd) → SaysWhereDone end [] said said
      nothing ends.Done = sym (append-nil said)
      nothing ends.Waited = sym (append-nil said)
      nothing (ends.IllTyped method pc) = refl
      nothing ends.ObjectLimit = refl
      nothing (ends.Native method) = refl

  grown : (o : Outcome Kept) → length (state_after (spoken x (kept_of m)) (keeping x o)).heap ≡ length (state_after (kept_of m) o).heap
  grown (outcome.Goes next records) = refl
  grown (outcome.Waits next) = refl
  grown (outcome.IllTyped method pc) = refl
  grown outcome.ObjectLimit = refl

  -- as many objects are made
  pub tabled_grown : length (state_after (spoken x (kept_of m)) (event_with_texts p (spoken x (kept_of m)) t)).heap ≡ length (state_after (kept_of m) (event p (kept_of m) t)).heap
  tabled_grown = ap (λ (o : Outcome Kept). length (state_after (spoken x (kept_of m)) o).heap) told ∙ grown (event p (kept_of m) t)

-- WHAT IS LEFT TO THE EVENT CALL OF TEXTS is a turn of texts, with nothing changed

pub left : (r : Option ℕ) (o : Outcome Kept) (end : EventEnd) (method : ℕ) (m m' : MachineState) (out out' : List Record) → end ≡ ends.Native method → DefersOrAnswers r o end m m' out out' → IsSome r × (m' ≡ m) × (out' ≡ out)
left None o end method m m' out out' is h = absurd (not_answered o method m m' out out' (subst (λ (x : EventEnd). EventAnswers o x m m' out out') is h))
left (Some k) o end method m m' out out' is h = (refl, h.1, h.2)

pub not_left : (r : Option ℕ) (o : Outcome Kept) (end : EventEnd) (m m' : MachineState) (out out' : List Record) → ((method : ℕ) → end ≡ ends.Native method → ⊥) → DefersOrAnswers r o end m m' out out' → (r ≡ None) × EventAnswers o end m m' out out'
not_left None o end m m' out out' native h = (refl, h)
not_left (Some k) o end m m' out out' native h = absurd (native k h.0)
