-- Texts beside a state: types and what check 7 refuses don't see them.
use Rattle.std.proofs.Common.{◌≡◌, ◌⊎◌, ℕ, true, false, List, Option, Some, None, refl, inl, inr}
use Rattle.et_base.specs.declared.value.Value.{Value}
use Rattle.et_event.proofs.Beside.{sound-spoken}
use Rattle.et_event.specs.Moments.{Moment}
use Rattle.et_event.specs.Sites.{Member, Site}
use Rattle.et_event.specs.Told.{keeping}
use Rattle.et_event.specs.declared.rows.CallKind.{CallKind}
use Rattle.et_event.specs.declared.rows.CallKind.TheVariants.{Interface, Special, Static, Virtual}
use Rattle.et_event.specs.declared.rows.CallRow.{CallRow}
use Rattle.et_event.specs.declared.rows.CallRow.TheVariants as call
use Rattle.et_event.specs.declared.rows.HeapRow.{HeapRow}
use Rattle.et_event.specs.declared.rows.HeapRow.TheVariants as heap
use Rattle.et_event.specs.declared.rows.Row.{Row}
use Rattle.et_event.specs.declared.rows.Row.TheVariants as rows
use Rattle.et_program.specs.Entries.{Linked}
use Rattle.et_history.specs.soundness.Places.{IsAtRow}
use Rattle.et_history.specs.soundness.WellFormed.{StandsAt}
use Rattle.et_state.specs.Outcome.{Outcome}
use Rattle.et_state.specs.Outcome as outcome
use Rattle.et_state.specs.Spoken.{spoken, silent}
use Rattle.et_state.specs.State.{Kept}
use Rattle.et_state.specs.Texts.{Texts}
use Rattle.et_theorems.specs.typings.Refused.{FailsBuiltIn, FailsCall, FailsCallRow, FailsHeap, FailsHolder, FailsResolved, FailsRow, FailsText, IsRefused, IsRefusedAt, IsRefusedEntry, selected}
use Rattle.et_theorems.specs.typings.Typed.{IsTyped, KeepsTyped, Typings}

pub typed-spoken : (p : Linked) (typings : Typings) (x : Texts) (s : Kept) → IsTyped p typings s → IsTyped p typings (spoken x s)
typed-spoken p typings x s h = record { threads = h.threads; objects = h.objects }

module _ (p : Linked) (s : Kept) (t : ℕ) where
  -- the moment, and that of the state without its texts
  abbrev e : Moment
  e = record { program = p; before = s; thread = t }

  abbrev bare : Moment
  bare = record { program = p; before = silent s; thread = t }

  holder : (at : Site) (place : Member → ℕ) → FailsHolder bare at place → FailsHolder e at place
  holder at place h = record { member = h.member; named = h.named; field = h.field; found = h.found; object = h.object; held = h.held; other = h.other }

  heap_fails : (at : Site) (r : HeapRow) → FailsHeap bare at r → FailsHeap e at r
  heap_fails at heap.GetField h = holder at _ h
  heap_fails at heap.PutField h = holder at _ h
  heap_fails at (heap.LoadElement kind) h = h
  heap_fails at (heap.StoreElement kind) h = h
  heap_fails at heap.ArrayLength h = h
  heap_fails at other h = absurd h

  resolved_fails : (kind : CallKind) (arguments : List Value) (m o : ℕ) → FailsResolved bare kind arguments m o → FailsResolved e kind arguments m o
  resolved_fails Virtual arguments m o h = h
  resolved_fails Special arguments m o h = h
  resolved_fails Static arguments m o h = h
  resolved_fails Interface arguments m o h = h

  selected_beside : (at : Site) (kind : CallKind) (named m o k : ℕ) → selected bare at kind named m o ≡ Some k → selected e at kind named m o ≡ Some k
  selected_beside at Virtual named m o k h = h
  selected_beside at Special named m o k h = h
  selected_beside at Static named m o k h = h
  selected_beside at Interface named m o k h = h

  built_in_fails : (at : Site) (kind : CallKind) (named m o : ℕ) → FailsBuiltIn bare at kind named m o → FailsBuiltIn e at kind named m o
  built_in_fails at kind named m o h = record { method = h.method; is_selected = selected_beside at kind named m o h.method h.is_selected; built_in = h.built_in; is_built_in = h.is_built_in; unfit = h.unfit }

  text_fails : (at : Site) (kind : CallKind) (arguments : List Value) (named m o : ℕ) → FailsText bare at kind arguments named m o → FailsText e at kind arguments named m o
  text_fails at kind arguments named m o h = record { method = h.method; is_selected = selected_beside at kind named m o h.method h.is_selected; text = h.text; is_text = h.is_text; unfit = h.unfit }

  call_fails : (at : Site) (kind : CallKind) → FailsCall bare at kind → FailsCall e at kind
  call_fails at kind h = record {
    member = h.member;
    named = h.named;
    type = h.type;
    typed = h.typed;
    class = h.class;
    class_found = h.class_found;
    method = h.method;
    method_found = h.method_found;
    object = h.object;
    receiver = h.receiver;
    fails = elim h.fails [
      | inl resolved ↦ inl (resolved_fails kind _ h.method h.object resolved)
      | inr other ↦ elim other [
        | inl built_in ↦ inr (inl (built_in_fails at kind h.class h.method h.object built_in))
        | inr text ↦ inr (inr (text_fails at kind _ h.class h.method h.object text))
      ]
    ];
  }

  call_row_fails : (at : Site) (r : CallRow) → FailsCallRow bare at r → FailsCallRow e at r
  call_row_fails at (call.Invoke kind) h = call_fails at kind h
  call_row_fails at (call.Return kind) h = absurd h

  row_fails : (at : Site) (r : Row) → FailsRow bare at r → FailsRow e at r
  row_fails at (rows.Heap r) h = heap_fails at r h
  row_fails at (rows.Call r) h = call_row_fails at r h
  row_fails at rows.Throw h = h
  row_fails at other h = absurd h

  stands_beside : (at : Site) → StandsAt bare at → StandsAt e at
  stands_beside at h = record { sound = sound-spoken p (silent s) s.guest.texts h.sound; clock = h.clock; frame = record { thread = h.frame.thread; frame = h.frame.frame }; runs = h.runs; operands = h.operands; next = h.next }

  at_row_beside : (at : Site) (r : Row) → IsAtRow bare at r → IsAtRow e at r
  at_row_beside at r h = record { stands = stands_beside at h.stands; decoded = h.decoded; is = h.is; row = h.row; site = h.site }

  refused_at : IsRefusedAt bare → IsRefusedAt e
  refused_at h = record { at = h.at; row = h.row; stands = at_row_beside h.at h.row h.stands; passes = h.passes; fails = row_fails h.at h.row h.fails }

  refused_entry : IsRefusedEntry bare → IsRefusedEntry e
  refused_entry h = record { enters = h.enters; object = h.object; has = h.has; method = h.method; found = h.found; other = h.other }

  refused_beside : IsRefused bare → IsRefused e
  refused_beside (inl h) = inl (refused_at h)
  refused_beside (inr h) = inr (refused_entry h)

  -- what an event of the table leads to, with the texts beside it
  pub keeps_beside : (typings : Typings) (o : Outcome Kept) → KeepsTyped (record { program = p; before = silent s; thread = t }) typings o → KeepsTyped (record { program = p; before = s; thread = t }) typings (keeping s.guest.texts o)
  keeps_beside typings (outcome.Goes next records) h = typed-spoken p typings s.guest.texts next h
  keeps_beside typings (outcome.Waits next) h = typed-spoken p typings s.guest.texts next h
  keeps_beside typings (outcome.IllTyped method pc) h = refused_beside h
  keeps_beside typings outcome.ObjectLimit h = tt
