-- What a getstatic that reads System.out comes to, by what its static slot holds.
use Rattle.std.proofs.Common.{◌≡◌, ℕ, true, false, ◌++◌, Option, Some, None, Result, Ok, refl, sym, ◌∙◌, ap, subst}
use Rattle.std.specs.Prelude.{is_some, option_and_then, option_map, IsSome}
use Rattle.et_base.specs.declared.value.Value.{Value}
use Rattle.et_base.specs.declared.value.Value.TheVariants.{Unset, Int, Long, LongHigh, Null, Ref}
use Rattle.et_base.proofs.Options.{same_by_test}
use Rattle.et_heap.specs.Objects.{referent_of}
use Rattle.et_state.specs.declared.stage.Turn.TheVariants.{Instruction}
use Rattle.et_state.specs.State.{MachineState, kept_of}
use Rattle.et_state.specs.Threads.{turn_of}
use Rattle.et_state.specs.Words.{static_at, thread_at, top}
use Rattle.et_program.specs.Entries.{Linked, field_at}
use Rattle.et_event.specs.PoolOperands.Operand.{Operand}
use Rattle.et_event.specs.declared.rows.HeapRow.TheVariants.{GetStatic}
use Rattle.et_event.specs.declared.rows.Row.{Row}
use Rattle.et_event.specs.declared.rows.Row.TheVariants.{Heap}
use Rattle.et_event.specs.Checks.{entries_of}
use Rattle.et_event.specs.Heap.{leaving_values, with_static_field}
use Rattle.et_event.specs.Kinds.{or_zero}
use Rattle.et_event.specs.Moments.{Moment, begins, current_frame, ends_event, moment}
use Rattle.et_event.specs.Out.{OutRead, field_read, out_at, out_made, out_of, out_read, out_row, out_turn}
use Rattle.et_event.specs.Sites.{Site, site_member}
use Rattle.et_event.specs.Places.{IsPlace}
use Rattle.et_event.specs.declared.places.Place.{Place}
use Rattle.et_refs.specs.declared.refusals.Refusal.{Refusal}
use Rattle.et_refs.specs.declared.slots.static_fields.StaticRead.{StaticRead}
use Rattle.et_refs.specs.Accesses.{access_outcome}
use Rattle.et_refs.specs.Refusals.{outcome_of}
use Rattle.et_refs.specs.StaticReads.{is_out_class, out_slot, read_of, wanted_by}
use Rattle.et_refs.proofs.ClassChains.{Going}
use Rattle.et_refs.proofs.OutFound.{found_exactly, out_found}
use Rattle.et_refs.proofs.OutPlaces.{out_at_place}

-- WHAT IS FOUND at the place, where the turn reads it

same_site : (at : Site) (f : Option ℕ) (x : OutRead) → option_map (λ (k : ℕ). let y : OutRead = record { at = at; field = k } in y) f ≡ Some x → x.at ≡ at
same_site at None x h = cc
same_site at (Some k) x h = cc

pub none_there : (o : Option OutRead) → false ≡ is_some o → IsSome o → ⊥
none_there o none some = cc

module _ (p : Linked) (m : MachineState) (t : ℕ) (place : Place) (turn : turn_of (thread_at m.guest t) ≡ Instruction) (here : IsPlace p (top m.guest t) place) (row : place.row ≡ Heap GetStatic) where
  abbrev e : Moment
  e = moment p m t

  abbrev at : Site
  at = place.site

  at_row : out_turn p (kept_of m) t ≡ out_at e at (Heap GetStatic)
  at_row = out_at_place p m t place turn here ∙ ap (λ (r : Row). out_at e at r) row

  -- no check refuses
  pub never_refused : (r : Result StaticRead Refusal) → out_slot e r ≡ None → ((go : Going) → with_static_field e at (λ mm f. go (read_of p mm.descriptor f)) ≡ outcome_of e r go) → IsSome (out_turn p (kept_of m) t) → ⊥
  never_refused r none h some = none_there (out_at e at (Heap GetStatic)) (sym (ap is_some none) ∙ found_exactly e at r h) (subst (λ (o : Option OutRead). IsSome o) at_row some)

  module _ (y : StaticRead) (h : (go : Going) → with_static_field e at (λ mm f. go (read_of p mm.descriptor f)) ≡ go y) (x : OutRead) (read : out_turn p (kept_of m) t ≡ Some x) where
    abbrev v : Value
    v = static_at m.guest y.read.slot

    here_is : out_at e at (Heap GetStatic) ≡ Some x
    here_is = sym at_row ∙ read

    -- the row, at the place and the slot that were found
    row_is : out_row e x ≡ out_read e at y.read.slot v (begins e)
    row_is =
        let slot : (field_at p x.field).slot ≡ y.read.slot =
        same_by_test (is_out_class e y.class) y.read.slot (field_at p x.field).slot (ap (option_map (λ (o : OutRead). (field_at p o.field).slot)) (sym here_is) ∙ out_found e at (Ok y) h) in
        let site : x.at ≡ at = same_site at (option_and_then (out_of e) (option_and_then (field_read e) (site_member at))) x here_is in
        ap (λ (k : ℕ). out_read e x.at k (static_at m.guest k) (begins e)) slot ∙ ap (λ (a : Site). out_read e a y.read.slot v (begins e)) site

    stands : (w : Value) (kind : Option Operand) → is_some (referent_of w) ≡ true → out_read e at y.read.slot w (begins e) ≡ ends_event (leaving_values e at (entries_of (or_zero kind w) ++ (current_frame e).operands) (begins e))
    stands Unset kind h = cc
    stands (Int n) kind h = cc
    stands (Long n) kind h = cc
    stands LongHigh kind h = cc
    stands Null kind h = cc
    stands (Ref k) kind h = refl

    -- the print stream is there
    pub read_ready : is_some (referent_of v) ≡ true → out_row e x ≡ access_outcome e at (wanted_by y) (begins e)
    read_ready h = row_is ∙ stands v y.read.kind h

    makes : (w : Value) → referent_of w ≡ None → out_read e at y.read.slot w (begins e) ≡ out_made e at y.read.slot (begins e)
    makes Unset h = refl
    makes (Int n) h = refl
    makes (Long n) h = refl
    makes LongHigh h = refl
    makes Null h = refl
    makes (Ref k) h = cc

    -- it is made
    pub read_made : referent_of v ≡ None → out_row e x ≡ out_made e at y.read.slot (begins e)
    read_made h = row_is ∙ makes v h
