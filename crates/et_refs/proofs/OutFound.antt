-- The static field that getstatic names is System.out exactly where the checks of getstatic come to it.
use Rattle.std.proofs.Common.{◌≡◌, ℕ, Bool, true, false, ◌&&◌, Option, Some, None, Result, Ok, Err, refl, sym, ◌∙◌, ap}
use Rattle.std.specs.Prelude.{if◌then◌else◌, is_some, option_and_then, option_map}
use Rattle.std.specs.Result.{result_ok}
use Rattle.et_class.specs.Descriptors.{is_field_descriptor}
use Rattle.et_program.specs.Entries.{field_at}
use Rattle.et_program.specs.Resolution.{resolve_class, resolve_field}
use Rattle.et_program.specs.declared.errors.LinkError.{LinkError}
use Rattle.et_state.specs.State.{Kept}
use Rattle.et_state.specs.Outcome.{Outcome, Waits, IllTyped}
use Rattle.et_event.specs.declared.errors.GuestError.TheVariants.{IncompatibleClassChangeError}
use Rattle.et_event.specs.declared.rows.HeapRow.TheVariants.{GetStatic}
use Rattle.et_event.specs.declared.rows.Row.TheVariants.{Heap}
use Rattle.et_event.specs.Checks.{ill_typed_unless, resolved, throws_unless}
use Rattle.et_event.specs.Errors.{error_of}
use Rattle.et_event.specs.Heap.{field_fits, is_static_at, with_field, with_static_field}
use Rattle.et_event.specs.Moments.{Moment, begins, current_frame, ill_typed, throws}
use Rattle.et_event.specs.Out.{OutRead, field_read, out_at, out_of}
use Rattle.et_event.specs.Sites.{Member, Site, site_member}
use Rattle.et_refs.specs.declared.refusals.Refusal.{Refusal}
use Rattle.et_refs.specs.declared.refusals.Refusal.TheVariants as refusals
use Rattle.et_refs.specs.declared.slots.static_fields.StaticRead.{StaticRead}
use Rattle.et_refs.specs.Refusals.{outcome_of, refusal_outcome}
use Rattle.et_refs.specs.StaticReads.{is_out_class, out_slot, read_of}
use Rattle.et_refs.proofs.ClassChains.{Going, read_then, reads, reads_field, static_then}
use Rattle.et_refs.proofs.Resolving.{never_thrown, nowhere}

-- WHAT GOES ON IS ANYTHING, so what a check answers can be read off

-- a slot as an outcome, and back
abbrev coded : Option ℕ → Outcome Kept
coded None = Waits nowhere
coded (Some slot) = IllTyped slot 0

abbrev decoded : Outcome Kept → Option ℕ
decoded (IllTyped slot pc) = Some slot
decoded other = None

decoded-coded : (o : Option ℕ) → decoded (coded o) ≡ o
decoded-coded None = refl
decoded-coded (Some slot) = refl

refused_waits : (e : Moment) (r : Refusal) → refusal_outcome e r ≡ Waits nowhere → ⊥
refused_waits e refusals.IllTyped h = cc
refused_waits e (refusals.Throws error) h = never_thrown e error nowhere h

-- where it is the same whatever goes on, no slot is found
stopped : (e : Moment) (o : Outcome Kept) (r : Result StaticRead Refusal) → (o ≡ Waits nowhere → ⊥) → ((go : Going) → o ≡ outcome_of e r go) → out_slot e r ≡ None
stopped e o (Ok x) never h = absurd (never (h (λ y. Waits nowhere)))
stopped e o (Err refusal) never h = refl

-- and where this goes on, it is what is found
gone : (e : Moment) (x : StaticRead) (r : Result StaticRead Refusal) → ((go : Going) → go x ≡ outcome_of e r go) → out_slot e (Ok x) ≡ out_slot e r
gone e x (Ok y) h =
    sym (decoded-coded (out_slot e (Ok x))) ∙ (ap decoded (h (λ z. coded (out_slot e (Ok z)))) ∙ decoded-coded (out_slot e (Ok y)))
gone e x (Err refusal) h = absurd (refused_waits e refusal (sym (h (λ y. Waits nowhere))))

-- THE CHECKS, one after the other

abbrev slot_of : Moment → OutRead → ℕ
slot_of e o = (field_at e.program o.field).slot

abbrev read_at : Site → ℕ → OutRead
read_at at f = record { at = at; field = f }

abbrev slot_found : Moment → Site → Option ℕ → Option ℕ
slot_found e at f = option_map (slot_of e) (option_map (read_at at) (option_and_then (out_of e) f))

kept_or_none : (e : Moment) (at : Site) (f : ℕ) (b : Bool) → option_map (slot_of e) (option_map (read_at at) (if b then Some f else None)) ≡ (if b then Some (field_at e.program f).slot else None)
kept_or_none e at f true = refl
kept_or_none e at f false = refl

abbrev found_by : Bool → Moment → Site → ℕ → Option ℕ
found_by b e at f = option_map (slot_of e) (option_map (read_at at) (if b && is_out_class e (field_at e.program f).class then Some f else None))

by_static : (e : Moment) (at : Site) (m : Member) (f : ℕ) (r : Result StaticRead Refusal) (b : Bool) → ((go : Going) → throws_unless e (begins e) IncompatibleClassChangeError b (read_then e m go f) ≡ outcome_of e r go) → found_by b e at f ≡ out_slot e r
by_static e at m f r true h = kept_or_none e at f (is_out_class e (field_at e.program f).class) ∙ gone e (read_of e.program m.descriptor f) r h
by_static e at m f r false h = sym (stopped e (throws e IncompatibleClassChangeError (begins e)) r (never_thrown e IncompatibleClassChangeError nowhere) h)

by_field : (e : Moment) (at : Site) (m : Member) (r : Result StaticRead Refusal) (x : Result ℕ LinkError) → ((go : Going) → resolved e (begins e) x (static_then e m go) ≡ outcome_of e r go) → slot_found e at (result_ok x) ≡ out_slot e r
by_field e at m r (Ok f) h = by_static e at m f r (is_static_at e.program f) h
by_field e at m r (Err error) h = sym (stopped e (throws e (error_of error) (begins e)) r (never_thrown e (error_of error) nowhere) h)

by_owner : (e : Moment) (at : Site) (m : Member) (r : Result StaticRead Refusal) (x : Result ℕ LinkError)
    → ((go : Going) → resolved e (begins e) x (λ owner. resolved e (begins e) (resolve_field e.program owner m.name m.descriptor) (static_then e m go)) ≡ outcome_of e r go)
    → slot_found e at (option_and_then (λ owner. result_ok (resolve_field e.program owner m.name m.descriptor)) (result_ok x)) ≡ out_slot e r
by_owner e at m r (Ok owner) h = by_field e at m r (resolve_field e.program owner m.name m.descriptor) h
by_owner e at m r (Err error) h = sym (stopped e (throws e (error_of error) (begins e)) r (never_thrown e (error_of error) nowhere) h)

ill_waits : (e : Moment) → ill_typed e ≡ Waits nowhere → ⊥
ill_waits e h = cc

abbrev found_there : Bool → Moment → Site → Member → Option ℕ
found_there b e at m =
    slot_found e at (if b then option_and_then (λ owner. result_ok (resolve_field e.program owner m.name m.descriptor)) (result_ok (resolve_class e.program m.owner)) else None)

by_checks : (e : Moment) (at : Site) (m : Member) (r : Result StaticRead Refusal) (named fits : Bool)
    → ((go : Going) → ill_typed_unless e named (ill_typed_unless e fits (reads_field e go m)) ≡ outcome_of e r go) → found_there (named && fits) e at m ≡ out_slot e r
by_checks e at m r true true h = by_owner e at m r (resolve_class e.program m.owner) h
by_checks e at m r true false h = sym (stopped e (ill_typed e) r (ill_waits e) h)
by_checks e at m r false fits h = sym (stopped e (ill_typed e) r (ill_waits e) h)

by_member : (e : Moment) (at : Site) (r : Result StaticRead Refusal) (x : Option Member)
    → ((go : Going) → with_field e x (reads e go) ≡ outcome_of e r go)
    → slot_found e at (option_and_then (field_read e) x) ≡ out_slot e r
by_member e at r None h = sym (stopped e (ill_typed e) r (ill_waits e) h)
by_member e at r (Some m) h = by_checks e at m r (is_field_descriptor m.descriptor) (field_fits e (current_frame e).operands m) h

pub out_found : (e : Moment) (at : Site) (r : Result StaticRead Refusal) → ((go : Going) → with_static_field e at (λ m f. go (read_of e.program m.descriptor f)) ≡ outcome_of e r go)
    → option_map (λ (o : OutRead). (field_at e.program o.field).slot) (out_at e at (Heap GetStatic)) ≡ out_slot e r
out_found e at r h = by_member e at r (site_member at) h

-- .. and whether it is

as_some : {A B : Type 0} (f : A → B) (o : Option A) → is_some (option_map f o) ≡ is_some o
as_some f None = refl
as_some f (Some a) = refl

pub found_exactly : (e : Moment) (at : Site) (r : Result StaticRead Refusal) → ((go : Going) → with_static_field e at (λ m f. go (read_of e.program m.descriptor f)) ≡ outcome_of e r go) → is_some (out_slot e r) ≡ is_some (out_at e at (Heap GetStatic))
found_exactly e at r h = ap is_some (sym (out_found e at r h)) ∙ as_some (λ (o : OutRead). (field_at e.program o.field).slot) (out_at e at (Heap GetStatic))

kept_some : (slot : ℕ) (b : Bool) → b ≡ is_some (if b then Some slot else None)
kept_some slot true = refl
kept_some slot false = refl

pub found_where : (e : Moment) (at : Site) (x : StaticRead) (b : Bool) → ((go : Going) → with_static_field e at (λ m f. go (read_of e.program m.descriptor f)) ≡ go x) → b ≡ is_out_class e x.class → b ≡ is_some (out_at e at (Heap GetStatic))
found_where e at x b h is = is ∙ (kept_some x.read.slot (is_out_class e x.class) ∙ found_exactly e at (Ok x) h)
