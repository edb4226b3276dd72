-- What the table says of a turn, by the place at which the thread stands.
use Rattle.std.proofs.Common.{◌≡◌, ℕ, List, Option, Some, None, sym, ap, ◌∙◌}
use Rattle.std.specs.Prelude.{Result, Ok, Err, IfSome, IfNone}
use Rattle.et_code.specs.declared.instr.Instr.{Instr}
use Rattle.et_code.specs.declared.instr.CodeFault.{CodeFault}
use Rattle.et_program.specs.Entries.{Linked}
use Rattle.et_state.specs.State.{Kept}
use Rattle.et_state.specs.Threads.{FrameState}
use Rattle.et_state.specs.Words.{top}
use Rattle.et_event.specs.Event.{event, does}
use Rattle.et_event.specs.Moments.{Moment, ill_typed}
use Rattle.et_event.specs.Sites.{Site, site_of, decoded_at, pool_of_class}
use Rattle.et_event.specs.Table.{row_of}
use Rattle.et_event.specs.declared.places.Place.{Place}
use Rattle.et_event.specs.Families.{row_at}
use Rattle.et_event.specs.Places.{IsFound, IsPlace}

pub if_some : {A : Type 0} {P Q : A → Type 0} → (o : Option A) → ((a : A) → P a → Q a) → IfSome o P → IfSome o Q
if_some None f h = tt
if_some (Some a) f h = f a h

pub if_none : {A : Type 0} {P Q : Type 0} → (o : Option A) → (P → Q) → IfNone o P → IfNone o Q
if_none None f h = f h
if_none (Some a) f h = tt

-- WHAT IS FOUND

pub found_there : (p : Linked) (f : FrameState) (o : Option Place) → IsFound p f o → IfSome o (λ place. IsPlace p f place)
found_there p f None h = tt
found_there p f (Some place) h = h

pub none_there : (p : Linked) (f : FrameState) (o : Option Place) → IsFound p f o → IfNone o (row_at (decoded_at p f) ≡ None)
none_there p f None h = h
none_there p f (Some place) h = tt

-- WHAT IS DONE THERE

abbrev pub moment : Linked → Kept → ℕ → Moment
moment p s t = record { program = p; before = s; thread = t }

pub at_place : (p : Linked) (s : Kept) (t : ℕ) (place : Place) → IsPlace p (top s.guest t) place
    → event p s t ≡ does (moment p s t) (site_of p (top s.guest t) (place.site.instr, place.site.next)) place.row → event p s t ≡ does (moment p s t) place.site place.row
at_place p s t place is law = law ∙ ap (λ (at : Site). does (moment p s t) at place.row) (sym is.site)

pub at_none : (p : Linked) (s : Kept) (t : ℕ) → ((x : Instr × ℕ) → decoded_at p (top s.guest t) ≡ Ok x → row_of x.0.opcode ≡ None → event p s t ≡ ill_typed (moment p s t))
    → ((fault : CodeFault) → decoded_at p (top s.guest t) ≡ Err fault → event p s t ≡ ill_typed (moment p s t))
    → (d : Result (Instr × ℕ) CodeFault) → decoded_at p (top s.guest t) ≡ d → row_at d ≡ None → event p s t ≡ ill_typed (moment p s t)
at_none p s t no_row ended (Ok x) e r = no_row x e r
at_none p s t no_row ended (Err fault) e r = ended fault e

-- the pool of a place is that of its class
pub place_pool : (p : Linked) (f : FrameState) (place : Place) → IsPlace p f place → place.site.pool ≡ pool_of_class p place.site.class
place_pool p f place is = ap (λ (at : Site). at.pool) is.site ∙ ap (pool_of_class p) (sym (ap (λ (at : Site). at.class) is.site))

-- a site whose instruction, next pc and code were read from it
pub same_site : (at : Site) (instr : Instr) (next : ℕ) (code : List ℕ) → instr ≡ at.instr → next ≡ at.next → code ≡ at.code → record { instr = instr; next = next; code = code; pool = at.pool; class = at.class } ≡ at
same_site at instr next code same_instr same_next same_code =
    ap (λ (i : Instr). let s : Site = record { instr = i; next = next; code = code; pool = at.pool; class = at.class } in s) same_instr
    ∙ (ap (λ (n : ℕ). let s : Site = record { instr = at.instr; next = n; code = code; pool = at.pool; class = at.class } in s) same_next
    ∙ ap (λ (bytes : List ℕ). let s : Site = record { instr = at.instr; next = at.next; code = bytes; pool = at.pool; class = at.class } in s) same_code)
