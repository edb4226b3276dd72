-- Which handler catches an exception.
use Rattle.std.proofs.Common.{◌≡◌, ℕ, sym, ◌∙◌, ap, subst, List, length, arith, ◌+◌, ◌<◌, ◌^◌}
use Rattle.std.specs.Prelude.{find, option_map}
use Rattle.et_code.specs.Bodies.{Body}
use Rattle.et_code.specs.declared.body.TableRow.{TableRow}
use Rattle.et_program.specs.Entries.{Linked}
use Rattle.et_state.specs.Threads.{FrameState}
use Rattle.et_event.specs.Sites.{code_of_frame, running_method, pool_of_class}
use Rattle.et_event.specs.Throw.{catches, handler_of}
use Rattle.et_event.specs.Places.{Runs}
use Rattle.et_event.proofs.Placing.{body_runs, locals_found}

-- what the code of its method has in a frame is counted in 16 bits
pub small_frame : (p : Linked) (f : FrameState) → Runs p f → (code_of_frame p f).max_locals < 2 ^ 16 → (code_of_frame p f).max_stack < 2 ^ 16 → length f.locals + length f.operands < 2 ^ 17
small_frame p f r locals_fit stack_fits =
    let locals : length f.locals < 2 ^ 16 = locals_found p f r locals_fit in
    let room : f.room < 2 ^ 16 = subst (λ (n : ℕ). n < 2 ^ 16) (sym (r.runs.room ∙ ap (λ (b : Body). b.max_stack) (sym (body_runs p f r)))) stack_fits in
    omega (arith, r.runs.operands)

pub handler_found : (p : Linked) (f : FrameState) (class k pc : ℕ) (rows : List TableRow) → k ≡ (running_method p f).class → pc ≡ f.pc → rows ≡ (code_of_frame p f).table
    → option_map (λ (row : TableRow). row.handler) (find (catches p (pool_of_class p k) pc class) rows) ≡ option_map (λ (row : TableRow). row.handler) (handler_of p f class)
handler_found p f class k pc rows same at table =
    ap (λ (j : ℕ). option_map (λ (row : TableRow). row.handler) (find (catches p (pool_of_class p j) pc class) rows)) same
    ∙ (ap (λ (n : ℕ). option_map (λ (row : TableRow). row.handler) (find (catches p (pool_of_class p (running_method p f).class) n class) rows)) at
    ∙ ap (λ (xs : List TableRow). option_map (λ (row : TableRow). row.handler) (find (catches p (pool_of_class p (running_method p f).class) f.pc class) xs)) table)
