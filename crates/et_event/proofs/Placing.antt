-- What a method that a frame runs has.
use Rattle.std.proofs.Common.{◌≡◌, ℕ, ◌^◌, ◌<◌, List, length, Option, Some, sym, ap, subst, ◌∙◌}
use Rattle.std.specs.Prelude.{IfSome, unwrap_or, slice_get, slice_index_or}
use Rattle.std.proofs.lemmas.Option.{unwrap_or-slice_get}
use Rattle.et_class.specs.Entries.{Item, Constants}
use Rattle.et_code.specs.declared.instr.Instr.{Instr}
use Rattle.et_code.specs.Bodies.{Body}
use Rattle.et_code.specs.Rules.{KeepsRules}
use Rattle.et_program.specs.Entries.{Linked, method_at}
use Rattle.et_program.specs.declared.info.MethodInfo.{MethodInfo}
use Rattle.et_state.specs.Threads.{FrameState}
use Rattle.et_event.specs.Sites.{Site, site_of, present_body, running_method, code_of_frame, pool_of_class, no_constants}
use Rattle.et_event.specs.Places.{Runs}

pub pool_found : (p : Linked) (class k : ℕ) (pool : Option Constants) → pool ≡ slice_get p.pools class → class ≡ k → (unwrap_or pool no_constants).slots ≡ (slice_index_or p.pools k no_constants).slots
pool_found p class k pool e same =
    ap (λ (o : Option Constants). (unwrap_or o no_constants).slots) e ∙ (ap (λ (x : Constants). x.slots) (unwrap_or-slice_get p.pools class no_constants) ∙ ap (λ (j : ℕ). (slice_index_or p.pools j no_constants).slots) same)

-- a frame runs the code of its method
pub method_runs : (p : Linked) (f : FrameState) → (r : Runs p f) → running_method p f ≡ method_at p r.method
method_runs p f r = ap (λ (o : Option ℕ). method_at p (unwrap_or o 0)) r.named

pub body_runs : (p : Linked) (f : FrameState) → (r : Runs p f) → code_of_frame p f ≡ r.runs.body
body_runs p f r = ap (λ (m : MethodInfo). present_body m.code) (method_runs p f r) ∙ ap present_body r.runs.code

pub locals_found : (p : Linked) (f : FrameState) → Runs p f → (code_of_frame p f).max_locals < 2 ^ 16 → length f.locals < 2 ^ 16
locals_found p f r few = subst (λ (n : ℕ). n < 2 ^ 16) (sym (r.runs.locals ∙ ap (λ (b : Body). b.max_locals) (sym (body_runs p f r)))) few

pub site_found : (p : Linked) (f : FrameState) (x : Instr × ℕ) (code : List ℕ) (pool : List (Option Item)) (class : ℕ) → code ≡ (code_of_frame p f).code → pool ≡ pool_of_class p (running_method p f).class → class ≡ (running_method p f).class
    → record { instr = x.0; next = x.1; code = code; pool = pool; class = class } ≡ site_of p f x
site_found p f x code pool class same_code same_pool same_class =
    ap (λ (bytes : List ℕ). let at : Site = record { instr = x.0; next = x.1; code = bytes; pool = pool; class = class } in at) same_code
    ∙ (ap (λ (items : List (Option Item)). let at : Site = record { instr = x.0; next = x.1; code = (code_of_frame p f).code; pool = items; class = class } in at) same_pool
    ∙ ap (λ (k : ℕ). let at : Site = record { instr = x.0; next = x.1; code = (code_of_frame p f).code; pool = pool_of_class p (running_method p f).class; class = k } in at) same_class)

pub rules_found : (p : Linked) (f : FrameState) → Runs p f → IfSome (running_method p f).code (λ body. KeepsRules body) → KeepsRules (code_of_frame p f)
rules_found p f r h =
    let code : (running_method p f).code ≡ Some r.runs.body = ap (λ (m : MethodInfo). m.code) (method_runs p f r) ∙ r.runs.code in
    let kept : KeepsRules r.runs.body = subst (λ (o : Option Body). IfSome o (λ body. KeepsRules body)) code h in
    subst (λ (b : Body). KeepsRules b) (sym (body_runs p f r)) kept
