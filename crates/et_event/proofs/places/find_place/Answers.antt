use Rattle.std.proofs.Common.{false, ◌≡◌, ℕ, ◌<◌, ◌^◌, length, List, Some, sym, subst, ap, ◌∙◌, rules, arith}
use Rattle.std.specs.Prelude.{Result, Ok, IfOk, IfSome}
use Rattle.std.specs.Option.{option_copied}
use Rattle.et_code.specs.Rules.{KeepsRules}
use Rattle.et_code.specs.Switches.{IsSwitch}
use Rattle.et_code.specs.Decoding.{instruction_at}
use Rattle.et_code.specs.declared.instr.Instr.{Instr}
use Rattle.et_code.specs.declared.instr.CodeFault.{CodeFault}
use Rattle.et_program.specs.declared.info.MethodInfo.{MethodInfo}
use Rattle.et_state.specs.State.{kept_of}
use Rattle.et_state.specs.Words.{top}
use Rattle.et_event.specs.declared.rows.Row.{Row}
use Rattle.et_event.specs.Sites.{Site, natural_of, present_body, code_of_frame, running_method}
use Rattle.et_event.specs.Table.{row_of}
use Rattle.et_event.specs.Places.{IsPlace, is_frame}
use Rattle.et_event.specs.Pools.{pool_slots}
use Rattle.et_event.proofs.Running.{runs_there}
use Rattle.et_event.proofs.Placing.{pool_found, locals_found, rules_found, site_found}
use Rattle.et_event.proofs.places.find_place.Goals as goal

pub returns : goal.returns
returns c =
    let p = c.args.program.now in
    let f = top c.args.machine.now.guest c.args.thread in
    let method : c.method_of-method.result.now ≡ running_method p f = c.method_of-method.ensures.method in
    let code : c.code_of-code.result.now ≡ (code_of_frame p f).code = c.code_of-code.ensures.bytes ∙ ap (λ (m : MethodInfo). (present_body m.code).code) method in
    let found : c.instruction.result ≡ Ok (c.in_ok-instr.instr, c.in_ok-instr.next) = search rules in
    let class : c.method_of-method.result.now.class ≡ (running_method p f).class = ap (λ (m : MethodInfo). m.class) method in
    let runs = runs_there p (kept_of c.args.machine.now) c.args.thread c.requires.sound c.requires.turn in
    let row : row_of c.in_ok-instr.instr.opcode ≡ Some c.in_ok-row.row = search rules in
    let in_code : c.pc.result < length c.code_of-code.result.now = subst (λ (r : Result (Instr × ℕ) CodeFault). IfOk r (λ x. c.pc.result < length c.code_of-code.result.now)) found c.instruction.ensures.within in
    let few : f.pc < 2 ^ 16 = omega arith in
    let at_pc : instruction_at (code_of_frame p f).code f.pc ≡ Ok (c.in_ok-instr.instr, c.in_ok-instr.next) =
    ap (λ (bytes : List ℕ). instruction_at bytes f.pc) (sym code) ∙ (ap (λ (n : ℕ). instruction_at c.code_of-code.result.now n) (sym c.pc.ensures) ∙ (sym c.instruction.ensures.decoded ∙ found)) in
    let site : Site = record { instr = c.in_ok-instr.instr; next = c.in_ok-instr.next; code = c.code_of-code.result.now; pool = pool_slots (option_copied c.pool.result); class = c.method_of-method.result.now.class } in
    let found_there : IsPlace p f (record { row = c.in_ok-row.row; site = site }) = record {
      decoded = at_pc;
      row = row;
      site = site_found p f (c.in_ok-instr.instr, c.in_ok-instr.next) c.code_of-code.result.now _ c.method_of-method.result.now.class code (pool_found p c.method_of-method.result.now.class (running_method p f).class (option_copied c.pool.result) c.pool.ensures class) class;
      class = c.method_of-method.ensures.class;
      rules = rules_found p f runs (subst (λ (m : MethodInfo). IfSome m.code (λ body. KeepsRules body)) method c.code_of-code.ensures.rules);
      switch = λ e. subst (λ (bytes : List ℕ). IsSwitch bytes c.in_ok-instr.instr) (sym code)
          (c.switch.ensures (code_of_frame p f).code f.pc (c.in_ok-instr.instr, c.in_ok-instr.next) at_pc (row ∙ ap (λ (r : Row). Some r) e));
      pc = few;
      locals = locals_found p f runs (subst (λ (m : MethodInfo). (present_body m.code).max_locals < 2 ^ 16) method c.code_of-code.ensures.locals);
      index = λ e. subst (λ (r : Result (Instr × ℕ) CodeFault). IfOk r (λ x. (q : Row) → row_of x.0.opcode ≡ Some q → is_frame q ≡ false → natural_of x.0.first < 2 ^ 16)) found c.instruction.ensures.index c.in_ok-row.row row e;
    } in
    subst (λ (at : Site). IsPlace p f (record { row = c.in_ok-row.row; site = at })) (sym c.new-site.ensures) found_there
