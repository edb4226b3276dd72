use Rattle.std.proofs.Common.{◌≡◌, ◌∙◌, ◌+◌, ap, sym, ◌++◌, length}
use Rattle.et_base.specs.declared.line.TraceLine.TheVariants.{Method}
use Rattle.et_state.specs.Naming.{Mentions, with_new, class_line, method_line, number_in}
use Rattle.et_binary.specs.Formats.{lines_written_in}
use Rattle.et_loop.proofs.Mentioning.{both_mentioned, new_number, untold_new, new_added, new_method_line}
use Rattle.et_loop.proofs.Writing.{wrote_one, wrote_both}
use Rattle.et_loop.proofs.naming.Numbering.mention_method.Goals as goal

-- the method is new, and is put at the end, behind its class
pub returns-clause-number : goal.returns-clause-number
returns-clause-number g c =
    let seen = c.args.self.now.methods in
    let method = c.args.method in
    let first : c.self.inside.methods ≡ seen = ap (λ (m : Mentions). m.methods) c.self.view_is in
    let methods : c.self-2.inside.methods ≡ seen = ap (λ (m : Mentions). m.methods) (c.self-2.view_is ∙ c.in_ok-class.ensures.mentions) in
    let new = untold_new seen c.self.inside.methods method c.number.result c.number-2.result c.number-2.ensures c.in_default.is first c.number.ensures.value in
    let keys = new_added seen c.self-2.inside.methods c.add.new.self method c.number-3.result c.in_ok-number.ensures.mentions methods c.number-3.ensures.value new in
    let next : c.in_ok-number.number ≡ length seen + 1 = c.in_ok-number.ensures.number ∙ ap (λ ks. length ks + 1) methods in
    next ∙ (new_number seen method new ∙ ap (λ ks. number_in ks method) (sym keys))

pub returns-clause-mentions : goal.returns-clause-mentions
returns-clause-mentions g c =
    let own = (g.P.Program.names c.args.program.now).method_class c.args.method in
    let seen = c.args.self.now.methods in
    let method = c.args.method in
    let first : c.self.inside.methods ≡ seen = ap (λ (m : Mentions). m.methods) c.self.view_is in
    let before = c.self-2.view_is ∙ c.in_ok-class.ensures.mentions in
    let classes : c.self-2.inside.classes ≡ with_new c.args.self.now.classes own = ap (λ (m : Mentions). m.classes) before ∙ ap (λ k. with_new c.args.self.now.classes k) c.method_class.ensures in
    let methods : c.self-2.inside.methods ≡ seen = ap (λ (m : Mentions). m.methods) before in
    let new = untold_new seen c.self.inside.methods method c.number.result c.number-2.result c.number-2.ensures c.in_default.is first c.number.ensures.value in
    both_mentioned _ _ _ _ classes (new_added seen c.self-2.inside.methods c.add.new.self method c.number-3.result c.in_ok-number.ensures.mentions methods c.number-3.ensures.value new)

-- .. and what was written is their lines
pub returns-clause-lines : goal.returns-clause-lines
returns-clause-lines g c =
    let names = g.P.Program.names c.args.program.now in
    let method = c.args.method in
    let own = names.method_class method in
    let seen = c.args.self.now.methods in
    let classes = with_new c.args.self.now.classes own in
    let first : c.self.inside.methods ≡ seen = ap (λ (m : Mentions). m.methods) c.self.view_is in
    let methods : c.self-2.inside.methods ≡ seen = ap (λ (m : Mentions). m.methods) (c.self-2.view_is ∙ c.in_ok-class.ensures.mentions) in
    let new = untold_new seen c.self.inside.methods method c.number.result c.number-2.result c.number-2.ensures c.in_default.is first c.number.ensures.value in
    let next : c.in_ok-number.number ≡ length seen + 1 = c.in_ok-number.ensures.number ∙ ap (λ ks. length ks + 1) methods in
    let class : c.in_ok-class.class ≡ number_in classes own =
    c.in_ok-class.ensures.number ∙ (ap (λ (m : Mentions). number_in m.classes c.method_class.result) c.in_ok-class.ensures.mentions ∙ ap (λ k. number_in (with_new c.args.self.now.classes k) k) c.method_class.ensures) in
    let written : c.mention_class.new.buffer.items ≡ c.args.buffer.now.items ++ lines_written_in c.args.format (class_line names c.args.self.now.classes own) =
    c.in_ok-class.ensures.lines ∙ ap (λ k. c.args.buffer.now.items ++ lines_written_in c.args.format (class_line names c.args.self.now.classes k)) c.method_class.ensures in
    wrote_both c.args.format (class_line names c.args.self.now.classes own) (method_line names classes seen method) _ _ _ written
    (wrote_one c.args.format (Method c.in_ok-number.number c.in_ok-class.class (names.method_name method) (names.method_descriptor method)) _ _ c.in_ok-write_method.ensures
    ∙ ap (λ ls. c.mention_class.new.buffer.items ++ lines_written_in c.args.format ls) (new_method_line names classes seen method c.in_ok-number.number c.in_ok-class.class new next class))
