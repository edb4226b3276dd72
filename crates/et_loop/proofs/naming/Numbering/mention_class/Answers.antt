use Rattle.std.proofs.Common.{◌≡◌, ◌∙◌, ◌+◌, refl, ap, sym, ◌++◌, length}
use Rattle.et_base.specs.declared.line.TraceLine.TheVariants.{Class}
use Rattle.et_state.specs.Naming.{Mentions, number_in}
use Rattle.et_binary.specs.Formats.{lines_written_in}
use Rattle.et_loop.proofs.Mentioning.{both_mentioned, new_number, untold_new, new_added, new_class_line}
use Rattle.et_loop.proofs.Writing.{wrote_one}
use Rattle.et_loop.proofs.naming.Numbering.mention_class.Goals as goal

-- the class is new, and is put at the end
pub returns-clause-number : goal.returns-clause-number
returns-clause-number g c =
    let seen = c.self.inside.classes in
    let new = untold_new seen seen c.args.class c.number.result c.number-2.result c.number-2.ensures c.in_default.is refl c.number.ensures.value in
    let keys = new_added seen seen c.add.new.self c.args.class c.number-3.result c.in_ok-number.ensures.mentions refl c.number-3.ensures.value new in
    c.in_ok-number.ensures.number ∙ (new_number seen c.args.class new ∙ ap (λ ks. number_in ks c.args.class) (sym keys))

pub returns-clause-mentions : goal.returns-clause-mentions
returns-clause-mentions g c =
    let seen = c.args.self.now.classes in
    let classes : c.self.inside.classes ≡ seen = ap (λ (m : Mentions). m.classes) c.self.view_is in
    let methods : c.self.inside.methods ≡ c.args.self.now.methods = ap (λ (m : Mentions). m.methods) c.self.view_is in
    let new = untold_new seen c.self.inside.classes c.args.class c.number.result c.number-2.result c.number-2.ensures c.in_default.is classes c.number.ensures.value in
    both_mentioned _ _ _ _ (new_added seen c.self.inside.classes c.add.new.self c.args.class c.number-3.result c.in_ok-number.ensures.mentions classes c.number-3.ensures.value new) methods

pub returns-clause-lines : goal.returns-clause-lines
returns-clause-lines g c =
    let names = g.P.Program.names c.args.program.now in
    let seen = c.args.self.now.classes in
    let classes : c.self.inside.classes ≡ seen = ap (λ (m : Mentions). m.classes) c.self.view_is in
    let new = untold_new seen c.self.inside.classes c.args.class c.number.result c.number-2.result c.number-2.ensures c.in_default.is classes c.number.ensures.value in
    let next : c.in_ok-number.number ≡ length seen + 1 = c.in_ok-number.ensures.number ∙ ap (λ ks. length ks + 1) classes in
    wrote_one c.args.format (Class c.in_ok-number.number (names.class_name c.args.class)) _ _ c.in_ok-write_class.ensures
    ∙ ap (λ ls. c.args.buffer.now.items ++ lines_written_in c.args.format ls) (new_class_line names seen c.args.class c.in_ok-number.number new next)
