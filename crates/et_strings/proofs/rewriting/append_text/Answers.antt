use Rattle.std.proofs.Common.{◌≡◌, ℕ, ◌+◌, ◌<◌, ◌≤◌, ◌++◌, List, [], ◌∷◌, arith, length, length-append, refl, sym, ap, ◌∙◌}
use Rattle.et_base.specs.declared.value.Value.TheVariants.{Ref}
use Rattle.et_event.specs.BuiltIns.{argument}
use Rattle.et_event.specs.Calls.{arguments_of}
use Rattle.et_event.specs.TextRows.{shown}
use Rattle.et_event.proofs.Answering.{if_ok}
use Rattle.et_state.specs.Spoken.{text_of}
use Rattle.et_state.specs.Texts.{longest_text, text_units, most_units, with_text}
use Rattle.et_strings.specs.Calls.{text_moment}
use Rattle.et_strings.specs.TextUnits.{units_in}
use Rattle.et_strings.proofs.RowAnswers.{rewriting, rewritten, too_long}
use Rattle.et_strings.proofs.rewriting.append_text.Goals as goal

-- the units together
both : (a b u v : List ℕ) (m n : ℕ) → a ≡ u → b ≡ v → m ≡ length a → n ≡ length b → m + n ≡ length (u ++ v)
both a b u v m n first second m_is n_is = omega (arith, m_is, n_is, ap length first, ap length second, length-append u v)

pub returns-then-length-gt-LONGEST : goal.returns-then-length-gt-LONGEST
returns-then-length-gt-LONGEST c =
    let e = text_moment c.args.program.now c.args.machine.now c.args.texts.now c.args.call.now.called.thread in
    let n = c.args.call.now.called.count in
    let o = c.args.call.now.object in
    if_ok c.throw_error.result
    (λ end h kind named at same.
    let more : List ℕ = shown e.before kind (argument (arguments_of e n) 1) in
    let second : units_in c.args.more ≡ more = named ∙ ap (shown e.before kind) c.requires.answers.call.argument in
    let total = both (units_in c.text_at.result) (units_in c.args.more) (text_of e.before o) more c.text_length.result c.text_length-2.result c.text_at.ensures.value second c.text_length.ensures c.text_length-2.ensures in
    let units : List ℕ = text_of e.before o ++ more in
    let long : longest_text < length units = omega (arith, total, c.if-length-gt-LONGEST.true) in
    too_long c.args.program.now c.args.machine.now c.throw_error.new.machine c.args.texts.now c.args.call.now.called.thread n o units at (Ref o ∷ []) end c.args.out.now c.throw_error.new.out
    (rewriting c.args.program.now c.args.machine.now c.args.texts.now c.args.call.now.called.thread n o units at (Ref o ∷ [])) refl c.requires.answers.machine.silent long h)
    c.throw_error.ensures.ok

pub returns : goal.returns
returns c = λ kind named at same.
    let e = text_moment c.args.program.now c.args.machine.now c.args.texts.now c.args.call.now.called.thread in
    let n = c.args.call.now.called.count in
    let o = c.args.call.now.object in
    let more : List ℕ = shown e.before kind (argument (arguments_of e n) 1) in
    let second : units_in c.args.more ≡ more = named ∙ ap (shown e.before kind) c.requires.answers.call.argument in
    let total = both (units_in c.text_at.result) (units_in c.args.more) (text_of e.before o) more c.text_length.result c.text_length-2.result c.text_at.ensures.value second c.text_length.ensures c.text_length-2.ensures in
    let units : List ℕ = text_of e.before o ++ more in
    let pushed : c.push_text.new.units.items ≡ units = c.in_ok-push_text.ensures ∙ (ap (λ (u : List ℕ). u ++ units_in c.args.more) c.in_ok-units.ensures.value ∙ ap (λ (u : List ℕ). text_of e.before o ++ u) second) in
    let short : length units ≤ longest_text = omega (arith, total, c.if-length-gt-LONGEST.false) in
    let few : text_units (with_text o units c.args.texts.now) ≤ most_units = omega (arith, c.units_with.ensures units (sym total), c.if-units_with-gt-MOST.false) in
    rewritten c.args.program.now c.args.machine.now c.give.new.machine c.args.texts.now c.set.new.self c.args.call.now.called.thread n o units at (Ref o ∷ []) c.give.result c.args.out.now
    (rewriting c.args.program.now c.args.machine.now c.args.texts.now c.args.call.now.called.thread n o units at (Ref o ∷ [])) refl c.requires.answers.machine.silent c.requires.answers.machine.fits short few
    (c.in_ok-set.ensures ∙ (c.taken.ensures.given c.push_text.new.units.items ∙ ap (λ (u : List ℕ). with_text o u c.args.texts.now) pushed))
    (c.give.ensures c.args.program.now at c.args.out.now same)
