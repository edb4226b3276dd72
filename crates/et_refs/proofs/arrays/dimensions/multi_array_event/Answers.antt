use Rattle.std.proofs.Common.{◌≡◌, ℕ, ◌<◌, List, length, drop, sym, ◌∙◌, ap, arith}
use Rattle.std.specs.Prelude.{ℤ}
use Rattle.et_state.specs.Outcome.{Outcome}
use Rattle.et_state.specs.State.{Kept, kept_of}
use Rattle.et_state.specs.Words.{top}
use Rattle.et_event.proofs.SiteAnswers.{place_pool}
use Rattle.et_event.specs.Heap.{new_multi_array}
use Rattle.et_event.specs.Moments.{Moment, moment}
use Rattle.et_event.specs.Sites.{natural_of}
use Rattle.et_refs.specs.Events.{new_arrays_outcome}
use Rattle.et_refs.proofs.Answering.{answers_as, visits_as, as_many, multi_array_of, taken_ok, taken_err}
use Rattle.et_refs.proofs.Placed.{some_dimension}
use Rattle.et_refs.proofs.arrays.dimensions.multi_array_event.Given.{Over}
use Rattle.et_refs.proofs.arrays.dimensions.multi_array_event.Goals.{After-add_arrays}
use Rattle.et_refs.proofs.arrays.dimensions.multi_array_event.Goals as goal

pub returns-in-Err-clause-ok : goal.returns-in-Err-clause-ok
returns-in-Err-clause-ok g c =
    let m = c.args.machine.now in
    let e = moment c.args.program.now m c.args.thread in
    let at = c.args.place.now.site in
    answers_as _ _ c.refuse.result m _ c.args.out.now _ (c.in-Err.ensures.is e (multi_array_of e at)) c.refuse.ensures.ok

pub returns-in-Err-2-clause-ok : goal.returns-in-Err-2-clause-ok
returns-in-Err-2-clause-ok g c =
    let m = c.args.machine.now in
    let e = moment c.args.program.now m c.args.thread in
    let at = c.args.place.now.site in
    answers_as _ _ c.refuse-in-Err-2.result m _ c.args.out.now _
    (c.in-Ok.ensures.is e (multi_array_of e at)
    ∙ taken_err e at c.in-Ok.named.name.now c.dimensions.result c.in_ok-lengths.field-0 (λ x. x.items) c.in-Err-2.refusal c.dimensions.ensures (c.in_ok-lengths.ensures.is e) c.in-Err-2.is)
    c.refuse-in-Err-2.ensures.ok

pub class_wanted-requires : goal.class_wanted-requires
class_wanted-requires g c =
    c.in-Ok.ensures.named c.args.program.now c.requires.at.place.class (place_pool c.args.program.now (top c.args.machine.now.guest c.args.thread) c.args.place.now c.requires.at.place)

pub add_arrays-requires-clause-some : goal.add_arrays-requires-clause-some
add_arrays-requires-clause-some g c =
    let some : 0 < natural_of c.args.place.now.site.instr.second =
    some_dimension c.args.program.now c.args.machine.now c.args.thread c.args.place.now c.in-Ok.named.name.now c.in-Ok-class_wanted.class c.requires.at.begins.sound c.requires.at.begins.program.arrays c.requires.turn c.requires.at.place c.requires.row c.in-Ok.ensures.operand c.in-Ok-class_wanted.ensures.resolves in
    let same : c.dimensions.result ≡ natural_of c.args.place.now.site.instr.second = c.dimensions.ensures in
    let many : length c.deref-in-Ok-class_wanted.result.now ≡ c.dimensions.result =
    as_many c.in_ok-lengths.field-0 (λ x. x.items) c.dimensions.result c.in-Ok-2.lengths c.deref-in-Ok-class_wanted.result.now c.in-Ok-2.is c.deref-in-Ok-class_wanted.ensures.value c.in_ok-lengths.ensures.count in
    omega (arith, some, same, many)

-- THE ARRAYS are made
module _ (g : Over) (c : After-add_arrays g) where
  abbrev e : Moment
  e = moment c.args.program.now c.args.machine.now c.args.thread

  abbrev made : ℕ → List ℤ → Outcome Kept
  made next ns = new_arrays_outcome e next ns (drop (length ns) (top c.args.machine.now.guest c.args.thread).operands) c.in-Ok-class_wanted.class

  told : new_multi_array e c.args.place.now.site ≡ made c.next.result c.deref-in-Ok-class_wanted.result.now
  told =
      let at = c.args.place.now.site in
      let lengths = c.deref.result.now in
      let many = as_many c.in_ok-lengths.field-0 (λ x. x.items) c.dimensions.result c.in-Ok-2.lengths lengths c.in-Ok-2.is c.deref.ensures.value c.in_ok-lengths.ensures.count in
      c.in-Ok.ensures.is e (multi_array_of e at)
      ∙ (taken_ok e at c.in-Ok.named.name.now c.dimensions.result c.in_ok-lengths.field-0 (λ x. x.items) c.in-Ok-2.lengths lengths c.dimensions.ensures (c.in_ok-lengths.ensures.is e) c.in-Ok-2.is many c.deref.ensures.value
      ∙ (c.in-Ok-class_wanted.ensures.is (kept_of c.args.machine.now) c.args.thread (new_arrays_outcome e c.args.place.now.site.next lengths (drop (length lengths) (top c.args.machine.now.guest c.args.thread).operands))
      ∙ (ap (made at.next) (c.deref.ensures.value ∙ sym c.deref-in-Ok-class_wanted.ensures.value)
      ∙ ap (λ (next : ℕ). made next c.deref-in-Ok-class_wanted.result.now) (sym c.next.ensures))))

pub returns-in-Ok-class_wanted-clause-ok : goal.returns-in-Ok-class_wanted-clause-ok
returns-in-Ok-class_wanted-clause-ok g c =
    answers_as _ _ c.add_arrays.result c.args.machine.now _ c.args.out.now _ (told g (goal.at.returns-in-Ok-class_wanted-clause-ok g c).After-add_arrays) c.add_arrays.ensures.ok

pub returns-in-Ok-class_wanted-clause-visits : goal.returns-in-Ok-class_wanted-clause-visits
returns-in-Ok-class_wanted-clause-visits g c =
    visits_as _ _ c.args.machine.now c.args.visits.now c.add_arrays.new.visits (told g (goal.at.returns-in-Ok-class_wanted-clause-visits g c).After-add_arrays) c.add_arrays.ensures.visits

-- .. or are not

pub returns-clause-ok : goal.returns-clause-ok
returns-clause-ok g c =
    let m = c.args.machine.now in
    let e = moment c.args.program.now m c.args.thread in
    let at = c.args.place.now.site in
    let name = c.in-Ok.named.name.now in
    let lengths = c.deref.result.now in
    let many = as_many c.in_ok-lengths.field-0 (λ x. x.items) c.dimensions.result c.in-Ok-2.lengths lengths c.in-Ok-2.is c.deref.ensures.value c.in_ok-lengths.ensures.count in
    answers_as _ _ c.refuse-in-Err-class_wanted.result m _ c.args.out.now _
    (c.in-Ok.ensures.is e (multi_array_of e at)
    ∙ (taken_ok e at name c.dimensions.result c.in_ok-lengths.field-0 (λ x. x.items) c.in-Ok-2.lengths lengths c.dimensions.ensures (c.in_ok-lengths.ensures.is e) c.in-Ok-2.is many c.deref.ensures.value
    ∙ c.in-Err-class_wanted.ensures.is (kept_of m) c.args.thread (new_arrays_outcome e c.args.place.now.site.next lengths (drop (length lengths) (top m.guest c.args.thread).operands))))
    c.refuse-in-Err-class_wanted.ensures.ok
