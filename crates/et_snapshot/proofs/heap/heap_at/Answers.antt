use Rattle.std.proofs.Common.{◌≡◌, ◌∙◌, ◌+◌, ◌++◌, ◌∷◌, [], ℕ, List, sym, ap, subst, take, drop, reverse}
use Rattle.std.specs.List.{filter_map}
use Rattle.std.proofs.lemmas.List.{take_more, take-append-drop, reverse-append}
use Rattle.std.proofs.lemmas.List.Elements.{filter_map-append}
use Rattle.et_base.specs.declared.line.TraceLine.{TraceLine}
use Rattle.et_text.specs.Rules.{objects, AreFine}
use Rattle.et_snapshot.specs.Heap.{Kept, note_kept, note_static, numbers_of, field_of, kept_by, statics_by, RiseTo}
use Rattle.et_snapshot.proofs.Keeping.{is_above, fine_front}
use Rattle.et_snapshot.proofs.heap.heap_at.Goals as goal

pub note-requires : goal.note-requires
note-requires c = (objects (reverse (take c.loop-line.line-index c.args.lines.now)), c.loop-line.invariant.rise)

pub loop-line-preserved : goal.loop-line-preserved
loop-line-preserved c =
    let ls = c.args.lines.now in
    let i = c.loop-line.line-index in
    let e = c.args.event in
    let x = c.line-item.result in
    let inv = c.loop-line.invariant in
    let note = c.in_ok-note.ensures in
    let past = reverse (take i ls) in
    let version = c.requires.version in
    let more : take (i + 1) ls ≡ take i ls ++ x ∷ [] = take_more ls i x c.loop-line-test.true ∙ ap (λ (y : TraceLine). take i ls ++ y ∷ []) (sym c.line-item.is) in
    let turned : reverse (take (i + 1) ls) ≡ x ∷ past = ap (λ (l : List TraceLine). reverse l) more ∙ reverse-append (take i ls) (x ∷ []) in
    let parted : reverse ls ≡ reverse (drop (i + 1) ls) ++ reverse (take (i + 1) ls) = ap (λ (l : List TraceLine). reverse l) (sym (take-append-drop (i + 1) ls)) ∙ reverse-append (take (i + 1) ls) (drop (i + 1) ls) in
    let fine : AreFine version (x ∷ past) = subst (λ (l : List TraceLine). AreFine version l) turned (fine_front version (reverse (drop (i + 1) ls)) (reverse (take (i + 1) ls)) (subst (λ (l : List TraceLine). AreFine version l) parted c.requires.good.fine)) in
    let above = is_above version past x fine in
    record {
      statics = note.statics ∙ (ap (λ s. note_static e s x) inv.statics ∙ ap (λ (l : List TraceLine). statics_by e l) (sym turned));
      objects = note.objects ∙ (ap (λ (ks : List Kept). note_kept e ks x) inv.objects ∙ ap (λ (l : List TraceLine). kept_by e l) (sym turned));
      rise =
          subst (λ (l : List TraceLine). RiseTo (objects l) 0 (numbers_of c.note.new.heap.objects.items)) (sym turned)
          (subst (λ (top : ℕ). RiseTo top 0 (numbers_of c.note.new.heap.objects.items)) above.1 (note.rise (objects past) inv.rise above.0));
      names = note.names ∙ (ap (λ t. t ++ filter_map field_of (x ∷ [])) inv.names ∙ (sym (filter_map-append field_of (take i ls) (x ∷ [])) ∙ ap (λ (l : List TraceLine). filter_map field_of l) (sym more)));
    }
