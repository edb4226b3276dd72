use Rattle.std.proofs.Common.{◌≡◌, Some, None, map, ap, sym, ◌∙◌}
use Rattle.et_base.specs.Marks.{first_from}
use Rattle.et_listing.specs.Lines.{parsed_of}
use Rattle.et_asm.specs.Pool.{pool}
use Rattle.et_asm.specs.Listings.{listing_marks, listed_class_bytes}
use Rattle.et_asm.proofs.Answered.{lines_are, found_are, bytes_are}
use Rattle.et_asm.proofs.Said.{accepted}
use Rattle.et_asm.proofs.assembling.assemble.Goals as goal

pub returns-in-Some : goal.returns-in-Some
returns-in-Some c =
    let ps = c.in_ok-lines.lines.items in
    let keys = c.in_ok-symbols.symbols in
    let lines = lines_are c.args.text.now c.in_ok-words.words.items ps c.in_ok-words.ensures (c.in_ok-lines.ensures ∙ ap (map parsed_of) c.deref.ensures.value) in
    let pair : Some (c.in-Some.line, c.in-Some.kind) ≡ c.in_ok-line.field-0 = cc in
    record {
      bytes = found_are c.args.text.now ps keys (Some (c.in-Some.line, c.in-Some.kind)) lines (c.in_ok-symbols.ensures ∙ ap pool c.deref-2.ensures.value) (pair ∙ (c.in_ok-line.ensures ∙ ap (λ qs. first_from None (listing_marks keys qs)) c.deref-3.ensures.value));
      class = tt;
    }

pub returns : goal.returns
returns c =
    let text = c.args.text.now in
    let ps = c.in_ok-lines.lines.items in
    let keys = c.in_ok-symbols.symbols in
    let lines = lines_are text c.in_ok-words.words.items ps c.in_ok-words.ensures (c.in_ok-lines.ensures ∙ ap (map parsed_of) c.deref.ensures.value) in
    let keys_are = c.in_ok-symbols.ensures ∙ ap pool c.deref-2.ensures.value in
    let marks = found_are text ps keys None lines keys_are (sym c.in-None.is ∙ (c.in_ok-line.ensures ∙ ap (λ qs. first_from None (listing_marks keys qs)) c.deref-3.ensures.value)) in
    let bytes = bytes_are text ps keys c.in_ok-class_bytes-in-None.field-0.items lines keys_are (c.in_ok-class_bytes-in-None.ensures ∙ ap (listed_class_bytes keys) c.deref-in-None.ensures.value) in
    record {
      bytes = (marks, bytes);
      class = accepted text c.in_ok-class_bytes-in-None.field-0.items marks bytes;
    }
