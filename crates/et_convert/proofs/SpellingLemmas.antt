-- THE ONE ANSWER of bytes in the format that they are in, from that of each format.
use Rattle.std.proofs.Common.{◌≡◌, ℕ, List, refl, sym, subst}
use Rattle.et_base.specs.declared.format.Format.{Format}
use Rattle.et_base.specs.declared.format.Format.TheVariants as formats
use Rattle.et_base.specs.declared.line.TraceLine.{TraceLine}
use Rattle.et_text.specs.Text.{HasAnswer, IsTrace, IsRefused, IsTextOf, IsTraceFault}
use Rattle.et_binary.specs.Packs.{HasPackAnswer, IsPackOf, IsPackFault}
use Rattle.et_binary.specs.Packs.HasPackAnswer.{IsTracePack, IsRefusedPack}
use Rattle.et_convert.specs.Spellings.{format_in, SpellsIn, HasFaultIn, HasSpellingAnswer, IsSpelledTrace, IsRefusedTrace}

text_answer : (bytes : List ℕ) → format_in bytes ≡ formats.Text → HasAnswer bytes → HasSpellingAnswer bytes
text_answer bytes e (IsTrace lines is) = IsSpelledTrace lines (subst (λ f. SpellsIn f lines bytes) (sym e) is)
text_answer bytes e (IsRefused kind number has) = IsRefusedTrace kind number (subst (λ f. HasFaultIn f bytes kind number) (sym e) has)

pack_answer : (bytes : List ℕ) → format_in bytes ≡ formats.Binary → HasPackAnswer bytes → HasSpellingAnswer bytes
pack_answer bytes e (IsTracePack lines is) = IsSpelledTrace lines (subst (λ f. SpellsIn f lines bytes) (sym e) is)
pack_answer bytes e (IsRefusedPack kind number has) = IsRefusedTrace kind number (subst (λ f. HasFaultIn f bytes kind number) (sym e) has)

answer_in : (bytes : List ℕ) (format : Format) → format_in bytes ≡ format → HasAnswer bytes → HasPackAnswer bytes → HasSpellingAnswer bytes
answer_in bytes formats.Text e text pack = text_answer bytes e text
answer_in bytes formats.Binary e text pack = pack_answer bytes e pack

pub some_spelling : (bytes : List ℕ) → HasAnswer bytes → HasPackAnswer bytes → HasSpellingAnswer bytes
some_spelling bytes text pack = answer_in bytes (format_in bytes) refl text pack

pub not_both_in : (format : Format) (lines : List TraceLine) (bytes : List ℕ) (kind number : ℕ) → (IsTextOf lines bytes → IsTraceFault bytes kind number → ⊥) → (IsPackOf lines bytes → IsPackFault bytes kind number → ⊥)
    → SpellsIn format lines bytes → HasFaultIn format bytes kind number → ⊥
not_both_in formats.Text lines bytes kind number text pack is has = text is has
not_both_in formats.Binary lines bytes kind number text pack is has = pack is has

pub one_list_in : (format : Format) (a b : List TraceLine) (bytes : List ℕ) → (IsTextOf a bytes → IsTextOf b bytes → a ≡ b) → (IsPackOf a bytes → IsPackOf b bytes → a ≡ b) → SpellsIn format a bytes → SpellsIn format b bytes → a ≡ b
one_list_in formats.Text a b bytes text pack is was = text is was
one_list_in formats.Binary a b bytes text pack is was = pack is was

pub one_fault_in : (format : Format) (bytes : List ℕ) (k n l m : ℕ) → (IsTraceFault bytes k n → IsTraceFault bytes l m → (k ≡ l) × (n ≡ m)) → (IsPackFault bytes k n → IsPackFault bytes l m → (k ≡ l) × (n ≡ m))
    → HasFaultIn format bytes k n → HasFaultIn format bytes l m → (k ≡ l) × (n ≡ m)
one_fault_in formats.Text bytes k n l m text pack has had = text has had
one_fault_in formats.Binary bytes k n l m text pack has had = pack has had
