-- A trace in a format is told by its first byte.
use Rattle.std.proofs.Common.{◌≡◌, ℕ, zero, suc, Bool, List, ◌∷◌, ◌++◌, refl, sym, ap, subst}
use Rattle.et_base.specs.declared.format.Format.{Format}
use Rattle.et_base.specs.declared.format.Format.TheVariants as formats
use Rattle.et_base.specs.declared.line.TraceLine.{TraceLine}
use Rattle.et_base.specs.declared.line.TraceLine.TheVariants.{Header}
use Rattle.et_base.specs.declared.value.End.{End}
use Rattle.et_binary.specs.Formats.{trace_bytes}
use Rattle.et_convert.specs.Spellings.{SpellsIn, SpellsTrace, format_in}
use Rattle.et_graph.specs.Graph.{Graph}
use Rattle.et_state.specs.History.{Setting, lines_to, trace_of}
use Rattle.et_state.specs.declared.records.Record.{Record}
use Rattle.et_text.specs.Spelling.{text}

-- lines that begin with a header
pub record BeginsWithHeader (lines : List TraceLine) : Type 0 where
  pub version : ℕ
  pub interval : ℕ
  pub rest : List TraceLine
  pub parts : lines ≡ Header version interval ∷ rest

more : (xs ys : List TraceLine) → BeginsWithHeader xs → BeginsWithHeader (xs ++ ys)
more xs ys h = record { version = h.version; interval = h.interval; rest = h.rest ++ ys; parts = ap (λ zs. zs ++ ys) h.parts }

module _ {S : Type 0} (reached : Graph → ℕ → Bool) (given : Setting S) (start : S) (made : List Record) where
  lines_begin : (e : ℕ) → BeginsWithHeader (lines_to reached given start made e)
  unfolding lines_to
  lines_begin zero = record { version = _; interval = _; rest = _; parts = refl }
  lines_begin (suc e) = more _ _ (more _ _ (lines_begin e))

  pub trace_begins : (e : ℕ) (end : End) → BeginsWithHeader (trace_of reached given start made e end)
  trace_begins e end = more _ _ (more _ _ (lines_begin e))

format_told : (format : Format) (lines : List TraceLine) → BeginsWithHeader lines → format_in (trace_bytes format lines) ≡ format
format_told formats.Text lines h = ap (λ ls. format_in (text ls)) h.parts
format_told formats.Binary lines h = refl

pub spells_trace : (format : Format) (lines : List TraceLine) → BeginsWithHeader lines → SpellsIn format lines (trace_bytes format lines) → SpellsTrace lines (trace_bytes format lines)
spells_trace format lines h = subst (λ f. SpellsIn f lines (trace_bytes format lines)) (sym (format_told format lines h))
