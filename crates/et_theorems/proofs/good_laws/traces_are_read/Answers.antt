use Rattle.std.proofs.Common.{◌≡◌, ◌↔◌, List, refl, sym, subst}
use Rattle.et_base.specs.declared.format.Format.{Format}
use Rattle.et_base.specs.declared.format.Format.TheVariants as formats
use Rattle.et_base.specs.declared.line.TraceLine.{TraceLine}
use Rattle.et_state.specs.History.{trace_of}
use Rattle.et_event.specs.Start.{start_records}
use Rattle.et_text.specs.Ranges.{header_version}
use Rattle.et_text.specs.Rules.{IsGood}
use Rattle.et_binary.specs.Formats.{trace_bytes}
use Rattle.et_history.specs.Histories.{whole_picked}
use Rattle.et_history.specs.Whole.{whole_start}
use Rattle.et_convert.specs.Spellings.{SpellsIn, HasFaultIn}
use Rattle.et_theorems.proofs.good_laws.traces_are_read.Goals as goal

-- the bytes of a good list are those of this list
own : (format : Format) (trace : List TraceLine) → IsGood (header_version format) trace → SpellsIn format trace (trace_bytes format trace)
own formats.Text trace good = record { good = good; whole = refl }
own formats.Binary trace good = record { good = good; whole = refl }

pub returns-clause-lines : goal.returns-clause-lines
returns-clause-lines c reached p options pick last end lines runs able is =
    by options.format (trace_of reached (whole_picked p options pick) (whole_start p) (start_records p) last end)
    (c.traces_are_good.ensures.good reached p options pick last end runs able is)
  where
    back : (format : Format) (trace : List TraceLine) → IsGood (header_version format) trace → lines ≡ trace → SpellsIn format lines (trace_bytes format trace)
    back format trace good same = subst (λ (ls : List TraceLine). SpellsIn format ls (trace_bytes format trace)) (sym same) (own format trace good)

    by : (format : Format) (trace : List TraceLine) → IsGood (header_version format) trace → SpellsIn format lines (trace_bytes format trace) ↔ (lines ≡ trace)
    by formats.Text trace good =
        (λ h. c.good_lists_differ.ensures lines trace (trace_bytes formats.Text trace) h (own formats.Text trace good), back formats.Text trace good)
    by formats.Binary trace good =
        (λ h. c.packed_lists_differ.ensures lines trace (trace_bytes formats.Binary trace) h (own formats.Binary trace good), back formats.Binary trace good)

pub returns-clause-none : goal.returns-clause-none
returns-clause-none c reached p options pick last end kind number runs able is =
    by options.format (trace_of reached (whole_picked p options pick) (whole_start p) (start_records p) last end)
    (c.traces_are_good.ensures.good reached p options pick last end runs able is)
  where
    by : (format : Format) (trace : List TraceLine) → IsGood (header_version format) trace → HasFaultIn format (trace_bytes format trace) kind number → ⊥
    by formats.Text trace good fault = c.good_texts_have_no_fault.ensures trace (trace_bytes formats.Text trace) kind number (own formats.Text trace good) fault
    by formats.Binary trace good fault = c.good_packs_have_no_fault.ensures trace (trace_bytes formats.Binary trace) kind number (own formats.Binary trace good) fault
