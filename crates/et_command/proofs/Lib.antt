mod NumberLemmas
mod OptionLemmas
mod SplitLemmas
pub mod PathLemmas
