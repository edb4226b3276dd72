mod Converting
mod EveryPack
mod LinesLeft
mod SpellingLemmas
