mod TextLemmas
mod BenchLemmas
