pub mod Places
pub mod PoolLemmas
pub mod Called
pub mod TextCalled
