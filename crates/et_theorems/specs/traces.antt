pub mod Good
pub mod LiveBytes
pub mod Snapshots
