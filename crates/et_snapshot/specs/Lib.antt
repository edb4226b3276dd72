pub mod Heap
pub mod Snapshot
