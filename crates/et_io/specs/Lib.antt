pub mod Calls
pub mod Codes
pub mod Faults
pub mod Files
pub mod GatheringMemSink
pub mod MemFiles
pub mod MemSink
pub mod Sink
