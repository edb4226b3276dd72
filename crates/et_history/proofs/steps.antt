pub mod Values
pub mod Heaps
mod Taken
mod Plain
pub mod WaitingLists
pub mod Words
pub mod Monitors
pub mod MonitorFrames
pub mod Records
pub mod Recording
pub mod Given
pub mod Held
pub mod AtHand
mod Small
mod Constants
mod Typed
pub mod Ways
pub mod Rows
mod Arguments
pub mod Calls
pub mod Turns
pub mod Folding
mod Writing
mod NamedWords
pub mod SaysNames
pub mod SaysRecords
pub mod SaysWrites
pub mod SaysReached
mod SaysMonitors
pub mod MonitorRows
pub mod SoundStates
