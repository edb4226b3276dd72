mod Lengths
mod Numbering
mod Standing
mod RecordLines
mod FlushLines
mod EventLines
pub mod TraceLines
pub mod ClassNames
mod PoolTexts
mod ApartMethods
mod FileNames
mod ArrayTexts
mod ProgramTexts
mod FewStatics
pub mod Traceable
mod DeathLines
pub mod Reported
pub mod CurveEvents
mod LiveSums
pub mod LiveReached
mod SlotLines
mod LiveObjects
pub mod Shown
mod TwoNodes
