pub mod Unended
mod Agreeing
pub mod Alike
pub mod Wholes
mod HistoryWords
mod Freed
pub mod Reporting
mod Deaths
mod Slots
mod FlushedLists
mod FlushedTexts
mod Waits
mod Histories
mod NewStrings
pub mod NewArrays
mod NewWays
mod NewRows
mod NewTurns
mod NewTexts
pub mod Reached
pub mod Allocations
mod LinkedSizes
mod Causes
pub mod Ends
pub mod Runs
pub mod PoolWords
pub mod ArrayWords
pub mod ShortNames
pub mod texts
pub mod steps
pub mod soundness
pub mod programs
