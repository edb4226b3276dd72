mod AllRows
mod ExamplePrograms
mod Examples
mod CallExamples
mod CheckExamples
pub mod FamilyTurns
pub mod BuiltInRoom
pub mod Told
pub mod Beside
pub mod Deferrals
pub mod OutTurns
pub mod Values
pub mod Taken
pub mod Taking
pub mod Groups
pub mod Answering
pub mod Making
pub mod Updating
pub mod Throwing
pub mod RowsAmong
pub mod Constants
pub mod Running
pub mod Placing
pub mod SiteAnswers
mod Instructions
pub mod FrameRows
pub mod Keeping
pub mod There
pub mod Entering
pub mod FrameEvents
pub mod Referred
