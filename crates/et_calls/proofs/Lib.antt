mod Returning
mod Values
mod Coming
mod Leaving
mod EnteredFrames
mod NewFrames
mod Passed
mod Calling
pub mod Told
mod CalledByCode
mod Initial
mod Fresh
mod Thrown
mod FirstMethods
mod Mains
mod Running
mod Initializing
mod Behind
