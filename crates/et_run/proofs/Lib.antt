mod Answering
mod Counting
mod Flushing
mod Forgotten
mod FrameKept
mod Lifting
mod LiftedLoop
mod Soundly
mod QuietFrames
mod Starting
mod Stretching
mod TextTurns
mod Waiting
mod Opcodes
mod TurnFamilies
pub mod OneTrace
