pub mod Ended
pub mod Monitored
mod DeferredCalls
