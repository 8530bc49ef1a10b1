mod Answered
pub mod NamesRead
pub mod WalkSteps
mod StandingBytes
