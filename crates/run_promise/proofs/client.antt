pub mod Along
pub mod Asked
pub mod Calls
pub mod Going
pub mod Lawful
pub mod Moments
pub mod Openings
mod Saying
pub mod Schedules
mod Spoken
mod ToldTurning
pub mod Turning
pub mod Turns
pub mod Whole
