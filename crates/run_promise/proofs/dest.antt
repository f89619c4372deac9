pub mod Along
mod Beginning
mod CallerRuns
mod DestMoments
pub mod DestGoes
pub mod GoesAlong
pub mod Going
pub mod Moments
mod Names
mod Numbers
mod Plans
mod Records
pub mod Resting
mod RunSteps
mod Runs
mod DestServers
pub mod Shown
mod Uncut
mod Volumes
mod Whole
