mod Later
mod Untouched
mod Settled
mod Elsewhere
pub mod Bytes
mod Runs
mod GoodRun
mod RefusedRuns
mod Leavings
mod Effects
mod Changes
mod Entries
mod Chunks
mod Sound
