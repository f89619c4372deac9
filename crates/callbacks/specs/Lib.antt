pub mod Callbacks
pub mod Writing
