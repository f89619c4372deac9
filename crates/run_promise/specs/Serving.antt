pub mod Lawful
pub mod Stopping
