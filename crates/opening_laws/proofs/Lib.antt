pub mod Callers
pub mod Copies
pub mod Names
pub mod Opened
pub mod Options
