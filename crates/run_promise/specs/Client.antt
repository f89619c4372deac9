pub mod Accepted
pub mod Along
pub mod Lines
pub mod Steps
pub mod Told
pub mod Turns
pub mod View
