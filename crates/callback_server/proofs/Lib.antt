pub mod Causes
pub mod Crews
pub mod Steps
