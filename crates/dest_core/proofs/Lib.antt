pub mod Answers
pub mod Hosts
pub mod Landings
pub mod Turns
