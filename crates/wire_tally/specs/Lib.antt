pub mod Counted
pub mod Tally
