pub mod OneEntry
pub mod Records
pub mod Steps
