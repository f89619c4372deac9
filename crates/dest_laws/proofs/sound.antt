pub mod Logs
pub mod Tables
pub mod Deeds
pub mod Doings
pub mod Steps
