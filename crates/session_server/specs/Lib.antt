pub mod Beside
pub mod Host
pub mod Labels
pub mod Leaving
pub mod Steps
pub mod Lengths
