pub mod Answered
pub mod Broken
pub mod Kept
pub mod Risen
