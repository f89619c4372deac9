pub mod Back
pub mod Commits
pub mod Completed
pub mod Left
pub mod Nexts
pub mod Steps
