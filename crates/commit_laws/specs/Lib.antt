pub mod Calling
pub mod CallLaws
pub mod Executing
pub mod Run
pub mod Commits
pub mod Stores
