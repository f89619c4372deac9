pub mod Executed
pub mod Outside
pub mod Replies
pub mod Steps
pub mod Suited
pub mod Telling
pub mod Uncalled
pub mod Walks
