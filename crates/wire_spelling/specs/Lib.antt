pub mod Calls
pub mod Slots
pub mod Replies
pub mod Spelling
pub mod ReadLaws
pub mod CreateLaws
pub mod RunLaws
