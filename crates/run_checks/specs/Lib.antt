pub mod CheckLaws
pub mod Growing
pub mod Listed
pub mod Right
pub mod RunLaws
