pub mod Judging
pub mod Answers
pub mod Making
