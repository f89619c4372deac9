pub mod Causes
pub mod Plan
