pub mod Alike
pub mod Large
pub mod Tallying
