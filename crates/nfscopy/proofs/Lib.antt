pub mod Completing
pub mod Ending
pub mod Formatted
pub mod Generating
pub mod Keeping
