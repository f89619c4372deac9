pub mod Copying
pub mod Ends
pub mod Lines
pub mod Nets
pub mod Telling
