pub mod DiskWords
pub mod Formatting
pub mod Lines
pub mod Puts
pub mod Shapes
