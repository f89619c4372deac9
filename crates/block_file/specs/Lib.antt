pub mod Cell
pub mod Layout
pub mod Lists
pub mod Stored
pub mod Blocks
pub mod Held
pub mod Opened
pub mod Loaded
