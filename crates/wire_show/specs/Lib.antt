pub mod Text
pub mod Body
pub mod Shown
pub mod Showing
