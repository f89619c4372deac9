pub mod Stored
pub mod Grown
pub mod Marked
pub mod Looked
