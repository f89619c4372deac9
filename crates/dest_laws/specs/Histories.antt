pub mod Kinds
pub mod Linked
pub mod Seen
