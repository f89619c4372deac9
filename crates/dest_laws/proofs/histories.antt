pub mod Entries
pub mod Linked
