pub mod BitRows
pub mod Entries
pub mod Counts
pub mod Order
pub mod Steps
