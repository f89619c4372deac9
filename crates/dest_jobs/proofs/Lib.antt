pub mod Gone
pub mod Sizing
