pub mod Rows
pub mod Sent
