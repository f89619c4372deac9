pub mod Answers
pub mod Asked
pub mod Pending
pub mod Records
pub mod Sealing
pub mod Setup
pub mod Slots
