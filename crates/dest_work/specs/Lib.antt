pub mod Findings
pub mod Sending
pub mod Work
