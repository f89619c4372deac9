pub mod DestRules
pub mod Mechanisms
pub mod SourceRules
