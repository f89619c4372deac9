pub mod Forms
pub mod LengthLaws
pub mod Operations
