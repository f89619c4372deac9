pub mod Laws
pub mod Plan
pub mod Queue
pub mod Steps
