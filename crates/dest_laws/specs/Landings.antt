pub mod CallingLaws
pub mod Orderly
pub mod Posted
pub mod Seating
pub mod TargetLaws
