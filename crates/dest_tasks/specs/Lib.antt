pub mod Completing
pub mod FlagLaws
pub mod NamedLaws
pub mod Posts
pub mod Seats
pub mod Tasks
