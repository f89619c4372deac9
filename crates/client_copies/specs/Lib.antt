pub mod Copies
pub mod Held
pub mod Laws
pub mod Refusals
pub mod Steps
pub mod Table
pub mod Words
