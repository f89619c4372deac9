pub mod Whole
pub mod Loop
pub mod All
