pub mod Counting
pub mod Turns
pub mod Compounded
pub mod Lengths
