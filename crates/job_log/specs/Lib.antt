pub mod Bits
pub mod Log
pub mod Kept
