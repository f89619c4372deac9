pub mod Anew
pub mod Behind
