pub mod Directed
pub mod Numbers
pub mod Short
