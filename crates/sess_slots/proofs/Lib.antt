pub mod Lists
pub mod Runs
pub mod There
pub mod Lasting
pub mod Rising
mod Counting
mod Pairs
