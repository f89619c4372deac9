pub mod Counting
pub mod Runs
pub mod Order
pub mod RootLaws
pub mod Besides
pub mod Whole
