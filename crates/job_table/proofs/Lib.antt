pub mod KeyRows
pub mod Lists
pub mod Numbers
pub mod Tables
pub mod Writes
