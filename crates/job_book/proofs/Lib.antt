pub mod Books
pub mod Lists
pub mod Logged
pub mod Free
