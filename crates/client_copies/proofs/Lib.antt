pub mod Courses
pub mod Causes
pub mod Holding
pub mod Early
