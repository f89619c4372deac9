pub mod Bodies
pub mod Compounds
pub mod Reading
pub mod Replies
pub mod Spelled
pub mod Walking
pub mod Written
