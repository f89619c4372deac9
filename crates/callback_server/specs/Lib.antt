pub mod Crew
pub mod CrewLaws
pub mod Hanging
pub mod Keeping
pub mod Replies
pub mod Serving
