pub mod GivenLaws
pub mod Rooms
pub mod Runs
pub mod Story
