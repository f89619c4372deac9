pub mod Desk
pub mod GivenLaws
pub mod InFlight
pub mod Pace
pub mod Turn
pub mod Workers
