pub mod Amounts
pub mod Growth
pub mod OneLine
pub mod OneLineShown
pub mod Pieces
pub mod Reading
pub mod Steps
pub mod Tests
