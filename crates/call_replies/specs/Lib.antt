pub mod ReplyLaws
pub mod SaysLaws
pub mod Sealed
pub mod SealLaws
