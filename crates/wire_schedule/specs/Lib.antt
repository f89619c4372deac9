pub mod Admission
pub mod Expansion
pub mod Grammar
pub mod Numerals
pub mod ScheduleOf
pub mod ScheduleText
pub mod Spelling
pub mod Words
