mod Stored
mod Torn
mod Whole
