mod Confirmed
mod Reading
