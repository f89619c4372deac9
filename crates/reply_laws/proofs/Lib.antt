mod Turns
mod Owners
