mod Causes
mod Errors
mod Reaching
mod Steps
