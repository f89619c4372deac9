mod Answered
mod Going
mod Hearing
mod Inits
mod Made
mod Steps
