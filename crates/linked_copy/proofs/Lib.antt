mod Booked
mod Ending
mod Making
