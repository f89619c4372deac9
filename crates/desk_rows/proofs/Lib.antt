mod Unsent
