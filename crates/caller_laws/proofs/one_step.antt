mod Knowing
mod KnownSteps
mod Servers
mod RunFacts
mod RunJoins
mod Joins
mod Beside
