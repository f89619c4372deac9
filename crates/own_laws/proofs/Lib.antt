mod Grows
mod FileParts
mod QuietParts
mod WalkParts
mod OutsideParts
mod CompoundParts
mod StepParts
