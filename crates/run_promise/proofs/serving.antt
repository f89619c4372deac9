pub mod Cuts
pub mod DestRuns
pub mod ServerSteps
pub mod SourceCalls
pub mod SourceRuns
pub mod SourceSteps
pub mod Steady
pub mod WorkCalls
