pub mod DueFirst
pub mod FirstFault
pub mod WellFormedRows
mod Commands
mod BookRows
mod CommandRows
pub mod Awaits
pub mod Weight
pub mod Chains
pub mod Positions
pub mod Again
pub mod OneMore
pub mod Verdicts
pub mod Logs
pub mod Tries
pub mod Leaves
pub mod Starts
mod RunRows
mod WorldRows
pub mod Failures
