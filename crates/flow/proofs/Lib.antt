pub mod Causes
pub mod Replays
pub mod Runs
