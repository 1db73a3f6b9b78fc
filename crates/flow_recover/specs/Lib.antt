pub mod Positions
pub mod Recovering
pub mod Filling
pub mod Told
pub mod Finds
