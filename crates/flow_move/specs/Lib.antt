pub mod Copying
pub mod Moves
