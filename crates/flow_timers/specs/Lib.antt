pub mod Due
pub mod Pausing
