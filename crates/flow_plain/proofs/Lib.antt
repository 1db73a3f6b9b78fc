pub mod Deprecated
pub mod Lefts
pub mod Stores
pub mod Turns
