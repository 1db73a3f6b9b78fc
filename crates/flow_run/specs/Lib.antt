pub mod Codes
pub mod Flat
pub mod Marks
pub mod Position
pub mod Shown
pub mod Waiting
pub mod Whole
