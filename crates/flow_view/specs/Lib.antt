pub mod Reading
pub mod Called
pub mod Codes
pub mod Heads
pub mod Listed
pub mod Outlines
