pub mod Names
pub mod Layout
pub mod Stored
pub mod States
pub mod Coming
pub mod Meaning
pub mod Past
pub mod Spans
