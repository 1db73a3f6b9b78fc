pub mod Copied
pub mod Moved
pub mod PastReads
pub mod Steps
