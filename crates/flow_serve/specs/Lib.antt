pub mod Living
pub mod Posting
pub mod Serving
