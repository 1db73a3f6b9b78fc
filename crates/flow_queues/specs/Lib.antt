pub mod Over
pub mod Posting
pub mod Refusing
