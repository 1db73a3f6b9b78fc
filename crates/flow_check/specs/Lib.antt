pub mod Faults
pub mod Language
pub mod Tables
pub mod Typed
