pub mod Machine
pub mod Parsing
pub mod Faults
pub mod Print
pub mod Deprecated
