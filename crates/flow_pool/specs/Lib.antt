pub mod Attempts
pub mod Builtin
pub mod Ends
pub mod Orders
pub mod Reports
