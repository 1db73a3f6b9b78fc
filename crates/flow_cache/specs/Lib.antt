pub mod Entries
pub mod Lent
pub mod Laws
