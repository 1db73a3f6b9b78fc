pub mod Lists
pub mod Slotted
