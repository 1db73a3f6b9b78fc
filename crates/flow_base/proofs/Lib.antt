pub mod Decimals
pub mod Lists
pub mod Exact
