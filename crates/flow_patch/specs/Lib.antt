-- each file a subject
pub mod Wrap
pub mod Difference
pub mod Behind
pub mod Upgrades
pub mod Settle
pub mod Unsettled
pub mod Refusals
