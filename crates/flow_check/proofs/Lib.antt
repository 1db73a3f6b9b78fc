pub mod Forms
pub mod Declaring
pub mod Scoping
pub mod Expressing
pub mod Checking
pub mod HavingKinds
pub mod KindOfName
pub mod Fitting
pub mod Moments
pub mod Beginnings
pub mod Meaning
mod TypedRows
