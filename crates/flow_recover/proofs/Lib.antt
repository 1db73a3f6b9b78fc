pub mod SoFar
pub mod Refusing
pub mod Programs
pub mod Recovering
pub mod Filled
pub mod Moving
