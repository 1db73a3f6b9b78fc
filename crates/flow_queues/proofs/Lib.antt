pub mod Stretches
pub mod Once
pub mod Chosen
pub mod Still
