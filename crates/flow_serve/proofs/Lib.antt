pub mod Living
pub mod Posted
pub mod Served
pub mod Serving
pub mod Turning
