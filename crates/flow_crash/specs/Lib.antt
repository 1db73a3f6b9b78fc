pub mod Carried
pub mod Counted
pub mod DiskCalls
pub mod Failing
pub mod Numbered
pub mod Numbering
pub mod Numbers
pub mod Stopping
