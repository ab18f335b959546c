pub mod Causes
pub mod Refusals
pub mod Wakes
