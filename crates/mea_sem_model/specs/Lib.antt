pub mod Hall
pub mod Cause
pub mod Step
pub mod Valid
pub mod Runs
pub mod Waiters
pub mod Order
