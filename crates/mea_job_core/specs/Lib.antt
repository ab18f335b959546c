pub mod Waiting
pub mod Work
pub mod Tied
pub mod Service
pub mod Parts
pub mod Record
pub mod Runs
pub mod Calls
