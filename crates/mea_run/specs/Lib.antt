pub mod Script
pub mod Runs
pub mod Generated
