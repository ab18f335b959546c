pub mod Lines
pub mod Text
pub mod Machine
pub mod Runs
