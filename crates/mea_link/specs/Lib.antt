pub mod Back
pub mod Positions
